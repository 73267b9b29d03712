use Rattle.std.proofs.Common.{arith, ◌≡◌, ℕ, ◌≤◌, List, length, map, sym, ◌∙◌, subst}
use Rattle.std.specs.Ordering.{eq_by_cmp}
use Rattle.std.specs.List.{AllByRecursion, IsDistinct}
use Rattle.epoch_store.specs.Databases.{head_of}
use Rattle.counts_listing.specs.Sections.{Section, section_cmp, section_shown, sections_at}
use Rattle.counts_listing.proofs.Heads.{IsKnownWithin, known_within}
use Rattle.counts_listing.proofs.Ordered.{sections_apart}
use Rattle.counts_listing.proofs.Placed.{all_placed}
use Rattle.counts_listing.proofs.sections.unsorted.Goals as goal

pub returns-clause-apart : goal.returns-clause-apart
returns-clause-apart c =
    let head = head_of c.args.db.now in
    let names = c.names-names.result.now in
    let rows = c.known_rows-rows.result.now in
    let profiles = c.args.profiles.now in
    let past : length rows ≤ c.loop-index.index = omega arith in
    let named : head.names ≡ names = sym (c.names-names.ensures.names ∙ c.catalog.ensures) in
    let whole : map section_shown c.loop-index.sections.items ≡ sections_at names rows profiles = all_placed names rows profiles c.loop-index.index (map section_shown c.loop-index.sections.items) (sections_at names rows profiles) past c.loop-index.invariant.listed in
    let within : AllByRecursion (IsKnownWithin (length names)) rows = subst (λ (l : List (List ℕ)). AllByRecursion (IsKnownWithin (length l)) rows) named (known_within head.epoch (length head.names) head.generation rows c.known_rows-rows.ensures.ranges) in
    subst (λ (sections : List Section). IsDistinct (eq_by_cmp section_cmp) sections) (sym whole) (sections_apart names rows profiles c.names-names.ensures.images.apart within c.known_rows-rows.ensures.rising)
