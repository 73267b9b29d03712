use Rattle.std.proofs.Common.{◌≡◌, List, map, sym, ap, ◌∙◌, subst}
use Rattle.std.specs.List.{flat_map}
use Rattle.trace_model.specs.Counting.{Row, Rises, known_row}
use Rattle.counts_listing.specs.declared.sections.Section.{Section as Lent}
use Rattle.direct_counts.specs.Sites.{total_at}
use Rattle.epoch_store.specs.Databases.{head_of}
use Rattle.counts_listing.specs.Sections.{section_shown, section_rows, sections_at}
use Rattle.counts_listing.proofs.Ordered.{sections_rise}
use Rattle.counts_listing.proofs.Totals.{moved_total}
use Rattle.counts_listing.proofs.counts.known_counts.Goals as goal

pub returns-clause-rise : goal.returns-clause-rise
returns-clause-rise c =
    let sections = c.in_ok-sections.sections.items in
    let is : map known_row c.in_ok-known.known.items ≡ flat_map section_rows (map section_shown sections) = c.in_ok-known.ensures ∙ ap (λ (l : List Lent). flat_map section_rows (map section_shown l)) c.deref.ensures.value in
    subst (λ (rows : List Row). Rises rows) (sym is) (sections_rise (map section_shown sections) c.in_ok-sections.ensures.sorted c.in_ok-sections.ensures.rows)

pub returns-clause-totals : goal.returns-clause-totals
returns-clause-totals c = λ spot.
    let sections = c.in_ok-sections.sections.items in
    let is : map known_row c.in_ok-known.known.items ≡ flat_map section_rows (map section_shown sections) = c.in_ok-known.ensures ∙ ap (λ (l : List Lent). flat_map section_rows (map section_shown l)) c.deref.ensures.value in
    ap (total_at spot) is
    ∙ moved_total spot (sections_at (head_of c.args.db.now).names (head_of c.args.db.now).known c.args.profiles.now) (map section_shown sections) c.in_ok-sections.ensures.whole
