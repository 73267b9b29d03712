use Rattle.std.proofs.Common.{◌≡◌, map, rules, ap}
use Rattle.std.specs.Ordering.{is_lt}
use Rattle.std.proofs.lemmas.List.Elements.{All-from_recursion, recursion_from_All}
use Rattle.std.proofs.lemmas.List.MinMax.{ranks_by}
use Rattle.std.proofs.lemmas.List.Sorted.{All-permutation, IsPermutation-map, answers_always}
use Rattle.database_model.specs.Ranges.{AreRows}
use Rattle.counts_listing.specs.declared.sections.Section.{Section as Lent}
use Rattle.counts_listing.specs.Sections.{Section, section_cmp, section_shown}
use Rattle.counts_listing.proofs.Ordered.{moved_apart, section_total, sorted_map, strictly_sorted}
use Rattle.counts_listing.proofs.sections.sections_of.Goals as goal

pub returns-clause-whole : goal.returns-clause-whole
returns-clause-whole c =
    let moved = IsPermutation-map section_shown c.in_ok-sections.sections.items c.sort_unstable_by.new.self.items c.sort_unstable_by.ensures.permutation in
    rw c.in_ok-sections.ensures.listed at moved

pub returns-clause-sorted : goal.returns-clause-sorted
returns-clause-sorted c =
    let before = c.in_ok-sections.sections.items in
    let after = c.sort_unstable_by.new.self.items in
    strictly_sorted (map section_shown after)
    (sorted_map section_shown (λ a b. is_lt (section_cmp a b)) after
    (c.sort_unstable_by.ensures.sorted (λ (a b : Lent). is_lt (section_cmp (section_shown a) (section_shown b))) (ranks_by section_total section_shown) (answers_always _ _ _ (λ f a r after called. let is : r ≡ section_cmp (section_shown a.0.now) (section_shown a.1.0.now) = search rules in ap is_lt is))))
    (moved_apart (map section_shown before) (map section_shown after) (IsPermutation-map section_shown before after c.sort_unstable_by.ensures.permutation) c.in_ok-sections.ensures.apart)

pub returns-clause-rows : goal.returns-clause-rows
returns-clause-rows c =
    let before = c.in_ok-sections.sections.items in
    let after = c.sort_unstable_by.new.self.items in
    let good : Section → Type 0 = λ (section : Section). AreRows section.rows in
    recursion_from_All good (map section_shown after) (All-permutation good (map section_shown before) (map section_shown after) (IsPermutation-map section_shown before after c.sort_unstable_by.ensures.permutation) (All-from_recursion good (map section_shown before) c.in_ok-sections.ensures.rows))
