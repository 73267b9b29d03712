-- The four kinds of writes, one after the other.
use Rattle.std.proofs.Common.{rules, ◌≡◌, ℕ, List, [], ◌∷◌, ◌++◌, ◌∙◌, ap, subst}
use Rattle.var_bytes.specs.Forms.{Spells}
use Rattle.database_model.specs.Runs.{Segment}
use Rattle.database_model.specs.SegmentForm.{segment}
use Rattle.database_state.specs.Updates.{KnownUpdate, UnknownUpdate}
use Rattle.database_state.specs.Standing.{segment_file, head_file}
use Rattle.epoch_store.specs.Commits.{known_name, unknown_name, AreWritten}
use Rattle.epoch_store.proofs.Lists.{all_writes}
use Rattle.epoch_store.proofs.contents.writes_of.Goals as goal

pub returns-clause-writes : goal.returns-clause-writes
returns-clause-writes c =
    let next = c.args.next.now in
    let u = c.args.change.now in
    let (known, first, are_known) = c.in_ok-put_profiles.ensures in
    let (unknown, second, are_unknown) = c.in_ok-put_profiles-2.ensures in
    let known_is : c.deref.result.now ≡ u.known = search rules in
    let unknown_is : c.deref-2.result.now ≡ u.unknown = search rules in
    let g_is : c.next.inside.generation ≡ next.generation = search rules in
    let segment_is : c.change.inside.segment ≡ u.segment = search rules in
    let third : c.put_file.new.writes.items ≡ c.put_profiles-2.new.writes.items ++ record { name = segment_file next.generation; bytes = c.in_ok-part.part.items } ∷ [] = c.in_ok-put_file.ensures ∙ ap (λ g. c.put_profiles-2.new.writes.items ++ record { name = segment_file g; bytes = c.in_ok-part.part.items } ∷ []) g_is in
    let fourth : c.put_file-2.new.writes.items ≡ c.put_file.new.writes.items ++ record { name = head_file next.generation; bytes = c.in_ok-text.text.items } ∷ [] = c.in_ok-put_file-2.ensures ∙ ap (λ g. c.put_file.new.writes.items ++ record { name = head_file g; bytes = c.in_ok-text.text.items } ∷ []) g_is in
    all_writes next u c.new-writes.result.items c.put_profiles.new.writes.items c.put_profiles-2.new.writes.items c.put_file.new.writes.items c.put_file-2.new.writes.items known unknown c.in_ok-part.part.items c.in_ok-text.text.items
    c.new-writes.ensures.items first second third fourth c.in_ok-text.ensures.text
    (subst (λ (g : ℕ). AreWritten (known_name g) (λ k. k.rows) u.known known) g_is (subst (λ (us : List KnownUpdate). AreWritten (known_name c.next.inside.generation) (λ k. k.rows) us known) known_is are_known))
    (subst (λ (g : ℕ). AreWritten (unknown_name g) (λ k. k.rows) u.unknown unknown) g_is (subst (λ (us : List UnknownUpdate). AreWritten (unknown_name c.next.inside.generation) (λ k. k.rows) us unknown) unknown_is are_unknown))
    (subst (λ (s : Segment). Spells segment c.in_ok-part.part.items s) segment_is c.in_ok-part.ensures)
