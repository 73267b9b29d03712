-- The database after the first parts of a run.
use Rattle.std.proofs.Common.{◌≡◌, ◌≤◌, ◌+◌, inl, inr, ℕ, zero, suc, List, length, sym, subst, ap, arith, ◌∙◌}
use Rattle.std.proofs.lemmas.List.{length-append}
use Rattle.std.proofs.Math.Nat.{eq-or-lt_of_le}
use Rattle.trace_model.specs.declared.notices.Record.{Record}
use Rattle.database_model.specs.Runs.{Recorded}
use Rattle.database_state.specs.Database.{Database}
use Rattle.growth_model.specs.Grown.{GrowsTo}

-- the database after the first parts, on the way to one after more
pub prefix : (images : List (List ℕ)) (records : List Record) (kept : Recorded) (m n : ℕ) (db new : Database) → m ≤ n
    → GrowsTo images records kept n db new → (middle : Database) × GrowsTo images records kept m db middle × (length middle.names ≤ length new.names)
prefix images records kept m zero db new few steps =
    (new, subst (λ k. GrowsTo images records kept k db new) (none few) steps, omega arith)
  where
    none : m ≤ 0 → 0 ≡ m
    none few = omega arith
prefix images records kept m (suc n) db new few (before, steps, part) = elim (eq-or-lt_of_le few) [
  | inl same ↦ (new, subst (λ k. GrowsTo images records kept k db new) (sym same) (before, steps, part), omega arith)
  | inr below ↦ further (prefix images records kept m n db before (omega (arith, below)) steps) (ap length part.names ∙ length-append before.names part.more)
]
  where
    further : (middle : Database) × GrowsTo images records kept m db middle × (length middle.names ≤ length before.names)
        → length new.names ≡ length before.names + length part.more
        → (middle : Database) × GrowsTo images records kept m db middle × (length middle.names ≤ length new.names)
    further (middle, first, less) more = (middle, first, omega (arith, less, more))
