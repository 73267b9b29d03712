-- The drains before this one have small counts.
use Rattle.std.proofs.Common.{ℕ, ◌<◌, slice_index_or}
use Rattle.database_model.specs.Runs.{Drained}
use Rattle.summary_text.specs.Bounds.{AreSmall}
use Rattle.summary_text.proofs.tallies.read_counts.Given as goal

abbrev pub invariant-loop-drain : goal.invariant-loop-drain
invariant-loop-drain l = (k : ℕ) → (d : Drained) → k < l.drain-index → AreSmall (slice_index_or l.drains k d).batch.entries
