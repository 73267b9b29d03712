-- The entries before this one are small.
use Rattle.std.proofs.Common.{ℕ, ◌<◌, ◌≤◌, slice_index_or}
use Rattle.sample_key.specs.Counted.{Counted}
use Rattle.summary_text.proofs.tallies.read_entries.Given as goal

abbrev pub invariant-loop-entry : goal.invariant-loop-entry
invariant-loop-entry l = (k : ℕ) → (d : Counted) → k < l.entry-index → (slice_index_or l.entries k d).count ≤ 65535
