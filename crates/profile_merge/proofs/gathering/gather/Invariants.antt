-- The entries so far are added.
use Rattle.std.proofs.Common.{take}
use Rattle.profile_merge.proofs.SoFar.{SoFar}
use Rattle.profile_merge.proofs.gathering.gather.Given as goal

abbrev pub invariant-loop-entry : goal.invariant-loop-entry
invariant-loop-entry l = SoFar l.mappings l.epoch (take l.entry-index l.entry-items) l.known.items l.fn.into l.into
