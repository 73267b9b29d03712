-- A turn of each driver so far.
use Rattle.std.proofs.Common.{◌≡◌, map}
use Rattle.std.specs.List.{range_with_len}
use Rattle.trace_model.specs.declared.notices.Step.TheVariants as doings
use Rattle.replay_drive.proofs.replaying.turns_of.Given as goal

abbrev pub invariant-loop-cpu : goal.invariant-loop-cpu
invariant-loop-cpu l = l.steps.items ≡ map doings.Lane (range_with_len 0 l.cpu)
