-- The polls of each processor so far.
use Rattle.std.proofs.Common.{◌≡◌, ◌++◌}
use Rattle.std.specs.List.{flat_map, range_with_len}
use Rattle.replay_drive.specs.Ending.{polls_of}
use Rattle.replay_drive.proofs.replaying.push_polls.Given as goal

abbrev pub invariant-loop-cpu : goal.invariant-loop-cpu
invariant-loop-cpu l = l.steps.items ≡ l.initial.steps.items ++ flat_map polls_of (range_with_len 0 l.cpu)
