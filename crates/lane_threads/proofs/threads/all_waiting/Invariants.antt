-- each work that came so far waits
use Rattle.lane_threads.specs.Pairs.{Pairwise}
use Rattle.lane_threads.specs.Promising.{IsOfWork}
use Rattle.lane_threads.proofs.threads.all_waiting.Given as goal

abbrev pub invariant-loop-work : goal.invariant-loop-work
invariant-loop-work l = Pairwise IsOfWork l.yielded l.all.items
