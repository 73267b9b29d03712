-- one more lane has ended; and at the end all have
use Rattle.std.proofs.Common.{rules, ◌≡◌, ◌∷◌}
use Rattle.std.specs.Vec.Iter.{into_iter_items}
use Rattle.lane_threads.specs.Pairs.{Pairwise}
use Rattle.lane_threads.proofs.Keeping.{EndsAs, works_end}
use Rattle.lane_threads.proofs.Pairing.{pairs_more, room_kept}
use Rattle.lane_threads.proofs.Yielded.{all_yielded}
use Rattle.lane_threads.proofs.runners.end_all.Goals as goal

pub loop-runner-preserved : goal.loop-runner-preserved
loop-runner-preserved g c =
    let h = c.loop-runner.invariant in
    let pushed = c.push_reserved.ensures in
    let left : into_iter_items c.loop-runner.runner-iterator ≡ c.in-Some.runner ∷ into_iter_items c.next.new.self = search rules in
    record {
      ended = pairs_more EndsAs c.loop-runner.yielded c.loop-runner.ended.items c.push_reserved.new.self.items c.in-Some.runner c.end_one.result pushed.items h.ended c.end_one.ensures;
      room = room_kept c.loop-runner.ended.items c.push_reserved.new.self.items c.end_one.result _ _ c.in-Some.runner _ _ pushed.items left h.room pushed.capacity;
    }

pub returns : goal.returns
returns g c = λ works p.
    let from = c.into_iter-runner-iterator in
    let all : c.loop-runner.yielded ≡ c.args.runners.items = all_yielded c.args.runners.items c.loop-runner.yielded from.result c.loop-runner.runner-iterator c.next.new.self c.next.result
    from.ensures.into_iter_gives.0 c.loop-runner.yielded_by c.in-None.is c.next.ensures.steps in
    let whole : Pairwise EndsAs c.args.runners.items c.loop-runner.ended.items = rw all at c.loop-runner.invariant.ended in
    works_end works c.args.runners.items c.loop-runner.ended.items p whole
