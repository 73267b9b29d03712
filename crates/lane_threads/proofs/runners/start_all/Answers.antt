-- one more work is started; and at the end all are
use Rattle.std.proofs.Common.{rules, ◌≡◌, ◌∷◌}
use Rattle.std.specs.Vec.Iter.{into_iter_items}
use Rattle.lane_threads.specs.Pairs.{Pairwise}
use Rattle.lane_threads.proofs.Keeping.{StartsAs, works_run}
use Rattle.lane_threads.proofs.Pairing.{pairs_more, room_kept}
use Rattle.lane_threads.proofs.Yielded.{all_yielded}
use Rattle.lane_threads.proofs.runners.start_all.Goals as goal

pub loop-waiting-preserved : goal.loop-waiting-preserved
loop-waiting-preserved g c =
    let h = c.loop-waiting.invariant in
    let pushed = c.push_reserved.ensures in
    let left : into_iter_items c.loop-waiting.waiting-iterator ≡ c.in-Some.waiting ∷ into_iter_items c.next.new.self = search rules in
    record {
      runs = pairs_more StartsAs c.loop-waiting.yielded c.loop-waiting.runners.items c.push_reserved.new.self.items c.in-Some.waiting c.start_one.result pushed.items h.runs c.start_one.ensures;
      room = room_kept c.loop-waiting.runners.items c.push_reserved.new.self.items c.start_one.result _ _ c.in-Some.waiting _ _ pushed.items left h.room pushed.capacity;
    }

pub returns : goal.returns
returns g c = λ works p.
    let from = c.into_iter-waiting-iterator in
    let all : c.loop-waiting.yielded ≡ c.args.all.items = all_yielded c.args.all.items c.loop-waiting.yielded from.result c.loop-waiting.waiting-iterator c.next.new.self c.next.result
    from.ensures.into_iter_gives.0 c.loop-waiting.yielded_by c.in-None.is c.next.ensures.steps in
    let whole : Pairwise StartsAs c.args.all.items c.loop-waiting.runners.items = rw all at c.loop-waiting.invariant.runs in
    works_run works c.args.all.items c.loop-waiting.runners.items p whole
