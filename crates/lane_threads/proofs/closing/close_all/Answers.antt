-- one more is closed
use Rattle.std.proofs.Common.{rules, ◌≡◌, ◌∷◌}
use Rattle.std.specs.Vec.Iter.{into_iter_items}
use Rattle.lane_threads.specs.Starting.{WereClosed}
use Rattle.lane_threads.proofs.Pairing.{pairs_moved, read_more, listed_more, room_kept}
use Rattle.lane_threads.proofs.closing.close_all.Goals as goal

pub loop-work-preserved : goal.loop-work-preserved
loop-work-preserved c =
    let h = c.loop-work.invariant in
    let left : into_iter_items c.loop-work.work-iterator ≡ c.in-Some.work ∷ into_iter_items c.next.new.self = search rules in
    let sides : into_iter_items c.loop-work.sides ≡ c.in-Some-next.side ∷ into_iter_items c.next-in-loop-work.new.self = search rules in
    let ends = rw (left, sides) at h.ends in
    record {
      ends = ends.1;
      closed = pairs_moved WereClosed _ _ _ _ _ _ h.closed sides c.close_one-losses.ensures.closed;
      losses = read_more _ _ _ _ _ _ _ c.push_reserved.ensures.items h.losses c.close_one-losses.ensures.losses;
      stats = listed_more _ _ _ _ _ _ c.push_reserved-in-loop-work.ensures.items h.stats c.close_one-losses.ensures.stats;
      loss_room = room_kept _ _ _ _ _ _ _ _ c.push_reserved.ensures.items left h.loss_room c.push_reserved.ensures.capacity;
      stats_room = room_kept _ _ _ _ _ _ _ _ c.push_reserved-in-loop-work.ensures.items left h.stats_room c.push_reserved-in-loop-work.ensures.capacity;
    }
