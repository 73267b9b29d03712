use Rattle.driver_model.specs.Sides.{slot_of}
use Rattle.lane_side.specs.Calls.{buffer_sent}
use Rattle.driver_play.proofs.Playing.{plays_home, plays_drained}
use Rattle.driver_play.proofs.plays.Play.drain.Goals as goal

pub invariant_of-self : goal.invariant_of-self
invariant_of-self c =
    let polls = c.in-Parcel.ensures.polls in
    plays_drained c.invariant_is_kept.ensures.polls c.self.inside.requests c.self.inside.lane c.self.inside.side c.poll_buffer.new.self c.return_buffer.new.self c.args.b (slot_of c.poll_buffer.new.self.seen c.args.b).read
    (buffer_sent c.in-Parcel.parcel) c.requires c.self.invariant polls.side polls.cause.far c.in-Parcel.ensures.fixed
    c.return_buffer.ensures.seen c.return_buffer.ensures.far c.return_buffer.ensures.fixed

pub invariant_of-self-in-Home : goal.invariant_of-self-in-Home
invariant_of-self-in-Home c =
    let polls = c.in-Home.ensures.polls in
    plays_home c.invariant_is_kept.ensures.polls c.self.inside.requests c.self.inside.lane c.self.inside.side c.poll_buffer.new.self c.args.b (slot_of c.poll_buffer.new.self.seen c.args.b).read
    c.self.invariant polls.side polls.cause.far c.in-Home.ensures.fixed
