use Rattle.lane_side.specs.Calls.{table_sent}
use Rattle.driver_play.proofs.Playing.{plays_home_table, plays_flushed}
use Rattle.driver_play.proofs.plays.Play.copy_table.Goals as goal

pub invariant_of-self : goal.invariant_of-self
invariant_of-self c =
    let polls = c.in-Parcel.ensures.polls in
    plays_flushed c.invariant_is_kept.ensures.polls c.self.inside.requests c.self.inside.lane c.self.inside.side c.poll_table.new.self c.return_table.new.self c.poll_table.new.self.seen.third.read c.in-Parcel.parcel.body.turn
    (table_sent c.in-Parcel.parcel) c.self.invariant polls.side polls.cause.far c.in-Parcel.ensures.fixed
    c.return_table.ensures.seen c.return_table.ensures.far c.return_table.ensures.fixed

pub invariant_of-self-in-Home : goal.invariant_of-self-in-Home
invariant_of-self-in-Home c =
    let polls = c.in-Home.ensures.polls in
    plays_home_table c.invariant_is_kept.ensures.polls c.self.inside.requests c.self.inside.lane c.self.inside.side c.poll_table.new.self c.poll_table.new.self.seen.third.read
    c.self.invariant polls.side polls.cause.far c.in-Home.ensures.fixed
