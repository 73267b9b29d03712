use Rattle.std.proofs.Common.{◌-◌, Some, ap}
use Rattle.driver_model.specs.Sides.{slot_of}
use Rattle.overflow_pair.specs.Contents.{Contents}
use Rattle.cpu_lane.specs.Seen.{driver_of}
use Rattle.cpu_lane.proofs.Looking.{both_back, both_other}
use Rattle.cpu_lane.proofs.drivers.Driver.look_both.Goals as goal

pub returns-in-Back-clause-step : goal.returns-in-Back-clause-step
returns-in-Back-clause-step g c =
    let d = driver_of c.args.self.now in let b = c.args.self.now.pair.next in
    let w = g.S.Endpoint.seen c.look_buffer.new.self in let looks = c.in-Back.ensures.looks in
    both_back (g.S.Endpoint.far c.args.side.now) d (record d { pair = record d.pair { active = Some c.in-Back.buffer.entries; active_number = b } }) (g.S.Endpoint.seen c.args.side.now) w b (slot_of w b).read
    c.requires.next looks.cause.0 looks.told
    (ap (λ (x : Contents). record d { pair = record d.pair { active = Some x.entries; active_number = b } }) looks.cause.1) looks.side

pub returns-in-Out-clause-step : goal.returns-in-Out-clause-step
returns-in-Out-clause-step g c =
    let d = driver_of c.args.self.now in let b = c.args.self.now.pair.next in
    let x = g.S.Endpoint.seen c.look_buffer.new.self in let w = g.S.Endpoint.seen c.look_other.new.side in let looks = c.in-Out.ensures.looks in
    both_other (g.S.Endpoint.far c.args.side.now) (g.S.Endpoint.far c.look_buffer.new.self) d (driver_of c.look_other.new.self) (g.S.Endpoint.seen c.args.side.now) x w b (slot_of x b).read (slot_of w (1 - b)).read
    c.requires.next looks.cause.1 looks.cause.2 looks.told looks.side c.look_buffer.ensures.far c.look_other.ensures.told c.look_other.ensures.fair c.look_other.ensures.step
