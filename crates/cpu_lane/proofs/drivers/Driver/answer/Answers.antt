use Rattle.std.proofs.Common.{refl, sym, ◌∙◌}
use Rattle.cpu_lane.specs.Seen.{setup_of, driver_of}
use Rattle.cpu_lane.proofs.Handing.{can_active, can_table}
use Rattle.cpu_lane.proofs.drivers.Driver.answer.Goals as goal

pub hand_active-requires-clause-can : goal.hand_active-requires-clause-can
hand_active-requires-clause-can g c =
    can_active (setup_of c.args.setup.now) (g.S.Endpoint.fixed c.args.side.now) (driver_of c.args.self.now) (g.S.Endpoint.seen c.args.side.now)
    c.args.self.now.pair.active c.take.new.self c.requires.ready refl c.requires.sound.active

pub hand_table-requires-clause-can : goal.hand_table-requires-clause-can
hand_table-requires-clause-can g c =
    can_table (setup_of c.args.setup.now) (g.S.Endpoint.fixed c.args.side.now) (driver_of c.args.self.now) (g.S.Endpoint.seen c.args.side.now) c.args.heard
    c.in-Some.table c.take.new.self (driver_of c.hand_active.new.self) (g.S.Endpoint.seen c.hand_active.new.side) (g.S.Endpoint.fixed c.hand_active.new.side)
    c.requires.ready (sym c.take.ensures.value ∙ c.in-Some.is) c.requires.heard c.requires.bound c.hand_active.ensures.step c.hand_active.ensures.fixed
