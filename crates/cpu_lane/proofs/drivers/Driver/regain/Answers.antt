use Rattle.std.proofs.Common.{Some, sym, ◌∙◌}
use Rattle.cpu_lane.specs.Seen.{driver_of}
use Rattle.cpu_lane.proofs.Looking.{table_held, table_looked, table_back, table_out}
use Rattle.cpu_lane.proofs.drivers.Driver.regain.Goals as goal

pub returns-then-is_some-clause-step : goal.returns-then-is_some-clause-step
returns-then-is_some-clause-step g c =
    table_held (g.S.Endpoint.far c.args.side.now) (driver_of c.args.self.now) (g.S.Endpoint.seen c.args.side.now) c.args.self.now.table (sym c.is_some.ensures ∙ c.if-is_some.true)

pub returns-in-Back-clause-step : goal.returns-in-Back-clause-step
returns-in-Back-clause-step g c =
    let d = driver_of c.args.self.now in let v = g.S.Endpoint.seen c.args.side.now in
    let w = g.S.Endpoint.seen c.look_table.new.self in let looks = c.in-Back.ensures.looks in
    table_looked (g.S.Endpoint.far c.args.side.now) d v c.args.self.now.table w.third.read (record d { table = Some c.in-Back.table }) w
    (sym c.is_some.ensures ∙ c.if-is_some.false) looks.told (table_back d v c.in-Back.table w.third.read looks.cause.0 looks.cause.1) looks.side

pub returns-in-Out-clause-step : goal.returns-in-Out-clause-step
returns-in-Out-clause-step g c =
    let d = driver_of c.args.self.now in let v = g.S.Endpoint.seen c.args.side.now in
    let w = g.S.Endpoint.seen c.look_table.new.self in let looks = c.in-Out.ensures.looks in
    table_looked (g.S.Endpoint.far c.args.side.now) d v c.args.self.now.table w.third.read d w
    (sym c.is_some.ensures ∙ c.if-is_some.false) looks.told (table_out d v w.third.read looks.cause.1) looks.side
