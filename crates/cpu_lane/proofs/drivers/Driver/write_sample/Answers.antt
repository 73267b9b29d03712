use Rattle.std.proofs.Common.{[], None, ◌∙◌, ap, Option}
use Rattle.driver_model.specs.Table.{Table}
use Rattle.driver_model.specs.Driver.{Two, needs_write, look_both, write_sample}
use Rattle.overflow_pair.specs.Contents.{Contents, empty_buffer, entries_if}
use Rattle.cpu_lane.specs.Seen.{setup_of, driver_of}
use Rattle.cpu_lane.specs.Steps.{Is, Gives}
use Rattle.cpu_lane.proofs.Told.{over_map}
use Rattle.cpu_lane.proofs.Readying.{found_ready, found_stays, still_due, found_counts}
use Rattle.cpu_lane.proofs.Sampling.{write_at, write_held}
use Rattle.cpu_lane.proofs.drivers.Driver.write_sample.Goals as goal

pub take_held-requires-clause-ready : goal.take_held-requires-clause-ready
take_held-requires-clause-ready g c =
    let found = c.look_both.ensures.step.read in
    found_ready (setup_of c.args.setup.now) (g.S.Endpoint.fixed c.args.side.now) (g.S.Endpoint.fixed c.look_both.new.side) found.0 (driver_of c.args.self.now) (g.S.Endpoint.seen c.args.side.now)
    (driver_of c.look_both.new.self) (g.S.Endpoint.seen c.look_both.new.side) c.requires.ready (ap (λ (b : Option Contents). entries_if b) c.requires.gone) found.1 c.look_both.ensures.fixed

pub take_held-requires-clause-due : goal.take_held-requires-clause-due
take_held-requires-clause-due g c =
    let found = c.look_both.ensures.step.read in
    let d = driver_of c.args.self.now in let v = g.S.Endpoint.seen c.args.side.now in
    let e = driver_of c.look_both.new.self in let w = g.S.Endpoint.seen c.look_both.new.side in
    let s = found_stays found.0 d v e w found.1 in
    still_due (setup_of c.args.setup.now) d e v w c.args.key.now s.0 s.2 c.requires.due

pub returns-in-Active-clause-step : goal.returns-in-Active-clause-step
returns-in-Active-clause-step g c =
    let found = c.look_both.ensures.step.read in
    let u = setup_of c.args.setup.now in let d = driver_of c.args.self.now in let v = g.S.Endpoint.seen c.args.side.now in
    let e = driver_of c.look_both.new.self in let w = g.S.Endpoint.seen c.look_both.new.side in
    let f = driver_of c.take_held.new.self in let y = g.S.Endpoint.seen c.take_held.new.side in
    let s = found_stays found.0 d v e w found.1 in let active = c.in-Active.ensures.found in
    over_map (g.S.Endpoint.far c.args.side.now) v
    (λ (h : Two). Is (look_both h d v d.pair.next) e w)
    (λ (h : Two). Gives (write_sample u h (record { driver = d; side = v }) c.args.key.now) c.take_held.result f y)
    (λ h is. write_held u c.args.key.now h d v e w [] c.take_held.result f y
    (ap (λ (b : Option Contents). entries_if b) c.requires.gone) is (ap (λ (b : Option Contents). entries_if b) active)
    (ap (λ (t : Option Table). needs_write c.args.key.now t) s.1 ∙ c.requires.needs) (c.take_held.ensures.step (empty_buffer v.buffer) active))
    c.look_both.ensures.step

pub go_without-requires-clause-count : goal.go_without-requires-clause-count
go_without-requires-clause-count g c =
    let found = c.look_both.ensures.step.read in
    (found_counts (setup_of c.args.setup.now) (g.S.Endpoint.fixed c.args.side.now) (g.S.Endpoint.fixed c.look_both.new.side) found.0 (driver_of c.args.self.now) (g.S.Endpoint.seen c.args.side.now)
    (driver_of c.look_both.new.self) (g.S.Endpoint.seen c.look_both.new.side) c.args.key.now c.requires.ready (ap (λ (b : Option Contents). entries_if b) c.requires.gone) found.1 c.look_both.ensures.fixed c.requires.due).0

pub go_without-requires-clause-left : goal.go_without-requires-clause-left
go_without-requires-clause-left g c =
    let found = c.look_both.ensures.step.read in
    (found_counts (setup_of c.args.setup.now) (g.S.Endpoint.fixed c.args.side.now) (g.S.Endpoint.fixed c.look_both.new.side) found.0 (driver_of c.args.self.now) (g.S.Endpoint.seen c.args.side.now)
    (driver_of c.look_both.new.self) (g.S.Endpoint.seen c.look_both.new.side) c.args.key.now c.requires.ready (ap (λ (b : Option Contents). entries_if b) c.requires.gone) found.1 c.look_both.ensures.fixed c.requires.due).1

pub returns-in-Out-clause-step : goal.returns-in-Out-clause-step
returns-in-Out-clause-step g c =
    let u = setup_of c.args.setup.now in let d = driver_of c.args.self.now in let v = g.S.Endpoint.seen c.args.side.now in
    let e = driver_of c.look_both.new.self in let w = g.S.Endpoint.seen c.look_both.new.side in
    let f = driver_of c.go_without.new.self in let out = c.in-Out.ensures.found in
    over_map (g.S.Endpoint.far c.args.side.now) v
    (λ (h : Two). Is (look_both h d v d.pair.next) e w)
    (λ (h : Two). Gives (write_sample u h (record { driver = d; side = v }) c.args.key.now) c.go_without.result f w)
    (λ h is. write_at u c.args.key.now h d v e w None c.go_without.result f w (ap (λ (b : Option Contents). entries_if b) c.requires.gone) is
    (ap (λ (b : Option Contents). entries_if b) out.0) (c.go_without.ensures.step w out.1 out.2))
    c.look_both.ensures.step
