use Rattle.std.proofs.Common.{sym, ◌∙◌, ap, Option}
use Rattle.driver_model.specs.Driver.{Two, take_sample}
use Rattle.overflow_pair.specs.Contents.{Contents, entries_if}
use Rattle.cpu_lane.specs.Seen.{setup_of, driver_of}
use Rattle.cpu_lane.specs.Steps.{Gives}
use Rattle.cpu_lane.proofs.Told.{over_any}
use Rattle.cpu_lane.proofs.Readying.{known}
use Rattle.cpu_lane.proofs.Sampling.{take_active}
use Rattle.cpu_lane.proofs.drivers.Driver.take_sample.Goals as goal

pub returns-then-is_some-clause-step : goal.returns-then-is_some-clause-step
returns-then-is_some-clause-step g c =
    let u = setup_of c.args.setup.now in let d = driver_of c.args.self.now in let v = g.S.Endpoint.seen c.args.side.now in
    let f = driver_of c.take_held.new.self in let w = g.S.Endpoint.seen c.take_held.new.side in
    let b = known c.args.self.now.pair.active (sym c.is_some.ensures ∙ c.if-is_some.true) in
    over_any (g.S.Endpoint.far c.args.side.now) v
    (λ (h : Two). Gives (take_sample u h (record { driver = d; side = v }) c.args.key.now) c.take_held.result f w)
    (λ h. take_active u h d v c.args.key.now b.0.entries c.take_held.result f w (ap (λ (o : Option Contents). entries_if o) b.1) (c.take_held.ensures.step b.0 b.1))
