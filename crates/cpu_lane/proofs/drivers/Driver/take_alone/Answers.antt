use Rattle.std.proofs.Common.{refl, sym, ◌∙◌}
use Rattle.driver_model.specs.Driver.{Two, take_sample, write_sample}
use Rattle.driver_model.specs.declared.answers.Turn.TheVariants.{Took}
use Rattle.cpu_lane.specs.Seen.{setup_of, driver_of}
use Rattle.cpu_lane.specs.Steps.{Gives}
use Rattle.cpu_lane.proofs.Told.{over_any, over_map}
use Rattle.cpu_lane.proofs.Sampling.{take_plain, take_write}
use Rattle.cpu_lane.proofs.drivers.Driver.take_alone.Goals as goal

pub returns-then-needs_write-clause-step : goal.returns-then-needs_write-clause-step
returns-then-needs_write-clause-step g c =
    let u = setup_of c.args.setup.now in let d = driver_of c.args.self.now in let v = g.S.Endpoint.seen c.args.side.now in
    let f = driver_of c.write_sample.new.self in let w = g.S.Endpoint.seen c.write_sample.new.side in
    over_map (g.S.Endpoint.far c.args.side.now) v
    (λ (h : Two). Gives (write_sample u h (record { driver = d; side = v }) c.args.key.now) c.write_sample.result f w)
    (λ (h : Two). Gives (take_sample u h (record { driver = d; side = v }) c.args.key.now) c.write_sample.result f w)
    (λ h gives. take_write u h d v c.args.key.now c.write_sample.result f w (sym c.needs_write.ensures ∙ c.if-needs_write.true) gives) c.write_sample.ensures.step

pub returns-clause-step : goal.returns-clause-step
returns-clause-step g c =
    let u = setup_of c.args.setup.now in let d = driver_of c.args.self.now in let v = g.S.Endpoint.seen c.args.side.now in
    let f = driver_of c.take_next-nothing.new.self in
    over_any (g.S.Endpoint.far c.args.side.now) v
    (λ (h : Two). Gives (take_sample u h (record { driver = d; side = v }) c.args.key.now) Took f v)
    (λ h. take_plain u h d v c.args.key.now c.args.self.now.table f refl (sym c.needs_write.ensures ∙ c.if-needs_write.false) c.take_next-nothing.ensures.step)
