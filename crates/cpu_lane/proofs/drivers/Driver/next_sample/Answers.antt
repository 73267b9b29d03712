use Rattle.std.proofs.Common.{◌+◌, ◌/◌, ◌≤◌, ℕ, drop, refl, subst}
use Rattle.driver_model.specs.Driver.{Two, next_sample, take_sample}
use Rattle.driver_model.specs.declared.answers.Turn.TheVariants.{Held, Idle}
use Rattle.cpu_lane.specs.Seen.{setup_of, driver_of}
use Rattle.cpu_lane.specs.Steps.{Gives}
use Rattle.cpu_lane.proofs.Told.{over_any, over_map}
use Rattle.cpu_lane.proofs.Sampling.{next_held, next_due, next_idle}
use Rattle.cpu_lane.proofs.drivers.Driver.next_sample.Goals as goal

pub returns-then-heard-sample-clause-step : goal.returns-then-heard-sample-clause-step
returns-then-heard-sample-clause-step g c =
    let u = setup_of c.args.setup.now in let d = driver_of c.args.self.now in let v = g.S.Endpoint.seen c.args.side.now in
    over_any (g.S.Endpoint.far c.args.side.now) v
    (λ (h : Two). Gives (next_sample u h c.args.heard (record { driver = d; side = v }) (drop d.at u.samples)) Held d v)
    (λ h. next_held u h c.args.heard d v (drop d.at u.samples) c.in-Some.sample.now (drop (d.at + 1) u.samples) c.in-Some.ensures c.if-heard-sample.true)

pub take_sample-requires-clause-due : goal.take_sample-requires-clause-due
take_sample-requires-clause-due g c = (
  c.in-Some.sample.now,
  drop (c.args.self.now.at + 1) c.args.setup.now.samples.items,
  c.in-Some.ensures,
  refl,
  subst (λ (n : ℕ). c.in-Some.sample.now.mark ≤ n / 2) c.requires.heard c.if-heard-sample.false,
)

pub returns-else-heard-sample-clause-step : goal.returns-else-heard-sample-clause-step
returns-else-heard-sample-clause-step g c =
    let u = setup_of c.args.setup.now in let d = driver_of c.args.self.now in let v = g.S.Endpoint.seen c.args.side.now in
    let e = driver_of c.take_sample.new.self in let w = g.S.Endpoint.seen c.take_sample.new.side in
    over_map (g.S.Endpoint.far c.args.side.now) v
    (λ (h : Two). Gives (take_sample u h (record { driver = d; side = v }) c.in-Some.sample.now.key) c.take_sample.result e w)
    (λ (h : Two). Gives (next_sample u h c.args.heard (record { driver = d; side = v }) (drop d.at u.samples)) c.take_sample.result e w)
    (λ h gives. next_due u h c.args.heard d v (drop d.at u.samples) c.in-Some.sample.now (drop (d.at + 1) u.samples) c.take_sample.result e w c.in-Some.ensures c.if-heard-sample.false gives)
    c.take_sample.ensures.step

pub returns-in-None-clause-step : goal.returns-in-None-clause-step
returns-in-None-clause-step g c =
    let u = setup_of c.args.setup.now in let d = driver_of c.args.self.now in let v = g.S.Endpoint.seen c.args.side.now in
    over_any (g.S.Endpoint.far c.args.side.now) v
    (λ (h : Two). Gives (next_sample u h c.args.heard (record { driver = d; side = v }) (drop d.at u.samples)) Idle d v)
    (λ h. next_idle u h c.args.heard d v (drop d.at u.samples) c.in-None.ensures)
