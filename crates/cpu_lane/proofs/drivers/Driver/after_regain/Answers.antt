use Rattle.std.proofs.Common.{ℕ, drop, sym, ◌∙◌}
use Rattle.driver_model.specs.Driver.{Two, next_sample, after_regain}
use Rattle.cpu_lane.specs.Seen.{setup_of, driver_of}
use Rattle.cpu_lane.specs.Steps.{Gives}
use Rattle.cpu_lane.proofs.Told.{over_any, over_map}
use Rattle.cpu_lane.proofs.Sampling.{after_answer, after_next}
use Rattle.cpu_lane.proofs.drivers.Driver.after_regain.Goals as goal

pub returns-then-answers_now-clause-step : goal.returns-then-answers_now-clause-step
returns-then-answers_now-clause-step g c =
    let u = setup_of c.args.setup.now in let d = driver_of c.args.self.now in let v = g.S.Endpoint.seen c.args.side.now in
    let e = driver_of c.answer.new.self in let w = g.S.Endpoint.seen c.answer.new.side in
    over_any (g.S.Endpoint.far c.args.side.now) v
    (λ (h : Two). (third : ℕ) → Gives (after_regain u (record { bell = c.args.heard; third = third; two = h }) (record { driver = d; side = v })) c.answer.result e w)
    (λ h third. after_answer u (record { bell = c.args.heard; third = third; two = h }) d v c.answer.result e w (sym c.answers_now.ensures ∙ c.if-answers_now.true) c.answer.ensures.step)

pub returns-else-answers_now-clause-step : goal.returns-else-answers_now-clause-step
returns-else-answers_now-clause-step g c =
    let u = setup_of c.args.setup.now in let d = driver_of c.args.self.now in let v = g.S.Endpoint.seen c.args.side.now in
    let e = driver_of c.next_sample.new.self in let w = g.S.Endpoint.seen c.next_sample.new.side in
    over_map (g.S.Endpoint.far c.args.side.now) v
    (λ (h : Two). Gives (next_sample u h c.args.heard (record { driver = d; side = v }) (drop d.at u.samples)) c.next_sample.result e w)
    (λ (h : Two). (third : ℕ) → Gives (after_regain u (record { bell = c.args.heard; third = third; two = h }) (record { driver = d; side = v })) c.next_sample.result e w)
    (λ h gives third. after_next u (record { bell = c.args.heard; third = third; two = h }) d v c.next_sample.result e w (sym c.answers_now.ensures ∙ c.if-answers_now.false) gives)
    c.next_sample.ensures.step
