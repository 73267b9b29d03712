use Rattle.std.proofs.Common.{ℕ, ◌^◌, ◌≤◌, sym, ◌∙◌, ap, subst, arith}
use Rattle.std.proofs.lemmas.Bool.{both_ways}
use Rattle.driver_model.specs.Sides.{Side, side_hear}
use Rattle.driver_model.specs.Handover.{FarSide, rung_of}
use Rattle.driver_model.specs.Runs.{words_at}
use Rattle.driver_model.specs.Driver.{Words, regain, turn_of}
use Rattle.cpu_lane.specs.Seen.{setup_of, driver_of}
use Rattle.cpu_lane.specs.Steps.{Is, Gives}
use Rattle.cpu_lane.proofs.Told.{no_words, fair_none}
use Rattle.cpu_lane.proofs.Turning.{ready_hear, regained_ready, turn_given, turn_told, turn_done}
use Rattle.cpu_lane.proofs.drivers.Driver.step.Goals as goal

pub after_regain-requires-clause-ready : goal.after_regain-requires-clause-ready
after_regain-requires-clause-ready g c =
    let u = setup_of c.args.setup.now in let d = driver_of c.args.self.now in let v = g.S.Endpoint.seen c.args.side.now in
    let e = driver_of c.regain.new.self in let x = g.S.Endpoint.seen c.regain.new.side in let bell = c.hear-heard.result in
    let look = c.regain.ensures.step.read in
    regained_ready u (g.S.Endpoint.fixed c.args.side.now) (g.S.Endpoint.fixed c.regain.new.side) d (side_hear v bell) look.0 e x
    (ready_hear u (g.S.Endpoint.fixed c.args.side.now) d v bell c.requires.setup c.requires.side c.requires.room c.requires.invariant c.hear-heard.ensures.later)
    (subst (λ (s : Side). Is (regain d s look.0 d.table) e x) c.hear-heard.ensures.seen look.1)
    (c.regain.ensures.fixed ∙ c.hear-heard.ensures.fixed)

pub returns-then-self-clause-step : goal.returns-then-self-clause-step
returns-then-self-clause-step g c =
    let v = g.S.Endpoint.seen c.args.side.now in
    let k : Words = record { bell = v.heard; third = 0; two = no_words } in
    (k, turn_done (setup_of c.args.setup.now) k (driver_of c.args.self.now) v c.if-self.true, fair_none v, omega arith, λ going. absurd (both_ways c.args.self.now.done going c.if-self.true))

pub returns-then-self-clause-told : goal.returns-then-self-clause-told
returns-then-self-clause-told g c = λ told given is.
    let v = g.S.Endpoint.seen c.args.side.now in
    turn_done (setup_of c.args.setup.now) (words_at (rung_of (g.S.Endpoint.far c.args.side.now).rungs) given v) (driver_of c.args.self.now) v c.if-self.true

pub returns-clause-step : goal.returns-clause-step
returns-clause-step g c =
    let u = setup_of c.args.setup.now in let d = driver_of c.args.self.now in let v = g.S.Endpoint.seen c.args.side.now in
    let e = driver_of c.regain.new.self in let x = g.S.Endpoint.seen c.regain.new.side in let bell = c.hear-heard.result in
    let t = turn_given u (g.S.Endpoint.far c.hear-heard.new.self) (g.S.Endpoint.far c.regain.new.side) d v (g.S.Endpoint.seen c.hear-heard.new.self) bell e x c.after_regain.result
    (driver_of c.after_regain.new.self) (g.S.Endpoint.seen c.after_regain.new.side) c.if-self.false c.hear-heard.ensures.seen c.regain.ensures.step c.after_regain.ensures.step in (
      t.0,
      t.1,
      t.2,
      subst (λ (n : ℕ). v.heard ≤ n) (sym t.3) c.hear-heard.ensures.later,
      λ going. record {
        bound = subst (λ (n : ℕ). n ≤ 2 ^ 32) (sym t.3) c.hear-heard.ensures.bound;
        told = λ told. t.3 ∙ c.hear-heard.ensures.told told;
      },
    )

pub returns-clause-told : goal.returns-clause-told
returns-clause-told g c = λ told given is.
    let u = setup_of c.args.setup.now in let d = driver_of c.args.self.now in let v = g.S.Endpoint.seen c.args.side.now in
    let e = driver_of c.regain.new.self in let x = g.S.Endpoint.seen c.regain.new.side in let bell = c.hear-heard.result in
    let a = driver_of c.after_regain.new.self in let y = g.S.Endpoint.seen c.after_regain.new.side in
    let gives = turn_told u (g.S.Endpoint.far c.hear-heard.new.self) (g.S.Endpoint.far c.regain.new.side) d v (g.S.Endpoint.seen c.hear-heard.new.self) bell e x c.after_regain.result
    a y given c.if-self.false c.hear-heard.ensures.seen (ap (λ (f : FarSide). f.given) c.hear-heard.ensures.far ∙ is) c.regain.ensures.far c.regain.ensures.step c.after_regain.ensures.step in
    subst (λ (n : ℕ). Gives (turn_of u (words_at n given v) (record { driver = d; side = v })) c.after_regain.result a y) (c.hear-heard.ensures.told told) gives
