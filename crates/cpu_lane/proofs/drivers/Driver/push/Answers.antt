use Rattle.std.proofs.Common.{◌≡◌, None, Option, sym, ap, subst}
use Rattle.std.specs.Prelude.{IfSome}
use Rattle.driver_model.specs.Driver.{Buffers}
use Rattle.overflow_pair.specs.Contents.{Contents, pushed}
use Rattle.cpu_lane.specs.Seen.{setup_of, driver_of}
use Rattle.cpu_lane.proofs.Handing.{active_of, pair_with, can_gone}
use Rattle.cpu_lane.proofs.Readying.{size_of}
use Rattle.cpu_lane.proofs.drivers.Driver.push.Goals as goal

pub hand-requires-clause-gone : goal.hand-requires-clause-gone
hand-requires-clause-gone g c =
    let b = active_of c.args.self.now.pair.active c.requires.space in
    (c.in-Some.ensures.pushes b.0 b.1).2

pub hand-requires-clause-sound : goal.hand-requires-clause-sound
hand-requires-clause-sound g c =
    let b = active_of c.args.self.now.pair.active c.requires.space in
    record {
      room = c.requires.sound.room;
      active = subst (λ (o : Option Contents). IfSome o (λ x. x.size ≡ c.args.setup.now.plan.buffer)) (sym (c.in-Some.ensures.pushes b.0 b.1).2) tt;
    }

pub hand-requires-clause-can : goal.hand-requires-clause-can
hand-requires-clause-can g c =
    let b = active_of c.args.self.now.pair.active c.requires.space in let d = driver_of c.args.self.now in
    let pushes = c.in-Some.ensures.pushes b.0 b.1 in
    can_gone (setup_of c.args.setup.now) (g.S.Endpoint.fixed c.args.side.now) d (driver_of (record c.args.self.now { pair = c.push.new.self })) (g.S.Endpoint.seen c.args.side.now) (pushed b.0 c.args.entry) c.in-Some.buffer
    (ap (λ (z : Buffers). record d { pair = z }) (pair_with c.args.self.now.pair c.push.new.self None c.push.ensures.rest pushes.2)) pushes.0 (c.requires.can b.0 b.1)

pub returns-in-None-clause-sound : goal.returns-in-None-clause-sound
returns-in-None-clause-sound g c =
    let b = active_of c.args.self.now.pair.active c.requires.space in
    record {
      room = c.requires.sound.room;
      active = subst (λ (o : Option Contents). IfSome o (λ x. x.size ≡ c.args.setup.now.plan.buffer)) (sym (c.in-None.ensures.pushes b.0 b.1).1)
          (size_of c.args.self.now.pair.active b.0 c.args.setup.now.plan.buffer b.1 c.requires.sound.active);
    }
