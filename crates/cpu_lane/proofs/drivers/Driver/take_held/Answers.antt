use Rattle.std.proofs.Common.{sym, ◌∙◌, ap, Option}
use Rattle.overflow_pair.specs.Contents.{Contents, entries_if}
use Rattle.overflow_pair.specs.declared.pairs.Pair.{Pair}
use Rattle.cpu_lane.specs.Seen.{setup_of, driver_of}
use Rattle.cpu_lane.proofs.Readying.{can_push, size_of}
use Rattle.cpu_lane.proofs.drivers.Driver.take_held.Goals as goal

pub push-requires-clause-can : goal.push-requires-clause-can
push-requires-clause-can g c = λ b is.
    let active = sym (ap (λ (p : Pair). p.active) c.take_next.ensures.pair) ∙ is in
    can_push (setup_of c.args.setup.now) (g.S.Endpoint.fixed c.args.side.now) (driver_of c.args.self.now) (driver_of c.take_next.new.self) (g.S.Endpoint.seen c.args.side.now)
    b c.in-Some.entry c.args.key.now c.args.self.now.table c.requires.ready (ap (λ (o : Option Contents). entries_if o) active) c.requires.due c.take_next.ensures.step
    (size_of c.args.self.now.pair.active b c.args.setup.now.plan.buffer active c.requires.sound.active)
