use Rattle.std.proofs.Common.{refl}
use Rattle.std.specs.Io.KnownBytes.{prepend_known}
use Rattle.trace_text.specs.declared.body.Taken.TheVariants as kinds
use Rattle.trace_text.proofs.Phasing.{body_stepped, stood}
use Rattle.trace_text.proofs.reading.take_whole_sample.Goals as goal

pub returns-then-took : goal.returns-then-took
returns-then-took c = rw c.if-took.true (
  λ left. body_stepped kinds.Line (prepend_known c.args.input.now.reader left) (prepend_known c.pass.new.self left) c.args.body.now c.take_sample.new.self
      c.in-Some.line.now c.in-Some.line.now refl (stood c.args.input.now.reader c.in-Some.line.now c.pass.new.self left c.in-Some.ensures.some c.pass.ensures)
      (rw c.if-took.true at c.in_ok-took.ensures),
  refl,
)
