use Rattle.std.proofs.Common.{ℕ, ◌+◌, ◌*◌, ◌<◌, ap, subst, ◌∙◌, arith}
use Rattle.trace_text.proofs.OnePass.{digits_more, room, small_more, value_more}
use Rattle.trace_text.proofs.samples.digits_in.Goals as goal

pub overflow_mul-n : goal.overflow_mul-n
overflow_mul-n c = omega (
  arith,
  small_more c.args.base c.loop-count.n 0 c.loop-count.count c.requires.high (omega (arith, c.requires.low)) c.loop-count.invariant.small,
  room c.loop-count.count (omega (arith, c.loop-count-test.true, c.requires.few)),
)

pub overflow_add-n : goal.overflow_add-n
overflow_add-n c = omega (
  arith,
  small_more c.args.base c.loop-count.n c.worth-digit.result c.loop-count.count c.requires.high c.if-digit-base.false c.loop-count.invariant.small,
  room c.loop-count.count (omega (arith, c.loop-count-test.true, c.requires.few)),
)

pub loop-count-preserved : goal.loop-count-preserved
loop-count-preserved c = record {
  digits = digits_more c.args.base c.loop-count.count c.args.text.now c.loop-count-test.true c.loop-count.invariant.digits (subst (λ (v : ℕ). v < c.args.base) c.worth-digit.ensures c.if-digit-base.false);
  value = ap (λ (v : ℕ). c.args.base * c.loop-count.n + v) c.worth-digit.ensures ∙ value_more c.args.base c.loop-count.count c.loop-count.n c.args.text.now c.loop-count-test.true c.loop-count.invariant.value;
  small = small_more c.args.base c.loop-count.n c.worth-digit.result c.loop-count.count c.requires.high c.if-digit-base.false c.loop-count.invariant.small;
}
