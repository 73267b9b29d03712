use Rattle.std.proofs.Common.{ℕ, sym, subst, ◌∙◌, arith, ◌<◌, ◌*◌, ◌^◌}
use Rattle.text_num.proofs.Digits.{past, all_read, not_below}
use Rattle.text_num.proofs.numbers.read_digits.Goals as goal

pub returns-in_err-checked_mul : goal.returns-in_err-checked_mul
returns-in_err-checked_mul c = c.from_residual.ensures
    ∙ sym (past c.args.base c.loop-c.n c.loop-c.c-index c.args.text.now c.loop-c-test.true
    (subst (λ (v : ℕ). v < c.args.base) c.worth-digit.ensures c.if-digit-base.false)
    (omega (arith, not_below (c.loop-c.n * c.args.base) (2 ^ 64) c.in_err-checked_mul.ensures)))
    ∙ c.loop-c.invariant.told

pub returns-in_err-n : goal.returns-in_err-n
returns-in_err-n c = c.from_residual-in_err-n.ensures
    ∙ sym (past c.args.base c.loop-c.n c.loop-c.c-index c.args.text.now c.loop-c-test.true
    (subst (λ (v : ℕ). v < c.args.base) c.worth-digit.ensures c.if-digit-base.false)
    (omega (arith, c.worth-digit.ensures, c.in_ok-checked_mul.ensures, not_below _ (2 ^ 64) c.in_err-n.ensures)))
    ∙ c.loop-c.invariant.told

pub returns : goal.returns
returns c = all_read c.args.base c.loop-c.n c.loop-c.c-index c.args.text.now c.loop-c-test.false c.loop-c.invariant.small ∙ c.loop-c.invariant.told
