use Rattle.report_text.proofs.Division.{digit_more, few_more}
use Rattle.report_text.proofs.shares.long_quotient.Goals as goal

pub loop-digit-preserved : goal.loop-digit-preserved
loop-digit-preserved c = record {
  parts = digit_more c.loop-digit.quotient c.tenfold-next.result.0 c.args.total c.loop-digit.rest c.tenfold-next.result.1 c.loop-digit._digit c.args.part c.loop-digit.invariant.parts c.tenfold-next.ensures.parts;
  left = c.tenfold-next.ensures.left;
  few = few_more c.loop-digit.quotient c.tenfold-next.result.0 c.loop-digit._digit c.loop-digit.invariant.few c.tenfold-next.ensures.few;
}
