use Rattle.std.proofs.Common.{◌∙◌, arith}
use Rattle.trace_text.proofs.OnePass.{worth_at}
use Rattle.trace_text.proofs.samples.worth.Goals as goal

pub returns : goal.returns
returns c = c.from.ensures ∙ worth_at c.args.c (omega arith)
