use Rattle.trace_text.proofs.OnePass.{leads}
use Rattle.trace_text.proofs.samples.leading_number.Goals as goal

pub returns-then-is_spelling_before_space : goal.returns-then-is_spelling_before_space
returns-then-is_spelling_before_space c =
    let found = c.is_spelling_before_space.ensures in let is = c.if-is_spelling_before_space.true in
    leads c.args.base c.digits_in-n.result.0 c.digits_in-n.result.1 c.min.result c.args.text.now c.requires.high c.digits_in-n.ensures (found.some is) (found.within is) (found.space is) (found.zero is)
