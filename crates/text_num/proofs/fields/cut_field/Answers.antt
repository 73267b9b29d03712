-- A text is cut at its first separator, or not at all.
use Rattle.text_num.proofs.Cutting.{cut_found, cut_none}
use Rattle.text_num.proofs.fields.cut_field.Goals as goal

pub returns-in-Some : goal.returns-in-Some
returns-in-Some c = cut_found c.args.separator c.args.text.now c.in-Some.at c.in-Some.ensures

pub returns-in-None : goal.returns-in-None
returns-in-None c = cut_none c.args.separator c.args.text.now c.in-None.ensures
