use Rattle.std.proofs.Common.{sym}
use Rattle.trace_text.proofs.Adding.{image_known}
use Rattle.trace_text.proofs.body.Body.image.Goals as goal

pub returns-in-Some : goal.returns-in-Some
returns-in-Some c = image_known c.args.self.now c.args.bytes.now c.in-Some.index c.requires.index (sym c.in-Some.ensures)
