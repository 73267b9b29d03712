use Rattle.std.proofs.Common.{ap, drop, ◌∙◌}
use Rattle.line_reader.proofs.Pieces.{advance}
use Rattle.line_reader.proofs.readers.LineReader.pass.Goals as goal

pub returns : goal.returns
returns c = advance c.self.inside.bytes.items c.self.inside.at c.self.inside.end c.args.count ∙ ap (λ l. drop c.args.count l) c.self.view_is
