use Rattle.std.proofs.Common.{sym}
use Rattle.line_reader.proofs.Pieces.{none_in_none, none_stands, stands}
use Rattle.line_reader.proofs.readers.LineReader.whole_line.Goals as goal

pub returns-then-is_empty-clause-none : goal.returns-then-is_empty-clause-none
returns-then-is_empty-clause-none c _ = none_in_none c.args.limit c.args.self.now (c.is_empty.ensures.0 c.if-is_empty.true)

pub returns-then-ended-clause-some : goal.returns-then-ended-clause-some
returns-then-ended-clause-some c = stands _ c.deref.result.now c.self.inside.at c.self.inside.end c.piece_of-length.result.0 c.args.limit _ c.deref.ensures.value (sym c.self.view_is) (rw c.if-ended.true at c.piece_of-length.ensures)

pub returns-else-ended-clause-none : goal.returns-else-ended-clause-none
returns-else-ended-clause-none c _ = none_stands _ c.deref.result.now c.self.inside.at c.self.inside.end c.piece_of-length.result.0 c.args.limit _ c.deref.ensures.value (sym c.self.view_is) (rw c.if-ended.false at c.piece_of-length.ensures)
