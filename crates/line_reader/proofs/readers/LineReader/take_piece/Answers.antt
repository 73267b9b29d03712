use Rattle.std.proofs.Common.{sym}
use Rattle.line_reader.proofs.Pieces.{goes_ended, goes_on}
use Rattle.line_reader.proofs.readers.LineReader.take_piece.Goals as goal

pub returns-then-ended : goal.returns-then-ended
returns-then-ended c = goes_ended _ c.deref.result.now c.self.inside.at c.self.inside.end c.piece_of-taken.result.0 c.args.room _ _ _ c.deref.ensures.value (sym c.self.view_is) (rw c.if-ended.true at c.piece_of-taken.ensures) c.in_ok-extend_from_slice.ensures.items

pub returns-else-ended : goal.returns-else-ended
returns-else-ended c = goes_on _ c.deref.result.now c.self.inside.at c.self.inside.end c.piece_of-taken.result.0 c.args.room _ _ _ c.deref.ensures.value (sym c.self.view_is) (rw c.if-ended.false at c.piece_of-taken.ensures) c.in_ok-extend_from_slice.ensures.items
