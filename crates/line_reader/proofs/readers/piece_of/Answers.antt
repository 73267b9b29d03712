use Rattle.line_reader.proofs.Pieces.{found_piece, none_piece}
use Rattle.line_reader.proofs.readers.piece_of.Goals as goal

pub returns-in-Some : goal.returns-in-Some
returns-in-Some c = found_piece c.args.room c.args.pending.now c.in-Some.found (rw c.min.ensures at c.in-Some.ensures)

pub returns-in-None : goal.returns-in-None
returns-in-None c = rw c.min.ensures (none_piece c.args.room c.args.pending.now c.requires.some c.requires.room (rw c.min.ensures at c.in-None.ensures))
