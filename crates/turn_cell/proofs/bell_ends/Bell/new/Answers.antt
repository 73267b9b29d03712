use Rattle.std.proofs.Common.{rules}
use Rattle.turn_cell.proofs.BellSteps.{opens, notes}
use Rattle.turn_cell.proofs.bell_ends.Bell.new.Goals as goal

pub of_words-requires : goal.of_words-requires
of_words-requires c = opens

pub split_seat-theirs-requires : goal.split_seat-theirs-requires
split_seat-theirs-requires c = (search rules, search rules, notes _ _)
