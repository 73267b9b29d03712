-- A number is a word.
use Rattle.std.proofs.Common.{arith}
use Rattle.std.specs.Fmt.{decimal}
use Rattle.head_file.proofs.Front.{decimal_word}
use Rattle.head_file.proofs.words.next_number.Goals as goal

pub returns : goal.returns
returns c = λ n rest end below small e.
    let parts = c.next_word.ensures (decimal n) rest end (decimal_word n (omega arith)) small e in
    (c.number_of.ensures n below parts.0, parts.1)
