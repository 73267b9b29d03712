use Rattle.std.proofs.Common.{arith}
use Rattle.text_num.proofs.Spelling.{has_spelling}
use Rattle.text_num.proofs.numbers.one_spelling.Goals as goal

pub returns-clause-decimal : goal.returns-clause-decimal
returns-clause-decimal c = has_spelling 10 (omega arith) (omega arith) (omega arith)

pub returns-clause-hexadecimal : goal.returns-clause-hexadecimal
returns-clause-hexadecimal c = has_spelling 16 (omega arith) (omega arith) (omega arith)
