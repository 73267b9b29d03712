use Rattle.std.proofs.Common.{◌≡◌, ◌++◌, take}
use Rattle.var_bytes.specs.Numbers.{spell}
use Rattle.var_bytes.proofs.fields.put_numbers.Given as goal

abbrev pub invariant-loop-n : goal.invariant-loop-n
invariant-loop-n l = l.out.items ≡ l.fn.out.items ++ spell (take l.n-index l.numbers)
