use Rattle.std.proofs.Common.{arith}
use Rattle.var_bytes.proofs.NumberLaws.{is_found, is_bad}
use Rattle.var_bytes.proofs.numbers.take_number.Goals as goal

pub returns-clause-found : goal.returns-clause-found
returns-clause-found c = is_found c.args.bytes.now c.number.result c.ok_or.result _ (λ i. omega (arith, c.type_inv.bytes i)) c.number.ensures.value c.ok_or.ensures.value

pub returns-clause-bad : goal.returns-clause-bad
returns-clause-bad c = is_bad c.args.bytes.now c.number.result c.ok_or.result _ c.number.ensures.value c.ok_or.ensures.value
