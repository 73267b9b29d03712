use Rattle.std.proofs.Common.{arith}
use Rattle.symbol_ranges.proofs.Shortness.{few_bytes, few_lines}
use Rattle.symbol_ranges.proofs.laws.lists_are_short.Goals as goal

pub returns-clause-lines : goal.returns-clause-lines
returns-clause-lines c bytes list =
    record { lines = list.1.lines; text = list.1.text; are_lines = list.1.are_lines; few = few_lines bytes list.0 list.1 }

pub returns-clause-bytes : goal.returns-clause-bytes
returns-clause-bytes c bytes list = omega (arith, few_bytes bytes list.0 list.1)
