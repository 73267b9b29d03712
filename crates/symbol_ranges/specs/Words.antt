-- The words for the reasons why a line is refused.
use Rattle.std.specs.Prelude.{ℕ, List, codes}
use Rattle.symbol_ranges.specs.declared.refusals.SymbolWhy.{SymbolWhy}
use Rattle.symbol_ranges.specs.declared.refusals.SymbolWhy.TheVariants.{Unfinished, BadLine, BadNumber, OutOfRange, Unaligned, BadName, Overlap, TooMany}

-- the word for a reason
abbrev pub word_of : SymbolWhy → List ℕ
word_of Unfinished = codes "Unfinished"
word_of BadLine = codes "BadLine"
word_of BadNumber = codes "BadNumber"
word_of OutOfRange = codes "OutOfRange"
word_of Unaligned = codes "Unaligned"
word_of BadName = codes "BadName"
word_of Overlap = codes "Overlap"
word_of TooMany = codes "TooMany"
