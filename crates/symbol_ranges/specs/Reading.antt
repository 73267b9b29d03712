-- How far the reading of a symbol list came, and when it is refused.
use Rattle.std.specs.Prelude.{◌≡◌, ℕ, ◌+◌, ◌≤◌, Bool, true, false, List, [], length, IfSome}
use Rattle.std.specs.declared.option.Option.{Option}
use Rattle.std.specs.declared.option.Option.TheVariants.{Some}
use Rattle.std.specs.declared.result.Result.{Result}
use Rattle.std.specs.declared.result.Result.TheVariants.{Ok, Err}
use Rattle.std.specs.List.{AllByRecursion}
use Rattle.std.specs.Io.KnownBytes.{Consumes, IsAtEnd}
use Rattle.outside_io.specs.Causes.{Rose}
use Rattle.text_num.specs.Lines.{text_of_lines}
use Rattle.line_reader.specs.declared.faults.LineFault.{LineFault}
use Rattle.line_reader.specs.declared.faults.LineFault.TheVariants as faults
use Rattle.symbol_ranges.specs.declared.symbols.Symbol.{Symbol}
use Rattle.symbol_ranges.specs.declared.refusals.SymbolWhy.{SymbolWhy}
use Rattle.symbol_ranges.specs.declared.refusals.SymbolRefusal.{SymbolRefusal}
use Rattle.symbol_ranges.specs.declared.refusals.SymbolRefusal.TheVariants.{Bad, ReadFault, Memory}
use Rattle.symbol_ranges.specs.declared.refusals.SymbolLineError.{SymbolLineError}
use Rattle.symbol_ranges.specs.declared.refusals.SymbolLineError.TheVariants as lines
use Rattle.symbol_ranges.specs.Lines.{FirstBad, IsLine, Refuses, said_by}

-- a fault of a line is passed on as it is
abbrev pub IsOfLineFault : LineFault → SymbolRefusal → Type 0
IsOfLineFault faults.ReadFault refusal = refusal ≡ ReadFault
IsOfLineFault faults.Memory refusal = refusal ≡ Memory

-- a refusal of a line, at its number
abbrev pub IsOfLineError : ℕ → SymbolLineError → SymbolRefusal → Type 0
IsOfLineError number (lines.Bad why) refusal = refusal ≡ Bad number why
IsOfLineError number lines.Memory refusal = refusal ≡ Memory

-- the count of faults rose where a read failed, and never falls; else it stays, so that no fault is passed over
abbrev pub TellsFaults : {T : Type 0} → ℕ → ℕ → Result T SymbolRefusal → Type 0
TellsFaults before now (Ok value) = now ≡ before
TellsFaults before now (Err ReadFault) = (before ≤ now) × Rose before now
TellsFaults before now (Err (Bad line why)) = now ≡ before
TellsFaults before now (Err Memory) = now ≡ before

-- what is said of a bad line that is answered, by its number and its reason; nothing is said of other answers
abbrev pub IfBad : (ℕ → SymbolWhy → Type 0) → SymbolRefusal → Type 0
IfBad says (Bad line why) = says line why
IfBad says ReadFault = Unit {0}
IfBad says Memory = Unit {0}

abbrev pub OnBad : {T : Type 0} → (ℕ → SymbolWhy → Type 0) → Result T SymbolRefusal → Type 0
OnBad says (Ok value) = Unit {0}
OnBad says (Err refusal) = IfBad says refusal

-- a line is the first bad one of the input, for its first reason
abbrev pub IsFirstBad : Option (List ℕ) → ℕ → SymbolWhy → Type 0
IsFirstBad input line why = IfSome input (λ bytes. FirstBad bytes line why)

-- good lines were read, and lead from these symbols to those
pub record Went (old new : Option (List ℕ)) (before after : List Symbol) : Type 0 where
  pub lines : List (List ℕ)
  pub are_lines : AllByRecursion IsLine lines
  pub taken : Consumes old new (text_of_lines lines)
  pub says : said_by before lines ≡ Some after
  pub count_is : length after ≡ length before + length lines

-- the next line is refused, at its number
abbrev pub Stops : Option (List ℕ) → List Symbol → ℕ → SymbolWhy → Type 0
Stops old before number why = (number ≡ length before + 1) × IfSome old (λ bytes. Refuses before bytes why)

-- a line was read, or the end of the input
abbrev pub Steps : Bool → Option (List ℕ) → Option (List ℕ) → List Symbol → List Symbol → Type 0
Steps true old new before after = Went old new before after × (length after ≡ length before + 1)
Steps false old new before after = (after ≡ before) × Consumes old new [] × IsAtEnd new
