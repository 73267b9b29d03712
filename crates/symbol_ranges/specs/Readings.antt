-- What an input is: a symbol list, or refused.
use Rattle.std.specs.Prelude.{◌≡◌, ℕ, ◌≤◌, List, length}
use Rattle.std.specs.List.{AllByRecursion}
use Rattle.text_num.specs.Lines.{text_of_lines}
use Rattle.symbol_ranges.specs.declared.symbols.TheConstants.{MOST_LINES}
use Rattle.symbol_ranges.specs.declared.symbols.Symbol.{Symbol}
use Rattle.symbol_ranges.specs.declared.refusals.SymbolWhy.{SymbolWhy}
use Rattle.symbol_ranges.specs.Lines.{FirstBad, IsLine, Reads}

-- the bytes read as a list
abbrev pub IsList : List ℕ → Type 0
IsList bytes = (symbols : List Symbol) × Reads bytes symbols

-- the bytes have a first bad line, with a first reason
abbrev pub IsRefused : List ℕ → Type 0
IsRefused bytes = (number : ℕ) × (why : SymbolWhy) × FirstBad bytes number why

-- the bytes read as one list at most
abbrev pub HasOneList : List ℕ → Type 0
HasOneList bytes = (first second : List Symbol) → Reads bytes first → Reads bytes second → first ≡ second

-- the bytes have one first bad line at most, and one first reason
abbrev pub HasOneRefusal : List ℕ → Type 0
HasOneRefusal bytes = (first second : ℕ) (why other : SymbolWhy) → FirstBad bytes first why → FirstBad bytes second other → (first ≡ second) × (why ≡ other)

-- the bytes are lines of at most 600 bytes, each ended by a line feed, and no more than a list may have
pub record HasFewLines (bytes : List ℕ) : Type 0 where
  pub lines : List (List ℕ)
  pub text : bytes ≡ text_of_lines lines
  pub are_lines : AllByRecursion IsLine lines
  pub few : length lines ≤ MOST_LINES
