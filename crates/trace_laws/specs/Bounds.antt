-- How long a trace is at most.
use Rattle.std.specs.Prelude.{◌≡◌, ℕ, ◌≤◌, List, length}
use Rattle.std.specs.List.{AllByRecursion}
use Rattle.text_num.specs.Lines.{text_of_lines}
use Rattle.trace_model.specs.Grammar.{IsLine}
use Rattle.trace_laws.specs.declared.bounds.TheConstants.{MOST_TRACE_LINES}

-- the bytes are lines of at most 400 bytes, each ended by a line feed, and no more than a trace may have
pub record HasFewLines (bytes : List ℕ) : Type 0 where
  pub lines : List (List ℕ)
  pub text : bytes ≡ text_of_lines lines
  pub are_lines : AllByRecursion IsLine lines
  pub few : length lines ≤ MOST_TRACE_LINES
