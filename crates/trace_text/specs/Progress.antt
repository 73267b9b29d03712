-- How far the reading of a trace came.
use Rattle.std.specs.Prelude.{◌≡◌, ℕ, ◌+◌, List, [], ◌∷◌, ◌++◌, length, IfSome}
use Rattle.std.specs.declared.option.Option.{Option}
use Rattle.std.specs.declared.option.Option.TheVariants.{Some}
use Rattle.std.specs.declared.result.Result.{Result}
use Rattle.std.specs.declared.result.Result.TheVariants.{Ok, Err}
use Rattle.std.specs.List.{AllByRecursion}
use Rattle.std.specs.Io.KnownBytes.{Consumes}
use Rattle.text_num.specs.Lines.{text_of_lines}
use Rattle.trace_model.specs.declared.reasons.TraceWhy.{TraceWhy}
use Rattle.trace_model.specs.Said.{Said}
use Rattle.trace_model.specs.Grammar.{verdict, said_by, IsLine, Refuses}
use Rattle.trace_text.specs.declared.refusals.LineRefusal.{LineRefusal}
use Rattle.trace_text.specs.declared.refusals.LineRefusal.TheVariants.{Bad, Memory}

-- a line says this after those before it
abbrev pub SaysNext : List (Said ℕ) → List ℕ → List (Said ℕ) → Type 0
SaysNext before line after = (said : Said ℕ) × (verdict before line ≡ Ok said) × (after ≡ before ++ said ∷ [])

-- a line is refused for this reason, or for want of memory
abbrev pub IsRefusal : Result (Said ℕ) TraceWhy → LineRefusal → Type 0
IsRefusal judged (Bad why) = judged ≡ Err why
IsRefusal judged Memory = Unit {0}

-- good lines were read, so many, and lead from what was said before to what is said after them
pub record Went (old new : Option (List ℕ)) (before after : List (Said ℕ)) (count : ℕ) : Type 0 where
  pub lines : List (List ℕ)
  pub are_lines : AllByRecursion IsLine lines
  pub taken : Consumes old new (text_of_lines lines)
  pub says : said_by before lines ≡ Some after
  pub count_is : count ≡ length lines

-- behind good lines the next one is refused; so many lines stand before these bytes
pub record StopsIn (bytes : List ℕ) (before : List (Said ℕ)) (count number : ℕ) (why : TraceWhy) : Type 0 where
  pub lines : List (List ℕ)
  pub rest : List ℕ
  pub said : List (Said ℕ)
  pub are_lines : AllByRecursion IsLine lines
  pub text : bytes ≡ text_of_lines lines ++ rest
  pub says : said_by before lines ≡ Some said
  pub number_is : number ≡ count + length lines + 1
  pub refused : Refuses said rest why

abbrev pub Stops : Option (List ℕ) → List (Said ℕ) → ℕ → ℕ → TraceWhy → Type 0
Stops old before count number why = IfSome old (λ bytes. StopsIn bytes before count number why)
