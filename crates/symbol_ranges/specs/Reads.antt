-- What taking a line changes, and what its fields give.
use Rattle.std.specs.Prelude.{◌≡◌, ℕ, ◌<◌, ◌||◌, true, false, not, List, [], ◌∷◌, ◌++◌, length, find}
use Rattle.std.specs.declared.option.Option.{Option}
use Rattle.std.specs.declared.option.Option.TheVariants.{Some, None}
use Rattle.std.specs.declared.result.Result.{Result}
use Rattle.std.specs.declared.result.Result.TheVariants.{Ok, Err}
use Rattle.std.specs.List.{list_any}
use Rattle.std.specs.Option.{is_some}
use Rattle.text_num.specs.Numbers.{value_of}
use Rattle.symbol_ranges.specs.declared.symbols.TheConstants.{MOST_LINES}
use Rattle.symbol_ranges.specs.declared.symbols.Symbol.{Symbol}
use Rattle.symbol_ranges.specs.declared.fields.Fields.{Fields}
use Rattle.symbol_ranges.specs.declared.fields.Range.{Range}
use Rattle.symbol_ranges.specs.declared.refusals.SymbolWhy.{SymbolWhy}
use Rattle.symbol_ranges.specs.declared.refusals.SymbolLineError.{SymbolLineError}
use Rattle.symbol_ranges.specs.declared.refusals.SymbolLineError.TheVariants.{Bad, Memory}
use Rattle.symbol_ranges.specs.Lines.{Texts, are_spelled, are_titled, covers, end_of, is_out_of_range, meets, overlaps, start_of, verdict, verdict_on}

-- the texts of the fields
abbrev pub texts_of : Fields → Texts
texts_of fields = record { image = fields.image.now; start = fields.start.now; size = fields.length.now; name = fields.name.now }

-- the range that two numbers give; none where one is not canonical or out of its range
abbrev pub ReadsRange : Texts → Option Range → Type 0
ReadsRange texts None = (not (are_spelled texts) || is_out_of_range (start_of texts) (value_of 16 texts.size)) ≡ true
ReadsRange texts (Some range) =
    (are_spelled texts ≡ true) × (is_out_of_range (start_of texts) (value_of 16 texts.size) ≡ false) × (range.start ≡ start_of texts) × (range.end ≡ end_of texts) × (range.start < range.end)

-- what fields say at a range
abbrev pub symbol_in : Texts → Range → Symbol
symbol_in texts range = record { image = texts.image; start = range.start; end = range.end; name = texts.name }

-- a symbol may stand behind these lines
pub record Fits (before : List Symbol) (symbol : Symbol) : Type 0 where
  pub some : symbol.start < symbol.end
  pub apart : overlaps before symbol.image symbol.start symbol.end ≡ false
  pub room : length before < MOST_LINES

-- what is judged of four fields
abbrev pub IsJudgedRange : List Symbol → Texts → Result Range SymbolWhy → Type 0
IsJudgedRange before texts (Ok range) = (verdict_on before texts ≡ Ok (symbol_in texts range)) × (are_titled texts ≡ true)
IsJudgedRange before texts (Err why) = verdict_on before texts ≡ Err why

-- the line was added behind the others, by what it says
abbrev pub Adds : List Symbol → List ℕ → List Symbol → Type 0
Adds before line after = (symbol : Symbol) × (verdict before line ≡ Ok symbol) × (after ≡ before ++ symbol ∷ [])

-- the line is refused for this reason, or for want of memory
abbrev pub IsRefusal : Result Symbol SymbolWhy → SymbolLineError → Type 0
IsRefusal judged (Bad why) = judged ≡ Err why
IsRefusal judged Memory = Unit {0}

-- an offset of a range of an image is searched among lines: whether one has it, and which, where only one offset is searched
pub record Meeting (lines : List Symbol) (image : List ℕ) (first last : ℕ) (found : Option Symbol) : Type 0 where
  pub some : is_some found ≡ list_any (meets image first last) lines
  pub same : first ≡ last → found ≡ find (covers image first) lines
