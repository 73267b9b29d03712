-- Symbol lists: what each line says after those before it, or the first reason why it is refused.
use Rattle.std.specs.Prelude.{◌≡◌, ◌≢◌, ℕ, ◌+◌, ◌-◌, ◌%◌, ◌^◌, ◌<◌, ◌≤◌, ◌==◌, ◌&&◌, ◌||◌, nat_le, nat_lt, Bool, false, not, if◌then◌else◌, List, [], ◌∷◌, ◌++◌, length, find}
use Rattle.std.specs.declared.option.Option.{Option}
use Rattle.std.specs.declared.option.Option.TheVariants.{Some, None}
use Rattle.std.specs.declared.result.Result.{Result}
use Rattle.std.specs.declared.result.Result.TheVariants.{Ok, Err}
use Rattle.std.specs.List.{list_any, slice_split, AllByRecursion}
use Rattle.std.specs.Option.{option_map}
use Rattle.std.specs.Str.{bytes_eq}
use Rattle.text_num.specs.Lines.{HasNoLineFeed, text_of_lines}
use Rattle.text_num.specs.Names.{is_name}
use Rattle.text_num.specs.Numbers.{is_canonical, value_of}
use Rattle.symbol_ranges.specs.declared.symbols.TheConstants.{MOST_LINES, MOST_LINE_BYTES}
use Rattle.symbol_ranges.specs.declared.symbols.Symbol.{Symbol}
use Rattle.symbol_ranges.specs.declared.fields.TheConstants.{GREATEST_END}
use Rattle.symbol_ranges.specs.declared.refusals.SymbolWhy.{SymbolWhy}
use Rattle.symbol_ranges.specs.declared.refusals.SymbolWhy.TheVariants.{Unfinished, BadLine, BadNumber, OutOfRange, Unaligned, BadName, Overlap, TooMany}

-- a symbol is one of this image, and its range has an offset from the first to the last
abbrev pub meets : List ℕ → ℕ → ℕ → Symbol → Bool
meets image first last symbol = bytes_eq symbol.image image && nat_le symbol.start last && nat_lt first symbol.end

-- a symbol is one of this image, and its range covers the offset
abbrev pub covers : List ℕ → ℕ → Symbol → Bool
covers image offset symbol = meets image offset offset symbol

-- the name of the range of an image that covers an offset
abbrev pub named : List Symbol → List ℕ → ℕ → Option (List ℕ)
named lines image offset = option_map (λ symbol. symbol.name) (find (covers image offset) lines)

-- the offsets from the start up to, without, the end have one in common with a line of the image
abbrev pub overlaps : List Symbol → List ℕ → ℕ → ℕ → Bool
overlaps lines image start end = list_any (meets image start (end - 1)) lines

-- no two ranges of one image have an offset in common
abbrev pub AreApart : List Symbol → Type 0
AreApart [] = Unit {0}
AreApart (symbol ∷ more) = (symbol.start < symbol.end) × (overlaps more symbol.image symbol.start symbol.end ≡ false) × AreApart more

-- the fields of a line: it is cut at each space
abbrev pub cut_at_spaces : List ℕ → List (List ℕ)
cut_at_spaces line = slice_split (λ byte. byte == 32) line

-- the four fields of a line, as they stand
pub record Texts : Type 0 where
  pub image : List ℕ
  pub start : List ℕ
  pub size : List ℕ
  pub name : List ℕ

-- the fields, where they are four
abbrev pub four_of : List (List ℕ) → Option Texts
four_of (image ∷ start ∷ size ∷ name ∷ []) = Some (record { image = image; start = start; size = size; name = name })
four_of _ = None

-- both numbers are canonical
abbrev pub are_spelled : Texts → Bool
are_spelled texts = is_canonical 16 texts.start && is_canonical 16 texts.size

-- the start is 2 ^ 64 or more, the length is 0, or the end is above 2 ^ 64 - 4
abbrev pub is_out_of_range : ℕ → ℕ → Bool
is_out_of_range start size = nat_le (2 ^ 64) start || size == 0 || nat_lt GREATEST_END (start + size)

-- the start and the length are multiples of 4
abbrev pub are_aligned : ℕ → ℕ → Bool
are_aligned start end = start % 4 == 0 && (end - start) % 4 == 0

-- the image and the procedure are names
abbrev pub are_titled : Texts → Bool
are_titled texts = is_name texts.image && is_name texts.name

-- the first offset, and the first behind the range
abbrev pub start_of : Texts → ℕ
start_of texts = value_of 16 texts.start

abbrev pub end_of : Texts → ℕ
end_of texts = value_of 16 texts.start + value_of 16 texts.size

-- what four fields say
abbrev pub symbol_of : Texts → Symbol
symbol_of texts = record { image = texts.image; start = start_of texts; end = end_of texts; name = texts.name }

-- what may be wrong with a line whose numbers give a range
abbrev pub range_tests : List Symbol → Texts → List (SymbolWhy × Bool)
range_tests before texts =
    (Unaligned, not (are_aligned (start_of texts) (end_of texts)))
    ∷ (BadName, not (are_titled texts))
    ∷ (Overlap, overlaps before texts.image (start_of texts) (end_of texts))
    ∷ (TooMany, nat_le MOST_LINES (length before))
    ∷ []

-- what may be wrong with a line of four fields after the lines before it, in the order in which it is tested
abbrev pub tests_of : List Symbol → Texts → List (SymbolWhy × Bool)
tests_of before texts =
    (BadNumber, not (are_spelled texts))
    ∷ (OutOfRange, is_out_of_range (start_of texts) (value_of 16 texts.size))
    ∷ range_tests before texts

-- the first of these that applies
abbrev pub first_that_applies : List (SymbolWhy × Bool) → Option SymbolWhy
first_that_applies [] = None
first_that_applies (test ∷ more) = if test.1 then Some test.0 else first_that_applies more

abbrev pub judged : Symbol → Option SymbolWhy → Result Symbol SymbolWhy
judged symbol None = Ok symbol
judged symbol (Some why) = Err why

-- what four fields say, or the first reason why they are refused
abbrev pub verdict_on : List Symbol → Texts → Result Symbol SymbolWhy
verdict_on before texts = judged (symbol_of texts) (first_that_applies (tests_of before texts))

abbrev pub verdict_of : List Symbol → Option Texts → Result Symbol SymbolWhy
verdict_of before None = Err BadLine
verdict_of before (Some texts) = verdict_on before texts

-- what a finished line says after these, or the first reason why it is refused
abbrev pub verdict : List Symbol → List ℕ → Result Symbol SymbolWhy
verdict before line = if nat_le (length line) MOST_LINE_BYTES then verdict_of before (four_of (cut_at_spaces line)) else Err BadLine

abbrev pub where_said : Result Symbol SymbolWhy → (Symbol → Option (List Symbol)) → Option (List Symbol)
where_said (Ok symbol) next = next symbol
where_said (Err why) next = None

-- all that lines say after these, where none is refused
abbrev pub said_by : List Symbol → List (List ℕ) → Option (List Symbol)
said_by before [] = Some before
said_by before (line ∷ lines) = where_said (verdict before line) (λ symbol. said_by (before ++ symbol ∷ []) lines)

-- a line of at most 600 bytes, without its line feed
abbrev pub IsLine : List ℕ → Type 0
IsLine bytes = HasNoLineFeed bytes × (length bytes ≤ MOST_LINE_BYTES)

-- the bytes are finished lines, of which none is refused, and which say this
pub record Reads (bytes : List ℕ) (symbols : List Symbol) : Type 0 where
  pub lines : List (List ℕ)
  pub are_lines : AllByRecursion IsLine lines
  pub text : bytes ≡ text_of_lines lines
  pub says : said_by [] lines ≡ Some symbols

-- how what stands next is refused, after lines that said this
pub data Refuses (before : List Symbol) (rest : List ℕ) (why : SymbolWhy) : Type 0 where
  -- a finished line
  Finished : (line more : List ℕ) → IsLine line → rest ≡ line ++ 10 ∷ more → verdict before line ≡ Err why → Refuses before rest why
  -- the input ends in a line
  Stopped : IsLine rest → rest ≢ [] → why ≡ Unfinished → Refuses before rest why
  -- more than 600 bytes without a line feed
  Overlong : (line more : List ℕ) → HasNoLineFeed line → length line ≡ MOST_LINE_BYTES + 1 → rest ≡ line ++ more → why ≡ BadLine → Refuses before rest why

-- the first bad line, counted from 1, and the first reason that applies to it
pub record FirstBad (bytes : List ℕ) (number : ℕ) (why : SymbolWhy) : Type 0 where
  pub lines : List (List ℕ)
  pub rest : List ℕ
  pub symbols : List Symbol
  pub are_lines : AllByRecursion IsLine lines
  pub text : bytes ≡ text_of_lines lines ++ rest
  pub says : said_by [] lines ≡ Some symbols
  pub number_is : number ≡ length lines + 1
  pub refused : Refuses symbols rest why
