-- The index of a symbol list: its places, in the order of their images by bytes and of their ranges.
use Rattle.std.specs.Prelude.{◌≡◌, ℕ, ◌<◌, ◌≤◌, nat_le, Bool, true, false, List, [], ◌∷◌, length, map, find, slice_index_or}
use Rattle.std.specs.declared.cmp.Ordering.{Ordering}
use Rattle.std.specs.declared.cmp.Ordering.TheVariants.{Less, Equal, Greater}
use Rattle.std.specs.List.{AllByRecursion, list_any}
use Rattle.std.specs.Ordering.{nat_cmp}
use Rattle.std.specs.Cmp.Lexicographic.{slice_cmp}
use Rattle.symbol_ranges.specs.declared.symbols.TheConstants.{MOST_LINES}
use Rattle.symbol_ranges.specs.declared.symbols.Symbol.{Symbol}
use Rattle.symbol_ranges.specs.Lines.{AreApart, covers, meets}

abbrev pub before_by : Ordering → Bool → Bool
before_by Less ended = true
before_by Equal ended = ended
before_by Greater ended = false

-- a symbol stands before an offset of an image: its image does, or its range ends there
abbrev pub is_before : List ℕ → ℕ → Symbol → Bool
is_before image offset symbol = before_by (slice_cmp nat_cmp symbol.image image) (nat_le symbol.end offset)

-- no symbol
abbrev pub blank : Symbol
blank = record { image = []; start = 0; end = 0; name = [] }

-- the symbol at a place
abbrev pub symbol_at : List Symbol → ℕ → Symbol
symbol_at lines number = slice_index_or lines number blank

-- the symbols at these places
abbrev pub shown : List Symbol → List ℕ → List Symbol
shown lines order = map (symbol_at lines) order

-- each place is one of a line
abbrev pub AreWithin : List Symbol → List ℕ → Type 0
AreWithin lines order = AllByRecursion (λ number. number < length lines) order

-- symbols in the order of their images and ranges, the ranges of an image apart
abbrev pub Rises : List Symbol → Type 0
Rises [] = Unit {0}
Rises (symbol ∷ more) = (symbol.start < symbol.end) × AllByRecursion (λ other. is_before other.image other.start symbol ≡ true) more × Rises more

-- the index finds what the lines have
pub record IsIndexed (lines : List Symbol) (order : List ℕ) : Type 0 where
  pub few : length lines ≤ MOST_LINES
  pub apart : AreApart lines
  pub within : AreWithin lines order
  pub rising : Rises (shown lines order)
  pub finds : (image : List ℕ) (offset : ℕ) → find (covers image offset) (shown lines order) ≡ find (covers image offset) lines
  pub meets_some : (image : List ℕ) (first last : ℕ) → list_any (meets image first last) (shown lines order) ≡ list_any (meets image first last) lines
