-- What was called and read of a plain side, as numbers that take no bytes.
use Rattle.std.specs.Prelude.{ℕ, List, [], ◌∷◌, slice_index, drop}

-- what was called and read so far
pub record Tallies : Type 0 where
  pub steps : ℕ
  -- tries and words of the three cells
  pub tries0 : ℕ
  pub tries1 : ℕ
  pub tries2 : ℕ
  pub read0 : ℕ
  pub read1 : ℕ
  pub read2 : ℕ
  pub hears : ℕ
  pub heard : ℕ
  -- the turn of the table handed last, and of the one taken last
  pub turn : ℕ
  pub far_turn : ℕ
  pub rung_at : ℕ
  pub rungs : List ℕ

-- the numbers of a list
abbrev pub decode : List ℕ → Tallies
decode numbers = record {
  steps = slice_index numbers 0;
  tries0 = slice_index numbers 1;
  tries1 = slice_index numbers 2;
  tries2 = slice_index numbers 3;
  read0 = slice_index numbers 4;
  read1 = slice_index numbers 5;
  read2 = slice_index numbers 6;
  hears = slice_index numbers 7;
  heard = slice_index numbers 8;
  turn = slice_index numbers 9;
  far_turn = slice_index numbers 10;
  rung_at = slice_index numbers 11;
  rungs = drop 12 numbers;
}

-- as a list of numbers
abbrev pub encode : Tallies → List ℕ
encode tallies =
    tallies.steps
    ∷ tallies.tries0 ∷ tallies.tries1 ∷ tallies.tries2
    ∷ tallies.read0 ∷ tallies.read1 ∷ tallies.read2
    ∷ tallies.hears ∷ tallies.heard
    ∷ tallies.turn ∷ tallies.far_turn
    ∷ tallies.rung_at ∷ tallies.rungs

-- nothing was called yet
abbrev pub no_tallies : Tallies
no_tallies = decode []
