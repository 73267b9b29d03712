-- Ranks of names: how images stand by name.
use Rattle.std.specs.Prelude.{◌≡◌, ℕ, ◌<◌, List, length, slice_index}
use Rattle.std.specs.declared.cmp.Ordering.TheVariants.{Less}
use Rattle.std.specs.Ordering.{nat_cmp}
use Rattle.std.specs.Cmp.Lexicographic.{slice_cmp}
use Rattle.std.specs.List.Sorted.{IsSorted}
use Rattle.trace_model.specs.Recording.{name_at}

-- names in an order in which none is smaller than the one before it
abbrev pub AreSorted : List (List ℕ) → Type 0
AreSorted names = IsSorted (slice_cmp nat_cmp) names

-- each name before this place is smaller than the name here
pub record IsRank (names : List (List ℕ)) (rank : ℕ) : Type 0 where
  pub within : rank < length names
  pub smaller : (before : ℕ) → before < rank → slice_cmp nat_cmp (name_at names before) (name_at names rank) ≡ Less

-- the rank of each image, by its index: there its name stands
pub record AreRanks (images names : List (List ℕ)) (ranks : List ℕ) : Type 0 where
  pub many : length ranks ≡ length images
  pub rank : (index : ℕ) → index < length images → IsRank names (slice_index ranks index)
  pub named : (index : ℕ) → index < length images → name_at names (slice_index ranks index) ≡ name_at images index
