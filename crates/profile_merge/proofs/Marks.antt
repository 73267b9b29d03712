-- The marks of the images that are used.
use Rattle.std.proofs.Common.{arith, ◌≡◌, ℕ, ◌<◌, ◌||◌, Bool, true, false, List, [], ◌∷◌, length, refl, sym, ap, ◌∙◌}
use Rattle.std.specs.Prelude.{slice_index_or}
use Rattle.profile_merge.specs.declared.owners.Owner.{Owner}
use Rattle.profile_merge.specs.Sums.{Collected, Counts}
use Rattle.profile_merge.specs.Numbering.{is_image, is_used}

-- an image has its mark, or one of the profiles that are left is of it
pub record MarkedSoFar (images : ℕ) (collected left : Collected) (used : List Bool) : Type 0 where
  pub len : length used ≡ images
  pub marks : (index : ℕ) → index < images → (slice_index_or used index false || is_used left index) ≡ is_used collected index

or_three : (a b c : Bool) → ((a || b) || c) ≡ (a || (b || c))
or_three true b c = refl
or_three false b c = refl

or_none : (a : Bool) → (a || false) ≡ a
or_none true = refl
or_none false = refl

pub one_marked : (images : ℕ) (collected left : Collected) (e : Owner × Counts) (used after : List Bool) → length after ≡ length used
    → ((index : ℕ) → index < length used → slice_index_or after index false ≡ (slice_index_or used index false || is_image index e.0))
    → MarkedSoFar images collected (e ∷ left) used → MarkedSoFar images collected left after
one_marked images collected left e used after same marks so = record {
  len = same ∙ so.len;
  marks = λ index below.
      ap (λ (b : Bool). b || is_used left index) (marks index (omega (arith, below, so.len)))
      ∙ or_three (slice_index_or used index false) (is_image index e.0) (is_used left index)
      ∙ so.marks index below;
}

pub none_marked : (images : ℕ) (collected : Collected) (used : List Bool) → length used ≡ images → ((index : ℕ) → slice_index_or used index false ≡ false) → MarkedSoFar images collected collected used
none_marked images collected used len none = record {
  len = len;
  marks = λ index below. ap (λ (b : Bool). b || is_used collected index) (none index);
}

pub all_marked : (images : ℕ) (collected : Collected) (used : List Bool) → MarkedSoFar images collected [] used → (index : ℕ) → index < images → slice_index_or used index false ≡ is_used collected index
all_marked images collected used so index below = sym (or_none (slice_index_or used index false)) ∙ so.marks index below
