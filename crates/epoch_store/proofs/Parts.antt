-- The parts of a database, by their generations.
use Rattle.std.proofs.Common.{arith, ◌≡◌, ℕ, zero, suc, ◌-◌, ◌<◌, ◌≤◌, ◌⊎◌, inl, inr, List, [], ◌∷◌, ◌++◌, Some, length, refl, sym, ap, ◌∙◌, length-append}
use Rattle.std.specs.Prelude.{slice_get}
use Rattle.store_io.specs.Files.{Files}
use Rattle.database_model.specs.SegmentForm.{segment}
use Rattle.database_state.specs.Standing.{segments_to, segment_file, value_in}

get_front : {A : Type 0} (xs ys : List A) (k : ℕ) → k < length xs → slice_get (xs ++ ys) k ≡ slice_get xs k
get_front [] ys k within = absurd (omega arith)
get_front (x ∷ xs) ys zero within = refl
get_front (x ∷ xs) ys (suc k) within = get_front xs ys k (omega arith)

get_last : {A : Type 0} (xs : List A) (x : A) → slice_get (xs ++ x ∷ []) (length xs) ≡ Some x
get_last [] x = refl
get_last (y ∷ xs) x = get_last xs x

how_many : (n : ℕ) (files : Files) → length (segments_to n files) ≡ n
how_many zero files = refl
how_many (suc n) files = omega (arith, length-append (segments_to n files) (value_in segment (files (segment_file (suc n))) ∷ []), how_many n files)

or_last : (g n : ℕ) → g ≤ suc n → (g ≤ n) ⊎ (g ≡ suc n)
or_last g n le = grind arith

at_last : (n g : ℕ) (files : Files) → g ≡ suc n → slice_get (segments_to (suc n) files) (g - 1) ≡ Some (value_in segment (files (segment_file g)))
at_last n g files is =
    let at : g - 1 ≡ length (segments_to n files) = omega (arith, is, how_many n files) in
    ap (slice_get (segments_to (suc n) files)) at ∙ get_last (segments_to n files) (value_in segment (files (segment_file (suc n)))) ∙ ap (λ k. Some (value_in segment (files (segment_file k)))) (sym is)

-- the part of generation g is the g-th
pub part_at : (n g : ℕ) (files : Files) → 1 ≤ g → g ≤ n → slice_get (segments_to n files) (g - 1) ≡ Some (value_in segment (files (segment_file g)))
part_at zero g files some most = absurd (omega arith)
part_at (suc n) g files some most = elim (or_last g n most) [
  | inl before ↦ get_front (segments_to n files) (value_in segment (files (segment_file (suc n))) ∷ []) (g - 1) (omega (arith, some, before, how_many n files)) ∙ part_at n g files some before
  | inr last ↦ at_last n g files last
]
