-- The names of a database's files are apart.
use Rattle.std.proofs.Common.{arith, ◌≡◌, ◌≢◌, ℕ, ◌+◌, ◌%◌, ◌^◌, ◌<◌, List, [], ◌∷◌, ◌++◌, refl, sym, ap}
use Rattle.std.specs.List.{AllByRecursion}
use Rattle.std.specs.Fmt.{decimal}
use Rattle.std.proofs.lemmas.Fmt.{decimal_injective, decimal_by_steps}
use Rattle.store_io.specs.declared.file_refs.FileRef.{FileRef}
use Rattle.store_io.specs.declared.file_refs.FileRef.TheVariants.{Head, Known, Unknown, Segment}
use Rattle.store_io.specs.FileNames.{file_name}
use Rattle.database_state.specs.Standing.{seal_file}
use Rattle.database_state.specs.Generations.{FileFits}

pub differ : (a b : ℕ) → a ≢ b → (x y : List ℕ) → a ∷ x ≡ b ∷ y → ⊥
differ a b apart x y e = apart (cc)

no_dots : List ℕ → Type 0
no_dots text = AllByRecursion (λ c. c ≢ 46) text

no_dots_more : (text : List ℕ) (c : ℕ) → no_dots text → c ≢ 46 → no_dots (text ++ c ∷ [])
unfolding no_dots
no_dots_more [] c none is = (is, tt)
no_dots_more (x ∷ text) c none is = (none.0, no_dots_more text c none.1 is)

decimal_no_dots : (n : ℕ) → n < 2 ^ 64 → no_dots (decimal n)
unfolding no_dots
decimal_no_dots n below = decimal_by_steps (λ _ ds. no_dots ds)
    (λ m small. ((λ e. absurd (omega arith)), tt))
    (λ m ds large front. no_dots_more ds (48 + m % 10) front (λ e. absurd (omega arith)))
    n below

-- a piece before the first dot
at_dot : (a b x y : List ℕ) → no_dots a → no_dots b → a ++ 46 ∷ x ≡ b ++ 46 ∷ y → (a ≡ b) × (x ≡ y)
unfolding no_dots
at_dot [] [] x y na nb e = (refl, cc)
at_dot [] (b ∷ bs) x y na nb e = let same : 46 ≡ b = cc in absurd (nb.0 (sym same))
at_dot (a ∷ as') [] x y na nb e = let same : a ≡ 46 = cc in absurd (na.0 same)
at_dot (a ∷ as') (b ∷ bs) x y na nb e =
    let first : a ≡ b = cc in
    let others : as' ++ 46 ∷ x ≡ bs ++ 46 ∷ y = cc in
    let parts = at_dot as' bs x y na.1 nb.1 others in
    let front : as' ≡ bs = parts.0 in
    (cc, parts.1)

number_then : (m n : ℕ) (x y : List ℕ) → m < 2 ^ 64 → n < 2 ^ 64 → decimal m ++ 46 ∷ x ≡ decimal n ++ 46 ∷ y → (m ≡ n) × (x ≡ y)
number_then m n x y m_fits n_fits e =
    let parts = at_dot (decimal m) (decimal n) x y (decimal_no_dots m m_fits) (decimal_no_dots n n_fits) e in
    (decimal_injective m n m_fits n_fits parts.0, parts.1)

tail_of : (a : ℕ) (x y : List ℕ) → a ∷ x ≡ a ∷ y → x ≡ y
tail_of a x y e = cc

-- a name names one file
pub one_file : (a b : FileRef) → FileFits a → FileFits b → file_name a ≡ file_name b → a ≡ b
one_file (Head g) (Head k) fa fb e = ap Head (decimal_injective g k fa fb cc)
one_file (Head g) (Known f j v k) fa fb e = absurd (differ 104 112 (omega arith) _ _ e)
one_file (Head g) (Unknown f v k) fa fb e = absurd (differ 104 117 (omega arith) _ _ e)
one_file (Head g) (Segment k) fa fb e = absurd (differ 104 114 (omega arith) _ _ e)
one_file (Known d i u g) (Head k) fa fb e = absurd (differ 112 104 (omega arith) _ _ e)
one_file (Known d i u g) (Known f j v k) fa fb e =
    let a = number_then d f _ _ fa.0 fb.0 (tail_of 46 _ _ (tail_of 112 _ _ e)) in
    let b = number_then i j _ _ fa.1 fb.1 a.1 in
    let c = number_then u v _ _ fa.2 fb.2 b.1 in
    let g_is = decimal_injective g k fa.3 fb.3 c.1 in
    let d_is = a.0 in let i_is = b.0 in let u_is = c.0 in cc
one_file (Known d i u g) (Unknown f v k) fa fb e = absurd (differ 112 117 (omega arith) _ _ e)
one_file (Known d i u g) (Segment k) fa fb e = absurd (differ 112 114 (omega arith) _ _ e)
one_file (Unknown d u g) (Head k) fa fb e = absurd (differ 117 104 (omega arith) _ _ e)
one_file (Unknown d u g) (Known f j v k) fa fb e = absurd (differ 117 112 (omega arith) _ _ e)
one_file (Unknown d u g) (Unknown f v k) fa fb e =
    let a = number_then d f _ _ fa.0 fb.0 (tail_of 46 _ _ (tail_of 117 _ _ e)) in
    let c = number_then u v _ _ fa.1 fb.1 a.1 in
    let g_is = decimal_injective g k fa.2 fb.2 c.1 in
    let d_is = a.0 in let u_is = c.0 in cc
one_file (Unknown d u g) (Segment k) fa fb e = absurd (differ 117 114 (omega arith) _ _ e)
one_file (Segment g) (Head k) fa fb e = absurd (differ 114 104 (omega arith) _ _ e)
one_file (Segment g) (Known f j v k) fa fb e = absurd (differ 114 112 (omega arith) _ _ e)
one_file (Segment g) (Unknown f v k) fa fb e = absurd (differ 114 117 (omega arith) _ _ e)
one_file (Segment g) (Segment k) fa fb e = ap Segment (decimal_injective g k fa fb (tail_of 46 _ _ (tail_of 114 _ _ e)))

-- a seal is no such file
pub no_seal : (k : ℕ) (file : FileRef) → seal_file k ≡ file_name file → ⊥
no_seal k (Head g) e = differ 115 104 (omega arith) _ _ e
no_seal k (Known f j v g) e = differ 115 112 (omega arith) _ _ e
no_seal k (Unknown f v g) e = differ 115 117 (omega arith) _ _ e
no_seal k (Segment g) e = differ 115 114 (omega arith) _ _ e

-- a name names one seal
pub one_seal : (j k : ℕ) → j < 2 ^ 64 → k < 2 ^ 64 → seal_file j ≡ seal_file k → j ≡ k
one_seal j k fj fk e = decimal_injective j k fj fk cc
