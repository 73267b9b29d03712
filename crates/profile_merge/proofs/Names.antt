-- Where names stand among names that are apart.
use Rattle.std.proofs.Common.{arith, ◌≡◌, ℕ, zero, suc, ◌+◌, ◌<◌, inl, inr, Bool, true, false, cond, List, [], ◌∷◌, Option, None, Some, length, refl, sym, ap, ◌∙◌, subst}
use Rattle.std.specs.Prelude.{nat_lt, not, ◌==◌}
use Rattle.std.specs.List.{position_or_len, IsDistinct, AllByRecursion}
use Rattle.std.specs.Str.{bytes_eq}
use Rattle.std.proofs.lemmas.Bool.{cases_lt, eqb-true, eq-eqb}
use Rattle.std.proofs.lemmas.Grind.{common_steps}
use Rattle.std.proofs.lemmas.Slice.Eq.{bytes_eq-Decides}
use Rattle.image_catalog.specs.Images.{place_of}
use Rattle.trace_model.specs.Recording.{name_at}

-- the next place
abbrev pub next : Option ℕ → Option ℕ
next None = None
next (Some i) = Some (suc i)

first_within : (l : ℕ) → cond {A = Option ℕ} (nat_lt 0 (suc l)) (Some 0) None ≡ Some 0
first_within l = grind (arith, common_steps)

later_within : (m l : ℕ) → cond {A = Option ℕ} (nat_lt (1 + m) (suc l)) (Some (1 + m)) None ≡ next (cond (nat_lt m l) (Some m) None)
later_within m l = elim (cases_lt m l) [
  | inl below ↦
      let a : nat_lt (1 + m) (suc l) ≡ true = grind (arith, common_steps) in
      let b : nat_lt m l ≡ true = grind (arith, common_steps) in
      let c : 1 + m ≡ suc m = omega arith in
      rw (a, b) (ap (λ (x : ℕ). Some x) c)
  | inr above ↦
      let a : nat_lt (1 + m) (suc l) ≡ false = grind (arith, common_steps) in
      let b : nat_lt m l ≡ false = grind (arith, common_steps) in
      rw (a, b) refl
]

pub place_first : (name n : List ℕ) (names : List (List ℕ)) → bytes_eq n name ≡ true → place_of name (n ∷ names) ≡ Some 0
place_first name n names here =
    ap (λ (b : Bool). cond {A = Option ℕ} (nat_lt (cond (not b) (1 + position_or_len (λ held. bytes_eq held name) names) 0) (suc (length names))) (Some (cond (not b) (1 + position_or_len (λ held. bytes_eq held name) names) 0)) None) here
    ∙ first_within (length names)

pub place_later : (name n : List ℕ) (names : List (List ℕ)) → bytes_eq n name ≡ false → place_of name (n ∷ names) ≡ next (place_of name names)
place_later name n names other =
    ap (λ (b : Bool). cond {A = Option ℕ} (nat_lt (cond (not b) (1 + position_or_len (λ held. bytes_eq held name) names) 0) (suc (length names))) (Some (cond (not b) (1 + position_or_len (λ held. bytes_eq held name) names) 0)) None) other
    ∙ later_within (position_or_len (λ held. bytes_eq held name) names) (length names)

pub own_bytes : (name : List ℕ) → bytes_eq name name ≡ true
own_bytes name = (bytes_eq-Decides name name).1 refl

pub one_name : (a b : List ℕ) → bytes_eq a b ≡ true → a ≡ b
one_name a b same = (bytes_eq-Decides a b).0 same

each_name : (P : List ℕ → Type 0) (names : List (List ℕ)) (k : ℕ) → AllByRecursion P names → k < length names → P (name_at names k)
each_name P [] k all below = absurd (omega arith)
each_name P (n ∷ names) zero all below = all.0
each_name P (n ∷ names) (suc k) all below = each_name P names k all.1 (omega arith)

-- a name that is apart from the others stands at its own place
pub own_place : (names : List (List ℕ)) (k : ℕ) → IsDistinct bytes_eq names → k < length names → place_of (name_at names k) names ≡ Some k
unfolding IsDistinct
own_place [] k apart below = absurd (omega arith)
own_place (n ∷ names) zero apart below = place_first n n names (own_bytes n)
own_place (n ∷ names) (suc k) apart below =
    place_later (name_at names k) n names (each_name (λ y. bytes_eq n y ≡ false) names k apart.0 (omega arith))
    ∙ ap next (own_place names k apart.1 (omega arith))

-- what stands at the place of a name
abbrev pub StandsAt : List ℕ → List (List ℕ) → ℕ → Type 0
StandsAt name names k = (k < length names) × (name_at names k ≡ name)

there_later : (name n : List ℕ) (names : List (List ℕ)) (k : ℕ) (o : Option ℕ) → ((i : ℕ) → o ≡ Some i → StandsAt name names i) → next o ≡ Some k → StandsAt name (n ∷ names) k
there_later name n names k None more at = absurd cc
there_later name n names k (Some i) more at =
    let here = more i refl in
    let same : suc i ≡ k = cc in
    subst (StandsAt name (n ∷ names)) same (omega (arith, here.0), here.1)

there_by : (name n : List ℕ) (names : List (List ℕ)) (k : ℕ) (b : Bool) → bytes_eq n name ≡ b → ((i : ℕ) → place_of name names ≡ Some i → StandsAt name names i) → place_of name (n ∷ names) ≡ Some k → StandsAt name (n ∷ names) k
there_by name n names k true here more place =
    let zeroth : Some 0 ≡ Some k = sym (place_first name n names here) ∙ place in
    let same : 0 ≡ k = cc in
    subst (StandsAt name (n ∷ names)) same (omega arith, one_name n name here)
there_by name n names k false other more place = there_later name n names k (place_of name names) more (sym (place_later name n names other) ∙ place)

pub name_there : (name : List ℕ) (names : List (List ℕ)) (k : ℕ) → place_of name names ≡ Some k → StandsAt name names k
name_there name [] k place = absurd cc
name_there name (n ∷ names) k place = there_by name n names k (bytes_eq n name) refl (λ i at. name_there name names i at) place

-- whether a place is this one
abbrev pub is_place : Option ℕ → ℕ → Bool
is_place None k = false
is_place (Some i) k = k == i

-- a name is that of an image exactly where it stands at its place
pub name_test : (name : List ℕ) (names : List (List ℕ)) (k : ℕ) → IsDistinct bytes_eq names → k < length names → (o : Option ℕ) → place_of name names ≡ o → bytes_eq name (name_at names k) ≡ is_place o k
name_test name names k apart below o place = by (bytes_eq name (name_at names k)) refl o place
  where
    by : (b : Bool) → bytes_eq name (name_at names k) ≡ b → (o : Option ℕ) → place_of name names ≡ o → b ≡ is_place o k
    by true same o place =
        let there : place_of name names ≡ Some k = ap (λ (n : List ℕ). place_of n names) (one_name name (name_at names k) same) ∙ own_place names k apart below in
        let is : o ≡ Some k = sym place ∙ there in
        subst (λ (x : Option ℕ). true ≡ is_place x k) (sym is) (sym (eq-eqb k k refl))
    by false other None place = refl
    by false other (Some i) place = at (k == i) refl
      where
        at : (b : Bool) → (k == i) ≡ b → false ≡ b
        at false is = refl
        at true is =
            let same : k ≡ i = eqb-true k i is in
            let named : name_at names k ≡ name = ap (name_at names) same ∙ (name_there name names i place).1 in
            let tests : bytes_eq name (name_at names k) ≡ true = ap (bytes_eq name) named ∙ own_bytes name in
            sym other ∙ tests
