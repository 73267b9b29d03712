-- The images of a trace: each that is named stands there once.
use Rattle.std.proofs.Common.{◌≡◌, ◌≢◌, ℕ, zero, suc, ◌<◌, Bool, true, false, if◌then◌else◌, List, [], ◌∷◌, ◌++◌, length, refl, sym, ◌∙◌, arith, ⊎_elim}
use Rattle.std.specs.List.{AllByRecursion, list_any, fold, flat_map}
use Rattle.std.specs.Str.{bytes_eq}
use Rattle.std.proofs.lemmas.Bool.{or_parts, or_cases, false≢true, true≢false}
use Rattle.std.proofs.lemmas.List.{length-append}
use Rattle.std.proofs.lemmas.Slice.Eq.{bytes_eq-Decides}
use Rattle.trace_model.specs.Said.{Said, images_named}
use Rattle.trace_model.specs.Recording.{name_at, with_name, images_in_order}

pub same_bytes : (xs ys : List ℕ) → bytes_eq xs ys ≡ true → xs ≡ ys
same_bytes xs ys h = (bytes_eq-Decides xs ys).0 h

pub bytes_same : (xs ys : List ℕ) → xs ≡ ys → bytes_eq xs ys ≡ true
bytes_same xs ys h = (bytes_eq-Decides xs ys).1 h

-- names of which none stands twice
abbrev pub AreDistinct : List (List ℕ) → Type 0
AreDistinct [] = Unit {0}
AreDistinct (name ∷ names) = AllByRecursion (λ other. name ≢ other) names × AreDistinct names

-- a name stands in the list
pub record IsNamed (names : List (List ℕ)) (name : List ℕ) : Type 0 where
  pub at : ℕ
  pub within : at < length names
  pub is : name_at names at ≡ name

-- a name that none of these equals
differs : (name : List ℕ) (names : List (List ℕ)) → list_any (bytes_eq name) names ≡ false → AllByRecursion (λ other. other ≢ name) names
differs name [] h = tt
differs name (other ∷ names) h = let p = or_parts _ _ h in ((λ e. true≢false (sym (bytes_same name other (sym e)) ∙ p.0)), differs name names p.1)

differs_more : (first name : List ℕ) (names : List (List ℕ)) → AllByRecursion (λ other. first ≢ other) names → first ≢ name → AllByRecursion (λ other. first ≢ other) (names ++ name ∷ [])
differs_more first name [] h e = (e, tt)
differs_more first name (other ∷ names) h e = (h.0, differs_more first name names h.1 e)

distinct_more : (name : List ℕ) (names : List (List ℕ)) → AreDistinct names → AllByRecursion (λ other. other ≢ name) names → AreDistinct (names ++ name ∷ [])
distinct_more name [] h k = (tt, tt)
distinct_more name (first ∷ names) h k = (differs_more first name names h.0 k.0, distinct_more name names h.1 k.1)

distinct_by : (b : Bool) (name : List ℕ) (names : List (List ℕ)) → list_any (bytes_eq name) names ≡ b → AreDistinct names → AreDistinct (if b then names else names ++ name ∷ [])
distinct_by true name names e h = h
distinct_by false name names e h = distinct_more name names h (differs name names e)

distinct_fold : (names more : List (List ℕ)) → AreDistinct names → AreDistinct (fold with_name names more)
distinct_fold names [] h = h
distinct_fold names (name ∷ more) h = distinct_fold (with_name names name) more (distinct_by (list_any (bytes_eq name) names) name names refl h)

-- the images of a trace are distinct
pub images_distinct : (said : List (Said ℕ)) → AreDistinct (images_in_order said)
images_distinct said = distinct_fold [] (flat_map images_named said) tt

-- names that stand in the list, and one more
name_before : (names : List (List ℕ)) (name : List ℕ) (i : ℕ) → i < length names → name_at (names ++ name ∷ []) i ≡ name_at names i
name_before [] name i h = absurd (omega (arith, h))
name_before (first ∷ names) name zero h = refl
name_before (first ∷ names) name (suc i) h = name_before names name i (omega (arith, h))

name_last : (names : List (List ℕ)) (name : List ℕ) → name_at (names ++ name ∷ []) (length names) ≡ name
name_last [] name = refl
name_last (first ∷ names) name = name_last names name

named_before : (names : List (List ℕ)) (name other : List ℕ) → IsNamed names other → IsNamed (names ++ name ∷ []) other
named_before names name other h = record { at = h.at; within = omega (arith, h.within, length-append names (name ∷ [])); is = name_before names name h.at h.within ∙ h.is }

named_known : (names : List (List ℕ)) (name : List ℕ) → list_any (bytes_eq name) names ≡ true → IsNamed names name
named_known [] name h = absurd (false≢true h)
named_known (first ∷ names) name h = ⊎_elim
    (λ e. record { at = 0; within = omega arith; is = sym (same_bytes name first e) })
    (λ later. let n = named_known names name later in record { at = suc n.at; within = omega (arith, n.within); is = n.is })
    (or_cases (bytes_eq name first) (list_any (bytes_eq name) names) h)

named_by : (b : Bool) (name : List ℕ) (names : List (List ℕ)) → list_any (bytes_eq name) names ≡ b → IsNamed (if b then names else names ++ name ∷ []) name
named_by true name names e = named_known names name e
named_by false name names e = record { at = length names; within = omega (arith, length-append names (name ∷ [])); is = name_last names name }

kept_by : (b : Bool) (name other : List ℕ) (names : List (List ℕ)) → IsNamed names other → IsNamed (if b then names else names ++ name ∷ []) other
kept_by true name other names h = h
kept_by false name other names h = named_before names name other h

kept_fold : (names more : List (List ℕ)) (other : List ℕ) → IsNamed names other → IsNamed (fold with_name names more) other
kept_fold names [] other h = h
kept_fold names (name ∷ more) other h = kept_fold (with_name names name) more other (kept_by (list_any (bytes_eq name) names) name other names h)

named_fold : (names more : List (List ℕ)) → AllByRecursion (IsNamed (fold with_name names more)) more
named_fold names [] = tt
named_fold names (name ∷ more) = (kept_fold (with_name names name) more name (named_by (list_any (bytes_eq name) names) name names refl), named_fold (with_name names name) more)

pub all_front : {A : Type 0} (P : A → Type 0) (xs ys : List A) → AllByRecursion P (xs ++ ys) → AllByRecursion P xs × AllByRecursion P ys
all_front P [] ys h = (tt, h)
all_front P (x ∷ xs) ys h = let p = all_front P xs ys h.1 in ((h.0, p.0), p.1)

-- each image that a line names stands in the list
abbrev pub HasImages : List (List ℕ) → Said ℕ → Type 0
HasImages images said = AllByRecursion (IsNamed images) (images_named said)

has_images : (images : List (List ℕ)) (said : List (Said ℕ)) → AllByRecursion (IsNamed images) (flat_map images_named said) → AllByRecursion (HasImages images) said
has_images images [] h = tt
has_images images (s ∷ said) h = let p = all_front (IsNamed images) (images_named s) (flat_map images_named said) h in (p.0, has_images images said p.1)

pub images_named_all : (said : List (Said ℕ)) → AllByRecursion (HasImages (images_in_order said)) said
images_named_all said = has_images (images_in_order said) said (named_fold [] (flat_map images_named said))

-- the place of a name
abbrev pub place_of : List (List ℕ) → List ℕ → ℕ
place_of [] name = 0
place_of (first ∷ names) name = if bytes_eq name first then 0 else suc (place_of names name)

differs_at : (first : List ℕ) (names : List (List ℕ)) (i : ℕ) → AllByRecursion (λ other. first ≢ other) names → i < length names → name_at names i ≢ first
differs_at first [] i h k = absurd (omega (arith, k))
differs_at first (other ∷ names) zero h k = λ e. h.0 (sym e)
differs_at first (other ∷ names) (suc i) h k = differs_at first names i h.1 (omega (arith, k))

not_same : (xs ys : List ℕ) (b : Bool) → bytes_eq xs ys ≡ b → xs ≢ ys → b ≡ false
not_same xs ys true e h = absurd (h (same_bytes xs ys e))
not_same xs ys false e h = refl

pub place_at : (names : List (List ℕ)) (i : ℕ) → AreDistinct names → i < length names → place_of names (name_at names i) ≡ i
place_at [] i h k = absurd (omega (arith, k))
place_at (first ∷ names) zero h k = rw (bytes_same first first refl) refl
place_at (first ∷ names) (suc i) h k = rw (not_same (name_at names i) first _ refl (differs_at first names i h.0 (omega (arith, k))), place_at names i h.1 (omega (arith, k))) refl
