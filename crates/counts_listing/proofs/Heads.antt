-- What is known of the rows and the images of a head.
use Rattle.std.proofs.Common.{arith, ◌≡◌, ℕ, zero, suc, ◌<◌, ◌≤◌, ◌&&◌, Bool, true, false, eqb, List, [], ◌∷◌, None, Some, length, get_or, refl, sym, ap, ◌∙◌, subst, ⊎_elim}
use Rattle.std.specs.Prelude.{nat_le, nat_lt}
use Rattle.std.specs.List.{AllByRecursion, IsDistinct, list_all}
use Rattle.std.specs.Str.{bytes_eq}
use Rattle.std.proofs.lemmas.Bool.{cases_eq, cases_lt, and_parts}
use Rattle.std.proofs.lemmas.Cmp.{nat_list_eq_equiv}
use Rattle.std.proofs.lemmas.List.Elements.{All-from_recursion}
use Rattle.std.proofs.lemmas.List.Quantifiers.{position-Some}
use Rattle.std.proofs.lemmas.Map.Keys.{apart_from_distinct}
use Rattle.std.proofs.lemmas.Slice.Eq.{bytes_eq-Decides}
use Rattle.store_io.specs.Files.{Files}
use Rattle.image_catalog.specs.Images.{place_of, text_at}
use Rattle.image_catalog.proofs.Places.{absent}
use Rattle.sample_key.specs.Events.{code_of}
use Rattle.database_state.specs.declared.rows.KnownRow.{KnownRow}
use Rattle.database_state.specs.declared.rows.UnknownRow.{UnknownRow}
use Rattle.database_state.specs.Rows.{known_before, unknown_before, is_rising, is_known_row, is_unknown_row}
use Rattle.database_state.specs.Heads.{Head, is_in_range, row_count, empty_head}
use Rattle.database_state.specs.Standing.{HaveHead}
use Rattle.dcpiprof_report.proofs.Sites.{last_four, none_at}
use Rattle.counts_listing.specs.Sections.{event_at}

-- ---- ranges

-- a known row is of an image that there is, and of an event
abbrev pub IsKnownWithin : ℕ → KnownRow → Type 0
IsKnownWithin images row = (row.image < images) × (row.event ≤ 3)

five_parts : (a b c d e : Bool) → (a && b && c && d && e) ≡ true → (b ≡ true) × (c ≡ true)
five_parts true true true d e h = (refl, refl)
five_parts true true false d e h = cc
five_parts true false c d e h = cc
five_parts false b c d e h = cc

pub known_within : (epoch images generation : ℕ) (rows : List KnownRow) → list_all (is_known_row epoch images generation) rows ≡ true → AllByRecursion (IsKnownWithin images) rows
known_within epoch images generation [] all = tt
known_within epoch images generation (row ∷ rows) all =
    let parts = and_parts (is_known_row epoch images generation row) (list_all (is_known_row epoch images generation) rows) all in
    let first = five_parts (nat_le row.epoch epoch) (nat_lt row.image images) (nat_le row.event 3) _ _ parts.0 in
    ((grind (arith, first.0), grind (arith, first.1)), known_within epoch images generation rows parts.1)

four_parts : (a b c d : Bool) → (a && b && c && d) ≡ true → b ≡ true
four_parts true true c d h = refl
four_parts true false c d h = cc
four_parts false b c d h = cc

pub unknown_within : (epoch generation : ℕ) (rows : List UnknownRow) → list_all (is_unknown_row epoch generation) rows ≡ true → AllByRecursion (λ (row : UnknownRow). row.event ≤ 3) rows
unknown_within epoch generation [] all = tt
unknown_within epoch generation (row ∷ rows) all =
    let parts = and_parts (is_unknown_row epoch generation row) (list_all (is_unknown_row epoch generation) rows) all in
    let first = four_parts (nat_le row.epoch epoch) (nat_le row.event 3) _ _ parts.0 in
    (grind (arith, first), unknown_within epoch generation rows parts.1)

-- one row of them
pub at_row : {R : Type 0} (P : R → Type 0) (rows : List R) (i : ℕ) (row : R) → AllByRecursion P rows → i < length rows → row ≡ get_or rows i row → P row
at_row P rows i row all within here = subst P (sym here) (All-from_recursion P rows all i row within)

-- the event of a code
pub coded : (code : ℕ) → code ≤ 3 → code_of (event_at code) ≡ code
coded zero small = refl
coded (suc zero) small = refl
coded (suc (suc zero)) small = refl
coded (suc (suc (suc zero))) small = refl
coded (suc (suc (suc (suc code)))) small = absurd (omega arith)

-- ---- a head

pub record Sound (head : Head) : Type 0 where
  pub known_rising : is_rising known_before head.known ≡ true
  pub unknown_rising : is_rising unknown_before head.unknown ≡ true
  pub known : AllByRecursion (IsKnownWithin (length head.names)) head.known
  pub unknown : AllByRecursion (λ (row : UnknownRow). row.event ≤ 3) head.unknown
  pub images : IsDistinct bytes_eq head.names

no_images : IsDistinct bytes_eq empty_head.names
unfolding IsDistinct
no_images = tt

above : (n : ℕ) → (n ≡ 0 → ⊥) → 0 < n
above zero some = absurd (some refl)
above (suc n) some = omega arith

images_apart : (files : Files) (head : Head) → HaveHead files head → IsDistinct bytes_eq head.names
images_apart files head have = ⊎_elim
    (λ none. subst (λ (h : Head). IsDistinct bytes_eq h.names) (sym (have.fresh none)) no_images)
    (λ some. (have.sealed (above head.generation some)).1.images.apart)
    (cases_eq head.generation 0)

pub sound : (files : Files) (head : Head) → HaveHead files head → is_in_range head ≡ true → Sound head
sound files head have range =
    let parts = last_four (nat_le head.epoch head.generation) (nat_le head.runs head.generation) (nat_le (row_count head) 65536) (list_all (is_known_row head.epoch (length head.names) head.generation) head.known) (is_rising known_before head.known) (list_all (is_unknown_row head.epoch head.generation) head.unknown) (is_rising unknown_before head.unknown) range in
    record {
      known_rising = parts.1;
      unknown_rising = parts.3;
      known = known_within head.epoch (length head.names) head.generation head.known parts.0;
      unknown = unknown_within head.epoch head.generation head.unknown parts.2;
      images = images_apart files head have;
    }

-- ---- the names of images

-- names of two numbers are the same exactly where the numbers are
pub names_same : (names : List (List ℕ)) (a b : ℕ) → IsDistinct bytes_eq names → a < length names → b < length names → bytes_eq (text_at names a) (text_at names b) ≡ eqb a b
names_same names a b apart first second = ⊎_elim
    (λ is. let same : eqb a b ≡ true = grind arith in
    ap (λ k. bytes_eq (text_at names a) (text_at names k)) (sym is) ∙ (bytes_eq-Decides (text_at names a) (text_at names a)).1 refl ∙ sym same)
    (λ other. let differs : eqb a b ≡ false = grind arith in
    ⊎_elim
    (λ before. apart_from_distinct bytes_eq names a b [] apart before second ∙ sym differs)
    (λ after. nat_list_eq_equiv.symm (text_at names a) (text_at names b) ∙ apart_from_distinct bytes_eq names b a [] apart (omega arith) first ∙ sym differs)
    (cases_lt a b))
    (cases_eq a b)

-- the image of a number has a name exactly where it is the name's number
pub is_named : (names : List (List ℕ)) (name : List ℕ) (n m : ℕ) → IsDistinct bytes_eq names → place_of name names ≡ Some n → m < length names → bytes_eq name (text_at names m) ≡ eqb n m
is_named names name n m apart place within =
    let found = position-Some (λ held. bytes_eq held name) names n [] place in
    let is : text_at names n ≡ name = (bytes_eq-Decides (text_at names n) name).0 found.1 in
    ap (λ (x : List ℕ). bytes_eq x (text_at names m)) (sym is) ∙ names_same names n m apart found.0 within

-- a name that has no number is that of no image
pub not_named : (names : List (List ℕ)) (name : List ℕ) (m : ℕ) → place_of name names ≡ None → m < length names → bytes_eq name (text_at names m) ≡ false
not_named names name m none within = nat_list_eq_equiv.symm name (text_at names m) ∙ none_at (λ held. bytes_eq held name) names m [] (absent name names none) within
