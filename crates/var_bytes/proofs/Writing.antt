-- Writers: the numbers of a value follow its format, and then their spellings tell the value; and the other way round.
use Rattle.std.proofs.Common.{◌≡◌, ℕ, zero, suc, List, [], ◌∷◌, ◌++◌, length, refl, sym, ap, subst, ◌∙◌, append_assoc}
use Rattle.std.specs.Prelude.{◌↔◌}
use Rattle.std.specs.List.{flat_map}
use Rattle.std.proofs.lemmas.List.{append-nil}
use Rattle.var_bytes.specs.Numbers.{number_bytes, spell}
use Rattle.var_bytes.specs.Forms.{Form, Done, Field, and_then, repeat, Takes, Spells, Follows, fields_after}

-- ---- from numbers to bytes, and back

pub follows_spelled : {A : Type 0} (form : Form A) (numbers : List ℕ) (value : A) (rest : List ℕ) → Follows form numbers value rest → Takes form (spell numbers) value (spell rest)
follows_spelled (Done told) numbers value rest f = (f.0, ap spell f.1)
follows_spelled (Field test next) [] value rest f = absurd f
follows_spelled (Field test next) (n ∷ numbers) value rest f = (n, spell numbers, f.0, refl, follows_spelled (next n) numbers value rest f.1)

-- the numbers that some bytes spell
pub record IsSpelled {A : Type 0} (form : Form A) (bytes : List ℕ) (value : A) (rest : List ℕ) : Type 0 where
  pub numbers : List ℕ
  pub follows : Follows form numbers value []
  pub text : bytes ≡ spell numbers ++ rest

pub takes_spelled : {A : Type 0} (form : Form A) (bytes : List ℕ) (value : A) (rest : List ℕ) → Takes form bytes value rest → IsSpelled form bytes value rest
takes_spelled (Done told) bytes value rest t = record { numbers = []; follows = (t.0, refl); text = t.1 }
takes_spelled {A = A} (Field test next) bytes value rest t =
    let later = takes_spelled (next t.0) t.1 value rest t.4 in
    record {
      numbers = t.0 ∷ later.numbers;
      follows = (t.2, later.follows);
      text = t.3 ∙ ap (λ (b : List ℕ). number_bytes t.0 ++ b) later.text ∙ sym (append_assoc (number_bytes t.0) (spell later.numbers) rest);
    }

-- ---- one format after the other

pub follows_and_then : {A B : Type 0} (form : Form A) (next : A → Form B) (numbers : List ℕ) (value : A) (rest : List ℕ) (told : B) (end : List ℕ) → Follows form numbers value rest → Follows (next value) rest told end → Follows (and_then form next) numbers told end
follows_and_then {A = A} {B = B} (Done here) next numbers value rest told end f g =
    let tail : Follows (next here) rest told end = subst (λ (v : A). Follows (next v) rest told end) (sym f.0) g in
    subst (λ (ns : List ℕ). Follows (next here) ns told end) (sym f.1) tail
follows_and_then (Field test others) next [] value rest told end f g = absurd f
follows_and_then (Field test others) next (n ∷ numbers) value rest told end f g = (f.0, follows_and_then (others n) next numbers value rest told end f.1 g)

-- what the first of two formats told, and what is left for the second
pub record IsInParts {A B : Type 0} (form : Form A) (next : A → Form B) (numbers : List ℕ) (told : B) (end : List ℕ) : Type 0 where
  pub value : A
  pub rest : List ℕ
  pub first : Follows form numbers value rest
  pub second : Follows (next value) rest told end

pub parts_of : {A B : Type 0} (form : Form A) (next : A → Form B) (numbers : List ℕ) (told : B) (end : List ℕ) → Follows (and_then form next) numbers told end → IsInParts form next numbers told end
parts_of (Done here) next numbers told end f = record { value = here; rest = numbers; first = (refl, refl); second = f }
parts_of (Field test others) next [] told end f = absurd f
parts_of (Field test others) next (n ∷ numbers) told end f =
    let p = parts_of (others n) next numbers told end f.1 in
    record { value = p.value; rest = p.rest; first = (f.0, p.first); second = p.second }

-- ---- the numbers of a value

pub fields_after-push : {A : Type 0} (fields : List A → A → List ℕ) (front xs : List A) (y : A) → fields_after fields front (xs ++ y ∷ []) ≡ fields_after fields front xs ++ fields (front ++ xs) y
fields_after-push {A = A} fields front [] y = append-nil (fields front y) ∙ ap (λ (f : List A). fields f y) (sym (append-nil front))
fields_after-push {A = A} fields front (x ∷ xs) y =
    ap (λ (t : List ℕ). fields front x ++ t) (fields_after-push fields (front ++ x ∷ []) xs y)
    ∙ sym (append_assoc (fields front x) (fields_after fields (front ++ x ∷ []) xs) (fields ((front ++ x ∷ []) ++ xs) y))
    ∙ ap (λ (f : List A). (fields front x ++ fields_after fields (front ++ x ∷ []) xs) ++ fields f y) (append_assoc front (x ∷ []) xs)

pub fields_after-same : {A : Type 0} (fields : A → List ℕ) (front xs : List A) → fields_after (λ before. fields) front xs ≡ flat_map fields xs
fields_after-same {A = A} fields front [] = refl
fields_after-same {A = A} fields front (x ∷ xs) = ap (λ (t : List ℕ). fields x ++ t) (fields_after-same fields (front ++ x ∷ []) xs)

-- each item's numbers follow its format
abbrev pub EachFollows : {A : Type 0} → (List A → Form A) → (List A → A → List ℕ) → List A → List A → Type 0
EachFollows item fields front [] = Unit {0}
EachFollows item fields front (x ∷ xs) = ((rest : List ℕ) → Follows (item front) (fields front x ++ rest) x rest) × EachFollows item fields (front ++ x ∷ []) xs

pub follows_repeat : {A : Type 0} (item : List A → Form A) (fields : List A → A → List ℕ) (front xs : List A) (rest : List ℕ) → EachFollows item fields front xs → Follows (repeat item (length xs) front) (fields_after fields front xs ++ rest) (front ++ xs) rest
follows_repeat {A = A} item fields front [] rest each = (sym (append-nil front), refl)
follows_repeat {A = A} item fields front (x ∷ xs) rest each =
    let later : Follows (repeat item (length xs) (front ++ x ∷ [])) (fields_after fields (front ++ x ∷ []) xs ++ rest) (front ++ x ∷ xs) rest =
    subst (λ (v : List A). Follows (repeat item (length xs) (front ++ x ∷ [])) (fields_after fields (front ++ x ∷ []) xs ++ rest) v rest) (append_assoc front (x ∷ []) xs) (follows_repeat item fields (front ++ x ∷ []) xs rest each.1) in
    let here : Follows (item front) (fields front x ++ fields_after fields (front ++ x ∷ []) xs ++ rest) x (fields_after fields (front ++ x ∷ []) xs ++ rest) =
    subst (λ (ns : List ℕ). Follows (item front) ns x (fields_after fields (front ++ x ∷ []) xs ++ rest)) (sym (append_assoc (fields front x) (fields_after fields (front ++ x ∷ []) xs) rest)) (each.0 (fields_after fields (front ++ x ∷ []) xs ++ rest)) in
    follows_and_then (item front) (λ y. repeat item (length xs) (front ++ y ∷ [])) (fields front x ++ fields_after fields (front ++ x ∷ []) xs ++ rest) x (fields_after fields (front ++ x ∷ []) xs ++ rest) (front ++ x ∷ xs) rest here later

-- ---- a value has one list of numbers

-- no other numbers than the fields of a value tell it
abbrev pub HasFields : {A : Type 0} → (A → List ℕ) → Form A → Type 0
HasFields {A} fields form = (numbers : List ℕ) (value : A) (rest : List ℕ) → Follows form numbers value rest → numbers ≡ fields value ++ rest

-- the items of a repetition, behind those in front, and their numbers
pub record AreItems {A : Type 0} (fields : List A → A → List ℕ) (front : List A) (count : ℕ) (numbers : List ℕ) (value : List A) (rest : List ℕ) : Type 0 where
  pub items : List A
  pub whole : value ≡ front ++ items
  pub size : length items ≡ count
  pub text : numbers ≡ fields_after fields front items ++ rest

pub repeat_has_fields : {A : Type 0} (item : List A → Form A) (fields : List A → A → List ℕ) (count : ℕ) (front : List A) (numbers : List ℕ) (value : List A) (rest : List ℕ) → ((before : List A) → HasFields (fields before) (item before))
    → Follows (repeat item count front) numbers value rest → AreItems fields front count numbers value rest
repeat_has_fields {A = A} item fields zero front numbers value rest each f = record { items = []; whole = sym f.0 ∙ sym (append-nil front); size = refl; text = f.1 }
repeat_has_fields {A = A} item fields (suc count) front numbers value rest each f =
    let p = parts_of (item front) (λ y. repeat item count (front ++ y ∷ [])) numbers value rest f in
    let here = each front numbers p.value p.rest p.first in
    let later = repeat_has_fields item fields count (front ++ p.value ∷ []) p.rest value rest each p.second in
    record {
      items = p.value ∷ later.items;
      whole = later.whole ∙ append_assoc front (p.value ∷ []) later.items;
      size = ap suc later.size;
      text = here ∙ ap (λ (t : List ℕ). fields front p.value ++ t) later.text ∙ sym (append_assoc (fields front p.value) (fields_after fields (front ++ p.value ∷ []) later.items) rest);
    }

-- a value with one list of numbers has one spelling
pub one_spelling : {A : Type 0} (fields : A → List ℕ) (form : Form A) (a b : List ℕ) (value : A) → HasFields fields form → Spells form a value → Spells form b value → a ≡ b
one_spelling fields form a b value has s t =
    let p = takes_spelled form a value [] s in
    let q = takes_spelled form b value [] t in
    let same : p.numbers ≡ q.numbers = has p.numbers value [] p.follows ∙ sym (has q.numbers value [] q.follows) in
    p.text ∙ ap (λ (ns : List ℕ). spell ns ++ []) same ∙ sym q.text

-- what follows the format is spelled
pub spells_fields : {A : Type 0} (form : Form A) (numbers : List ℕ) (value : A) → Follows form numbers value [] → Spells form (spell numbers) value
spells_fields form numbers value f = follows_spelled form numbers value [] f

pub spelled_both_ways : {A : Type 0} (form : Form A) (bytes : List ℕ) (value : A) → Spells form bytes value ↔ ((numbers : List ℕ) × Follows form numbers value [] × (bytes ≡ spell numbers))
spelled_both_ways {A = A} form bytes value = (
  λ t. let p = takes_spelled form bytes value [] t in (p.numbers, p.follows, p.text ∙ append-nil (spell p.numbers)),
  λ p. subst (λ (b : List ℕ). Spells form b value) (sym p.2) (spells_fields form p.0 value p.1),
)
