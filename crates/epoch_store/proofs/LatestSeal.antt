-- The greatest seal among the names of a store is that of the latest generation.
use Rattle.std.proofs.Common.{arith, ◌≡◌, ℕ, ◌<◌, ◌≤◌, ◌⊎◌, inl, inr, Bool, true, false, ◌&&◌, ◌||◌, List, [], ◌∷◌, ◌++◌, None, Some, Option, length, take, drop, max, refl, sym, ap, ◌∙◌, subst, length-append, take-append-drop}
use Rattle.std.specs.Prelude.{nat_le, nat_lt, is_some, codes, IsSome}
use Rattle.std.specs.Fmt.{decimal}
use Rattle.std.specs.Str.{bytes_eq}
use Rattle.std.proofs.lemmas.Grind.{common_steps}
use Rattle.std.proofs.lemmas.Slice.Eq.{bytes_eq-Decides}
use Rattle.text_num.specs.Numbers.{number, HasSpelling}
use Rattle.store_io.specs.Files.{Files}
use Rattle.store_io.specs.Listing.{is_listed, Lists}
use Rattle.database_state.specs.Heads.{Head, IsHead, head_text, empty_head}
use Rattle.database_state.specs.Standing.{seal_file, head_file, IsLatest, HaveHead}
use Rattle.database_state.specs.declared.faults.DbFault.{DbFault}
use Rattle.database_state.specs.declared.faults.DbFault.TheVariants.{StoreFault, Bad, Full, Memory}
use Rattle.epoch_store.specs.Reading.{IsRefusal, IsHeadless}
use Rattle.epoch_store.specs.Seals.{generation_in, seal_number, later, greatest_seal}
use Rattle.epoch_store.proofs.Order.{and_first, and_second, both, cases}
use Rattle.head_file.proofs.Limits.{le_of}

le_true : (a b : ℕ) → a ≤ b → nat_le a b ≡ true
le_true a b le = grind (arith, common_steps)

lt_false : (a b : ℕ) → b ≤ a → nat_lt a b ≡ false
lt_false a b le = grind (arith, common_steps)

-- the seal of a generation has its number
pub seal_is_read : HasSpelling 10 → (k : ℕ) → 1 ≤ k → k ≤ 65536 → seal_number (seal_file k) ≡ Some k
seal_is_read spelling k some most =
    let read : number 10 (decimal k) ≡ Some k = (spelling (decimal k) k).1 (omega arith, refl) in
    let long : nat_lt (length (seal_file k)) 5 ≡ false = lt_false (length (seal_file k)) 5 (omega (arith, length-append (codes "seal.") (decimal k))) in
    let within : (nat_le 1 k && nat_le k 65536) ≡ true = both _ _ (le_true 1 k some) (le_true k 65536 most) in
    rw (long, read, within) refl

number_within : (o : Option ℕ) (k : ℕ) → generation_in o ≡ Some k → (o ≡ Some k) × (1 ≤ k) × (k ≤ 65536)
number_within None k is = absurd cc
number_within (Some n) k is = elim (cases (nat_le 1 n && nat_le n 65536)) [
  | inl holds ↦
      let told : Some n ≡ Some k = rw holds at is in
      let same : n ≡ k = cc in
      let some = le_of 1 n (and_first (nat_le 1 n) (nat_le n 65536) holds) in
      let most = le_of n 65536 (and_second (nat_le 1 n) (nat_le n 65536) holds) in
      (ap Some same, omega arith, omega arith)
  | inr fails ↦ let none : None ≡ Some k = rw fails at is in absurd cc
]

-- what has a number is its seal
pub record IsSeal (text : List ℕ) (k : ℕ) : Type 0 where
  pub spelled : text ≡ seal_file k
  pub some : 1 ≤ k
  pub most : k ≤ 65536

pub read_is_seal : HasSpelling 10 → (text : List ℕ) (k : ℕ) → seal_number text ≡ Some k → IsSeal text k
read_is_seal spelling text k is = elim (cases (nat_lt (length text) 5)) [
  | inl short ↦ let none : None ≡ Some k = rw short at is in absurd cc
  | inr long ↦ elim (cases (bytes_eq (take 5 text) (codes "seal."))) [
    | inl begins ↦
        let told : generation_in (number 10 (drop 5 text)) ≡ Some k = rw (long, begins) at is in
        let parts = number_within (number 10 (drop 5 text)) k told in
        let digits_are = (spelling (drop 5 text) k).0 parts.0 in
        let front : take 5 text ≡ codes "seal." = (bytes_eq-Decides (take 5 text) (codes "seal.")).0 begins in
        record {
          spelled = sym (take-append-drop 5 text) ∙ ap (λ l. l ++ drop 5 text) front ∙ ap (λ l. codes "seal." ++ l) digits_are.1;
          some = parts.1;
          most = parts.2;
        }
    | inr other ↦ let none : None ≡ Some k = rw (long, other) at is in absurd cc
  ]
]

-- ---- the greatest

later_le : (best : ℕ) (o : Option ℕ) → best ≤ later best o
later_le best None = omega arith
later_le best (Some g) = omega arith

pub greatest_from : (names : List (List ℕ)) (best : ℕ) → best ≤ greatest_seal best names
greatest_from [] best = omega arith
greatest_from (name ∷ names) best = omega (arith, greatest_from names (later best (seal_number name)), later_le best (seal_number name))

pub greatest_above : (names : List (List ℕ)) (best : ℕ) (n : List ℕ) (k : ℕ) → is_listed n names ≡ true → seal_number n ≡ Some k → k ≤ greatest_seal best names
greatest_above [] best n k listed is = absurd cc
greatest_above (name ∷ names) best n k listed is = elim (cases (bytes_eq name n)) [
  | inl holds ↦
      let same : name ≡ n = (bytes_eq-Decides name n).0 holds in
      let here : seal_number name ≡ Some k = ap seal_number same ∙ is in
      let step : later best (seal_number name) ≡ max best k = ap (later best) here in
      omega (arith, greatest_from names (later best (seal_number name)), step)
  | inr fails ↦
      let later_on : is_listed n names ≡ true = rw fails at listed in
      greatest_above names (later best (seal_number name)) n k later_on is
]

-- the greatest is the best so far, or that of a name
pub data IsGreatest (names : List (List ℕ)) (best g : ℕ) : Type 0 where
  AsBefore : g ≡ best → IsGreatest names best g
  OfName : (n : List ℕ) → is_listed n names ≡ true → seal_number n ≡ Some g → IsGreatest names best g

found_in : (n name : List ℕ) (names : List (List ℕ)) → is_listed n names ≡ true → is_listed n (name ∷ names) ≡ true
found_in n name names listed = rw listed (or_true (bytes_eq name n))
  where
    or_true : (b : Bool) → (b || true) ≡ true
    or_true true = refl
    or_true false = refl

widen : (name : List ℕ) (names : List (List ℕ)) (best b g : ℕ) → IsGreatest names b g → (g ≡ b → IsGreatest (name ∷ names) best g) → IsGreatest (name ∷ names) best g
widen name names best b g (AsBefore is) as_before = as_before is
widen name names best b g (OfName n listed is) as_before = OfName n (found_in n name names listed) is

first_listed : (name : List ℕ) (names : List (List ℕ)) → is_listed name (name ∷ names) ≡ true
first_listed name names = rw ((bytes_eq-Decides name name).1 refl) refl

max_is : (a b : ℕ) → (max a b ≡ a) ⊎ (max a b ≡ b)
max_is a b = grind (arith, common_steps)

of_first : (name : List ℕ) (names : List (List ℕ)) (best g : ℕ) (o : Option ℕ) → seal_number name ≡ o → g ≡ later best o → IsGreatest (name ∷ names) best g
of_first name names best g None none is = AsBefore is
of_first name names best g (Some k) found is = elim (max_is best k) [
  | inl old ↦ AsBefore (is ∙ old)
  | inr new ↦ OfName name (first_listed name names) (found ∙ ap Some (sym (is ∙ new)))
]

pub greatest_is : (names : List (List ℕ)) (best : ℕ) → IsGreatest names best (greatest_seal best names)
greatest_is [] best = AsBefore refl
greatest_is (name ∷ names) best =
    widen name names best (later best (seal_number name)) _ (greatest_is names (later best (seal_number name)))
    (λ is. of_first name names best _ (seal_number name) refl is)

none_of : (o : Option (List ℕ)) → (is_some o ≡ true → ⊥) → o ≡ None
none_of None never = refl
none_of (Some x) never = absurd (never refl)

-- the greatest seal that is listed is that of the latest generation
pub latest : HasSpelling 10 → (files : Files) (names : List (List ℕ)) (g : ℕ) → Lists (Some files) names → g ≡ greatest_seal 0 names → IsLatest files g
latest spelling files names g lists is = by_kind (greatest_is names 0)
  where
    above : (k : ℕ) → g < k → k ≤ 65536 → files (seal_file k) ≡ None
    above k over most = none_of (files (seal_file k)) (λ there.
        let listed : is_listed (seal_file k) names ≡ true = lists (seal_file k) ∙ there in
        let bound = greatest_above names 0 (seal_file k) k listed (seal_is_read spelling k (omega arith) most) in
        absurd (omega (arith, bound, is)))

    by_kind : IsGreatest names 0 (greatest_seal 0 names) → IsLatest files g
    by_kind (AsBefore none) = record { most = omega (arith, is, none); here = λ some. absurd (omega (arith, is, none)); above = above }
    by_kind (OfName n listed found) =
        let seal = read_is_seal spelling n (greatest_seal 0 names) found in
        let there : is_some (files n) ≡ true = sym (lists n) ∙ listed in
        let named : n ≡ seal_file g = seal.spelled ∙ ap seal_file (sym is) in
        record { most = omega (arith, is, seal.most); here = λ some. subst (λ m. IsSome (files m)) named there; above = above }

-- with no seal the files have the empty head
pub nothing_sealed : (files : Files) (g : ℕ) → g ≡ 0 → IsLatest files g → HaveHead files empty_head
nothing_sealed files g none latest = record {
  latest = subst (IsLatest files) none latest;
  fresh = λ is. refl;
  sealed = λ some. absurd (omega arith);
}

-- with the head that was read
pub sealed_here : (files : Files) (g : ℕ) (h : Head) → IsLatest files g → files (head_file g) ≡ Some (head_text h) → IsHead h → h.generation ≡ g → HaveHead files h
sealed_here files g h latest text is at = record {
  latest = subst (IsLatest files) (sym at) latest;
  fresh = λ none. absurd (omega (arith, none, is.some));
  sealed = λ some. (ap (λ n. files (head_file n)) at ∙ text, is);
}

-- where it is missing or not in its form
pub refused : (files : Files) (g : ℕ) (fault : DbFault) → IsLatest files g → 1 ≤ g → IsHeadless files g fault → IsRefusal files fault
refused files g StoreFault latest some why = tt
refused files g (Bad file) latest some why = (g, why.0, some, latest, why.1)
refused files g (Full what held added) latest some why = why
refused files g Memory latest some why = tt
