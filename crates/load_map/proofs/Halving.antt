-- What a halving finds: the ranges that end at an address or before it stand first.
use Rattle.std.proofs.Common.{◌≡◌, ℕ, suc, zero, ◌+◌, ◌-◌, ◌<◌, ◌≤◌, ◌&&◌, leb, ltb, min, Bool, true, false, if◌then◌else◌, List, [], ◌∷◌, ◌++◌, take, drop, length, get_or, refl, ap, sym, subst, ◌∙◌, arith, Option, Some, None, ⊎_elim}
use Rattle.std.specs.List.{prefix_len, AllWithin}
use Rattle.std.specs.List.Sorted.{IsPartitionedBy, IsPartitionPoint}
use Rattle.std.proofs.lemmas.Bool.{cases_lt}
use Rattle.std.proofs.lemmas.Bool.Decides.{nat_tests}
use Rattle.std.proofs.lemmas.List.{append_assoc, append-nil, drop-drop, length-drop, take_all}
use Rattle.std.proofs.lemmas.List.Sums.{prefix_len_is}
use Rattle.trace_model.specs.declared.notices.Place.{Place}
use Rattle.load_map.specs.declared.ranges.Range.{Range}
use Rattle.load_map.specs.Ranges.{IsRange, RangesFrom, place_at, place_in, is_covered, cut_before, lefts, rights, ended_by, left_of, right_of, first_place, exchanged}
use Rattle.load_map.proofs.Cases.{by_less, by_most}
use Rattle.load_map.proofs.Rising.{rights_all}

one_more : (n : ℕ) → 1 + n ≡ suc n
one_more n = omega arith

-- a range that ends at the address or before it is counted
pub ended_yes : (pc : ℕ) (r : Range) (rs : List Range) → leb r.end pc ≡ true → ended_by pc (r ∷ rs) ≡ suc (ended_by pc rs)
ended_yes pc r rs h = rw h (one_more (ended_by pc rs))

pub ended_no : (pc : ℕ) (r : Range) (rs : List Range) → leb r.end pc ≡ false → ended_by pc (r ∷ rs) ≡ 0
ended_no pc r rs h = rw h refl

cons_same : {a b : Range} {rs qs : List Range} → a ≡ b → rs ≡ qs → a ∷ rs ≡ b ∷ qs
cons_same p q = cc

uncut : (base : ℕ) (r : Range) → r.end ≤ base → cut_before base r ≡ r
uncut base r h = let m : min r.end base ≡ r.end = omega arith in ap (λ n. let made : Range = record { base = r.base; end = n; image = r.image; origin = r.origin } in made) m

lefts_none : (base least : ℕ) (rs : List Range) → base ≤ least → RangesFrom least rs → lefts base rs ≡ []
lefts_none base least [] h rise = refl
lefts_none base least (r ∷ rs) h rise = by_less r.base base
    (λ t l. absurd (omega (arith, rise.0)))
    (λ t l. rw t (lefts_none base r.end rs (omega (arith, rise.1.some)) rise.2))

alone : (b : Bool) (r : Range) (rs : List Range) → rs ≡ [] → (if b then r ∷ rs else rs) ≡ (if b then r ∷ [] else [])
alone true r rs h = ap (λ l. r ∷ l) h
alone false r rs h = h

-- what lies before an address: the ranges that end before it, and the part of the next one
pub halved_lefts : (base least : ℕ) (rs : List Range) → RangesFrom least rs → lefts base rs ≡ take (ended_by base rs) rs ++ left_of base (drop (ended_by base rs) rs)
halved_lefts base least [] rise = refl
halved_lefts base least (r ∷ rs) rise =
    let Split : ℕ → Type 0 = λ n. lefts base (r ∷ rs) ≡ take n (r ∷ rs) ++ left_of base (drop n (r ∷ rs)) in
    by_most r.end base
    (λ t l. subst Split (sym (ended_yes base r rs t)) (by_less r.base base
    (λ u k. rw u (cons_same (uncut base r l) (halved_lefts base r.end rs rise.2)))
    (λ u k. absurd (omega (arith, rise.1.some)))))
    (λ t l. subst Split (sym (ended_no base r rs t)) (alone (ltb r.base base) (cut_before base r) (lefts base rs) (lefts_none base r.end rs (omega arith) rise.2)))

-- what lies from an address on: the part of the first range that ends behind it, and the next ones
halved_rights : (end least : ℕ) (rs : List Range) → RangesFrom least rs → rights end rs ≡ right_of end (drop (ended_by end rs) rs) ++ drop 1 (drop (ended_by end rs) rs)
halved_rights end least [] rise = refl
halved_rights end least (r ∷ rs) rise =
    let Split : ℕ → Type 0 = λ n. rights end (r ∷ rs) ≡ right_of end (drop n (r ∷ rs)) ++ drop 1 (drop n (r ∷ rs)) in
    by_most r.end end
    (λ t l. subst Split (sym (ended_yes end r rs t)) (by_less end r.end
    (λ u k. absurd (omega arith))
    (λ u k. rw u (halved_rights end r.end rs rise.2))))
    (λ t l. subst Split (sym (ended_no end r rs t)) (by_less end r.end
    (λ u k. rw (u, rights_all end r.end rs (omega arith) rise.2) refl)
    (λ u k. absurd (omega arith))))

drop_end : (n : ℕ) (rs : List Range) → length rs ≤ n → drop n rs ≡ []
drop_end zero [] h = refl
drop_end zero (r ∷ rs) h = absurd (omega arith)
drop_end (suc n) [] h = refl
drop_end (suc n) (r ∷ rs) h = drop_end n rs (omega arith)

-- the index behind the first of the last ranges, or the end
drop_next : (n : ℕ) (rs : List Range) → n ≤ length rs → drop (min (n + 1) (length rs)) rs ≡ drop 1 (drop n rs)
drop_next n rs h = ⊎_elim
    (λ less. ap (λ i. drop i rs) (omega arith) ∙ sym (drop-drop 1 n rs))
    (λ past. drop_end (min (n + 1) (length rs)) rs (omega arith) ∙ sym (ap (λ l. drop 1 l) (drop_end n rs past)))
    (cases_lt n (length rs))

pub rights_at : (end n : ℕ) (rs : List Range) → RangesFrom 0 rs → n ≡ ended_by end rs → n ≤ length rs → rights end rs ≡ right_of end (drop n rs) ++ drop (min (n + 1) (length rs)) rs
rights_at end n rs rise is h = halved_rights end 0 rs rise
    ∙ (ap (λ i. right_of end (drop i rs) ++ drop 1 (drop i rs)) (sym is) ∙ ap (λ l. right_of end (drop n rs) ++ l) (sym (drop_next n rs h)))

place_none : (pc least : ℕ) (rs : List Range) → pc < least → RangesFrom least rs → place_in rs pc ≡ None
place_none pc least [] h rise = refl
place_none pc least (r ∷ rs) h rise = by_most r.base pc
    (λ t l. absurd (omega (arith, rise.0)))
    (λ t l. rw t (place_none pc r.end rs (omega (arith, rise.1.some)) rise.2))

-- an address lies in the first range that ends behind it, or in none
pub halved_place : (pc least : ℕ) (rs : List Range) → RangesFrom least rs → place_in rs pc ≡ first_place (drop (ended_by pc rs) rs) pc
halved_place pc least [] rise = refl
halved_place pc least (r ∷ rs) rise =
    let Found : ℕ → Type 0 = λ n. place_in (r ∷ rs) pc ≡ first_place (drop n (r ∷ rs)) pc in
    by_most r.end pc
    (λ t l. subst Found (sym (ended_yes pc r rs t)) (by_less pc r.end
    (λ u k. absurd (omega arith))
    (λ u k. uncovered (leb r.base pc) (place_at r pc) (place_in rs pc) u ∙ halved_place pc r.end rs rise.2)))
    (λ t l. subst Found (sym (ended_no pc r rs t)) (by_less pc r.end
    (λ u k. first_only (leb r.base pc) (place_at r pc) (place_in rs pc) u (place_none pc r.end rs l rise.2))
    (λ u k. absurd (omega arith))))
  where
    uncovered : {c : Bool} (b : Bool) (p : Place) (o : Option Place) → c ≡ false → (if b && c then Some p else o) ≡ o
    uncovered true p o h = rw h refl
    uncovered false p o h = refl

    first_only : {c : Bool} (b : Bool) (p : Place) (o : Option Place) → c ≡ true → o ≡ None → (if b && c then Some p else o) ≡ (if b then Some p else None)
    first_only true p o h k = rw h refl
    first_only false p o h k = k

ends_above : (least j : ℕ) (rs : List Range) (d : Range) → RangesFrom least rs → j < length rs → least ≤ (get_or rs j d).end
ends_above least j [] d rise h = absurd (omega arith)
ends_above least zero (r ∷ rs) d rise h = omega (arith, rise.0, rise.1.some)
ends_above least (suc j) (r ∷ rs) d rise h = omega (arith, rise.0, rise.1.some, ends_above r.end j rs d rise.2 (omega arith))

earlier_ends : (least i j : ℕ) (rs : List Range) (d : Range) → RangesFrom least rs → i ≤ j → j < length rs → (get_or rs i d).end ≤ (get_or rs j d).end
earlier_ends least i j [] d rise h k = absurd (omega arith)
earlier_ends least zero zero (r ∷ rs) d rise h k = omega arith
earlier_ends least zero (suc j) (r ∷ rs) d rise h k = ends_above r.end j rs d rise.2 (omega arith)
earlier_ends least (suc i) zero (r ∷ rs) d rise h k = absurd (omega arith)
earlier_ends least (suc i) (suc j) (r ∷ rs) d rise h k = earlier_ends r.end i j rs d rise.2 (omega arith) (omega arith)

ends_too : (a b pc : ℕ) → a ≤ b → leb b pc ≡ true → leb a pc ≡ true
ends_too a b pc h k = grind (arith, nat_tests)

-- no range that ends behind the address stands before one that does not
pub halves : (pc : ℕ) (rs : List Range) → RangesFrom 0 rs → IsPartitionedBy (λ r. leb r.end pc) rs
halves pc rs rise i j d h k t = ends_too (get_or rs i d).end (get_or rs j d).end pc (earlier_ends 0 i j rs d rise h k) t

any_range : Range
any_range = record { base = 0; end = 0; image = 0; origin = 0 }

-- what the halving answers
pub counted_at : (pc n : ℕ) (rs : List Range) → n ≤ length rs → IsPartitionPoint (λ r. leb r.end pc ≡ true) (λ r. leb r.end pc ≡ false) rs n → n ≡ ended_by pc rs
counted_at pc n rs h point = sym (prefix_len_is (λ (r : Range). leb r.end pc) rs n any_range h (λ k l. point.0 k any_range (omega arith) l) (λ l. point.1 n any_range (omega arith) l))

-- a slice from an index on
pub tail_at : (n : ℕ) (rs view : List Range) → view ≡ rs → take (length view - n) (drop n view) ≡ drop n rs
tail_at n rs view is = take_all (length view - n) (drop n view) (omega (arith, length-drop n view)) ∙ ap (λ l. drop n l) is

-- the nearer address has no more ranges in front
pub ended_more : (base end : ℕ) (rs : List Range) → base ≤ end → ended_by base rs ≤ ended_by end rs
ended_more base end [] h = omega arith
ended_more base end (r ∷ rs) h = by_most r.end base
    (λ t l. by_most r.end end
    (λ u k. omega (arith, ended_yes base r rs t, ended_yes end r rs u, ended_more base end rs h))
    (λ u k. absurd (omega arith)))
    (λ t l. omega (arith, ended_no base r rs t))

regroup : (a l n r d : List Range) → a ++ (((([] ++ l) ++ n) ++ r) ++ d) ≡ (a ++ l) ++ (n ++ (r ++ d))
regroup a l n r d = simp append_assoc

-- the ranges in front, what was put in the middle, and the ranges behind
pub exchange_is : (base end n m : ℕ) (new rs middle items : List Range) → RangesFrom 0 rs → n ≡ ended_by base rs → m ≡ ended_by end rs → m ≤ length rs
    → middle ≡ (([] ++ left_of base (drop n rs)) ++ new) ++ right_of end (drop m rs) → items ≡ take n rs ++ (middle ++ drop (min (m + 1) (length rs)) rs) → items ≡ exchanged base end new rs
exchange_is base end n m new rs middle items rise n_is m_is most middle_is is =
    let behind = drop (min (m + 1) (length rs)) rs in
    let left : lefts base rs ≡ take n rs ++ left_of base (drop n rs) = halved_lefts base 0 rs rise ∙ ap (λ i. take i rs ++ left_of base (drop i rs)) (sym n_is) in
    let right : rights end rs ≡ right_of end (drop m rs) ++ behind = rights_at end m rs rise m_is most in
    is ∙ (ap (λ l. take n rs ++ (l ++ behind)) middle_is
    ∙ (regroup (take n rs) (left_of base (drop n rs)) new (right_of end (drop m rs)) behind
    ∙ (ap (λ l. l ++ (new ++ (right_of end (drop m rs) ++ behind))) (sym left) ∙ ap (λ l. lefts base rs ++ (new ++ l)) (sym right))))
