-- An exchange where no range is covered: the new one goes in between.
use Rattle.std.proofs.Common.{◌≡◌, ℕ, ◌+◌, ◌<◌, ◌≤◌, leb, true, List, [], ◌∷◌, ◌++◌, take, drop, refl, ap, sym, subst, ◌∙◌, arith}
use Rattle.std.proofs.lemmas.Bool.Decides.{nat_tests}
use Rattle.std.proofs.lemmas.List.{append-nil}
use Rattle.load_map.specs.declared.ranges.Range.{Range}
use Rattle.load_map.specs.Ranges.{RangesFrom, lefts, rights, ended_by, left_of, exchanged, is_free_to}
use Rattle.load_map.proofs.Cases.{by_less, by_most}
use Rattle.load_map.proofs.Halving.{ended_yes, ended_no, halved_lefts}
use Rattle.load_map.proofs.Rising.{rights_all}

free_base : (end : ℕ) (r : Range) (rs : List Range) → is_free_to end (r ∷ rs) ≡ true → end ≤ r.base
free_base end r rs h = grind (arith, nat_tests)

-- nothing of the first range lies before an address
left_none : (base end : ℕ) (rs : List Range) → base < end → is_free_to end rs ≡ true → left_of base rs ≡ []
left_none base end [] h free = refl
left_none base end (r ∷ rs) h free = by_less r.base base
    (λ t l. absurd (omega (arith, free_base end r rs free)))
    (λ t l. rw t refl)

-- all that lies behind the ranges that ended lies from the end on
free_rights : (base end least : ℕ) (rs : List Range) → base < end → RangesFrom least rs → is_free_to end (drop (ended_by base rs) rs) ≡ true → rights end rs ≡ drop (ended_by base rs) rs
free_rights base end least [] h rise free = refl
free_rights base end least (r ∷ rs) h rise free =
    let Stays : ℕ → Type 0 = λ n. is_free_to end (drop n (r ∷ rs)) ≡ true → rights end (r ∷ rs) ≡ drop n (r ∷ rs) in
    by_most r.end base
    (λ t l. subst Stays (sym (ended_yes base r rs t)) (λ is. by_less end r.end
    (λ u k. absurd (omega arith))
    (λ u k. rw u (free_rights base end r.end rs h rise.2 is))) free)
    (λ t l. subst Stays (sym (ended_no base r rs t)) (λ is. rights_all end r.base (r ∷ rs) (free_base end r rs is) (omega arith, rise.1, rise.2)) free)

-- ranges with others put where nothing is covered
pub free_is : (base end n : ℕ) (new rs items : List Range) → base < end → RangesFrom 0 rs → n ≡ ended_by base rs → is_free_to end (drop n rs) ≡ true
    → items ≡ take n rs ++ (new ++ drop n rs) → items ≡ exchanged base end new rs
free_is base end n new rs items h rise n_is free is =
    let free_there = ap (λ i. is_free_to end (drop i rs)) (sym n_is) ∙ free in
    let left : lefts base rs ≡ take n rs = halved_lefts base 0 rs rise
    ∙ (ap (λ i. take i rs ++ left_of base (drop i rs)) (sym n_is)
    ∙ (ap (λ l. take n rs ++ l) (left_none base end (drop n rs) h free) ∙ append-nil (take n rs))) in
    let right : rights end rs ≡ drop n rs = free_rights base end 0 rs h rise free_there ∙ ap (λ i. drop i rs) (sym n_is) in
    is ∙ (ap (λ l. l ++ (new ++ drop n rs)) (sym left) ∙ ap (λ l. lefts base rs ++ (new ++ l)) (sym right))
