-- Ranges cover the addresses that have a place in them, and no others.
use Rattle.std.proofs.Common.{◌≡◌, ℕ, suc, zero, ◌<◌, ◌≤◌, Bool, true, false, cond, List, [], ◌∷◌, length, get_or, refl, ap, sym, ◌∙◌, arith, Option, Some, None, ⊎_elim, reverse}
use Rattle.std.specs.List.{Contains}
use Rattle.std.proofs.lemmas.Bool.{cases_Bool}
use Rattle.std.proofs.lemmas.Bool.Decides.{nat_tests}
use Rattle.trace_model.specs.declared.notices.Place.{Place}
use Rattle.trace_model.specs.declared.notices.Record.{Record}
use Rattle.trace_model.specs.Attribution.{own_place}
use Rattle.load_map.specs.declared.maps.LoadMap.{LoadMap}
use Rattle.load_map.specs.declared.ranges.Range.{Range}
use Rattle.load_map.specs.Maps.{StandsFor, CoverOnlyPlaces, CoverAllPlaces, own_of, ranges_of}
use Rattle.load_map.specs.Ranges.{IsCoveredIn, RangesFrom, is_covered, place_at, place_in}

bases_above : (least k : ℕ) (rs : List Range) (d : Range) → RangesFrom least rs → k < length rs → least ≤ (get_or rs k d).base
bases_above least k [] d rise h = absurd (omega arith)
bases_above least zero (r ∷ rs) d rise h = rise.0
bases_above least (suc k) (r ∷ rs) d rise h = omega (arith, rise.0, rise.1.some, bases_above r.end k rs d rise.2 (omega arith))

behind : (least : ℕ) (r : Range) (pc end : ℕ) → is_covered r pc ≡ true → end ≤ r.base → (first : Range) → first.end ≡ end → is_covered first pc ≡ false
behind least r pc end h k first is = grind (arith, nat_tests)

covered_at : (least k : ℕ) (rs : List Range) (r : Range) (pc : ℕ) → RangesFrom least rs → k < length rs → get_or rs k r ≡ r → is_covered r pc ≡ true → place_in rs pc ≡ Some (place_at r pc)
covered_at least k [] r pc rise h is covers = absurd (omega arith)
covered_at least zero (first ∷ rs) r pc rise h is covers = rw (is, covers) refl
covered_at least (suc k) (first ∷ rs) r pc rise h is covers =
    let above : first.end ≤ r.base = omega (arith, bases_above first.end k rs r rise.2 (omega arith), ap (λ (other : Range). other.base) is) in
    rw (behind least r pc first.end covers above first refl) (covered_at first.end k rs r pc rise.2 (omega arith) is covers)

-- what a range covers has its place there
pub covered_place : (rs : List Range) (r : Range) (pc : ℕ) → RangesFrom 0 rs → Contains rs r → is_covered r pc ≡ true → place_in rs pc ≡ Some (place_at r pc)
covered_place rs r pc rise among covers = covered_at 0 among.0 rs r pc rise among.1 among.2 covers

some_same : {p q : Place} → Some p ≡ Some q → q ≡ p
some_same h = cc

chosen : {b : Bool} (p q : Place) (o : Option Place) → b ≡ true → cond b (Some p) o ≡ Some q → q ≡ p
chosen p q o is h = some_same (rw is at h)

skipped : {b : Bool} (p q : Place) (o : Option Place) → b ≡ false → cond b (Some p) o ≡ Some q → o ≡ Some q
skipped p q o is h = rw is at h

-- what has a place is covered
pub place_covered : (rs : List Range) (pc : ℕ) (place : Place) → place_in rs pc ≡ Some place → IsCoveredIn rs pc place
place_covered [] pc place h = cc
place_covered (r ∷ rs) pc place h = ⊎_elim
    (λ is. (r, (0, omega arith, refl), is, chosen (place_at r pc) place (place_in rs pc) is h))
    (λ is. let rest = place_covered rs pc place (skipped (place_at r pc) place (place_in rs pc) is h) in (rest.0, (suc rest.1.0, omega (arith, rest.1.1), rest.1.2), rest.2, rest.3))
    (cases_Bool (is_covered r pc))

pub cover_only : (map : LoadMap) (pid : ℕ) (ranges : List Range) → ranges ≡ ranges_of map pid → RangesFrom 0 ranges → CoverOnlyPlaces map pid ranges
cover_only map pid ranges is rise records stands range pc among covers = sym (stands.own pid pc) ∙ (ap (λ (rs : List Range). place_in rs pc) (sym is) ∙ covered_place ranges range pc rise among covers)

pub cover_all : (map : LoadMap) (pid : ℕ) (ranges : List Range) → ranges ≡ ranges_of map pid → CoverAllPlaces map pid ranges
cover_all map pid ranges is records stands pc place h = place_covered ranges pc place (ap (λ (rs : List Range). place_in rs pc) is ∙ (stands.own pid pc ∙ h))
