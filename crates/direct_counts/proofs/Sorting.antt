-- Sites stand as their spots do, where each image has its rank.
use Rattle.std.proofs.Common.{◌≡◌, ℕ, ◌<◌, ◌&&◌, Bool, eqb, List, refl, ap, sym, ◌∙◌, arith, ⊎_elim}
use Rattle.std.specs.declared.cmp.Ordering.{Ordering}
use Rattle.std.specs.declared.cmp.Ordering.TheVariants.{Less, Equal, Greater}
use Rattle.std.specs.Ordering.{is_eq, nat_cmp, ordering_reverse, ordering_then}
use Rattle.std.specs.Cmp.Lexicographic.{slice_cmp}
use Rattle.std.specs.Str.{bytes_eq}
use Rattle.std.proofs.lemmas.Bool.{cases_lt, cases_eq}
use Rattle.std.proofs.lemmas.Bool.Decides.{nat_tests}
use Rattle.std.proofs.lemmas.Cmp.{nat_list_cmp_total, tied_itself}
use Rattle.std.proofs.lemmas.Map.Text.{is_eq-slice_cmp}
use Rattle.sample_key.specs.declared.events.Event.{Event}
use Rattle.sample_key.specs.declared.events.Event.TheVariants.{Cycles, Imiss, Dmiss, Branchmp}
use Rattle.sample_key.specs.Events.{code_of}
use Rattle.trace_model.specs.Counting.{spot_cmp, same_spot}
use Rattle.trace_model.specs.Recording.{name_at}
use Rattle.sample_key.proofs.Codes.{event_cmp, by_codes}
use Rattle.sample_key.specs.contracts.events.EventPartialEq.TheImpl as event_partial_eq
use Rattle.direct_counts.specs.contracts.sites.SiteOrd.TheImpl as site_ord
use Rattle.direct_counts.specs.contracts.sites.SitePartialEq.TheImpl as site_partial_eq
use Rattle.direct_counts.specs.declared.sites.Site.{Site}
use Rattle.direct_counts.specs.declared.sites.Site.TheVariants.{Known, Unknown}
use Rattle.direct_counts.specs.Ranks.{IsRank}
use Rattle.direct_counts.specs.Sites.{IsRanked, spot_shown}
use Rattle.direct_counts.proofs.Order.{both_same, four_and, three_and}

abbrev event_eq : Event → Event → Bool
event_eq = event_partial_eq.eq-value.it

eq_codes : (v w : Event) → event_eq v w ≡ eqb (code_of v) (code_of w)
eq_codes Cycles Cycles = refl
eq_codes Cycles Imiss = refl
eq_codes Cycles Dmiss = refl
eq_codes Cycles Branchmp = refl
eq_codes Imiss Cycles = refl
eq_codes Imiss Imiss = refl
eq_codes Imiss Dmiss = refl
eq_codes Imiss Branchmp = refl
eq_codes Dmiss Cycles = refl
eq_codes Dmiss Imiss = refl
eq_codes Dmiss Dmiss = refl
eq_codes Dmiss Branchmp = refl
eq_codes Branchmp Cycles = refl
eq_codes Branchmp Imiss = refl
eq_codes Branchmp Dmiss = refl
eq_codes Branchmp Branchmp = refl

less_cmp : (r s : ℕ) → r < s → nat_cmp r s ≡ Less
less_cmp r s h = grind (arith, nat_tests)

greater_cmp : (r s : ℕ) → s < r → nat_cmp r s ≡ Greater
greater_cmp r s h = grind (arith, nat_tests)

same_cmp : (r : ℕ) → nat_cmp r r ≡ Equal
same_cmp r = grind (arith, nat_tests)

equal_numbers : (x y : ℕ) → is_eq (nat_cmp x y) ≡ eqb x y
equal_numbers x y = grind (arith, nat_tests)

tie : (names : List (List ℕ)) (r s : ℕ) → r ≡ s → nat_cmp r s ≡ slice_cmp nat_cmp (name_at names r) (name_at names s)
tie names r s is = rw is (same_cmp s ∙ sym (tied_itself nat_list_cmp_total (name_at names s)))

-- ranks stand as the names there
pub rank_cmp : (names : List (List ℕ)) (r s : ℕ) → IsRank names r → IsRank names s → nat_cmp r s ≡ slice_cmp nat_cmp (name_at names r) (name_at names s)
rank_cmp names r s a b = ⊎_elim
    (λ less. less_cmp r s less ∙ sym (b.smaller r less))
    (λ more. ⊎_elim
    (λ greater. greater_cmp r s greater ∙ sym (nat_list_cmp_total.antisymm (name_at names r) (name_at names s) ∙ ap ordering_reverse (a.smaller s greater)))
    (λ past. tie names r s (omega arith))
    (cases_lt s r))
    (cases_lt r s)

rank_eq : (names : List (List ℕ)) (r s : ℕ) → IsRank names r → IsRank names s → eqb r s ≡ bytes_eq (name_at names r) (name_at names s)
rank_eq names r s a b = sym (equal_numbers r s) ∙ (ap is_eq (rank_cmp names r s a b) ∙ is_eq-slice_cmp (name_at names r) (name_at names s))

-- how sites stand in order, and which are equal
abbrev pub site_cmp : Site → Site → Ordering
site_cmp = site_ord.cmp-value.it

abbrev pub site_eq : Site → Site → Bool
site_eq = site_partial_eq.eq-value.it

pub by_spots : (names : List (List ℕ)) (a b : Site) → IsRanked names a → IsRanked names b → site_cmp a b ≡ spot_cmp (spot_shown names a) (spot_shown names b)
by_spots names (Known e r v o) (Known f s w p) g h =
    ap (λ (m : Ordering). ordering_then (nat_cmp e f) (ordering_then m (ordering_then (event_cmp v w) (nat_cmp o p)))) (rank_cmp names r s g h)
    ∙ ap (λ (m : Ordering). ordering_then (nat_cmp e f) (ordering_then (slice_cmp nat_cmp (name_at names r) (name_at names s)) (ordering_then m (nat_cmp o p)))) (by_codes v w)
by_spots names (Known e r v o) (Unknown f w p) g h = refl
by_spots names (Unknown e v o) (Known f s w p) g h = refl
by_spots names (Unknown e v o) (Unknown f w p) g h = ap (λ (m : Ordering). ordering_then (nat_cmp e f) (ordering_then m (nat_cmp o p))) (by_codes v w)

pub eq_spots : (names : List (List ℕ)) (a b : Site) → IsRanked names a → IsRanked names b → site_eq a b ≡ same_spot (spot_shown names a) (spot_shown names b)
eq_spots names (Known e r v o) (Known f s w p) g h =
    four_and (eqb e f) (eqb r s) (event_eq v w) (eqb o p)
    ∙ (ap (λ (m : Bool). ((eqb e f && m) && event_eq v w) && eqb o p) (rank_eq names r s g h)
    ∙ ap (λ (m : Bool). ((eqb e f && bytes_eq (name_at names r) (name_at names s)) && m) && eqb o p) (eq_codes v w))
eq_spots names (Known e r v o) (Unknown f w p) g h = refl
eq_spots names (Unknown e v o) (Known f s w p) g h = refl
eq_spots names (Unknown e v o) (Unknown f w p) g h = three_and (eqb e f) (event_eq v w) (eqb o p) ∙ ap (λ (m : Bool). (eqb e f && m) && eqb o p) (eq_codes v w)

eqb_flip : (x y : ℕ) → eqb x y ≡ eqb y x
eqb_flip x y = grind (arith, nat_tests)

event_flip : (v w : Event) → event_eq v w ≡ event_eq w v
event_flip v w = eq_codes v w ∙ (eqb_flip (code_of v) (code_of w) ∙ sym (eq_codes w v))

pub eq_flips : (a b : Site) → site_eq a b ≡ site_eq b a
eq_flips (Known e r v o) (Known f s w p) = both_same (eqb_flip e f) (both_same (eqb_flip r s) (both_same (event_flip v w) (eqb_flip o p)))
eq_flips (Known e r v o) (Unknown f w p) = refl
eq_flips (Unknown e v o) (Known f s w p) = refl
eq_flips (Unknown e v o) (Unknown f w p) = both_same (eqb_flip e f) (both_same (event_flip v w) (eqb_flip o p))
