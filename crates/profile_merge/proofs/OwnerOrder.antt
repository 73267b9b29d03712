-- Profiles in their order, and which are one.
use Rattle.std.proofs.Common.{arith, ◌≡◌, ℕ, ◌&&◌, Bool, true, false, eqb, refl, sym, ap, ◌∙◌, subst}
use Rattle.std.specs.declared.cmp.Ordering.{Ordering}
use Rattle.std.specs.Ordering.{nat_cmp, ordering_then, is_eq, on, then_cmp}
use Rattle.std.specs.Cmp.{IsTotalOrder, tied_then}
use Rattle.std.specs.BTreeMap.{is_at}
use Rattle.std.proofs.lemmas.Bool.{and_parts, eqb-true}
use Rattle.std.proofs.lemmas.Bool.Decides.{nat_tests}
use Rattle.std.proofs.lemmas.Cmp.{nat_cmp_total, on_total, then_total, tied_itself}
use Rattle.sample_key.specs.declared.events.Event.{Event}
use Rattle.sample_key.specs.Events.{code_of}
use Rattle.sample_key.proofs.Codes.{event_cmp, by_codes, same_event}
use Rattle.profile_merge.specs.contracts.owners.OwnerOrd.TheImpl as owner_ord
use Rattle.profile_merge.specs.declared.owners.Owner.{Owner}
use Rattle.profile_merge.specs.declared.owners.Owner.TheVariants.{Known, Unknown}
use Rattle.profile_merge.specs.Sums.{same_owner}

-- ---- the order

abbrev pub owner_cmp : Owner → Owner → Ordering
owner_cmp = owner_ord.cmp-value.it

kind_of : Owner → ℕ
kind_of (Known epoch image event) = 0
kind_of (Unknown epoch event) = 1

abbrev epoch_in : Owner → ℕ
epoch_in (Known epoch image event) = epoch
epoch_in (Unknown epoch event) = epoch

abbrev image_in : Owner → ℕ
image_in (Known epoch image event) = image
image_in (Unknown epoch event) = 0

abbrev event_in : Owner → ℕ
event_in (Known epoch image event) = code_of event
event_in (Unknown epoch event) = code_of event

abbrev by_parts : Owner → Owner → Ordering
by_parts = then_cmp (on kind_of nat_cmp) (then_cmp (on epoch_in nat_cmp) (then_cmp (on image_in nat_cmp) (on event_in nat_cmp)))

by_parts_total : IsTotalOrder by_parts
by_parts_total = then_total (on_total kind_of nat_cmp_total) (then_total (on_total epoch_in nat_cmp_total) (then_total (on_total image_in nat_cmp_total) (on_total event_in nat_cmp_total)))

by_parts_is : (a b : Owner) → owner_cmp a b ≡ by_parts a b
unfolding kind_of
by_parts_is (Known e i v) (Known f j w) = ap (λ (m : Ordering). ordering_then (nat_cmp e f) (ordering_then (nat_cmp i j) m)) (by_codes v w)
by_parts_is (Known e i v) (Unknown f w) = refl
by_parts_is (Unknown e v) (Known f j w) = refl
by_parts_is (Unknown e v) (Unknown f w) = ap (λ (m : Ordering). ordering_then (nat_cmp e f) m) (by_codes v w)

pub owner_total : IsTotalOrder owner_cmp
owner_total = subst IsTotalOrder (λ t a b. sym (by_parts_is a b) t) by_parts_total

-- ---- which are one

both_same : {a b c d : Bool} → a ≡ b → c ≡ d → (a && c) ≡ (b && d)
both_same p q = rw (p, q) refl

equal_numbers : (x y : ℕ) → is_eq (nat_cmp x y) ≡ eqb x y
equal_numbers x y = grind (arith, nat_tests)

three_and : (a b c : Bool) → (a && (b && c)) ≡ ((a && b) && c)
three_and false b c = refl
three_and true b c = refl

pub same_by_cmp : (a b : Owner) → is_eq (owner_cmp a b) ≡ same_owner a b
same_by_cmp (Known e i v) (Known f j w) =
    (sym (tied_then (nat_cmp e f) (ordering_then (nat_cmp i j) (event_cmp v w)))
    ∙ both_same (equal_numbers e f)
    (sym (tied_then (nat_cmp i j) (event_cmp v w)) ∙ both_same (equal_numbers i j) (ap is_eq (by_codes v w) ∙ equal_numbers (code_of v) (code_of w))))
    ∙ three_and (eqb e f) (eqb i j) (eqb (code_of v) (code_of w))
same_by_cmp (Known e i v) (Unknown f w) = refl
same_by_cmp (Unknown e v) (Known f j w) = refl
same_by_cmp (Unknown e v) (Unknown f w) =
    sym (tied_then (nat_cmp e f) (event_cmp v w)) ∙ both_same (equal_numbers e f) (ap is_eq (by_codes v w) ∙ equal_numbers (code_of v) (code_of w))

-- a query of the map finds where a profile is the same
pub at_is_same : (a : Owner) → is_at (owner_cmp a) ≡ same_owner a
at_is_same a = λ t b. same_by_cmp a b t

pub same_itself : (a : Owner) → same_owner a a ≡ true
same_itself a = sym (same_by_cmp a a) ∙ ap is_eq (tied_itself owner_total a)

known_same : {e f i j : ℕ} {v w : Event} → e ≡ f → i ≡ j → v ≡ w → Known e i v ≡ Known f j w
known_same a b c = cc

unknown_same : {e f : ℕ} {v w : Event} → e ≡ f → v ≡ w → Unknown e v ≡ Unknown f w
unknown_same a b = cc

pub same_equal : (a b : Owner) → same_owner a b ≡ true → a ≡ b
same_equal (Known e i v) (Known f j w) h =
    let last = and_parts (eqb e f && eqb i j) (eqb (code_of v) (code_of w)) h in
    let first = and_parts (eqb e f) (eqb i j) last.0 in
    known_same (eqb-true e f first.0) (eqb-true i j first.1) (same_event v w (eqb-true (code_of v) (code_of w) last.1))
same_equal (Known e i v) (Unknown f w) h = cc
same_equal (Unknown e v) (Known f j w) h = cc
same_equal (Unknown e v) (Unknown f w) h =
    let parts = and_parts (eqb e f) (eqb (code_of v) (code_of w)) h in
    unknown_same (eqb-true e f parts.0) (same_event v w (eqb-true (code_of v) (code_of w) parts.1))
