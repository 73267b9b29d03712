-- The order in which counts are listed, and what it says of two spots.
use Rattle.std.proofs.Common.{◌≡◌, ℕ, ◌&&◌, Bool, true, false, eqb, List, [], refl, ap, sym, ◌∙◌, arith}
use Rattle.std.specs.declared.cmp.Ordering.{Ordering}
use Rattle.std.specs.declared.cmp.Ordering.TheVariants.{Less, Equal, Greater}
use Rattle.std.specs.Ordering.{nat_cmp, ordering_then, ordering_reverse, is_eq, on, then_cmp}
use Rattle.std.specs.Cmp.{IsTotalOrder, tied_then}
use Rattle.std.specs.Cmp.Lexicographic.{slice_cmp}
use Rattle.std.specs.Str.{bytes_eq}
use Rattle.std.proofs.lemmas.Bool.{and_parts, eqb-true}
use Rattle.std.proofs.lemmas.Bool.Decides.{nat_tests}
use Rattle.std.proofs.lemmas.Cmp.{nat_cmp_total, nat_list_cmp_total, on_total, then_total, tied_itself}
use Rattle.std.proofs.lemmas.Map.Text.{is_eq-slice_cmp}
use Rattle.std.proofs.lemmas.Slice.Eq.{bytes_eq-Decides}
use Rattle.sample_key.specs.declared.events.Event.{Event}
use Rattle.sample_key.specs.Events.{code_of}
use Rattle.sample_key.proofs.Codes.{same_event}
use Rattle.trace_model.specs.Counting.{Spot, Known, Unknown, spot_cmp, same_spot}

-- the parts by which a spot stands: known ones first
abbrev pub kind_of : Spot → ℕ
kind_of (Known epoch image event offset) = 0
kind_of (Unknown epoch event pc) = 1

abbrev epoch_of : Spot → ℕ
epoch_of (Known epoch image event offset) = epoch
epoch_of (Unknown epoch event pc) = epoch

abbrev image_of : Spot → List ℕ
image_of (Known epoch image event offset) = image
image_of (Unknown epoch event pc) = []

abbrev event_in : Spot → ℕ
event_in (Known epoch image event offset) = code_of event
event_in (Unknown epoch event pc) = code_of event

abbrev address_of : Spot → ℕ
address_of (Known epoch image event offset) = offset
address_of (Unknown epoch event pc) = pc

abbrev by_parts : Spot → Spot → Ordering
by_parts = then_cmp (on kind_of nat_cmp) (then_cmp (on epoch_of nat_cmp) (then_cmp (on image_of (slice_cmp nat_cmp)) (then_cmp (on event_in nat_cmp) (on address_of nat_cmp))))

by_parts_total : IsTotalOrder by_parts
by_parts_total = then_total (on_total kind_of nat_cmp_total) (then_total (on_total epoch_of nat_cmp_total) (then_total (on_total image_of nat_list_cmp_total) (then_total (on_total event_in nat_cmp_total) (on_total address_of nat_cmp_total))))

by_parts_is : (a b : Spot) → spot_cmp a b ≡ by_parts a b
by_parts_is (Known e image v o) (Known f other w p) = refl
by_parts_is (Known e image v o) (Unknown f w p) = refl
by_parts_is (Unknown e v o) (Known f other w p) = refl
by_parts_is (Unknown e v o) (Unknown f w p) = refl

pub flipped : (a b : Spot) → spot_cmp a b ≡ Greater → spot_cmp b a ≡ Less
flipped a b h = by_parts_is b a ∙ (by_parts_total.antisymm b a ∙ ap ordering_reverse (sym (by_parts_is a b) ∙ h))

pub chained : (a b c : Spot) → spot_cmp a b ≡ Less → spot_cmp b c ≡ Less → spot_cmp a c ≡ Less
chained a b c h k = by_parts_is a c ∙ by_parts_total.trans a b c (sym (by_parts_is a b) ∙ h) (sym (by_parts_is b c) ∙ k)

pub tied : (a : Spot) → spot_cmp a a ≡ Equal
tied a = by_parts_is a a ∙ tied_itself by_parts_total a

pub both_same : {a b c d : Bool} → a ≡ b → c ≡ d → (a && c) ≡ (b && d)
both_same p q = rw (p, q) refl

equal_numbers : (x y : ℕ) → is_eq (nat_cmp x y) ≡ eqb x y
equal_numbers x y = grind (arith, nat_tests)

pub four_and : (a b c d : Bool) → (a && (b && (c && d))) ≡ (((a && b) && c) && d)
four_and false b c d = refl
four_and true false c d = refl
four_and true true c d = refl

pub three_and : (a b c : Bool) → (a && (b && c)) ≡ ((a && b) && c)
three_and false b c = refl
three_and true b c = refl

-- spots are the same exactly where they stand at one place of the order
pub same_by_cmp : (a b : Spot) → is_eq (spot_cmp a b) ≡ same_spot a b
same_by_cmp (Known e image v o) (Known f other w p) =
    (sym (tied_then (nat_cmp e f) (ordering_then (slice_cmp nat_cmp image other) (ordering_then (nat_cmp (code_of v) (code_of w)) (nat_cmp o p))))
    ∙ both_same (equal_numbers e f)
    (sym (tied_then (slice_cmp nat_cmp image other) (ordering_then (nat_cmp (code_of v) (code_of w)) (nat_cmp o p)))
    ∙ both_same (is_eq-slice_cmp image other)
    (sym (tied_then (nat_cmp (code_of v) (code_of w)) (nat_cmp o p)) ∙ both_same (equal_numbers (code_of v) (code_of w)) (equal_numbers o p))))
    ∙ four_and (eqb e f) (bytes_eq image other) (eqb (code_of v) (code_of w)) (eqb o p)
same_by_cmp (Known e image v o) (Unknown f w p) = refl
same_by_cmp (Unknown e v o) (Known f other w p) = refl
same_by_cmp (Unknown e v o) (Unknown f w p) =
    (sym (tied_then (nat_cmp e f) (ordering_then (nat_cmp (code_of v) (code_of w)) (nat_cmp o p)))
    ∙ both_same (equal_numbers e f)
    (sym (tied_then (nat_cmp (code_of v) (code_of w)) (nat_cmp o p)) ∙ both_same (equal_numbers (code_of v) (code_of w)) (equal_numbers o p)))
    ∙ three_and (eqb e f) (eqb (code_of v) (code_of w)) (eqb o p)

pub same_less : (a b : Spot) → spot_cmp a b ≡ Less → same_spot a b ≡ false
same_less a b h = sym (same_by_cmp a b) ∙ ap is_eq h

pub same_itself : (a : Spot) → same_spot a a ≡ true
same_itself a = sym (same_by_cmp a a) ∙ ap is_eq (tied a)

known_same : {e f : ℕ} {image other : List ℕ} {v w : Event} {o p : ℕ} → e ≡ f → image ≡ other → v ≡ w → o ≡ p → Known e image v o ≡ Known f other w p
known_same a b c d = cc

unknown_same : {e f : ℕ} {v w : Event} {o p : ℕ} → e ≡ f → v ≡ w → o ≡ p → Unknown e v o ≡ Unknown f w p
unknown_same a b c = cc

-- the same spots are equal
pub same_equal : (a b : Spot) → same_spot a b ≡ true → a ≡ b
same_equal (Known e image v o) (Known f other w p) h =
    let last = and_parts ((eqb e f && bytes_eq image other) && eqb (code_of v) (code_of w)) (eqb o p) h in
    let third = and_parts (eqb e f && bytes_eq image other) (eqb (code_of v) (code_of w)) last.0 in
    let first = and_parts (eqb e f) (bytes_eq image other) third.0 in
    known_same (eqb-true e f first.0) ((bytes_eq-Decides image other).0 first.1) (same_event v w (eqb-true (code_of v) (code_of w) third.1)) (eqb-true o p last.1)
same_equal (Known e image v o) (Unknown f w p) h = cc
same_equal (Unknown e v o) (Known f other w p) h = cc
same_equal (Unknown e v o) (Unknown f w p) h =
    let last = and_parts (eqb e f && eqb (code_of v) (code_of w)) (eqb o p) h in
    let first = and_parts (eqb e f) (eqb (code_of v) (code_of w)) last.0 in
    unknown_same (eqb-true e f first.0) (same_event v w (eqb-true (code_of v) (code_of w) first.1)) (eqb-true o p last.1)

pub equal_spots : (a b : Spot) → spot_cmp a b ≡ Equal → a ≡ b
equal_spots a b h = same_equal a b (sym (same_by_cmp a b) ∙ ap is_eq h)

-- behind an unknown spot only unknown ones stand
pub kind_rises : (a b : Spot) → spot_cmp a b ≡ Less → kind_of a ≡ 1 → kind_of b ≡ 1
kind_rises (Known e image v o) b h k = absurd (omega arith)
kind_rises (Unknown e v o) (Known f other w p) h k = cc
kind_rises (Unknown e v o) (Unknown f w p) h k = refl

-- by cases on an ordering
pub by_ordering : {G : Type 0} (o : Ordering) → (o ≡ Less → G) → (o ≡ Equal → G) → (o ≡ Greater → G) → G
by_ordering Less f g h = f refl
by_ordering Equal f g h = g refl
by_ordering Greater f g h = h refl
