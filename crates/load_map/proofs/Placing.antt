-- Where an address lies after a cut.
use Rattle.std.proofs.Common.{◌≡◌, ℕ, ◌<◌, ◌≤◌, ◌&&◌, ltb, leb, min, max, Bool, true, false, if◌then◌else◌, List, [], ◌∷◌, ◌++◌, refl, ap, sym, ◌∙◌, arith, Option, Some, None}
use Rattle.std.proofs.lemmas.Bool.Decides.{nat_tests}
use Rattle.trace_model.specs.declared.notices.Place.{Place}
use Rattle.trace_model.specs.Attribution.{or_else}
use Rattle.load_map.specs.declared.ranges.Range.{Range}
use Rattle.load_map.specs.Ranges.{is_covered, place_at, place_in, cut_before, cut_after, lefts, rights, exchanged, with_range, without_range}
use Rattle.load_map.proofs.Cases.{by_less}

chosen : (b : Bool) (place : Place) (first second : Option Place) → (if b then Some place else or_else first second) ≡ or_else (if b then Some place else first) second
chosen true place first second = refl
chosen false place first second = refl

-- in two lists one after the other, the first decides
pub place_append : (first second : List Range) (pc : ℕ) → place_in (first ++ second) pc ≡ or_else (place_in first pc) (place_in second pc)
place_append [] second pc = refl
place_append (r ∷ rs) second pc =
    ap (λ (o : Option Place). if is_covered r pc then Some (place_at r pc) else o) (place_append rs second pc)
    ∙ chosen (is_covered r pc) (place_at r pc) (place_in rs pc) (place_in second pc)

uncovered_above : (r : Range) (pc : ℕ) → pc < r.base → is_covered r pc ≡ false
uncovered_above r pc h = grind (arith, nat_tests)

uncovered_end : (r : Range) (pc : ℕ) → r.end ≤ pc → is_covered r pc ≡ false
uncovered_end r pc h = grind (arith, nat_tests)

before_same : (base : ℕ) (r : Range) (pc : ℕ) → pc < base → is_covered (cut_before base r) pc ≡ is_covered r pc
before_same base r pc h = grind (arith, nat_tests)

before_none : (base : ℕ) (r : Range) (pc : ℕ) → base ≤ pc → is_covered (cut_before base r) pc ≡ false
before_none base r pc h = grind (arith, nat_tests)

after_same : (end : ℕ) (r : Range) (pc : ℕ) → end ≤ pc → is_covered (cut_after end r) pc ≡ is_covered r pc
after_same end r pc h = grind (arith, nat_tests)

after_none : (end : ℕ) (r : Range) (pc : ℕ) → pc < end → is_covered (cut_after end r) pc ≡ false
after_none end r pc h = grind (arith, nat_tests)

same_choice : {a b : Bool} {m n : Option Place} (p : Place) → a ≡ b → m ≡ n → (if a then Some p else m) ≡ (if b then Some p else n)
same_choice p h k = rw (h, k) refl

passed : {b : Bool} (p : Place) (m : Option Place) → b ≡ false → (if b then Some p else m) ≡ m
passed p m h = rw h refl

before_end : (a b c : ℕ) → a < b → b ≤ c → a < c
before_end a b c h k = omega arith

past : (a b c : ℕ) → a ≤ b → b ≤ c → a ≤ c
past a b c h k = omega arith

pub lefts_below : (base : ℕ) (rs : List Range) (pc : ℕ) → pc < base → place_in (lefts base rs) pc ≡ place_in rs pc
lefts_below base [] pc h = refl
lefts_below base (r ∷ rs) pc h = by_less r.base base
    (λ t l. rw t (same_choice (place_at r pc) (before_same base r pc h) (lefts_below base rs pc h)))
    (λ t l. rw t (lefts_below base rs pc h ∙ sym (passed (place_at r pc) (place_in rs pc) (uncovered_above r pc (before_end pc base r.base h l)))))

pub lefts_above : (base : ℕ) (rs : List Range) (pc : ℕ) → base ≤ pc → place_in (lefts base rs) pc ≡ None
lefts_above base [] pc h = refl
lefts_above base (r ∷ rs) pc h = by_less r.base base
    (λ t l. rw t (passed (place_at r pc) (place_in (lefts base rs) pc) (before_none base r pc h) ∙ lefts_above base rs pc h))
    (λ t l. rw t (lefts_above base rs pc h))

pub rights_above : (end : ℕ) (rs : List Range) (pc : ℕ) → end ≤ pc → place_in (rights end rs) pc ≡ place_in rs pc
rights_above end [] pc h = refl
rights_above end (r ∷ rs) pc h = by_less end r.end
    (λ t l. rw t (same_choice (place_at r pc) (after_same end r pc h) (rights_above end rs pc h)))
    (λ t l. rw t (rights_above end rs pc h ∙ sym (passed (place_at r pc) (place_in rs pc) (uncovered_end r pc (past r.end end pc l h)))))

pub rights_below : (end : ℕ) (rs : List Range) (pc : ℕ) → pc < end → place_in (rights end rs) pc ≡ None
rights_below end [] pc h = refl
rights_below end (r ∷ rs) pc h = by_less end r.end
    (λ t l. rw t (passed (place_at r pc) (place_in (rights end rs) pc) (after_none end r pc h) ∙ rights_below end rs pc h))
    (λ t l. rw t (rights_below end rs pc h))

or_none : (o : Option Place) → or_else o None ≡ o
or_none None = refl
or_none (Some p) = refl

parts : (base end : ℕ) (new rs : List Range) (pc : ℕ) → place_in (exchanged base end new rs) pc ≡ or_else (place_in (lefts base rs) pc) (or_else (place_in new pc) (place_in (rights end rs) pc))
parts base end new rs pc = place_append (lefts base rs) (new ++ rights end rs) pc ∙ ap (λ (o : Option Place). or_else (place_in (lefts base rs) pc) o) (place_append new (rights end rs) pc)

-- the three places at which an address may lie
at_parts : {a b c : Option Place} (base end : ℕ) (new rs : List Range) (pc : ℕ) → place_in (lefts base rs) pc ≡ a → place_in new pc ≡ b → place_in (rights end rs) pc ≡ c → place_in (exchanged base end new rs) pc ≡ or_else a (or_else b c)
at_parts base end new rs pc p q s = parts base end new rs pc ∙ rw (p, q, s) refl

pub place_below : (base end : ℕ) (new rs : List Range) (pc : ℕ) → base ≤ end → pc < base → place_in new pc ≡ None → place_in (exchanged base end new rs) pc ≡ place_in rs pc
place_below base end new rs pc order h none = at_parts base end new rs pc (lefts_below base rs pc h) none (rights_below end rs pc (omega arith)) ∙ or_none (place_in rs pc)

pub place_between : (base end : ℕ) (new rs : List Range) (pc : ℕ) → base ≤ pc → pc < end → place_in (exchanged base end new rs) pc ≡ place_in new pc
place_between base end new rs pc h k = at_parts base end new rs pc (lefts_above base rs pc h) refl (rights_below end rs pc k) ∙ or_none (place_in new pc)

pub place_above : (base end : ℕ) (new rs : List Range) (pc : ℕ) → base ≤ end → end ≤ pc → place_in new pc ≡ None → place_in (exchanged base end new rs) pc ≡ place_in rs pc
place_above base end new rs pc order h none = at_parts base end new rs pc (lefts_above base rs pc (omega arith)) none (rights_above end rs pc h)

single : (r : Range) (pc : ℕ) → is_covered r pc ≡ false → place_in (r ∷ []) pc ≡ None
single r pc h = passed (place_at r pc) None h

covered : (r : Range) (pc : ℕ) → r.base ≤ pc → pc < r.end → is_covered r pc ≡ true
covered r pc h k = grind (arith, nat_tests)

taken : {b : Bool} (p : Place) (m n : Option Place) → b ≡ true → (if b then Some p else m) ≡ (if b then Some p else n)
taken p m n h = rw h refl

-- a range put in a list
pub put_place : (r : Range) (rs : List Range) (pc : ℕ) → r.base < r.end → place_in (with_range r rs) pc ≡ (if is_covered r pc then Some (place_at r pc) else place_in rs pc)
put_place r rs pc order = by_less pc r.base
    (λ t l. let out = uncovered_above r pc l in place_below r.base r.end (r ∷ []) rs pc (omega arith) l (single r pc out) ∙ sym (passed (place_at r pc) (place_in rs pc) out))
    (λ t l. by_less pc r.end
    (λ u k. place_between r.base r.end (r ∷ []) rs pc l k ∙ taken (place_at r pc) None (place_in rs pc) (covered r pc l k))
    (λ u k. let out = uncovered_end r pc k in place_above r.base r.end (r ∷ []) rs pc (omega arith) k (single r pc out) ∙ sym (passed (place_at r pc) (place_in rs pc) out)))

-- whether an address lies from the first number up to the second
abbrev pub is_between : ℕ → ℕ → ℕ → Bool
is_between base end pc = leb base pc && ltb pc end

between_yes : (base end pc : ℕ) → base ≤ pc → pc < end → is_between base end pc ≡ true
between_yes base end pc h k = grind (arith, nat_tests)

between_below : (base end pc : ℕ) → pc < base → is_between base end pc ≡ false
between_below base end pc h = grind (arith, nat_tests)

between_above : (base end pc : ℕ) → end ≤ pc → is_between base end pc ≡ false
between_above base end pc h = grind (arith, nat_tests)

cut_choice : {b c : Bool} (m : Option Place) → b ≡ c → (if c then None else m) ≡ (if b then None else m)
cut_choice m h = rw h refl

-- addresses taken out of a list
pub cut_place : (base end : ℕ) (rs : List Range) (pc : ℕ) → base < end → place_in (without_range base end rs) pc ≡ (if is_between base end pc then None else place_in rs pc)
cut_place base end rs pc order = by_less pc base
    (λ t l. place_below base end [] rs pc (omega arith) l refl ∙ cut_choice {c = false} (place_in rs pc) (between_below base end pc l))
    (λ t l. by_less pc end
    (λ u k. place_between base end [] rs pc l k ∙ cut_choice {c = true} (place_in rs pc) (between_yes base end pc l k))
    (λ u k. place_above base end [] rs pc (omega arith) k refl ∙ cut_choice {c = false} (place_in rs pc) (between_above base end pc k)))
