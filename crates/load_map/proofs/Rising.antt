-- Ranges still rise after a cut.
use Rattle.std.proofs.Common.{◌≡◌, ℕ, ◌<◌, ◌≤◌, min, max, List, [], ◌∷◌, ◌++◌, drop, suc, zero, ap, refl, ◌∙◌, arith, Result, Ok, Err, OnOk, OnErr}
use Rattle.load_map.specs.declared.ranges.Range.{Range}
use Rattle.load_map.specs.Ranges.{IsRange, RangesFrom, cut_before, cut_after, lefts, rights, with_range, without_range}
use Rattle.load_map.proofs.Cases.{by_less}

-- ranges from an address are ranges from one before it
pub lower : (least more : ℕ) (rs : List Range) → least ≤ more → RangesFrom more rs → RangesFrom least rs
lower least more [] h rise = tt
lower least more (r ∷ rs) h rise = (omega (arith, rise.0), rise.1, rise.2)

-- what is behind the first ranges rises too
pub drop_rises : (least n : ℕ) (rs : List Range) → RangesFrom least rs → RangesFrom least (drop n rs)
drop_rises least zero rs rise = rise
drop_rises least (suc n) [] rise = tt
drop_rises least (suc n) (r ∷ rs) rise = drop_rises least n rs (lower least r.end rs (omega (arith, rise.0, rise.1.some)) rise.2)

before_is : (base : ℕ) (r : Range) → r.base < base → IsRange r → IsRange (cut_before base r)
before_is base r h is = record { some = omega (arith, is.some); origin = is.origin; aligned = is.aligned }

after_is : (end : ℕ) (r : Range) → end < r.end → IsRange r → IsRange (cut_after end r)
after_is end r h is = record { some = omega (arith, is.some); origin = omega (arith, is.origin); aligned = is.aligned }

-- what lies before an address, and then ranges from that address on
pub join_rises : (least base : ℕ) (rs more : List Range) → least ≤ base → RangesFrom least rs → RangesFrom base more → RangesFrom least (lefts base rs ++ more)
join_rises least base [] more h rise above = lower least base more h above
join_rises least base (r ∷ rs) more h rise above = by_less r.base base
    (λ t l. rw t (rise.0, before_is base r l rise.1, join_rises (min r.end base) base rs more (omega arith) (lower (min r.end base) r.end rs (omega arith) rise.2) above))
    (λ t l. rw t (join_rises least base rs more h (lower least r.end rs (omega (arith, rise.0, rise.1.some)) rise.2) above))

whole : (end : ℕ) (r : Range) → end ≤ r.base → cut_after end r ≡ r
whole end r h = let m : max r.base end ≡ r.base = omega arith in ap (λ n. let made : Range = record { base = n; end = r.end; image = r.image; origin = r.origin } in made) m

cons_same : {a b : Range} {rs qs : List Range} → a ≡ b → rs ≡ qs → a ∷ rs ≡ b ∷ qs
cons_same p q = cc

-- of ranges from an address on all lies from it on
pub rights_all : (end least : ℕ) (rs : List Range) → end ≤ least → RangesFrom least rs → rights end rs ≡ rs
rights_all end least [] h rise = refl
rights_all end least (r ∷ rs) h rise = by_less end r.end
    (λ t l. rw t (cons_same (whole end r (omega (arith, rise.0))) (rights_all end r.end rs (omega arith) rise.2)))
    (λ t l. absurd (omega (arith, rise.0, rise.1.some)))

pub rights_rise : (end least : ℕ) (rs : List Range) → RangesFrom least rs → RangesFrom end (rights end rs)
rights_rise end least [] rise = tt
rights_rise end least (r ∷ rs) rise = by_less end r.end
    (λ t l. rw (t, rights_all end r.end rs (omega arith) rise.2) (omega arith, after_is end r l rise.1, rise.2))
    (λ t l. rw t (rights_rise end r.end rs rise.2))

pub put_rises : (r : Range) (rs : List Range) → IsRange r → RangesFrom 0 rs → RangesFrom 0 (with_range r rs)
put_rises r rs is rise = join_rises 0 r.base rs (r ∷ rights r.end rs) (omega arith) rise (omega arith, is, rights_rise r.end 0 rs rise)

pub cut_rises : (base end : ℕ) (rs : List Range) → base < end → RangesFrom 0 rs → RangesFrom 0 (without_range base end rs)
cut_rises base end rs h rise = join_rises 0 base rs (rights end rs) (omega arith) rise (lower base end (rights end rs) (omega arith) (rights_rise end 0 rs rise))

-- ranges that were changed, or not
pub either_rises : {T E : Type 0} (r : Result T E) (new a b : List Range) → OnOk r (new ≡ a) → OnErr r (new ≡ b) → RangesFrom 0 a → RangesFrom 0 b → RangesFrom 0 new
either_rises (Ok x) new a b p q h k = rw p h
either_rises (Err e) new a b p q h k = rw q k
