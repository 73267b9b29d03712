-- The order of symbols: by their images, then by their ranges.
use Rattle.std.proofs.Common.{◌≡◌, ℕ, ◌-◌, ◌<◌, ◌≤◌, Bool, true, false, ◌&&◌, ◌⊎◌, List, leb, ltb, refl, sym, ap, ◌∙◌, arith, inl, inr}
use Rattle.std.specs.declared.cmp.Ordering.{Ordering}
use Rattle.std.specs.declared.cmp.Ordering.TheVariants.{Less, Equal, Greater}
use Rattle.std.specs.Ordering.{nat_cmp, is_eq, ordering_reverse}
use Rattle.std.specs.Cmp.Lexicographic.{slice_cmp}
use Rattle.std.specs.Str.{bytes_eq}
use Rattle.std.proofs.lemmas.Bool.{false_from_ne_true}
use Rattle.std.proofs.lemmas.Cmp.{nat_list_cmp_total}
use Rattle.std.proofs.lemmas.Grind.{common_steps}
use Rattle.std.proofs.lemmas.Map.Text.{is_eq-slice_cmp}
use Rattle.std.proofs.lemmas.Slice.Eq.{bytes_eq-Decides}
use Rattle.symbol_ranges.specs.declared.symbols.Symbol.{Symbol}
use Rattle.symbol_ranges.specs.Lines.{meets}
use Rattle.symbol_ranges.specs.Index.{before_by, is_before}

abbrev pub by_bytes : List ℕ → List ℕ → Ordering
by_bytes = slice_cmp nat_cmp

pub same_bytes : (a b : List ℕ) → by_bytes a b ≡ Equal → a ≡ b
same_bytes a b h = (bytes_eq-Decides a b).0 (sym (is_eq-slice_cmp a b) ∙ ap is_eq h)

le_true : (a b : ℕ) → a ≤ b → leb a b ≡ true
le_true a b h = grind (arith, common_steps)

le_of : (a b : ℕ) → leb a b ≡ true → a ≤ b
le_of a b h = grind (arith, common_steps)

lt_true : (a b : ℕ) → a < b → ltb a b ≡ true
lt_true a b h = grind (arith, common_steps)

lt_of : (a b : ℕ) → ltb a b ≡ true → a < b
lt_of a b h = grind (arith, common_steps)

gt_of : (a b : ℕ) → leb a b ≡ false → b < a
gt_of a b h = grind (arith, common_steps)

cases_of : (o : Ordering) (e f : ℕ) → before_by o (leb e f) ≡ true → (o ≡ Less) ⊎ ((o ≡ Equal) × (e ≤ f))
cases_of Less e f h = inl refl
cases_of Equal e f h = inr (refl, le_of e f h)
cases_of Greater e f h = cc

-- an earlier image, or the same with an earlier range
pub before_cases : (image : List ℕ) (offset : ℕ) (s : Symbol) → is_before image offset s ≡ true → (by_bytes s.image image ≡ Less) ⊎ ((by_bytes s.image image ≡ Equal) × (s.end ≤ offset))
before_cases image offset s h = cases_of (by_bytes s.image image) s.end offset h

pub before_less : (image : List ℕ) (offset : ℕ) (s : Symbol) → by_bytes s.image image ≡ Less → is_before image offset s ≡ true
before_less image offset s h = ap (λ (o : Ordering). before_by o (leb s.end offset)) h

pub before_equal : (image : List ℕ) (offset : ℕ) (s : Symbol) → by_bytes s.image image ≡ Equal → s.end ≤ offset → is_before image offset s ≡ true
before_equal image offset s h k = ap (λ (o : Ordering). before_by o (leb s.end offset)) h ∙ le_true s.end offset k

-- what stands before what stands before an offset
pub before_trans : (image : List ℕ) (offset : ℕ) (x y : Symbol) → is_before y.image y.start x ≡ true → y.start < y.end → is_before image offset y ≡ true → is_before image offset x ≡ true
before_trans image offset x y h some k = elim (before_cases y.image y.start x h) [
  | inl a ↦ elim (before_cases image offset y k) [
    | inl b ↦ before_less image offset x (nat_list_cmp_total.trans x.image y.image image a b)
    | inr b ↦ before_less image offset x (ap (by_bytes x.image) (sym (same_bytes y.image image b.0)) ∙ a)
  ]
  | inr a ↦ let e = same_bytes x.image y.image a.0 in elim (before_cases image offset y k) [
    | inl b ↦ before_less image offset x (ap (λ (l : List ℕ). by_bytes l image) e ∙ b)
    | inr b ↦ before_equal image offset x (ap (λ (l : List ℕ). by_bytes l image) e ∙ b.0) (omega (arith, a.1, b.1, some))
  ]
]

both : (a b c : Bool) → (a && b && c) ≡ true → (a ≡ true) × (b ≡ true) × (c ≡ true)
both true true true h = (refl, refl, refl)
both true true false h = cc
both true false c h = cc
both false b c h = cc

-- a range of the image, in part from the first offset to the last
pub meets_parts : (image : List ℕ) (first last : ℕ) (s : Symbol) → meets image first last s ≡ true → (s.image ≡ image) × (s.start ≤ last) × (first < s.end)
meets_parts image first last s h = let t = both (bytes_eq s.image image) (leb s.start last) (ltb first s.end) h in
    ((bytes_eq-Decides s.image image).0 t.0, le_of s.start last t.1, lt_of first s.end t.2)

pub meets_whole : (image : List ℕ) (first last : ℕ) (s : Symbol) → s.image ≡ image → s.start ≤ last → first < s.end → meets image first last s ≡ true
meets_whole image first last s e h k =
    ap (λ (b : Bool). b && leb s.start last && ltb first s.end) ((bytes_eq-Decides s.image image).1 e)
    ∙ ap (λ (b : Bool). b && ltb first s.end) (le_true s.start last h) ∙ lt_true first s.end k

no_both : (b : Bool) → b ≡ false → b ≡ true → ⊥
no_both true h k = cc
no_both false h k = cc

same_order : (image : List ℕ) → by_bytes image image ≡ Equal
same_order image = eq_from (by_bytes image image) (is_eq-slice_cmp image image ∙ (bytes_eq-Decides image image).1 refl)
  where
    eq_from : (o : Ordering) → is_eq o ≡ true → o ≡ Equal
    eq_from Less h = cc
    eq_from Equal h = refl
    eq_from Greater h = cc

-- what stands before an offset has none from it on
pub early_meets_none : (image : List ℕ) (first last : ℕ) (s : Symbol) → is_before image first s ≡ true → meets image first last s ≡ false
early_meets_none image first last s h = false_from_ne_true (meets image first last s) (λ k. let t = meets_parts image first last s k in
    elim (before_cases image first s h) [
      | inl a ↦ let e : Less ≡ Equal = sym a ∙ ap (λ (l : List ℕ). by_bytes l image) t.0 ∙ same_order image in cc
      | inr a ↦ absurd (omega (arith, a.1, t.2))
    ])

-- behind a range that does not stand before the first offset, and has none to the last, no other has one
pub later_meets_none : (image : List ℕ) (first last : ℕ) (h t : Symbol) → h.start < h.end → is_before image first h ≡ false → meets image first last h ≡ false → is_before t.image t.start h ≡ true → meets image first last t ≡ false
later_meets_none image first last h t some late none order = false_from_ne_true (meets image first last t) (λ k. let p = meets_parts image first last t k in
    elim (before_cases t.image t.start h order) [
      | inl a ↦ no_both (is_before image first h) late (before_less image first h (ap (by_bytes h.image) (sym p.0) ∙ a))
      | inr a ↦ let same : h.image ≡ image = same_bytes h.image t.image a.0 ∙ p.0 in
          let ends : first < h.end = gt_of h.end first (sym (ap (λ (o : Ordering). before_by o (leb h.end first)) (ap (λ (l : List ℕ). by_bytes l image) same ∙ same_order image)) ∙ late) in
          no_both (meets image first last h) none (meets_whole image first last h same (omega (arith, a.1, p.1, some)) ends)
    ])

late_by : (o : Ordering) (x b : Symbol) → by_bytes b.image x.image ≡ o → x.start < x.end → is_before x.image x.start b ≡ false → meets x.image x.start (x.end - 1) b ≡ false → is_before b.image b.start x ≡ true
late_by Less x b is some late none = absurd (no_both (is_before x.image x.start b) late (before_less x.image x.start b is))
late_by Greater x b is some late none = before_less b.image b.start x (nat_list_cmp_total.antisymm x.image b.image ∙ ap ordering_reverse is)
late_by Equal x b is some late none =
    let ends : x.start < b.end = gt_of b.end x.start (sym (ap (λ (o : Ordering). before_by o (leb b.end x.start)) is) ∙ late) in
    let apart : x.end ≤ b.start = elim (cases_le b.start (x.end - 1)) [
      | inl le ↦ absurd (no_both (meets x.image x.start (x.end - 1) b) none (meets_whole x.image x.start (x.end - 1) b (same_bytes b.image x.image is) le ends))
      | inr gt ↦ omega (arith, gt, some)
    ] in
    before_equal b.image b.start x (nat_list_cmp_total.antisymm x.image b.image ∙ ap ordering_reverse is) apart
  where
    cases_le : (a b : ℕ) → (a ≤ b) ⊎ (b < a)
    cases_le a b = by_test (leb a b) a b refl
      where
        by_test : (t : Bool) (a b : ℕ) → leb a b ≡ t → (a ≤ b) ⊎ (b < a)
        by_test true a b h = inl (le_of a b h)
        by_test false a b h = inr (gt_of a b h)

-- what does not stand before a range and has no offset of it stands behind it
pub stands_behind : (x b : Symbol) → x.start < x.end → is_before x.image x.start b ≡ false → meets x.image x.start (x.end - 1) b ≡ false → is_before b.image b.start x ≡ true
stands_behind x b some late none = late_by (by_bytes b.image x.image) x b refl some late none

-- two ranges that cover one offset of an image have it in common
pub covered_twice : (image : List ℕ) (offset : ℕ) (x s : Symbol) → meets image offset offset x ≡ true → meets x.image x.start (x.end - 1) s ≡ false → meets image offset offset s ≡ false
covered_twice image offset x s h none = false_from_ne_true (meets image offset offset s) (λ k.
    let p = meets_parts image offset offset x h in
    let q = meets_parts image offset offset s k in
    no_both (meets x.image x.start (x.end - 1) s) none (meets_whole x.image x.start (x.end - 1) s (q.0 ∙ sym p.0) (omega (arith, q.1, p.2)) (omega (arith, p.1, q.2))))

-- two ranges have an offset in common, whichever is looked at first
pub met_by : (s x : Symbol) → s.start < s.end → x.start < x.end → meets x.image x.start (x.end - 1) s ≡ false → meets s.image s.start (s.end - 1) x ≡ false
met_by s x some full none = false_from_ne_true (meets s.image s.start (s.end - 1) x) (λ k. let p = meets_parts s.image s.start (s.end - 1) x k in
    no_both (meets x.image x.start (x.end - 1) s) none (meets_whole x.image x.start (x.end - 1) s (sym p.0) (omega (arith, p.2)) (omega (arith, p.1, some))))
