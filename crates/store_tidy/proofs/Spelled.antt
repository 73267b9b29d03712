-- The names that have a form are those of files and seals.
use Rattle.std.proofs.Common.{arith, ◌≡◌, ℕ, ◌+◌, ◌%◌, ◌^◌, ◌<◌, ◌==◌, inl, inr, Bool, true, false, ◌&&◌, ◌||◌, List, [], ◌∷◌, ◌++◌, None, Some, Option, refl, sym, ap, ◌∙◌}
use Rattle.std.specs.Prelude.{codes}
use Rattle.std.specs.Fmt.{decimal}
use Rattle.std.specs.Str.{bytes_eq}
use Rattle.std.specs.List.{AllByRecursion, join_with_byte, onto_first}
use Rattle.std.proofs.lemmas.Fmt.{decimal_by_steps}
use Rattle.std.proofs.lemmas.Grind.{common_steps}
use Rattle.std.proofs.lemmas.List.Splits.{join_with_byte-slice_split}
use Rattle.std.proofs.lemmas.Slice.Eq.{bytes_eq-Decides}
use Rattle.text_num.specs.Numbers.{number, HasSpelling}
use Rattle.store_io.specs.declared.file_refs.FileRef.{FileRef}
use Rattle.store_io.specs.declared.file_refs.FileRef.TheVariants.{Head, Known, Unknown, Segment}
use Rattle.store_io.specs.FileNames.{file_name}
use Rattle.database_state.specs.Standing.{seal_file}
use Rattle.database_state.specs.Generations.{FileFits}
use Rattle.epoch_store.proofs.Order.{cases, and_first, and_second}
use Rattle.store_tidy.specs.declared.forms.Range.{Range}
use Rattle.store_tidy.specs.FileForms.{cut_at_dots, is_in, is_number_in, is_decimal_in, are_decimals_in, is_form, is_file_name, epochs, images, events, generations}
use Rattle.store_tidy.specs.Named.{is_in_ranges, IsFile, IsFileOrSeal}

-- ---- names are cut into the fields that they were made of

no_dots : List ℕ → Type 0
no_dots text = AllByRecursion (λ c. (c == 46) ≡ false) text

not_dot : (c : ℕ) → (c ≡ 46 → ⊥) → (c == 46) ≡ false
not_dot c apart = grind (arith, common_steps, apart)

no_dots_more : (text : List ℕ) (c : ℕ) → no_dots text → (c == 46) ≡ false → no_dots (text ++ c ∷ [])
unfolding no_dots
no_dots_more [] c none is = (is, tt)
no_dots_more (x ∷ text) c none is = (none.0, no_dots_more text c none.1 is)

decimal_no_dots : (n : ℕ) → n < 2 ^ 64 → no_dots (decimal n)
unfolding no_dots
decimal_no_dots n below = decimal_by_steps (λ _ ds. no_dots ds)
    (λ m small. (not_dot (48 + m) (λ e. absurd (omega arith)), tt))
    (λ m ds large front. no_dots_more ds (48 + m % 10) front (not_dot (48 + m % 10) (λ e. absurd (omega arith))))
    n below

-- the last field
cut_last : (text : List ℕ) → no_dots text → cut_at_dots text ≡ text ∷ []
unfolding no_dots
cut_last [] none = refl
cut_last (c ∷ text) none = rw none.0 (ap (onto_first c) (cut_last text none.1))

-- a field with others behind it
cut_piece : (text more : List ℕ) → no_dots text → cut_at_dots (text ++ 46 ∷ more) ≡ text ∷ cut_at_dots more
unfolding no_dots
cut_piece [] more none = refl
cut_piece (c ∷ text) more none = rw none.0 (ap (onto_first c) (cut_piece text more none.1))

cut_number : (n : ℕ) (more : List ℕ) → n < 2 ^ 64 → cut_at_dots (decimal n ++ 46 ∷ more) ≡ decimal n ∷ cut_at_dots more
cut_number n more fits = cut_piece (decimal n) more (decimal_no_dots n fits)

cut_last_number : (n : ℕ) → n < 2 ^ 64 → cut_at_dots (decimal n) ≡ decimal n ∷ []
cut_last_number n fits = cut_last (decimal n) (decimal_no_dots n fits)

-- ---- what files' names say

said : HasSpelling 10 → (range : Range) (n : ℕ) → n < 2 ^ 64 → is_decimal_in range (decimal n) ≡ is_in range n
said spelling range n fits = ap (is_number_in range) ((spelling (decimal n) n).1 (fits, refl))

one_said : HasSpelling 10 → (r : Range) (n : ℕ) → n < 2 ^ 64 → are_decimals_in (r ∷ []) (cut_at_dots (decimal n)) ≡ is_in r n
one_said spelling r n fits = rw (cut_last_number n fits, said spelling r n fits) (last (is_in r n))
  where
    last : (a : Bool) → (a && true) ≡ a
    last true = refl
    last false = refl

and_assoc : (a b c : Bool) → (a && (b && c)) ≡ ((a && b) && c)
and_assoc true b c = refl
and_assoc false b c = refl

more_said : HasSpelling 10 → (r : Range) (rs : List Range) (n : ℕ) (more : List ℕ) → n < 2 ^ 64 → are_decimals_in (r ∷ rs) (cut_at_dots (decimal n ++ 46 ∷ more)) ≡ (is_in r n && are_decimals_in rs (cut_at_dots more))
more_said spelling r rs n more fits = rw (cut_number n more fits, said spelling r n fits) refl

pub file_said : HasSpelling 10 → (file : FileRef) → FileFits file → is_file_name (file_name file) ≡ is_in_ranges file
file_said s (Head g) fits = one_said s generations g fits
file_said s (Known epoch image event g) fits =
    let last = decimal event ++ 46 ∷ decimal g in
    more_said s epochs (images ∷ events ∷ generations ∷ []) epoch (decimal image ++ 46 ∷ last) fits.0
    ∙ ap (λ b. is_in epochs epoch && b) (more_said s images (events ∷ generations ∷ []) image last fits.1
    ∙ ap (λ b. is_in images image && b) (more_said s events (generations ∷ []) event (decimal g) fits.2
    ∙ ap (λ b. is_in events event && b) (one_said s generations g fits.3)))
    ∙ joined (is_in epochs epoch) (is_in images image) (is_in events event) (is_in generations g)
  where
    joined : (a b c d : Bool) → (a && (b && (c && d))) ≡ (a && b && c && d)
    joined true true c d = refl
    joined true false c d = refl
    joined false b c d = refl
file_said s (Unknown epoch event g) fits =
    more_said s epochs (events ∷ generations ∷ []) epoch (decimal event ++ 46 ∷ decimal g) fits.0
    ∙ ap (λ b. is_in epochs epoch && b) (more_said s events (generations ∷ []) event (decimal g) fits.1
    ∙ ap (λ b. is_in events event && b) (one_said s generations g fits.2))
    ∙ and_assoc (is_in epochs epoch) (is_in events event) (is_in generations g)
file_said s (Segment g) fits = one_said s generations g fits

pub seal_said : HasSpelling 10 → (g : ℕ) → g < 2 ^ 64 → is_file_name (seal_file g) ≡ is_in generations g
seal_said s g fits = one_said s generations g fits

-- ---- which names have a form

-- a field that is a number in a range
pub record Reads (range : Range) (text : List ℕ) : Type 0 where
  pub n : ℕ
  pub within : is_in range n ≡ true
  pub is : text ≡ decimal n

read_in : HasSpelling 10 → (range : Range) (text : List ℕ) (o : Option ℕ) → number 10 text ≡ o → is_number_in range o ≡ true → Reads range text
read_in s range text None told is = absurd cc
read_in s range text (Some n) told is = record { n = n; within = is; is = ((s text n).0 told).1 }

reads : HasSpelling 10 → (range : Range) (text : List ℕ) → is_decimal_in range text ≡ true → Reads range text
reads s range text is = read_in s range text (number 10 text) refl is

a_field : HasSpelling 10 → (r : Range) (rs : List Range) (texts : List (List ℕ)) → are_decimals_in (r ∷ rs) texts ≡ true → (text : List ℕ) × (more : List (List ℕ)) × (texts ≡ text ∷ more) × Reads r text × (are_decimals_in rs more ≡ true)
a_field s r rs [] is = absurd cc
a_field s r rs (text ∷ more) is = (text, more, refl, reads s r text (and_first (is_decimal_in r text) (are_decimals_in rs more) is), and_second (is_decimal_in r text) (are_decimals_in rs more) is)

no_more : (texts : List (List ℕ)) → are_decimals_in [] texts ≡ true → texts ≡ []
no_more [] is = refl
no_more (text ∷ texts) is = absurd cc

both : (a b : Bool) → a ≡ true → b ≡ true → (a && b) ≡ true
both a b x y = rw (x, y) refl

-- the fields give the name back
whole : (name word : List ℕ) (texts : List (List ℕ)) → cut_at_dots name ≡ word ∷ texts → name ≡ join_with_byte 46 (word ∷ texts)
whole name word texts cut = sym (join_with_byte-slice_split 46 name) ∙ ap (join_with_byte 46) cut

known_named : HasSpelling 10 → (name word : List ℕ) (texts : List (List ℕ)) → cut_at_dots name ≡ word ∷ texts → word ≡ codes "p" → are_decimals_in (epochs ∷ images ∷ events ∷ generations ∷ []) texts ≡ true → IsFile name
known_named s name word texts cut w is =
    let (t1, m1, e1, f1, i1) = a_field s epochs (images ∷ events ∷ generations ∷ []) texts is in
    let (t2, m2, e2, f2, i2) = a_field s images (events ∷ generations ∷ []) m1 i1 in
    let (t3, m3, e3, f3, i3) = a_field s events (generations ∷ []) m2 i2 in
    let (t4, m4, e4, f4, i4) = a_field s generations [] m3 i3 in
    let end : m4 ≡ [] = no_more m4 i4 in
    let d1 : t1 ≡ decimal f1.n = f1.is in
    let d2 : t2 ≡ decimal f2.n = f2.is in
    let d3 : t3 ≡ decimal f3.n = f3.is in
    let d4 : t4 ≡ decimal f4.n = f4.is in
    let all : word ∷ texts ≡ codes "p" ∷ decimal f1.n ∷ decimal f2.n ∷ decimal f3.n ∷ decimal f4.n ∷ [] = cc in
    record {
      file = Known f1.n f2.n f3.n f4.n;
      ranges = both _ _ (both _ _ (both _ _ f1.within f2.within) f3.within) f4.within;
      is = whole name word texts cut ∙ ap (join_with_byte 46) all;
    }

unknown_named : HasSpelling 10 → (name word : List ℕ) (texts : List (List ℕ)) → cut_at_dots name ≡ word ∷ texts → word ≡ codes "u" → are_decimals_in (epochs ∷ events ∷ generations ∷ []) texts ≡ true → IsFile name
unknown_named s name word texts cut w is =
    let (t1, m1, e1, f1, i1) = a_field s epochs (events ∷ generations ∷ []) texts is in
    let (t2, m2, e2, f2, i2) = a_field s events (generations ∷ []) m1 i1 in
    let (t3, m3, e3, f3, i3) = a_field s generations [] m2 i2 in
    let end : m3 ≡ [] = no_more m3 i3 in
    let d1 : t1 ≡ decimal f1.n = f1.is in
    let d2 : t2 ≡ decimal f2.n = f2.is in
    let d3 : t3 ≡ decimal f3.n = f3.is in
    let all : word ∷ texts ≡ codes "u" ∷ decimal f1.n ∷ decimal f2.n ∷ decimal f3.n ∷ [] = cc in
    record {
      file = Unknown f1.n f2.n f3.n;
      ranges = both _ _ (both _ _ f1.within f2.within) f3.within;
      is = whole name word texts cut ∙ ap (join_with_byte 46) all;
    }

-- a word and a generation
one_number : HasSpelling 10 → (name word : List ℕ) (texts : List (List ℕ)) → cut_at_dots name ≡ word ∷ texts → are_decimals_in (generations ∷ []) texts ≡ true → (g : ℕ) × (is_in generations g ≡ true) × (name ≡ join_with_byte 46 (word ∷ decimal g ∷ []))
one_number s name word texts cut is =
    let (t, m, e, f, i) = a_field s generations [] texts is in
    let end : m ≡ [] = no_more m i in
    let d : t ≡ decimal f.n = f.is in
    let all : word ∷ texts ≡ word ∷ decimal f.n ∷ [] = cc in
    (f.n, f.within, whole name word texts cut ∙ ap (join_with_byte 46) all)

word_named : HasSpelling 10 → (name word : List ℕ) (texts : List (List ℕ)) → cut_at_dots name ≡ word ∷ texts → (bytes_eq word (codes "seal") || bytes_eq word (codes "head") || bytes_eq word (codes "r")) ≡ true → are_decimals_in (generations ∷ []) texts ≡ true → IsFileOrSeal name
word_named s name word texts cut words is =
    let (g, within, spelled) = one_number s name word texts cut is in
    elim (cases (bytes_eq word (codes "seal"))) [
      | inl seal ↦
          let w : word ≡ codes "seal" = (bytes_eq-Decides word (codes "seal")).0 seal in
          inr (record { g = g; range = within; is = spelled ∙ ap (λ x. join_with_byte 46 (x ∷ decimal g ∷ [])) w })
      | inr other ↦ elim (cases (bytes_eq word (codes "head"))) [
        | inl head ↦
            let w : word ≡ codes "head" = (bytes_eq-Decides word (codes "head")).0 head in
            inl (record { file = Head g; ranges = within; is = spelled ∙ ap (λ x. join_with_byte 46 (x ∷ decimal g ∷ [])) w })
        | inr third ↦
            let segment : bytes_eq word (codes "r") ≡ true = rw (other, third) at words in
            let w : word ≡ codes "r" = (bytes_eq-Decides word (codes "r")).0 segment in
            inl (record { file = Segment g; ranges = within; is = spelled ∙ ap (λ x. join_with_byte 46 (x ∷ decimal g ∷ [])) w })
      ]
    ]

form_named : HasSpelling 10 → (name word : List ℕ) (texts : List (List ℕ)) → cut_at_dots name ≡ word ∷ texts → is_form (word ∷ texts) ≡ true → IsFileOrSeal name
form_named s name word texts cut is = elim (cases (bytes_eq word (codes "p"))) [
  | inl known ↦
      let numbers : are_decimals_in (epochs ∷ images ∷ events ∷ generations ∷ []) texts ≡ true = rw known at is in
      inl (known_named s name word texts cut ((bytes_eq-Decides word (codes "p")).0 known) numbers)
  | inr other ↦ elim (cases (bytes_eq word (codes "u"))) [
    | inl unknown ↦
        let numbers : are_decimals_in (epochs ∷ events ∷ generations ∷ []) texts ≡ true = rw (other, unknown) at is in
        inl (unknown_named s name word texts cut ((bytes_eq-Decides word (codes "u")).0 unknown) numbers)
    | inr third ↦
        let rest : ((bytes_eq word (codes "seal") || bytes_eq word (codes "head") || bytes_eq word (codes "r")) && are_decimals_in (generations ∷ []) texts) ≡ true = rw (other, third) at is in
        word_named s name word texts cut (and_first _ _ rest) (and_second _ _ rest)
  ]
]

pub named : HasSpelling 10 → (name : List ℕ) → is_file_name name ≡ true → IsFileOrSeal name
named s name is = by_fields (cut_at_dots name) refl is
  where
    by_fields : (fields : List (List ℕ)) → cut_at_dots name ≡ fields → is_form fields ≡ true → IsFileOrSeal name
    by_fields [] cut form = absurd cc
    by_fields (word ∷ texts) cut form = form_named s name word texts cut form
