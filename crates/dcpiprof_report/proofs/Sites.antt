-- What a database holds under a label is what the rows of its head count.
use Rattle.std.proofs.Common.{arith, ◌≡◌, ℕ, ◌+◌, ◌<◌, ◌≤◌, zero, suc, ◌&&◌, Bool, true, false, cond, eqb, List, [], ◌∷◌, None, Some, Option, length, get_or, refl, sym, ap, ◌∙◌, subst, ⊎_elim}
use Rattle.std.specs.Prelude.{find, sum_by, nat_le, nat_lt}
use Rattle.std.specs.declared.cmp.Ordering.{Ordering}
use Rattle.std.specs.declared.cmp.Ordering.TheVariants.{Less, Equal, Greater}
use Rattle.std.specs.Ordering.{is_eq, nat_cmp, ordering_then}
use Rattle.std.specs.Cmp.Lexicographic.{slice_cmp}
use Rattle.std.specs.List.{AllByRecursion, IsDistinct, list_all, list_any}
use Rattle.std.specs.Str.{bytes_eq}
use Rattle.std.proofs.lemmas.Bool.{cases_Bool, cases_eq, cases_lt, and_parts, or_parts}
use Rattle.std.proofs.lemmas.Cmp.{alike_right}
use Rattle.std.proofs.lemmas.List.Quantifiers.{position-Some}
use Rattle.std.proofs.lemmas.List.Sums.{sum_by-cons}
use Rattle.std.proofs.lemmas.Map.Keys.{apart_from_distinct}
use Rattle.std.proofs.lemmas.Map.Text.{is_eq-slice_cmp}
use Rattle.std.proofs.lemmas.Slice.Eq.{bytes_eq-Decides}
use Rattle.store_io.specs.Files.{Files}
use Rattle.image_catalog.specs.Images.{place_of, text_at}
use Rattle.image_catalog.proofs.Places.{absent}
use Rattle.symbol_ranges.specs.declared.symbols.Symbol.{Symbol}
use Rattle.database_model.specs.declared.profiles.ProfileRow.{ProfileRow}
use Rattle.database_state.specs.declared.rows.KnownRow.{KnownRow}
use Rattle.database_state.specs.declared.rows.UnknownRow.{UnknownRow}
use Rattle.database_state.specs.Rows.{known_before, known_same, known_place, known_row, known_ref, unknown_before, unknown_same, unknown_place, unknown_row, is_before_first, is_rising, is_known_row, is_unknown_row}
use Rattle.database_state.specs.Heads.{Head, IsHead, row_count, empty_head}
use Rattle.database_state.specs.Updates.{at_image}
use Rattle.database_state.specs.Standing.{HaveHead, database_of, known_at, unknown_at}
use Rattle.database_state.specs.Orders.{IsOrder}
use Rattle.epoch_store.proofs.Order.{and_first, and_second}
use Rattle.database_state.proofs.RowOrders.{known_order, none_before, unknown_order}
use Rattle.report_text.specs.declared.epochs.Epochs.{Epochs}
use Rattle.report_text.specs.declared.labels.Label.{Label}
use Rattle.report_text.specs.declared.labels.Label.TheVariants.{Unknown}
use Rattle.report_text.specs.Labels.{image_of, last_of, same_label}
use Rattle.report_text.specs.Orders.{label_total}
use Rattle.dcpiprof_report.specs.Counting.{counted, counted_where, label_at, titled, name_in, rows_or_none, sum_over}
use Rattle.dcpiprof_report.specs.Reading.{is_chosen}
use Rattle.dcpiprof_report.specs.Sums.{KeepsTies, Counts, held, known_count, known_counts, unknown_counts, told_rows}
use Rattle.dcpiprof_report.proofs.EpochSums.{AreApart, over_rows, over_add, over_zero}

-- ---- labels and images

pub same_keeps_ties : (label : Label) → KeepsTies (same_label label)
same_keeps_ties label = λ a b is. ap is_eq (alike_right label_total a b label is)

image_is : (symbols : Option (List Symbol)) (image : List ℕ) (name : Option (List ℕ)) → image_of (titled symbols image name) ≡ image
image_is None image name = refl
image_is (Some symbols) image None = refl
image_is (Some symbols) image (Some name) = refl

last_is : (symbols : Option (List Symbol)) (image : List ℕ) (name : Option (List ℕ)) → last_of (titled symbols image name) ≡ 0
last_is None image name = refl
last_is (Some symbols) image None = refl
last_is (Some symbols) image (Some name) = refl

tied_parts : (a b c : Ordering) → is_eq (ordering_then a (ordering_then b c)) ≡ true → is_eq b ≡ true
tied_parts Less b c h = cc
tied_parts Equal Less c h = cc
tied_parts Equal Equal c h = refl
tied_parts Equal Greater c h = cc
tied_parts Greater b c h = cc

not_both : {P : Type 0} (b : Bool) → b ≡ true → b ≡ false → P
not_both b one other = absurd (wrong (sym one ∙ other))
  where
    wrong : true ≡ false → ⊥
    wrong h = cc

-- labels of one kind are of one image
other_image : (label other : Label) → bytes_eq (image_of other) (image_of label) ≡ false → same_label label other ≡ false
other_image label other apart = ⊎_elim
    (λ tied.
    let images : bytes_eq (image_of label) (image_of other) ≡ true = sym (is_eq-slice_cmp (image_of label) (image_of other)) ∙ tied_parts (nat_cmp (last_of label) (last_of other)) (slice_cmp nat_cmp (image_of label) (image_of other)) _ tied in
    let is : image_of label ≡ image_of other = (bytes_eq-Decides (image_of label) (image_of other)).0 images in
    not_both (bytes_eq (image_of other) (image_of label)) ((bytes_eq-Decides (image_of other) (image_of label)).1 (sym is)) apart)
    (λ not_so. not_so)
    (cases_Bool (same_label label other))

-- a profile of another image counts nothing under a label
counts_none : (label : Label) (label_of : ℕ → Label) (rows : List ProfileRow) → ((offset : ℕ) → same_label label (label_of offset) ≡ false) → counted_where (same_label label) label_of rows ≡ 0
counts_none label label_of [] none = refl
counts_none label label_of (row ∷ rows) none =
    let here : cond (same_label label (label_of row.offset)) row.count 0 ≡ 0 = rw (none row.offset) refl in
    let rest = counts_none label label_of rows none in
    omega (arith, sum_by-cons (λ (r : ProfileRow). cond (same_label label (label_of r.offset)) r.count 0) row rows)

other_counts_none : (label : Label) (symbols : Option (List Symbol)) (image : List ℕ) (rows : List ProfileRow) → bytes_eq image (image_of label) ≡ false → counted_where (same_label label) (label_at symbols image) rows ≡ 0
other_counts_none label symbols image rows apart =
    counts_none label (label_at symbols image) rows (λ offset. other_image label (label_at symbols image offset) (rw (image_is symbols image (name_in symbols image offset)) apart))

-- ---- the numbers of images

pub none_at : {X : Type 0} (p : X → Bool) (xs : List X) (m : ℕ) (d : X) → list_any p xs ≡ false → m < length xs → p (get_or xs m d) ≡ false
none_at p [] m d none within = absurd (omega arith)
none_at p (x ∷ xs) zero d none within = (or_parts (p x) (list_any p xs) none).0
none_at p (x ∷ xs) (suc m) d none within = none_at p xs m d (or_parts (p x) (list_any p xs) none).1 (omega arith)

all_at : {X : Type 0} (p : X → Bool) (xs : List X) (m : ℕ) (d : X) → list_all p xs ≡ true → m < length xs → p (get_or xs m d) ≡ true
all_at p [] m d all within = absurd (omega arith)
all_at p (x ∷ xs) zero d all within = (and_parts (p x) (list_all p xs) all).0
all_at p (x ∷ xs) (suc m) d all within = all_at p xs m d (and_parts (p x) (list_all p xs) all).1 (omega arith)

-- a name that has no number is that of no image
not_named : (names : List (List ℕ)) (name : List ℕ) (m : ℕ) → place_of name names ≡ None → m < length names → bytes_eq (text_at names m) name ≡ false
not_named names name m none within = none_at (λ held. bytes_eq held name) names m [] (absent name names none) within

differ : (names : List (List ℕ)) (name : List ℕ) (a b : ℕ) → IsDistinct bytes_eq names → a < b → b < length names → bytes_eq (text_at names a) name ≡ true → bytes_eq (text_at names b) name ≡ false
differ names name a b apart less within here = ⊎_elim
    (λ also.
    let one : text_at names a ≡ name = (bytes_eq-Decides (text_at names a) name).0 here in
    let two : text_at names b ≡ name = (bytes_eq-Decides (text_at names b) name).0 also in
    not_both (bytes_eq (text_at names a) (text_at names b)) ((bytes_eq-Decides (text_at names a) (text_at names b)).1 (one ∙ sym two)) (apart_from_distinct bytes_eq names a b [] apart less within))
    (λ not_so. not_so)
    (cases_Bool (bytes_eq (text_at names b) name))

-- the image of a number has the name exactly where it is the name's number
is_named : (names : List (List ℕ)) (name : List ℕ) (n m : ℕ) → IsDistinct bytes_eq names → place_of name names ≡ Some n → m < length names → eqb n m ≡ bytes_eq (text_at names m) name
is_named names name n m apart place within =
    let found = position-Some (λ held. bytes_eq held name) names n [] place in
    ⊎_elim
    (λ is. let same : eqb n m ≡ true = grind arith in same ∙ sym (ap (λ k. bytes_eq (text_at names k) name) (sym is) ∙ found.1))
    (λ other.
    let apart_is : eqb n m ≡ false = grind arith in
    apart_is ∙ sym (⊎_elim
    (λ before. not_first m before (found.2 m before))
    (λ after. differ names name n m apart (omega arith) within found.1)
    (cases_lt m n)))
    (cases_eq n m)
  where
    not_first : (m : ℕ) → m < n → bytes_eq (get_or names m []) name ≡ false → bytes_eq (text_at names m) name ≡ false
    not_first m before is_not = is_not

-- ---- rows of a head

-- the row of a place is the first one of it
pub find_later : {R : Type 0} {before same : R → R → Bool} → IsOrder before same → (p x : R) (rows : List R) → same p x ≡ true → is_before_first before x rows ≡ true → is_rising before rows ≡ true → find (same p) rows ≡ None
find_later {R} {before} {same} order p x rows is first rising =
    let tests : same p ≡ same x = λ i y. order.joins p x y is i in
    ap (λ (t : R → Bool). find t rows) tests ∙ none_before order x rows first rising

known_apart : (image event : ℕ) (rows : List KnownRow) → is_rising known_before rows ≡ true → AreApart (λ e row. known_same (known_place e image event) row) rows
known_apart image event [] rising = tt
known_apart image event (row ∷ rows) rising = (
  λ e is. find_later known_order (known_place e image event) row rows is (and_first (is_before_first known_before row rows) (is_rising known_before rows) rising) (and_second (is_before_first known_before row rows) (is_rising known_before rows) rising),
  known_apart image event rows (and_second (is_before_first known_before row rows) (is_rising known_before rows) rising),
)

unknown_apart : (event : ℕ) (rows : List UnknownRow) → is_rising unknown_before rows ≡ true → AreApart (λ e row. unknown_same (unknown_place e event) row) rows
unknown_apart event [] rising = tt
unknown_apart event (row ∷ rows) rising = (
  λ e is. find_later unknown_order (unknown_place e event) row rows is (and_first (is_before_first unknown_before row rows) (is_rising unknown_before rows) rising) (and_second (is_before_first unknown_before row rows) (is_rising unknown_before rows) rising),
  unknown_apart event rows (and_second (is_before_first unknown_before row rows) (is_rising unknown_before rows) rising),
)

three_and : (a b c : Bool) → (a && b && c) ≡ (a && (b && c))
three_and false b c = refl
three_and true b c = refl

-- what a row is within
abbrev pub Within : Head → KnownRow → Type 0
Within head row = (row.epoch ≤ head.epoch) × (row.image < length head.names)

five_parts : (a b c d e : Bool) → (a && b && c && d && e) ≡ true → (a ≡ true) × (b ≡ true)
five_parts true true c d e h = (refl, refl)
five_parts true false c d e h = cc
five_parts false b c d e h = cc

all_within : (epoch images generation : ℕ) (rows : List KnownRow) → list_all (is_known_row epoch images generation) rows ≡ true → AllByRecursion (λ (row : KnownRow). (row.epoch ≤ epoch) × (row.image < images)) rows
all_within epoch images generation [] all = tt
all_within epoch images generation (row ∷ rows) all =
    let parts = and_parts (is_known_row epoch images generation row) (list_all (is_known_row epoch images generation) rows) all in
    let first = five_parts (nat_le row.epoch epoch) (nat_lt row.image images) _ _ _ parts.0 in
    ((grind (arith, first.0), grind (arith, first.1)), all_within epoch images generation rows parts.1)

four_parts : (a b c d : Bool) → (a && b && c && d) ≡ true → a ≡ true
four_parts true b c d h = refl
four_parts false b c d h = cc

unknown_within : (epoch generation : ℕ) (rows : List UnknownRow) → list_all (is_unknown_row epoch generation) rows ≡ true → AllByRecursion (λ (row : UnknownRow). row.epoch ≤ epoch) rows
unknown_within epoch generation [] all = tt
unknown_within epoch generation (row ∷ rows) all =
    let parts = and_parts (is_unknown_row epoch generation row) (list_all (is_unknown_row epoch generation) rows) all in
    let first = four_parts (nat_le row.epoch epoch) _ _ _ parts.0 in
    (grind (arith, first), unknown_within epoch generation rows parts.1)

-- ---- what the rows count

-- what a known row counts under a label: nothing where it is of another image
row_counts : (b chosen wanted : Bool) (x y : ℕ) → (b ≡ true → x ≡ y) → (b ≡ false → y ≡ 0) → cond (chosen && (b && wanted)) x 0 ≡ cond (chosen && wanted) y 0
row_counts true true wanted x y same none = ap (λ n. cond wanted n 0) (same refl)
row_counts true false wanted x y same none = refl
row_counts false true wanted x y same none = sym (both_zero wanted y (none refl))
  where
    both_zero : (t : Bool) (n : ℕ) → n ≡ 0 → cond t n 0 ≡ 0
    both_zero true n is = is
    both_zero false n is = refl
row_counts false false wanted x y same none = refl

-- what is known of the rows of a head
pub record Sound (head : Head) : Type 0 where
  pub known_rising : is_rising known_before head.known ≡ true
  pub unknown_rising : is_rising unknown_before head.unknown ≡ true
  pub known_within : AllByRecursion (Within head) head.known
  pub unknown_within : AllByRecursion (λ (row : UnknownRow). row.epoch ≤ head.epoch) head.unknown
  pub images : IsDistinct bytes_eq head.names

empty_sound : Sound empty_head
unfolding IsDistinct
empty_sound = record { known_rising = refl; unknown_rising = refl; known_within = tt; unknown_within = tt; images = tt }

-- seven tests hold, so the last four do
pub last_four : (a b c d e f g : Bool) → (a && b && c && d && e && f && g) ≡ true → (d ≡ true) × (e ≡ true) × (f ≡ true) × (g ≡ true)
last_four true true true true true true true h = (refl, refl, refl, refl)
last_four true true true true true true false h = cc
last_four true true true true true false g h = cc
last_four true true true true false f g h = cc
last_four true true true false e f g h = cc
last_four true true false d e f g h = cc
last_four true false c d e f g h = cc
last_four false b c d e f g h = cc

of_head : (head : Head) → IsHead head → Sound head
of_head head is =
    let parts = last_four (nat_le head.epoch head.generation) (nat_le head.runs head.generation) (nat_le (row_count head) 65536) (list_all (is_known_row head.epoch (length head.names) head.generation) head.known) (is_rising known_before head.known) (list_all (is_unknown_row head.epoch head.generation) head.unknown) (is_rising unknown_before head.unknown) is.range in
    record {
      known_rising = parts.1;
      unknown_rising = parts.3;
      known_within = all_within head.epoch (length head.names) head.generation head.known parts.0;
      unknown_within = unknown_within head.epoch head.generation head.unknown parts.2;
      images = is.images.apart;
    }

sound : (files : Files) (head : Head) → HaveHead files head → Sound head
sound files head have = ⊎_elim
    (λ none. subst Sound (sym (have.fresh none)) empty_sound)
    (λ some. of_head head (have.sealed (above head.generation some)).1)
    (cases_eq head.generation 0)
  where
    above : (n : ℕ) → (n ≡ 0 → ⊥) → 0 < n
    above zero some = absurd (some refl)
    above (suc n) some = omega arith

epochs_within : (last images : ℕ) (rows : List KnownRow) → AllByRecursion (λ (row : KnownRow). (row.epoch ≤ last) × (row.image < images)) rows → AllByRecursion (λ (row : KnownRow). row.epoch ≤ last) rows
epochs_within last images [] all = tt
epochs_within last images (row ∷ rows) all = (all.0.0, epochs_within last images rows all.1)

images_within : (last images : ℕ) (rows : List KnownRow) → AllByRecursion (λ (row : KnownRow). (row.epoch ≤ last) × (row.image < images)) rows → AllByRecursion (λ (row : KnownRow). row.image < images) rows
images_within last images [] all = tt
images_within last images (row ∷ rows) all = (all.0.1, images_within last images rows all.1)

module _ (files : Files) (symbols : Option (List Symbol)) (epochs : Epochs) (event : ℕ) (label : Label) where
  -- what the rows of a file count under the label, taken to be of its image
  abbrev of_file : Option (List ProfileRow) → ℕ
  of_file rows = counted_where (same_label label) (label_at symbols (image_of label)) (rows_or_none rows)

  known_row_counts : (names : List (List ℕ)) (row : KnownRow) → known_count files names symbols epochs event (same_label label) row
      ≡ cond (is_chosen epochs row.epoch && (bytes_eq (text_at names row.image) (image_of label) && eqb event row.event)) (counted_where (same_label label) (label_at symbols (image_of label)) (told_rows files (known_ref row))) 0
  known_row_counts names row =
      let image = text_at names row.image in
      let told = told_rows files (known_ref row) in
      sym (row_counts (bytes_eq image (image_of label)) (is_chosen epochs row.epoch) (eqb event row.event)
      (counted_where (same_label label) (label_at symbols (image_of label)) told) (counted_where (same_label label) (label_at symbols image) told)
      (λ is. ap (λ (name : List ℕ). counted_where (same_label label) (label_at symbols name) told) (sym ((bytes_eq-Decides image (image_of label)).0 is)))
      (λ other. other_counts_none label symbols image told other))

  known_sum : (names : List (List ℕ)) (n : ℕ) (rows : List KnownRow) → IsDistinct bytes_eq names → place_of (image_of label) names ≡ Some n → AllByRecursion (λ (row : KnownRow). row.image < length names) rows
      → sum_by (λ (row : KnownRow). cond (is_chosen epochs row.epoch && (eqb n row.image && eqb event row.event)) (counted_where (same_label label) (label_at symbols (image_of label)) (told_rows files (known_ref row))) 0) rows
      ≡ sum_by (known_count files names symbols epochs event (same_label label)) rows
  known_sum names n [] apart place within = refl
  known_sum names n (row ∷ rows) apart place within =
      let told = counted_where (same_label label) (label_at symbols (image_of label)) (told_rows files (known_ref row)) in
      let here = ap (λ b. cond (is_chosen epochs row.epoch && (b && eqb event row.event)) told 0) (is_named names (image_of label) n row.image apart place within.0) ∙ sym (known_row_counts names row) in
      let rest = known_sum names n rows apart place within.1 in
      let first = sum_by-cons (λ (r : KnownRow). cond (is_chosen epochs r.epoch && (eqb n r.image && eqb event r.event)) (counted_where (same_label label) (label_at symbols (image_of label)) (told_rows files (known_ref r))) 0) row rows in
      let second = sum_by-cons (known_count files names symbols epochs event (same_label label)) row rows in
      omega (arith, here, rest, first, second)

  known_none : (names : List (List ℕ)) (rows : List KnownRow) → place_of (image_of label) names ≡ None → AllByRecursion (λ (row : KnownRow). row.image < length names) rows → sum_by (known_count files names symbols epochs event (same_label label)) rows ≡ 0
  known_none names [] place within = refl
  known_none names (row ∷ rows) place within =
      let told = counted_where (same_label label) (label_at symbols (image_of label)) (told_rows files (known_ref row)) in
      let other = not_named names (image_of label) row.image place within.0 in
      let here : known_count files names symbols epochs event (same_label label) row ≡ 0 = known_row_counts names row ∙ ap (λ b. cond (is_chosen epochs row.epoch && (b && eqb event row.event)) told 0) other ∙ nothing (is_chosen epochs row.epoch) told in
      let rest = known_none names rows place within.1 in
      omega (arith, here, rest, sum_by-cons (known_count files names symbols epochs event (same_label label)) row rows)
    where
      nothing : (b : Bool) (n : ℕ) → cond (b && false) n 0 ≡ 0
      nothing true n = refl
      nothing false n = refl

  -- what the database has of the label's image, over the epochs that are asked for
  known_part : (head : Head) → Sound head → (place : Option ℕ) → place_of (image_of label) head.names ≡ place
      → sum_over epochs head.epoch (λ e. of_file (at_image place (λ image. known_at files (known_row head.known e image event)))) ≡ known_counts files head symbols epochs event (same_label label)
  known_part head sound None is =
      over_zero epochs head.epoch (λ e. of_file (Some [])) (λ e. refl) ∙ sym (known_none head.names head.known is (images_within head.epoch (length head.names) head.known sound.known_within))
  known_part head sound (Some n) is =
      let rows = head.known in
      let F : Option KnownRow → ℕ = λ o. of_file (known_at files o) in
      let fits : KnownRow → Bool = λ row. eqb n row.image && eqb event row.event in
      let tests : (λ (e : ℕ) (row : KnownRow). known_same (known_place e n event) row) ≡ (λ (e : ℕ) (row : KnownRow). eqb e row.epoch && fits row) =
      λ i e row. three_and (eqb e row.epoch) (eqb n row.image) (eqb event row.event) i in
      ap (λ (same : ℕ → KnownRow → Bool). sum_over epochs head.epoch (λ e. F (find (same e) rows))) tests
      ∙ over_rows epochs head.epoch (λ (row : KnownRow). row.epoch) fits F rows refl (epochs_within head.epoch (length head.names) rows sound.known_within) (subst (λ (same : ℕ → KnownRow → Bool). AreApart same rows) tests (known_apart n event rows sound.known_rising))
      ∙ known_sum head.names n rows sound.images is (images_within head.epoch (length head.names) rows sound.known_within)

  unknown_part : (head : Head) → Sound head → sum_over epochs head.epoch (λ e. counted_where (same_label label) (λ pc. Unknown) (rows_or_none (unknown_at files (unknown_row head.unknown e event)))) ≡ unknown_counts files head epochs event (same_label label)
  unknown_part head sound =
      let F : Option UnknownRow → ℕ = λ o. counted_where (same_label label) (λ pc. Unknown) (rows_or_none (unknown_at files o)) in
      over_rows epochs head.epoch (λ (row : UnknownRow). row.epoch) (λ (row : UnknownRow). eqb event row.event) F head.unknown refl sound.unknown_within (unknown_apart event head.unknown sound.unknown_rising)

  pub counted_is : (head : Head) → Sound head → counted (database_of head files) symbols epochs event label ≡ known_counts files head symbols epochs event (same_label label) + unknown_counts files head epochs event (same_label label)
  counted_is head sound =
      let known = known_part head sound (place_of (image_of label) head.names) refl in
      let unknown = unknown_part head sound in
      let split = over_add epochs head.epoch
      (λ e. of_file (at_image (place_of (image_of label) head.names) (λ image. known_at files (known_row head.known e image event))))
      (λ e. counted_where (same_label label) (λ pc. Unknown) (rows_or_none (unknown_at files (unknown_row head.unknown e event)))) in
      split ∙ added known unknown
    where
      added : {a b c d : ℕ} → a ≡ c → b ≡ d → a + b ≡ c + d
      added p q = rw (p, q) refl

-- the sums are what the database holds
pub holds : (files : Files) (head : Head) (symbols : Option (List Symbol)) (epochs : Epochs) (event : ℕ) (sums : List (Label × ℕ)) → HaveHead files head → Counts files head symbols epochs event sums → (label : Label) → held (same_label label) sums ≡ counted (database_of head files) symbols epochs event label
holds files head symbols epochs event sums have counts label = counts (same_label label) (same_keeps_ties label) ∙ sym (counted_is files symbols epochs event label head (sound files head have))
