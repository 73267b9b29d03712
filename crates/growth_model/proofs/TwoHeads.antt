-- The heads of the run of two epochs: a row for each epoch, of the generation that wrote it.
use Rattle.std.proofs.Common.{◌≡◌, inl, inr, ℕ, ◌+◌, ◌<◌, ◌==◌, ◌&&◌, List, [], ◌∷◌, refl, sym, ◌∙◌, ap, arith, Bool, true, false, Some, None, Option, cond}
use Rattle.std.specs.Prelude.{if◌then◌else◌}
use Rattle.std.specs.Str.{bytes_eq}
use Rattle.std.proofs.lemmas.Bool.Decides.{nat_tests}
use Rattle.std.proofs.lemmas.Slice.Eq.{bytes_eq-Decides}
use Rattle.image_catalog.specs.Images.{place_of}
use Rattle.trace_model.specs.Streams.{records_in}
use Rattle.database_state.specs.Heads.{Head, empty_head, row_count}
use Rattle.database_state.specs.declared.rows.KnownRow.{KnownRow}
use Rattle.growth_model.specs.Fitting.{IsCountedAt, RowGrows, known_written, HeadGrows, HeadGrowsTo}
use Rattle.growth_model.proofs.Rows.{epochs, epochs_kept, image_a, part_adds, first_segment, second_segment}
use Rattle.growth_model.proofs.TwoEpochs.{adds_one, is_here, first_names, second_names}

abbrev row : ℕ → ℕ → KnownRow
row epoch generation = record { epoch = epoch; image = 0; event = 0; g = generation }

abbrev head_after_first : Head
head_after_first = record { generation = 1; epoch = 1; runs = 1; names = image_a ∷ []; known = row 0 1 ∷ []; unknown = [] }

abbrev head_after_both : Head
head_after_both =
    record { generation = 2; epoch = 1; runs = 1; names = image_a ∷ []; known = row 0 1 ∷ row 1 2 ∷ []; unknown = [] }

-- two profiles and two segments
four_rows : row_count head_after_both ≡ 4
four_rows = refl

counted_here : (in_epoch is other : Bool) (offset : ℕ) → 0 < adds_one in_epoch (is && other) offset
    → (in_epoch ≡ true) × (is ≡ true) × (other ≡ true)
counted_here true true true offset some = (refl, refl, refl)
counted_here false is other offset some = absurd (omega arith)
counted_here true false other offset some = absurd (omega arith)
counted_here true true false offset some = absurd (omega arith)

-- what has a count is of the image's cycles
place_is : (image event : ℕ) (name : List ℕ) (in_epoch : Bool) (offset : ℕ) → place_of name (image_a ∷ []) ≡ Some image
    → 0 < adds_one in_epoch (is_here name event) offset → (in_epoch ≡ true) × ((image == 0) ≡ true) × ((event == 0) ≡ true)
place_is image event name in_epoch offset number some =
    let here = counted_here in_epoch (bytes_eq name image_a) (event == 0) offset some in
    let same : name ≡ image_a = (bytes_eq-Decides name image_a).0 here.1 in
    let held : place_of name (image_a ∷ []) ≡ Some 0 = ap (λ (z : List ℕ). place_of z (image_a ∷ [])) same in
    let both : Some 0 ≡ Some image = sym held ∙ number in
    let at : image ≡ 0 = cc in
    (here.0, ap (λ (z : ℕ). z == 0) at, here.2)

not_all : (a b c : Bool) → (a && b && c) ≡ false → a ≡ true → b ≡ true → c ≡ true → ⊥
not_all true true true not x y z = cc
not_all true true false not x y z = cc
not_all true false c not x y z = cc
not_all false b c not x y z = cc

all_of : (a b c : Bool) → (a && b && c) ≡ true → (a ≡ true) × (b ≡ true) × (c ≡ true)
all_of true true true is = (refl, refl, refl)
all_of true true false is = absurd (cc)
all_of true false c is = absurd (cc)
all_of false b c is = absurd (cc)

equal : (a b : ℕ) → (a == b) ≡ true → a ≡ b
equal a b is = grind (arith, nat_tests)

some_there : (a b : Bool) → a ≡ true → b ≡ true → 0 < adds_one a b 0
some_there true true x y = omega arith
some_there true false x y = absurd (cc)
some_there false b x y = absurd (cc)

never : (in_epoch : Bool) → 0 < (if in_epoch then 0 else 0) + 0 → ⊥
never true some = omega arith
never false some = omega arith

first_row : (e image event : ℕ) (here : Bool) → (e == 0 && image == 0 && event == 0) ≡ here
    → RowGrows (IsCountedAt (part_adds epochs epochs_kept 0) (image_a ∷ []) e image event) (known_written e image event 1)
    None (cond here (Some (row 0 1)) None)
first_row e image event true is =
    let all = all_of (e == 0) (image == 0) (event == 0) is in
    let at_epoch : e ≡ 0 = equal e 0 all.0 in
    let at_image : image ≡ 0 = equal image 0 all.1 in
    let at_event : event ≡ 0 = equal event 0 all.2 in
    inl (
      record {
        name = image_a;
        number = ap {B = Option ℕ} (λ (z : ℕ). Some z) (sym at_image);
        counted = record { offset = 0; some = some_there (e == 0) (event == 0) all.0 all.2 };
      },
      λ i. Some (known_written (sym at_epoch i) (sym at_image i) (sym at_event i) 1),
    )
first_row e image event false not = inr (
  λ is.
      let place = place_is image event is.name (e == 0) is.counted.offset is.number is.counted.some in
      not_all (e == 0) (image == 0) (event == 0) not place.0 place.1 place.2,
  refl,
)

second_row : (e image event : ℕ) (before here : Bool) → (e == 0 && image == 0 && event == 0) ≡ before
    → (e == 1 && image == 0 && event == 0) ≡ here
    → RowGrows (IsCountedAt (part_adds epochs epochs_kept 1) (image_a ∷ []) e image event) (known_written e image event 2)
    (cond before (Some (row 0 1)) None) (cond before (Some (row 0 1)) (cond here (Some (row 1 2)) None))
second_row e image event true here was is = inr (
  λ counted.
      let place = place_is image event counted.name (e == 1) counted.counted.offset counted.number counted.counted.some in
      let first : e ≡ 0 = equal e 0 (all_of (e == 0) (image == 0) (event == 0) was).0 in
      let second : e ≡ 1 = equal e 1 place.0 in
      omega arith,
  refl,
)
second_row e image event false true was is =
    let all = all_of (e == 1) (image == 0) (event == 0) is in
    let at_epoch : e ≡ 1 = equal e 1 all.0 in
    let at_image : image ≡ 0 = equal image 0 all.1 in
    let at_event : event ≡ 0 = equal event 0 all.2 in
    inl (
      record {
        name = image_a;
        number = ap {B = Option ℕ} (λ (z : ℕ). Some z) (sym at_image);
        counted = record { offset = 0; some = some_there (e == 1) (event == 0) all.0 all.2 };
      },
      λ i. Some (known_written (sym at_epoch i) (sym at_image i) (sym at_event i) 2),
    )
second_row e image event false false was not = inr (
  λ is.
      let place = place_is image event is.name (e == 1) is.counted.offset is.number is.counted.some in
      not_all (e == 1) (image == 0) (event == 0) not place.0 place.1 place.2,
  refl,
)

first_head : HeadGrows (image_a ∷ []) (part_adds epochs epochs_kept 0) 1 first_segment empty_head head_after_first
first_head = record {
  generation = refl;
  last_epoch = refl;
  runs = refl;
  more = image_a ∷ [];
  names = refl;
  chosen = first_names;
  known_order = refl;
  unknown_order = refl;
  known = λ e image event. first_row e image event (e == 0 && image == 0 && event == 0) refl;
  unknown = λ e event. inr (λ is. never (e == 0) is.some, refl);
}

second_head : HeadGrows (image_a ∷ []) (part_adds epochs epochs_kept 1) 1 second_segment head_after_first head_after_both
second_head = record {
  generation = refl;
  last_epoch = refl;
  runs = refl;
  more = [];
  names = refl;
  chosen = second_names;
  known_order = refl;
  unknown_order = refl;
  known = λ e image event.
      second_row e image event (e == 0 && image == 0 && event == 0) (e == 1 && image == 0 && event == 0) refl refl;
  unknown = λ e event. inr (λ is. never (e == 1) is.some, refl);
}

heads : HeadGrowsTo (image_a ∷ []) (records_in epochs) epochs_kept 2 empty_head head_after_both
heads = (head_after_first, (empty_head, refl, first_head), second_head)
