-- The run of two epochs, worked out whole: the database to which it grows, from an empty one.
use Rattle.std.proofs.Common.{◌≡◌, ℕ, ◌+◌, ◌<◌, ◌==◌, ◌&&◌, List, [], ◌∷◌, refl, sym, ◌∙◌, ap, arith, Bool, true, false, Some, None}
use Rattle.std.specs.Prelude.{if◌then◌else◌}
use Rattle.std.specs.Str.{bytes_eq}
use Rattle.std.proofs.lemmas.Bool.Decides.{nat_tests}
use Rattle.std.proofs.lemmas.Slice.Eq.{bytes_eq-Decides}
use Rattle.image_catalog.specs.Images.{place_of}
use Rattle.trace_model.specs.Streams.{records_in}
use Rattle.database_model.specs.declared.profiles.ProfileRow.{ProfileRow}
use Rattle.database_model.specs.Ranges.{AreRows}
use Rattle.database_state.specs.Database.{Database, empty_database}
use Rattle.growth_model.specs.Growth.{IsGrown, IsNewName, Selects, GrowsByPart, count_at}
use Rattle.growth_model.specs.Grown.{Grown}
use Rattle.growth_model.proofs.Rows.{epochs, epochs_kept, image_a, part_adds, first_segment, second_segment}

-- one sample at the start of the image
abbrev one_row : List ProfileRow
one_row = record { offset = 0; count = 1 } ∷ []

abbrev if_here : Bool → List ProfileRow
if_here true = one_row
if_here false = []

-- the profile of the image's cycles
abbrev pub is_here : List ℕ → ℕ → Bool
is_here name event = bytes_eq name image_a && event == 0

abbrev after_first : Database
after_first = record {
  last_epoch = 1;
  runs = 1;
  names = image_a ∷ [];
  known = λ epoch name event. Some (if epoch == 0 then if_here (is_here name event) else []);
  unknown = λ epoch event. Some [];
  segments = Some first_segment ∷ [];
}

abbrev after_both : Database
after_both = record {
  last_epoch = 1;
  runs = 1;
  names = image_a ∷ [];
  known = λ epoch name event.
      Some (if epoch == 0 then if_here (is_here name event) else (if epoch == 1 then if_here (is_here name event) else []));
  unknown = λ epoch event. Some [];
  segments = Some first_segment ∷ Some second_segment ∷ [];
}

-- what the one entry of a drain adds
abbrev pub adds_one : Bool → Bool → ℕ → ℕ
adds_one in_epoch here offset = (if in_epoch then (if here && offset == 0 then 1 else 0) + 0 else 0) + 0

are_rows : AreRows one_row
are_rows = (omega arith, omega arith, record { aligned = refl; some = omega arith; most = omega arith }, tt)

counts_one : (offset : ℕ) → count_at one_row offset ≡ 0 + adds_one true true offset
counts_one offset = grind (arith, nat_tests)

first_grown : (in_epoch here : Bool) → IsGrown (adds_one in_epoch here) (Some []) (Some (if in_epoch then if_here here else []))
first_grown false here = ([], refl, record { are_rows = tt; counts = λ offset. refl })
first_grown true false = ([], refl, record { are_rows = tt; counts = λ offset. refl })
first_grown true true = (one_row, refl, record { are_rows = are_rows; counts = counts_one })

second_grown : (in_first in_second here : Bool) → (in_first ≡ true → in_second ≡ true → ⊥)
    → IsGrown (adds_one in_second here) (Some (if in_first then if_here here else []))
    (Some (if in_first then if_here here else (if in_second then if_here here else [])))
second_grown true true here apart = absurd (apart refl refl)
second_grown true false true apart = (one_row, refl, record { are_rows = are_rows; counts = λ offset. omega arith })
second_grown true false false apart = ([], refl, record { are_rows = tt; counts = λ offset. refl })
second_grown false in_second here apart = first_grown in_second here

no_unknown : (in_epoch : Bool) → IsGrown (λ pc. (if in_epoch then 0 else 0) + 0) (Some []) (Some [])
no_unknown true = ([], refl, record { are_rows = tt; counts = λ offset. refl })
no_unknown false = ([], refl, record { are_rows = tt; counts = λ offset. refl })

some_added : (is : Bool) → is ≡ true → 0 < adds_one true (is && true) 0
some_added true same = omega arith
some_added false same = absurd (cc)

none_added : (in_epoch is other : Bool) (offset : ℕ) → is ≡ false → 0 < adds_one in_epoch (is && other) offset → ⊥
none_added false is other offset not some = omega arith
none_added true false other offset not some = omega arith
none_added true true other offset not some = cc

pub first_names : Selects (IsNewName [] (part_adds epochs epochs_kept 0)) (image_a ∷ []) (image_a ∷ [])
first_names = record {
  test = λ name. bytes_eq name image_a;
  holds = λ name is. record {
    fresh = refl;
    epoch = 0;
    event = 0;
    counted = record { offset = 0; some = some_added (bytes_eq name image_a) is };
  };
  fails = λ name not new.
      none_added (new.epoch == 0) (bytes_eq name image_a) (new.event == 0) new.counted.offset not new.counted.some;
  list = refl;
}

held_twice : (name : List ℕ) (is : Bool) → bytes_eq name image_a ≡ is
    → IsNewName (image_a ∷ []) (part_adds epochs epochs_kept 1) name → ⊥
held_twice name true is new =
    let same : name ≡ image_a = (bytes_eq-Decides name image_a).0 is in
    let held : place_of name (image_a ∷ []) ≡ Some 0 = ap (λ (z : List ℕ). place_of z (image_a ∷ [])) same in
    let none : Some 0 ≡ None = sym held ∙ new.fresh in
    absurd (cc)
held_twice name false is new =
    none_added (new.epoch == 1) (bytes_eq name image_a) (new.event == 0) new.counted.offset is new.counted.some

pub second_names : Selects (IsNewName (image_a ∷ []) (part_adds epochs epochs_kept 1)) (image_a ∷ []) []
second_names = record {
  test = λ name. false;
  holds = λ name is. absurd (cc);
  fails = λ name not new. held_twice name (bytes_eq name image_a) refl new;
  list = refl;
}

apart_epochs : (epoch : ℕ) → (epoch == 0) ≡ true → (epoch == 1) ≡ true → ⊥
apart_epochs epoch first second = grind (arith, nat_tests)

first_part : GrowsByPart (image_a ∷ []) (records_in epochs) 1 first_segment empty_database after_first
first_part = record {
  last_epoch = refl;
  runs = refl;
  more = image_a ∷ [];
  names = refl;
  chosen = first_names;
  known = λ epoch name event. first_grown (epoch == 0) (is_here name event);
  unknown = λ epoch event. no_unknown (epoch == 0);
  segments = refl;
}

second_part : GrowsByPart (image_a ∷ []) (records_in epochs) 1 second_segment after_first after_both
second_part = record {
  last_epoch = refl;
  runs = refl;
  more = [];
  names = refl;
  chosen = second_names;
  known = λ epoch name event. second_grown (epoch == 0) (epoch == 1) (is_here name event) (apart_epochs epoch);
  unknown = λ epoch event. no_unknown (epoch == 1);
  segments = refl;
}

grown : Grown (image_a ∷ []) (records_in epochs) epochs_kept 2 empty_database after_both
grown = record {
  within = omega arith;
  run = λ some. refl;
  first_epoch = λ some. refl;
  steps = (after_first, (empty_database, refl, first_part), second_part);
}
