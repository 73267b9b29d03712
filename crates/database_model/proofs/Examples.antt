-- The formats at worked examples, by computation alone.
use Rattle.std.proofs.Common.{◌≡◌, ◌^◌, true, false, [], ◌∷◌, Ok, Err, refl}
use Rattle.sample_key.specs.declared.events.Event.TheVariants.{Cycles, Imiss}
use Rattle.sample_key.specs.Counted.{entry}
use Rattle.var_bytes.specs.Reading.{read_form, field_at, number_at, wide_at}
use Rattle.database_model.specs.ProfileForm.{format1, row_form}
use Rattle.database_model.specs.SegmentForm.{segment, drain, processors, processor, loss_form, flagged_entry, key_at}
use Rattle.database_model.specs.Runs.{Drained}
use Rattle.database_model.specs.Tally.{tally_of, rows_of}

-- profiles
no_rows : read_form format1 (0x01 ∷ 0x00 ∷ []) ≡ Ok []
unfolding format1 row_form field_at number_at wide_at
no_rows = refl

one_row : read_form format1 (0x01 ∷ 0x01 ∷ 0x02 ∷ 0x03 ∷ []) ≡ Ok (record { offset = 8; count = 3 } ∷ [])
unfolding format1 row_form field_at number_at wide_at
one_row = refl

two_bytes : read_form format1 (0x01 ∷ 0x01 ∷ 0xff ∷ 0x07 ∷ 0x01 ∷ []) ≡ Ok (record { offset = 0xffc; count = 1 } ∷ [])
unfolding format1 row_form field_at number_at wide_at
two_bytes = refl

unknown_row : read_form format1 (0x01 ∷ 0x01 ∷ 0x80 ∷ 0x88 ∷ 0x01 ∷ 0x01 ∷ []) ≡ Ok (record { offset = 0x11000; count = 1 } ∷ [])
unfolding format1 row_form field_at number_at wide_at
unknown_row = refl

greatest_count : read_form format1 (0x01 ∷ 0x01 ∷ 0x01 ∷ 0x80 ∷ 0x80 ∷ 0x80 ∷ 0x80 ∷ 0x80 ∷ 0x80 ∷ 0x40 ∷ []) ≡ Ok (record { offset = 4; count = 2 ^ 48 } ∷ [])
unfolding format1 row_form field_at number_at wide_at
greatest_count = refl

count_too_great : read_form format1 (0x01 ∷ 0x01 ∷ 0x01 ∷ 0x81 ∷ 0x80 ∷ 0x80 ∷ 0x80 ∷ 0x80 ∷ 0x80 ∷ 0x40 ∷ []) ≡ Err 3
unfolding format1 row_form field_at number_at wide_at
count_too_great = refl

two_rows : read_form format1 (0x01 ∷ 0x02 ∷ 0x02 ∷ 0x03 ∷ 0x01 ∷ 0x01 ∷ []) ≡ Ok (record { offset = 8; count = 3 } ∷ record { offset = 12; count = 1 } ∷ [])
unfolding format1 row_form field_at number_at wide_at
two_rows = refl

no_bytes : read_form format1 [] ≡ Err 0
unfolding format1 row_form field_at number_at wide_at
no_bytes = refl

other_format : read_form format1 (0x02 ∷ []) ≡ Err 0
unfolding format1 row_form field_at number_at wide_at
other_format = refl

needless_group : read_form format1 (0x01 ∷ 0x01 ∷ 0x82 ∷ 0x00 ∷ 0x03 ∷ []) ≡ Err 2
unfolding format1 row_form field_at number_at wide_at
needless_group = refl

no_count : read_form format1 (0x01 ∷ 0x01 ∷ 0x02 ∷ []) ≡ Err 3
unfolding format1 row_form field_at number_at wide_at
no_count = refl

count_of_nothing : read_form format1 (0x01 ∷ 0x01 ∷ 0x02 ∷ 0x00 ∷ []) ≡ Err 3
unfolding format1 row_form field_at number_at wide_at
count_of_nothing = refl

no_distance : read_form format1 (0x01 ∷ 0x02 ∷ 0x02 ∷ 0x03 ∷ 0x00 ∷ 0x01 ∷ []) ≡ Err 4
unfolding format1 row_form field_at number_at wide_at
no_distance = refl

more_behind : read_form format1 (0x01 ∷ 0x01 ∷ 0x02 ∷ 0x03 ∷ 0x00 ∷ []) ≡ Err 4
unfolding format1 row_form field_at number_at wide_at
more_behind = refl

-- a segment with the batch of an empty table and one processor without losses
empty_run : read_form segment (0x01 ∷ 0x01 ∷ 0x00 ∷ 0x01 ∷ 0x00 ∷ 0x01 ∷ 0x00 ∷ 0x00 ∷ 0x00 ∷ 0x02 ∷ 0x01 ∷ 0x00 ∷ 0x01 ∷ 0x00 ∷ 0x00 ∷ 0x00 ∷ 0x01 ∷ 0x00 ∷ [])
    ≡ Ok (record {
      run = 1;
      part = 0;
      last = true;
      first_epoch = 0;
      drains = record {
        at = 0;
        epoch = 0;
        batch = record { note = record { cpu = 0; cell = 2; number = 1; upto = 0; answers = 1; sent0 = 0; sent1 = 0 }; entries = [] };
        known = [];
      } ∷ [];
      losses = [] ∷ [];
    })
unfolding segment drain processors processor loss_form flagged_entry field_at number_at wide_at
empty_run = refl

-- an entry whose place was found: twice the code of its event, and one more
known_entry : read_form flagged_entry (0x07 ∷ 0x02 ∷ 0x03 ∷ 0x05 ∷ []) ≡ Ok (entry (key_at 7 2 Imiss) 5, true)
unfolding flagged_entry field_at number_at wide_at
known_entry = refl

-- three samples known, one unknown and one lost, of one processor
some_drain : Drained
some_drain = record {
  at = 1;
  epoch = 0;
  batch = record {
    note = record { cpu = 0; cell = 2; number = 1; upto = 4; answers = 1; sent0 = 0; sent1 = 0 };
    entries = entry (record { pid = 7; pc = 8; event = Cycles; aligned = refl }) 3 ∷ entry (record { pid = 7; pc = 4; event = Cycles; aligned = refl }) 1 ∷ [];
  };
  known = true ∷ false ∷ [];
}

tallied : tally_of (record {
  run = 1;
  first_epoch = 0;
  drains = some_drain ∷ [];
  losses = (record { index = 4; event = Cycles; word0 = 1; word1 = 1 } ∷ []) ∷ [];
}) ≡ record { cpu = 0; event = Cycles; attributed = 3; unknown = 1; lost = 1 } ∷ []
unfolding rows_of some_drain
tallied = refl
