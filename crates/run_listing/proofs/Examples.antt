-- The text of runs and the first bad segment at worked examples, by computation alone.
use Rattle.std.proofs.Common.{◌≡◌, ℕ, Bool, true, false, List, [], ◌∷◌, ◌++◌, None, Some, refl}
use Rattle.std.specs.Prelude.{codes}
use Rattle.std.specs.Fmt.{digits}
use Rattle.store_io.specs.declared.file_refs.FileRef.TheVariants as named
use Rattle.sample_key.specs.declared.events.Event.TheVariants.{Cycles}
use Rattle.sample_key.specs.Counted.{Counted, entry}
use Rattle.database_model.specs.Runs.{Drained, Segment}
use Rattle.database_model.specs.SegmentForm.{key_at}
use Rattle.database_model.specs.Tally.{rows_of}
use Rattle.run_listing.specs.Orders.{first_bad}
use Rattle.run_listing.specs.Texts.{listing_of}

-- one sample of process 7 at this instruction
one : ℕ → Counted
one position = entry (key_at 7 position Cycles) 1

-- a batch of processor 0
batch : ℕ → List Counted → List Bool → Drained
batch cell entries known = record {
  at = 0;
  epoch = 0;
  batch = record { note = record { cpu = 0; cell = cell; number = 1; upto = 7; answers = 1; sent0 = 1; sent1 = 1 }; entries = entries };
  known = known;
}

-- seven samples, of which the last was lost while both buffers were out
both_out : Segment
both_out = record {
  run = 1;
  part = 0;
  last = true;
  first_epoch = 0;
  drains = batch 0 (one 0x400 ∷ []) (false ∷ []) ∷ batch 1 (one 0x401 ∷ []) (false ∷ [])
      ∷ batch 2 (one 0x404 ∷ one 0x405 ∷ one 0x402 ∷ one 0x403 ∷ []) (false ∷ false ∷ false ∷ false ∷ []) ∷ [];
  losses = (record { index = 6; event = Cycles; word0 = 1; word1 = 1 } ∷ []) ∷ [];
}

both_out_listed : listing_of (Some both_out ∷ []) ≡ codes "run 1 parts 1 whole" ++ 10 ∷ (codes "c 0 cycles taken 7 known 0 unknown 6 lost 1" ++ 10 ∷ [])
unfolding both_out batch one rows_of digits
both_out_listed = refl

-- a part with one sample at a known place
part_of : ℕ → ℕ → Bool → Segment
part_of run part last = record { run = run; part = part; last = last; first_epoch = 0; drains = batch 2 (one 0x4000 ∷ []) (true ∷ []) ∷ []; losses = [] }

two_parts : listing_of (Some (part_of 1 0 false) ∷ Some (part_of 1 1 true) ∷ []) ≡ codes "run 1 parts 2 whole" ++ 10 ∷ (codes "c 0 cycles taken 2 known 2 unknown 0 lost 0" ++ 10 ∷ [])
unfolding part_of batch one rows_of digits
two_parts = refl

cut_then_whole : listing_of (Some (part_of 1 0 false) ∷ Some (part_of 2 0 true) ∷ [])
    ≡ codes "run 1 parts 1 cut" ++ 10 ∷ (codes "c 0 cycles taken 1 known 1 unknown 0 lost 0" ++ 10 ∷ (codes "run 2 parts 1 whole" ++ 10 ∷ (codes "c 0 cycles taken 1 known 1 unknown 0 lost 0" ++ 10 ∷ [])))
unfolding part_of batch one rows_of digits
cut_then_whole = refl

no_runs : (listing_of [] ≡ []) × (first_bad [] ≡ None)
no_runs = (refl, refl)

in_order : first_bad (Some (part_of 1 0 false) ∷ Some (part_of 1 1 true) ∷ Some (part_of 2 0 false) ∷ Some (part_of 3 0 true) ∷ []) ≡ None
unfolding part_of
in_order = refl

first_of_two : first_bad (Some (part_of 1 0 false) ∷ None ∷ Some (part_of 5 0 true) ∷ []) ≡ Some (named.Segment 2)
unfolding part_of
first_of_two = refl

begins_with_part_1 : first_bad (Some (part_of 1 1 false) ∷ []) ≡ Some (named.Segment 1)
unfolding part_of
begins_with_part_1 = refl

begins_with_run_2 : first_bad (Some (part_of 2 0 false) ∷ []) ≡ Some (named.Segment 1)
unfolding part_of
begins_with_run_2 = refl

goes_on_behind_the_last : first_bad (Some (part_of 1 0 true) ∷ Some (part_of 1 1 true) ∷ []) ≡ Some (named.Segment 2)
unfolding part_of
goes_on_behind_the_last = refl

part_left_out : first_bad (Some (part_of 1 0 false) ∷ Some (part_of 1 2 true) ∷ []) ≡ Some (named.Segment 2)
unfolding part_of
part_left_out = refl
