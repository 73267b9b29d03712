-- Worked growths, computed by the definitions.
use Rattle.std.proofs.Common.{◌≡◌, ℕ, ◌%◌, List, [], ◌∷◌, refl, Bool, true, false}
use Rattle.std.specs.Prelude.{codes}
use Rattle.sample_key.specs.Counted.{Counted, entry}
use Rattle.sample_key.specs.declared.events.Event.{Event}
use Rattle.sample_key.specs.declared.events.Event.TheVariants.{Cycles, Imiss}
use Rattle.sample_key.specs.declared.keys.Key.{Key}
use Rattle.sample_key.specs.declared.losses.Pace.TheVariants.{Free, Exact}
use Rattle.trace_model.specs.Recording.{Recording, recording}
use Rattle.trace_model.specs.Streams.{records_in}
use Rattle.trace_model.specs.declared.notices.Line.{Line}
use Rattle.trace_model.specs.declared.notices.Line.TheVariants.{Sample, Rec}
use Rattle.trace_model.specs.declared.notices.Record.TheVariants.{Load, Unload, Epoch}
use Rattle.trace_model.specs.declared.notices.Step.{Step}
use Rattle.trace_model.specs.declared.notices.Step.TheVariants.{Lane, Advance}
use Rattle.database_model.specs.Runs.{Drained, Recorded, Segment}
use Rattle.run_model.specs.Running.{reference_run, record_of}
use Rattle.run_model.specs.Shares.{segment_of}
use Rattle.growth_model.specs.Additions.{Additions, additions_of}
use Rattle.growth_model.specs.Grown.{part_count, epoch_after_parts}

-- a sample of process 7
abbrev pub key_of : Event → (pc : ℕ) → pc % 4 ≡ 0 → Key
key_of event pc aligned = record { pid = 7; pc = pc; event = event; aligned = aligned }

-- one sample, at the program counter of this key
abbrev pub one : Key → Counted
one key = entry key 1

-- a trace of one processor, with the usual sizes
abbrev pub usual : List (List ℕ) → List Line → List Step → Recording
usual images lines schedule = recording 1 4096 8192 images lines schedule

-- a table batch of processor 0: which it is, how many samples it goes up to, and the bell value that it answers
abbrev pub drained : ℕ → ℕ → ℕ → ℕ → ℕ → List Counted → List Bool → Drained
drained at epoch number upto answers entries known = record {
  at = at;
  epoch = epoch;
  batch = record {
    note = record { cpu = 0; cell = 2; number = number; upto = upto; answers = answers; sent0 = 0; sent1 = 0 };
    entries = entries;
  };
  known = known;
}

-- what is kept of the first run, of one processor that lost nothing
abbrev pub kept : List Drained → Recorded
kept drains = record { run = 1; first_epoch = 0; drains = drains; losses = [] ∷ [] }

-- what is kept of a trace's run at the free pace, into an empty database
abbrev pub kept_of : Recording → Recorded
kept_of trace = record_of 1 0 (reference_run Free trace 0)

-- what a part of a run adds
abbrev pub part_adds : Recording → Recorded → ℕ → Additions
part_adds trace run part = additions_of trace.images (records_in trace) (segment_of (records_in trace) run part).drains

-- two epochs: each sample counts in its own, and each part has its drain
abbrev pub image_a : List ℕ
image_a = codes "A"

abbrev pub image_b : List ℕ
image_b = codes "B"

abbrev pub at_start : Key
at_start = key_of Cycles 0x10000 refl

abbrev pub epochs : Recording
epochs = usual (image_a ∷ [])
    (Rec (Load 7 0x10000 0x1000 0) ∷ Sample 0 at_start ∷ Rec Epoch ∷ Sample 0 at_start ∷ []) []

abbrev pub first_drain : Drained
first_drain = drained 1 0 1 1 3 (one at_start ∷ []) (true ∷ [])

abbrev pub second_drain : Drained
second_drain = drained 2 1 2 2 5 (one at_start ∷ []) (true ∷ [])

abbrev pub epochs_kept : Recorded
epochs_kept = kept (first_drain ∷ second_drain ∷ [])

epochs_are_kept : kept_of epochs ≡ epochs_kept
epochs_are_kept = refl

epochs_parts : part_count (records_in epochs) ≡ 2
epochs_parts = refl

-- the first part adds in epoch 0 and leaves epoch 1 the last one; the second adds in epoch 1
epochs_first : (part_adds epochs epochs_kept 0).known 0 image_a 0 0 ≡ 1
epochs_first = refl

epochs_first_later : (part_adds epochs epochs_kept 0).known 1 image_a 0 0 ≡ 0
epochs_first_later = refl

epochs_second : (part_adds epochs epochs_kept 1).known 1 image_a 0 0 ≡ 1
epochs_second = refl

epochs_second_before : (part_adds epochs epochs_kept 1).known 0 image_a 0 0 ≡ 0
epochs_second_before = refl

epochs_other_event : (part_adds epochs epochs_kept 0).known 0 image_a 1 0 ≡ 0
epochs_other_event = refl

epochs_other_offset : (part_adds epochs epochs_kept 0).known 0 image_a 0 4 ≡ 0
epochs_other_offset = refl

epochs_last : epoch_after_parts 0 (records_in epochs) 1 ≡ 1
epochs_last = refl

epochs_last_of_all : epoch_after_parts 0 (records_in epochs) 2 ≡ 1
epochs_last_of_all = refl

-- the segments: the first is not the last and has no losses, the second is and has them
abbrev pub first_segment : Segment
first_segment = record { run = 1; part = 0; last = false; first_epoch = 0; drains = first_drain ∷ []; losses = [] }

abbrev pub second_segment : Segment
second_segment = record { run = 1; part = 1; last = true; first_epoch = 0; drains = second_drain ∷ []; losses = [] ∷ [] }

epochs_first_segment : segment_of (records_in epochs) epochs_kept 0 ≡ first_segment
epochs_first_segment = refl

epochs_second_segment : segment_of (records_in epochs) epochs_kept 1 ≡ second_segment
epochs_second_segment = refl

-- the map changed since: the sample counts at the image that is mapped at its drain, and not at that of its own moment
abbrev pub moved_key : Key
moved_key = key_of Cycles 0x10004 refl

abbrev pub remapped : Recording
remapped = usual (image_a ∷ image_b ∷ [])
    (Rec (Load 7 0x10000 0x1000 0) ∷ Sample 0 moved_key ∷ Rec (Unload 7 0x10000 0x1000)
    ∷ Rec (Load 7 0x10000 0x1000 1) ∷ [])
    (Advance ∷ Lane 0 ∷ Advance ∷ Advance ∷ [])

abbrev pub remapped_kept : Recorded
remapped_kept = kept (drained 3 0 1 1 7 (one moved_key ∷ []) (true ∷ []) ∷ [])

remapped_is_kept : kept_of remapped ≡ remapped_kept
remapped_is_kept = refl

remapped_later : (part_adds remapped remapped_kept 0).known 0 image_b 0 4 ≡ 1
remapped_later = refl

remapped_before : (part_adds remapped remapped_kept 0).known 0 image_a 0 4 ≡ 0
remapped_before = refl

-- the same at the exact pace: the drain of the sample is of its own moment, and what was put in force later changes nothing
abbrev pub exact_kept : Recorded
exact_kept = kept
    (drained 0 0 1 0 1 [] [] ∷ drained 1 0 2 1 3 (one moved_key ∷ []) (true ∷ []) ∷ drained 2 0 3 1 5 [] []
    ∷ drained 3 0 4 1 7 [] [] ∷ [])

exact_is_kept : record_of 1 0 (reference_run Exact remapped 0) ≡ exact_kept
exact_is_kept = refl

exact_own : (part_adds remapped exact_kept 0).known 0 image_a 0 4 ≡ 1
exact_own = refl

exact_later : (part_adds remapped exact_kept 0).known 0 image_b 0 4 ≡ 0
exact_later = refl

-- the boundary of a mapping: the last instruction is known, the one behind it is not
abbrev pub inside : Key
inside = key_of Imiss 0x10ffc refl

abbrev pub behind : Key
behind = key_of Imiss 0x11000 refl

abbrev pub boundary : Recording
boundary = usual (image_a ∷ []) (Rec (Load 7 0x10000 0x1000 0) ∷ Sample 0 inside ∷ Sample 0 behind ∷ []) []

abbrev pub boundary_kept : Recorded
boundary_kept = kept (drained 1 0 1 2 3 (one inside ∷ one behind ∷ []) (true ∷ false ∷ []) ∷ [])

boundary_known : (part_adds boundary boundary_kept 0).known 0 image_a 1 0xffc ≡ 1
boundary_known = refl

boundary_unknown : (part_adds boundary boundary_kept 0).unknown 0 1 0x11000 ≡ 1
boundary_unknown = refl

boundary_known_is_not_unknown : (part_adds boundary boundary_kept 0).unknown 0 1 0x10ffc ≡ 0
boundary_known_is_not_unknown = refl
