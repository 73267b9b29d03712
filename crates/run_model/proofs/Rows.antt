-- Worked runs, computed by the definitions.
use Rattle.std.proofs.Common.{◌≡◌, ℕ, ◌%◌, List, [], ◌∷◌, ◌++◌, map, take, replicate, refl, Bool, true, false, Some, None, Option, is_some}
use Rattle.std.specs.Prelude.{codes}
use Rattle.std.specs.List.{flat_map}
use Rattle.sample_key.specs.declared.events.Event.TheVariants.{Cycles}
use Rattle.sample_key.specs.declared.keys.Key.{Key}
use Rattle.sample_key.specs.declared.losses.Pace.TheVariants.{Free, Exact}
use Rattle.trace_model.specs.Attribution.{place_at}
use Rattle.trace_model.specs.Counting.{Spot, Known, spot_at}
use Rattle.trace_model.specs.Recording.{Recording, recording}
use Rattle.trace_model.specs.Streams.{records_in}
use Rattle.trace_model.specs.declared.notices.Line.{Line}
use Rattle.trace_model.specs.declared.notices.Line.TheVariants.{Sample, Rec}
use Rattle.trace_model.specs.declared.notices.Record.TheVariants.{Load, Unload, Drain, Epoch}
use Rattle.trace_model.specs.declared.notices.Step.{Step}
use Rattle.trace_model.specs.declared.notices.Step.TheVariants.{Lane, Poll, Advance}
use Rattle.driver_model.specs.declared.answers.Turn.{Turn}
use Rattle.driver_model.specs.declared.answers.Turn.TheVariants.{Took, Lost, Answered}
use Rattle.driver_model.specs.declared.plans.Stats.{Stats}
use Rattle.database_model.specs.Runs.{Drained, Recorded}
use Rattle.database_model.specs.Tally.{tally_of, rows_of}
use Rattle.database_model.specs.declared.tallies.TallyRow.{TallyRow}
use Rattle.run_model.specs.declared.advances.Advanced.{Advanced}
use Rattle.run_model.specs.declared.advances.Advanced.TheVariants.{Moved, Opened, Waiting}
use Rattle.run_model.specs.Running.{Processor, System, setup_of, turn_on, waiting_at, start, after_steps, advance_in, reference_run, record_of}
use Rattle.run_model.specs.Shares.{segment_of, last_part}

-- a process counts cycles at this program counter
abbrev pub cycles : ℕ → (pc : ℕ) → pc % 4 ≡ 0 → Key
cycles pid pc aligned = record { pid = pid; pc = pc; event = Cycles; aligned = aligned }

-- the same, of process 7
abbrev pub at_pc : (pc : ℕ) → pc % 4 ≡ 0 → Key
at_pc pc aligned = cycles 7 pc aligned

-- a sample of processor 0
abbrev pub sample : Key → Line
sample key = Sample 0 key

-- a trace of one processor, with the usual sizes
abbrev pub usual : List (List ℕ) → List Line → List Step → Recording
usual images lines schedule = recording 1 4096 8192 images lines schedule

-- the statistics of the processors
abbrev pub stats_in : System → List Stats
stats_in system = map (λ processor. processor.driver.stats) system.processors

-- the statistics of a processor
abbrev pub counts : ℕ → ℕ → ℕ → ℕ → ℕ → Stats
counts folded placed evicted spilt direct =
    record { folded = folded; placed = placed; evicted = evicted; spilt = spilt; direct = direct }

-- a row of the tally of processor 0
abbrev pub tallied : ℕ → ℕ → ℕ → TallyRow
tallied attributed unknown lost =
    record { cpu = 0; event = Cycles; attributed = attributed; unknown = unknown; lost = lost }

-- where the entries of drains are counted
abbrev pub spots_of : Recording → List Drained → List Spot
spots_of trace drains = flat_map (λ drain.
    map (λ counted. spot_at drain.epoch trace.images counted.key
    (place_at (records_in trace) drain.at counted.key.pid counted.key.pc)) drain.batch.entries) drains

-- what the whole run of a trace leaves at the free pace
abbrev pub run_of : Recording → System
run_of trace = reference_run Free trace 0

-- what is kept of it as run 1
abbrev pub kept_of : Recording → Recorded
kept_of trace = record_of 1 0 (run_of trace)

-- the run after so many steps of its schedule
abbrev pub after : ℕ → Recording → System
after count trace = after_steps Free trace (start trace 0) (take count trace.schedule)

-- what the next turn of processor 0 answers
abbrev pub turn_answer : Recording → List Processor → Option Turn
turn_answer trace [] = None
turn_answer trace (processor ∷ processors) = Some (turn_on (setup_of Free trace 0) processor).answer

-- whether a batch waits in this cell of processor 0
abbrev pub is_waiting : ℕ → List Processor → Bool
is_waiting cell [] = false
is_waiting cell (processor ∷ processors) = is_some (waiting_at processor cell)

-- what the next advance answers
abbrev pub advance_answer : Recording → System → Advanced
advance_answer trace system = (advance_in Free trace system).answer

-- nothing held: an empty table is drained
abbrev pub nothing : Recording
nothing = usual [] [] []

nothing_finished : (run_of nothing).daemon.finished ≡ true
nothing_finished = refl

nothing_drained : map (λ drain. drain.batch.entries) (kept_of nothing).drains ≡ [] ∷ []
nothing_drained = refl

nothing_stats : stats_in (run_of nothing) ≡ counts 0 0 0 0 0 ∷ []
nothing_stats = refl

-- fold: three samples at one place of a mapping
abbrev pub fold_key : Key
fold_key = at_pc 0x10008 refl

abbrev pub fold_trace : Recording
fold_trace = usual (codes "/bin/app" ∷ [])
    (Rec (Load 7 0x10000 0x2000 0) ∷ sample fold_key ∷ sample fold_key ∷ sample fold_key ∷ []) []

fold_finished : (run_of fold_trace).daemon.finished ≡ true
fold_finished = refl

fold_stats : stats_in (run_of fold_trace) ≡ counts 2 1 0 0 0 ∷ []
fold_stats = refl

fold_tally : tally_of (kept_of fold_trace) ≡ tallied 3 0 0 ∷ []
unfolding rows_of
fold_tally = refl

fold_spots : spots_of fold_trace (kept_of fold_trace).drains ≡ Known 0 (codes "/bin/app") Cycles 8 ∷ []
fold_spots = refl

-- eviction order: five keys of one bucket, the fifth takes the way of the first
abbrev pub five : List Line
five = sample (at_pc 0x1000 refl) ∷ sample (at_pc 0x1004 refl) ∷ sample (at_pc 0x1008 refl)
    ∷ sample (at_pc 0x100c refl) ∷ sample (at_pc 0x1010 refl) ∷ []

abbrev pub evicting : Recording
evicting = recording 1 1 8192 [] five []

evicting_stats : stats_in (run_of evicting) ≡ counts 0 4 1 0 0 ∷ []
evicting_stats = refl

evicting_tally : tally_of (kept_of evicting) ≡ tallied 0 5 0 ∷ []
unfolding rows_of
evicting_tally = refl

-- both buffers out: seven keys of one bucket, buffers of one entry, and seven turns before the first poll
abbrev pub seventh_key : Key
seventh_key = at_pc 0x1018 refl

abbrev pub seven : List Line
seven = five ++ sample (at_pc 0x1014 refl) ∷ sample seventh_key ∷ []

abbrev pub both_out : Recording
both_out = recording 1 1 1 [] seven (replicate 7 (Lane 0))

both_out_lost : turn_answer both_out (after 6 both_out).processors
    ≡ Some (Lost (record { index = 6; event = Cycles; word0 = 1; word1 = 1 }))
both_out_lost = refl

both_out_stats : stats_in (run_of both_out) ≡ counts 0 4 2 0 0 ∷ []
both_out_stats = refl

both_out_tally : tally_of (kept_of both_out) ≡ tallied 0 6 1 ∷ []
unfolding rows_of
both_out_tally = refl

-- the second look: buffer 1 is polled before the last turn
abbrev pub second_look : Recording
second_look = recording 1 1 1 [] seven (replicate 6 (Lane 0) ++ Poll 0 1 ∷ Lane 0 ∷ [])

second_look_took : turn_answer second_look (after 7 second_look).processors ≡ Some Took
second_look_took = refl

second_look_words : map (λ processor. processor.side.first.read ∷ processor.side.second.read ∷ []) (after 8 second_look).processors
    ≡ (1 ∷ 2 ∷ []) ∷ []
second_look_words = refl

second_look_given : map (λ processor. processor.far.given) (after 8 second_look).processors
    ≡ Some (record { first = 0; second = 1; third = 0 }) ∷ []
second_look_given = refl

second_look_stats : stats_in (run_of second_look) ≡ counts 0 4 3 0 0 ∷ []
second_look_stats = refl

second_look_tally : tally_of (kept_of second_look) ≡ tallied 0 7 0 ∷ []
unfolding rows_of
second_look_tally = refl

-- the map changed since: the sample counts where the mapping of its drain says, and at the exact pace where its own does
abbrev pub remapped : Recording
remapped = usual (codes "A" ∷ codes "B" ∷ [])
    (Rec (Load 7 0x10000 0x1000 0) ∷ sample (at_pc 0x10004 refl) ∷ Rec (Unload 7 0x10000 0x1000)
    ∷ Rec (Load 7 0x10000 0x1000 1) ∷ [])
    (Advance ∷ Lane 0 ∷ Advance ∷ Advance ∷ [])

remapped_spots : spots_of remapped (kept_of remapped).drains ≡ Known 0 (codes "B") Cycles 4 ∷ []
remapped_spots = refl

-- the same at the exact pace
abbrev pub exactly : System
exactly = reference_run Exact remapped 0

exactly_finished : exactly.daemon.finished ≡ true
exactly_finished = refl

exactly_stats : stats_in exactly ≡ counts 0 1 0 0 0 ∷ []
exactly_stats = refl

exactly_spots : spots_of remapped exactly.daemon.drains ≡ Known 0 (codes "A") Cycles 4 ∷ []
exactly_spots = refl

-- a flush in progress: two of three samples go directly to a buffer
abbrev pub flushing : Recording
flushing = usual []
    (sample (at_pc 0x1000 refl) ∷ sample (at_pc 0x1004 refl) ∷ sample (at_pc 0x1008 refl) ∷ Rec Drain ∷ [])
    (Lane 0 ∷ Advance ∷ Lane 0 ∷ Lane 0 ∷ Lane 0 ∷ [])

flushing_took : turn_answer flushing (after 0 flushing).processors ≡ Some Took
flushing_took = refl

flushing_opened : advance_answer flushing (after 1 flushing) ≡ Opened
flushing_opened = refl

flushing_answered : turn_answer flushing (after 2 flushing).processors ≡ Some Answered
flushing_answered = refl

flushing_direct : turn_answer flushing (after 3 flushing).processors ≡ Some Took
flushing_direct = refl

flushing_again : turn_answer flushing (after 4 flushing).processors ≡ Some Took
flushing_again = refl

flushing_stats : stats_in (run_of flushing) ≡ counts 0 1 0 0 2 ∷ []
flushing_stats = refl

flushing_tally : tally_of (kept_of flushing) ≡ tallied 0 3 0 ∷ []
unfolding rows_of
flushing_tally = refl

-- two epochs: each sample counts in its own, and the run has two parts
abbrev pub epochs : Recording
epochs = usual (codes "A" ∷ [])
    (Rec (Load 7 0x10000 0x1000 0) ∷ sample (at_pc 0x10000 refl) ∷ Rec Epoch ∷ sample (at_pc 0x10000 refl) ∷ []) []

epochs_spots : spots_of epochs (kept_of epochs).drains ≡ Known 0 (codes "A") Cycles 0 ∷ Known 1 (codes "A") Cycles 0 ∷ []
epochs_spots = refl

epochs_last : last_part (records_in epochs) ≡ 1
epochs_last = refl

epochs_first_part : map (λ drain. drain.at) (segment_of (records_in epochs) (kept_of epochs) 0).drains ≡ 1 ∷ []
epochs_first_part = refl

epochs_last_part : map (λ drain. drain.at) (segment_of (records_in epochs) (kept_of epochs) 1).drains ≡ 2 ∷ []
epochs_last_part = refl

-- a flush waits for its buffers
abbrev pub waiting : Recording
waiting = recording 1 1 8192 [] (five ++ Rec Drain ∷ [])
    (replicate 5 (Lane 0) ++ Advance ∷ Lane 0 ∷ Poll 0 2 ∷ Advance ∷ Poll 0 0 ∷ Advance ∷ [])

waiting_took : turn_answer waiting (after 4 waiting).processors ≡ Some Took
waiting_took = refl

waiting_opened : advance_answer waiting (after 5 waiting) ≡ Opened
waiting_opened = refl

waiting_answered : turn_answer waiting (after 6 waiting).processors ≡ Some Answered
waiting_answered = refl

waiting_table : is_waiting 2 (after 7 waiting).processors ≡ true
waiting_table = refl

waiting_waits : advance_answer waiting (after 8 waiting) ≡ Waiting 0
waiting_waits = refl

waiting_buffer : is_waiting 0 (after 9 waiting).processors ≡ true
waiting_buffer = refl

waiting_moved : advance_answer waiting (after 10 waiting) ≡ Moved
waiting_moved = refl

-- a flush waits for the second buffer too
abbrev pub waiting_second : Recording
waiting_second = recording 1 1 1 [] (five ++ sample (at_pc 0x1014 refl) ∷ Rec Drain ∷ [])
    (replicate 6 (Lane 0) ++ Advance ∷ Lane 0 ∷ Poll 0 2 ∷ Poll 0 0 ∷ Advance ∷ Poll 0 1 ∷ Advance ∷ [])

second_waits : advance_answer waiting_second (after 10 waiting_second) ≡ Waiting 0
second_waits = refl

second_buffer : is_waiting 1 (after 11 waiting_second).processors ≡ true
second_buffer = refl

second_moved : advance_answer waiting_second (after 12 waiting_second) ≡ Moved
second_moved = refl
