-- A whole run: all processors and the daemon, under the steps of a schedule and then in rounds
-- until the close is complete. A value that the daemon takes is given back in the same poll, so the
-- word of a cell follows from what was handed and taken.
use Rattle.std.specs.Prelude.{ℕ, zero, suc, ◌+◌, ◌*◌, ◌==◌, if◌then◌else◌, List, [], ◌∷◌, ◌++◌, length, map, sum_by, slice_get, slice_set, Option, Some, None}
use Rattle.std.specs.List.{range_with_len, flat_map}
use Rattle.sample_key.specs.Sent.{Sent}
use Rattle.sample_key.specs.declared.losses.Pace.{Pace}
use Rattle.trace_model.specs.Recording.{Recording}
use Rattle.trace_model.specs.Streams.{stream_of, records_in}
use Rattle.trace_model.specs.declared.notices.Record.{Record}
use Rattle.trace_model.specs.declared.notices.Step.{Step}
use Rattle.trace_model.specs.declared.notices.Step.TheVariants.{Lane, Poll, Advance}
use Rattle.driver_model.specs.Sides.{Room, Side, new_side}
use Rattle.driver_model.specs.Handover.{Given, FarSide, none_given, new_far, rung_of, side_poll_buffer, side_poll_table, side_called, far_took_buffer, far_took_table, far_gave_buffer, far_gave_table, far_rang}
use Rattle.driver_model.specs.Driver.{Setup, Driver, Turned, Words, new_driver, turn_of}
use Rattle.driver_model.specs.Runs.{words_at}
use Rattle.database_model.specs.Runs.{Recorded}
use Rattle.run_model.specs.Daemon.{Daemon, Advancing, new_daemon, noted, advance}

-- one processor: its driver, and the cells and the bell as the driver and as the daemon see them
pub record Processor : Type 0 where
  pub driver : Driver
  pub side : Side
  pub far : FarSide

-- what the driver of a processor is made for
abbrev pub setup_of : Pace → Recording → ℕ → Setup
setup_of pace trace cpu = record {
  cpu = cpu;
  samples = stream_of cpu trace;
  pace = pace;
  last = 2 * length (records_in trace) + 1;
  size = trace.buffer;
}

-- the room of a side that is made for so many samples and so many requests
abbrev pub room_for : ℕ → ℕ → Room
room_for samples requests = record { hands = samples + 2 * requests + 2; entries = samples + 1 }

-- the room of a processor's side: a request for each record, and the close
abbrev pub room_of : Recording → ℕ → Room
room_of trace cpu = room_for (length (stream_of cpu trace)) (length (records_in trace) + 1)

-- a processor at the start
abbrev pub new_processor : Recording → ℕ → Processor
new_processor trace cpu = record {
  driver = new_driver;
  side = new_side (Some (room_of trace cpu)) trace.buckets trace.buffer;
  far = new_far (Some none_given);
}

-- how often the daemon took a value of each cell: each that was taken was given back
abbrev pub counts_of : FarSide → Given
counts_of far = record {
  first = length far.first.taken;
  second = length far.second.taken;
  third = length far.third.taken;
}

-- what a turn of the processor's driver reads
abbrev pub words_of : Processor → Words
words_of processor = words_at (rung_of processor.far.rungs) (counts_of processor.far) processor.side

-- what a turn of the processor's driver does
abbrev pub turn_on : Setup → Processor → Turned
turn_on setup processor =
    turn_of setup (words_of processor)
    (record { driver = processor.driver; side = processor.side })

-- the processor after a turn of its driver
abbrev pub turned : Setup → Processor → Processor
turned setup processor = record {
  driver = (turn_on setup processor).driver;
  side = (turn_on setup processor).side;
  far = processor.far;
}

-- the batch that waits in a cell with these batches handed and taken
abbrev pub waiting_in : List Sent → List Sent → Option Sent
waiting_in handed taken = slice_get handed (length taken)

-- the batch that waits in a processor's cell: 0 and 1 are the buffers, 2 is the table
abbrev pub waiting_at : Processor → ℕ → Option Sent
waiting_at processor cell =
    if cell == 0 then waiting_in processor.side.first.handed processor.far.first.taken
    else if cell == 1 then waiting_in processor.side.second.handed processor.far.second.taken
    else waiting_in processor.side.third.handed processor.far.third.taken

-- a poll of a buffer reads its word; the batch that waits is taken, and the buffer is given back
abbrev pub poll_buffer : Processor → ℕ → ℕ → Option Sent → Processor
poll_buffer processor buffer word None =
    record processor { side = side_poll_buffer processor.side buffer word }
poll_buffer processor buffer word (Some batch) = record processor {
  side = side_called (side_poll_buffer processor.side buffer word);
  far = far_gave_buffer (far_took_buffer processor.far buffer batch) buffer;
}

-- a poll of the table
abbrev pub poll_table : Processor → ℕ → Option Sent → Processor
poll_table processor word None = record processor { side = side_poll_table processor.side word }
poll_table processor word (Some batch) = record processor {
  side = side_called (side_poll_table processor.side word);
  far = far_gave_table (far_took_table processor.far batch processor.side.turn);
}

-- the processor after a poll of this cell
abbrev pub polled : Processor → ℕ → Processor
polled processor cell =
    let words = words_of processor in
    let found = waiting_at processor cell in
    if cell == 0 then poll_buffer processor 0 words.two.first found
    else if cell == 1 then poll_buffer processor 1 words.two.second found
    else poll_table processor words.third found

-- the processor after its bell was rung with this value
abbrev pub rung : ℕ → Processor → Processor
rung value processor = record processor {
  side = side_called processor.side;
  far = far_rang processor.far value processor.side.first.tries;
}

-- all processors and the daemon
pub record System : Type 0 where
  pub processors : List Processor
  pub daemon : Daemon

-- the processors of a trace, by number
abbrev pub cpus_of : Recording → List ℕ
cpus_of trace = range_with_len 0 trace.cpus

-- before the first step
abbrev pub start : Recording → ℕ → System
start trace first_epoch = record {
  processors = map (new_processor trace) (cpus_of trace);
  daemon = new_daemon first_epoch;
}

-- one turn of the driver of this processor
abbrev pub after_turn : Pace → Recording → System → ℕ → Option Processor → System
after_turn pace trace system cpu None = system
after_turn pace trace system cpu (Some processor) = record system {
  processors = slice_set system.processors cpu (turned (setup_of pace trace cpu) processor);
}

-- the daemon notes the batch that it took, if it took one
abbrev pub noted_if : List Record → Daemon → Option Sent → Daemon
noted_if records daemon None = daemon
noted_if records daemon (Some batch) = noted records daemon batch

-- one poll of this cell of this processor
abbrev pub after_poll : Recording → System → ℕ → ℕ → Option Processor → System
after_poll trace system cpu cell None = system
after_poll trace system cpu cell (Some processor) = record {
  processors = slice_set system.processors cpu (polled processor cell);
  daemon = noted_if (records_in trace) system.daemon (waiting_at processor cell);
}

-- the bells of all processors are rung, if a value is to be rung
abbrev pub rung_if : Option ℕ → List Processor → List Processor
rung_if None processors = processors
rung_if (Some value) processors = map (rung value) processors

-- the daemon's halves of all processors
abbrev pub fars_of : System → List FarSide
fars_of system = map (λ processor. processor.far) system.processors

-- what the daemon's advance does
abbrev pub advance_in : Pace → Recording → System → Advancing
advance_in pace trace system =
    advance pace (records_in trace) (fars_of system) system.daemon

-- one advance of the daemon
abbrev pub after_advance : Pace → Recording → System → System
after_advance pace trace system = record {
  processors = rung_if (advance_in pace trace system).ring system.processors;
  daemon = (advance_in pace trace system).daemon;
}

-- one step of a run that is not finished
abbrev pub acts : Pace → Recording → System → Step → System
acts pace trace system (Lane cpu) =
    after_turn pace trace system cpu (slice_get system.processors cpu)
acts pace trace system (Poll cpu cell) =
    after_poll trace system cpu cell (slice_get system.processors cpu)
acts pace trace system Advance = after_advance pace trace system

-- one step: once the run is finished nothing happens any more
abbrev pub after_step : Pace → Recording → System → Step → System
after_step pace trace system step =
    if system.daemon.finished then system else acts pace trace system step

-- these steps, one after the other
abbrev pub after_steps : Pace → Recording → System → List Step → System
after_steps pace trace system [] = system
after_steps pace trace system (step ∷ steps) =
    after_steps pace trace (after_step pace trace system step) steps

-- one round: a turn of each driver, a poll of each cell, and one advance
abbrev pub round : Recording → List Step
round trace =
    map Lane (cpus_of trace)
    ++ (flat_map (λ cpu. Poll cpu 0 ∷ Poll cpu 1 ∷ Poll cpu 2 ∷ []) (cpus_of trace) ++ Advance ∷ [])

-- so many rounds
abbrev pub rounds : ℕ → Recording → List Step
rounds zero trace = []
rounds (suc more) trace = round trace ++ rounds more trace

-- how many samples a trace has
abbrev pub sample_count : Recording → ℕ
sample_count trace = sum_by (λ cpu. length (stream_of cpu trace)) (cpus_of trace)

-- enough rounds for every trace
abbrev pub enough_rounds : Recording → ℕ
enough_rounds trace = sample_count trace + 4 * length (records_in trace) + 8

-- the run of a trace: the steps of its schedule, and then rounds
abbrev pub reference_run : Pace → Recording → ℕ → System
reference_run pace trace first_epoch =
    after_steps pace trace (start trace first_epoch)
    (trace.schedule ++ rounds (enough_rounds trace) trace)

-- what is kept of a run with this number
abbrev pub record_of : ℕ → ℕ → System → Recorded
record_of run first_epoch system = record {
  run = run;
  first_epoch = first_epoch;
  drains = system.daemon.drains;
  losses = map (λ processor. processor.driver.losses) system.processors;
}
