-- The tally of a run: for each processor and event, how many samples were attributed, unknown and lost.
use Rattle.std.specs.Prelude.{ℕ, zero, suc, ◌+◌, ◌==◌, ◌&&◌, not, Bool, true, false, nat_lt, if◌then◌else◌, List, [], ◌++◌, map, filter, sum_by, count_by, slice_index_or}
use Rattle.std.specs.List.{zip}
use Rattle.sample_key.specs.declared.events.Event.{Event}
use Rattle.sample_key.specs.declared.losses.Loss.{Loss}
use Rattle.sample_key.specs.Counted.{Counted}
use Rattle.sample_key.specs.Events.{code_of, all_events}
use Rattle.database_model.specs.declared.tallies.TallyRow.{TallyRow}
use Rattle.database_model.specs.Runs.{Drained, Recorded}

-- whether an entry's flag is the one that is asked for
abbrev pub agrees : Bool → Bool → Bool
agrees true known = known
agrees false known = not known

-- how many samples of an event an entry stands for, where its flag is the one that is asked for
abbrev pub samples_of : Event → Bool → Counted × Bool → ℕ
samples_of event flag e = if code_of e.0.key.event == code_of event && agrees flag e.1 then e.0.count else 0

-- the same of all entries of a drain, if it is of this processor
abbrev pub drained_of : ℕ → Event → Bool → Drained → ℕ
drained_of cpu event flag d =
    if d.batch.note.cpu == cpu then sum_by (samples_of event flag) (zip d.batch.entries d.known) else 0

-- how many losses are of an event
abbrev pub lost_of : Event → List Loss → ℕ
lost_of event losses = count_by (λ loss. code_of loss.event == code_of event) losses

-- the row of a processor and an event
abbrev pub row_of : Recorded → ℕ → Event → TallyRow
row_of r cpu event =
    record {
      cpu = cpu;
      event = event;
      attributed = sum_by (drained_of cpu event true) r.drains;
      unknown = sum_by (drained_of cpu event false) r.drains;
      lost = lost_of event (slice_index_or r.losses cpu []);
    }

-- whether a row counts any sample
abbrev pub has_samples : TallyRow → Bool
has_samples row = nat_lt 0 (row.attributed + row.unknown + row.lost)

-- the rows of a processor, by event code, where they count any sample
abbrev pub processor_rows : Recorded → ℕ → List TallyRow
processor_rows r cpu = filter has_samples (map (row_of r cpu) all_events)

-- the rows of the first processors, in their order
unfoldable pub rows_of : Recorded → ℕ → List TallyRow
rows_of r zero = []
rows_of r (suc cpus) = rows_of r cpus ++ processor_rows r cpus

-- the tally of a run
abbrev pub tally_of : Recorded → List TallyRow
tally_of r = rows_of r 16
