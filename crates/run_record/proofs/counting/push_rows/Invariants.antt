use Rattle.std.proofs.Common.{◌≡◌, ◌++◌, take, map}
use Rattle.std.specs.Prelude.{filter}
use Rattle.sample_key.specs.Events.{all_events}
use Rattle.database_model.specs.Tally.{row_of, has_samples}
use Rattle.run_record.proofs.counting.push_rows.Given as goal

abbrev pub invariant-loop-event : goal.invariant-loop-event
invariant-loop-event l =
    record {
      events : l.event-items ≡ all_events;
      rows : l.rows.items ≡ l.fn.rows.items ++ filter has_samples (map (row_of l.r l.cpu) (take l.event-index all_events));
    }
