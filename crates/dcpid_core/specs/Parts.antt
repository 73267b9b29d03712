-- The part of its run that a daemon has not committed.
use Rattle.std.specs.Prelude.{ℕ, Bool, List}
use Rattle.sample_key.specs.declared.losses.Loss.{Loss}
use Rattle.trace_model.specs.Streams.{records_in}
use Rattle.dcpid_core.specs.Collection.{Collection}
use Rattle.dcpid_core.specs.Storing.{Part}

-- the part that is not committed, with this last epoch afterwards; the losses come with the last one
abbrev pub part_in : Collection → ℕ → Bool → List (List Loss) → Part
part_in daemon epoch last losses = record {
  images = daemon.trace.images;
  records = records_in daemon.trace;
  head = daemon.head;
  epoch = epoch;
  segment = record {
    run = daemon.run;
    part = daemon.part;
    last = last;
    first_epoch = daemon.first_epoch;
    drains = daemon.noted;
    losses = losses;
  };
}
