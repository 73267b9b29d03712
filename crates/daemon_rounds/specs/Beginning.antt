-- What a new daemon knows of new sides.
use Rattle.std.specs.Prelude.{◌≡◌, ◌+◌, ◌≤◌, List, length}
use Rattle.sample_key.specs.declared.losses.Pace.{Pace}
use Rattle.trace_model.specs.Recording.{Recording}
use Rattle.trace_model.specs.declared.limits.TheConstants.{MOST_CPUS}
use Rattle.database_state.specs.Heads.{Head}
use Rattle.lane_side.specs.Plain.{Plain}
use Rattle.run_model.specs.Daemon.{new_daemon}
use Rattle.dcpid_core.specs.Collection.{new_collection}
use Rattle.daemon_rounds.specs.Knowing.{Knows}
use Rattle.daemon_rounds.specs.Sides.{AreIdle, AreNew}

-- Before its first call the daemon knows its sides, where there is a new one for each processor of the trace, and they are idle.
abbrev pub NewDaemonsKnow : Type 0
NewDaemonsKnow = (pace : Pace) (trace : Recording) (head : Head) (sides : List Plain)
    → trace.cpus ≤ MOST_CPUS → length sides ≡ trace.cpus → AreNew trace 0 sides
    → Knows pace trace (head.runs + 1) head.epoch (new_daemon head.epoch)
    (new_collection trace pace head) sides
    × AreIdle sides
