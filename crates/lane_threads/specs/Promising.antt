-- What becomes of a work that is given to a thread, or that stays with the daemon's.
use Rattle.std.specs.Prelude.{◌≡◌}
use Rattle.driver_model.specs.declared.answers.Turn.{Turn}
use Rattle.lane_threads.specs.Working.{Working, IsLater, TookTurn}
use Rattle.lane_threads.specs.declared.runners.Runner.{Runner}
use Rattle.lane_threads.specs.declared.runners.Runner.TheVariants.{Away, Here}
use Rattle.lane_threads.specs.declared.starts.Waiting.{Waiting}

-- this work waits for a thread
abbrev pub IsOfWork : Working → Waiting → Type 0
IsOfWork work waiting = waiting.work ≡ work

-- A thread has promised to give this work back at its end; or it is here, after some turns.
abbrev pub Runs : Working → Runner → Type 0
Runs work (Away handle) = handle.promise.of.value ≡ work
Runs work (Here here) = IsLater work here

-- A lane that is here took one turn; one that is away is left alone.
abbrev pub TookStep : Runner → Runner → Type 0
TookStep (Away handle) after = after ≡ Away handle
TookStep (Here work) (Away handle) = ⊥
TookStep (Here work) (Here after) = (answer : Turn) × TookTurn work answer after
