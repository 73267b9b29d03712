-- A lane with its shared side, and the turns that it takes.
use Rattle.std.specs.Prelude.{◌≡◌, ◌≤◌, true, false, List, [], ◌∷◌, None}
use Rattle.driver_model.specs.Driver.{Setup, Words, World, turn_of}
use Rattle.driver_model.specs.Invariant.{DriverInvariant}
use Rattle.driver_model.specs.declared.answers.Turn.{Turn}
use Rattle.driver_model.specs.declared.answers.Turn.TheVariants.{Took, Lost, Held, Answered, Idle, Done}
use Rattle.driver_laws.specs.Causes.{CauseOf}
use Rattle.cpu_lane.specs.Ready.{IsSideOf, HeardBy}
use Rattle.cpu_lane.specs.Seen.{Seen}
use Rattle.cpu_lane.specs.Steps.{Gives}
use Rattle.shared_side.specs.Shown.{Shown}
use Rattle.lane_threads.specs.declared.works.Next.{Next}
use Rattle.lane_threads.specs.declared.works.Next.TheVariants.{End, Rest, GoOn}

-- a lane and its side
pub record Working : Type 0 where
  pub lane : Seen
  pub side : Shown

-- The side is the lane's, tells no room, and the driver's invariant holds of both.
pub record IsWorking (lane : Seen) (side : Shown) : Type 0 where
  pub side_is : IsSideOf lane.setup side.fixed side.seen
  pub room : side.seen.room ≡ None
  pub invariant : DriverInvariant lane.setup lane.driver side.seen

-- the driver and the side, as the definition of a turn sees both
abbrev pub world_in : Working → World
world_in work = record { driver = work.lane.driver; side = work.side.seen }

-- What no turn changes: what the lane was made for, its cells, and the made size of the table.
pub record IsSame (before after : Working) : Type 0 where
  pub setup : after.lane.setup ≡ before.lane.setup
  pub fixed : after.side.fixed ≡ before.side.fixed
  pub buckets : after.side.seen.buckets ≡ before.side.seen.buckets

-- The lane took one turn and answered this: it is the turn of the driver's definition over the
-- words that it read. The bell value heard is not below the one before, and is one that may be
-- rung; the answer has its cause.
pub record TookTurn (before : Working) (answer : Turn) (after : Working) : Type 0 where
  pub words : Words
  pub step : Gives (turn_of before.lane.setup words (world_in before)) answer
      after.lane.driver after.side.seen
  pub later : before.side.seen.heard ≤ after.side.seen.heard
  pub heard : before.lane.driver.done ≡ false →
      HeardBy before.side.fixed before.side.far after.side.seen.heard
  pub cause : CauseOf before.lane.setup before.lane.driver before.side.seen after.side.seen answer
  pub same : IsSame before after

-- what follows a turn with this answer
abbrev pub next_after : Turn → Next
next_after Took = GoOn
next_after (Lost loss) = GoOn
next_after Answered = GoOn
next_after Held = Rest
next_after Idle = Rest
next_after Done = End

-- The lane took one turn, and this follows its answer.
abbrev pub Turned : Working → Next → Working → Type 0
Turned before next after =
    (answer : Turn) × TookTurn before answer after × (next ≡ next_after answer)

-- the driver and the side after turns over these words, of which the last turn's stand first
abbrev pub after_turns : Setup → List Words → World → World
after_turns setup [] world = world
after_turns setup (words ∷ earlier) world =
    let turned = turn_of setup words (after_turns setup earlier world) in
    record { driver = turned.driver; side = turned.side }

-- The same lane and side after some turns.
pub record IsLater (before after : Working) : Type 0 where
  pub words : List Words
  pub turns : world_in after ≡ after_turns before.lane.setup words (world_in before)
  pub same : IsSame before after

-- The same, and the lane has answered the close.
pub record IsEnded (before after : Working) : Type 0 where
  pub later : IsLater before after
  pub done : after.lane.driver.done ≡ true
