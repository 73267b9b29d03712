-- What a turn did: which batches it handed, how far it got with its samples, and what the close
-- left.
use Rattle.std.specs.Prelude.{◌≡◌, ℕ, ◌%◌, ◌<◌, ◌≤◌, Bool, true, false, List, [], ◌∷◌, ◌++◌, length, None, is_some, ◌⊎◌}
use Rattle.sample_key.specs.Sent.{Sent}
use Rattle.sample_key.specs.declared.losses.Pace.TheVariants.{Free}
use Rattle.driver_model.specs.Sides.{Side, is_even}
use Rattle.driver_model.specs.Driver.{Setup, Driver, World, Words, Turned, turn_of}
use Rattle.driver_model.specs.Invariant.{IsSetup, DriverInvariant, is_active}
use Rattle.driver_model.specs.declared.answers.Turn.TheVariants.{Done}

-- the batches that the daemon took of the three cells
pub record Taken : Type 0 where
  pub first : List Sent
  pub second : List Sent
  pub third : List Sent

-- a turn handed nothing of a cell; where the driver holds its value all that was handed was taken
pub record HandedNone (taken before after : List Sent) (held : Bool) : Type 0 where
  pub same : after ≡ before
  pub home : held ≡ true → taken ≡ before

-- a turn handed one batch of a cell, of which all before it was taken, and holds the value no more;
-- the batch is of this processor and this cell, and P holds of it
pub record HandedOne (cpu cell : ℕ) (P : Sent → Type 0) (taken before after : List Sent)
    (held : Bool) : Type 0 where
  pub batch : Sent
  pub more : after ≡ before ++ batch ∷ []
  pub home : taken ≡ before
  pub out : held ≡ false
  pub cpu_is : batch.note.cpu ≡ cpu
  pub cell_is : batch.note.cell ≡ cell
  pub fact : P batch

-- what a turn did to a cell
abbrev pub CellDid : ℕ → ℕ → (Sent → Type 0) → List Sent → List Sent → List Sent → Bool → Type 0
CellDid cpu cell P taken before after held =
    HandedNone taken before after held ⊎ HandedOne cpu cell P taken before after held

-- a batch of a buffer answers nothing
abbrev pub AnswersNothing : Sent → Type 0
AnswersNothing batch = batch.note.answers ≡ 0

-- a batch of the table answers this bell value, which is odd and above the value answered before
abbrev pub AnswersBell : ℕ → ℕ → Sent → Type 0
AnswersBell bell answered batch =
    (batch.note.answers ≡ bell) × (bell % 2 ≡ 1) × (answered < bell)

-- what a turn did to the three cells, at this bell value, where the driver had answered that value
-- before
pub record CellsDid (cpu bell answered : ℕ) (taken : Taken) (before : Side) (driver : Driver)
    (after : Side) : Type 0 where
  pub first : CellDid cpu 0 AnswersNothing
      taken.first before.first.handed after.first.handed (is_active driver.pair 0)
  pub second : CellDid cpu 1 AnswersNothing
      taken.second before.second.handed after.second.handed (is_active driver.pair 1)
  pub third : CellDid cpu 2 (AnswersBell bell answered)
      taken.third before.third.handed after.third.handed (is_some driver.table)

-- what this turn did to the three cells of a side
abbrev pub DidBy : Setup → ℕ → ℕ → Taken → Side → Turned → Type 0
DidBy setup bell answered taken before turned =
    CellsDid setup.cpu bell answered taken before turned.driver turned.side

-- where the driver holds a value, all that was handed of its cell was taken
pub record IsTakenWhereHeld (taken : Taken) (driver : Driver) (side : Side) : Type 0 where
  pub first : is_active driver.pair 0 ≡ true → taken.first ≡ side.first.handed
  pub second : is_active driver.pair 1 ≡ true → taken.second ≡ side.second.handed
  pub third : is_some driver.table ≡ true → taken.third ≡ side.third.handed

-- where a word is even, all that was handed of its cell was taken
pub record IsTakenWhereEven (taken : Taken) (words : Words) (side : Side) : Type 0 where
  pub first : is_even words.two.first ≡ true → taken.first ≡ side.first.handed
  pub second : is_even words.two.second ≡ true → taken.second ≡ side.second.handed
  pub third : is_even words.third ≡ true → taken.third ≡ side.third.handed

-- the buffer numbers of a driver are 0 or 1
pub record HasNumbers (driver : Driver) : Type 0 where
  pub active : driver.pair.active_number ≤ 1
  pub next : driver.pair.next ≤ 1

-- A turn leaves each cell alone or hands one batch over it, of a cell of which all was taken.
abbrev pub TurnDid : Type 0
TurnDid = (setup : Setup) (words : Words) (driver : Driver) (side : Side) (taken : Taken)
    → HasNumbers driver
    → IsTakenWhereHeld taken driver side → IsTakenWhereEven taken words side
    → DidBy setup words.bell driver.answered taken side
    (turn_of setup words (record { driver = driver; side = side }))

-- a turn gives no sample back
abbrev pub TurnGoesOn : Type 0
TurnGoesOn = (setup : Setup) (words : Words) (world : World)
    → world.driver.at ≤ (turn_of setup words world).driver.at

-- one batch more was handed, and it answers this value
abbrev pub HandsAnswer : ℕ → List Sent → List Sent → Type 0
HandsAnswer bell before after =
    (batch : Sent) × (after ≡ before ++ batch ∷ []) × (batch.note.answers ≡ bell)

-- the value was answered before, or is answered now, or one sample more was taken or lost
abbrev pub GetsOn : ℕ → Driver → Side → Turned → Type 0
GetsOn bell driver side turned =
    (bell ≤ driver.answered)
    ⊎ (HandsAnswer bell side.third.handed turned.side.third.handed
    ⊎ (driver.at < turned.driver.at))

-- At the free pace, where a flush is asked for and the table is held or comes back, a turn gets on.
abbrev pub TurnGetsOn : Type 0
TurnGetsOn = (setup : Setup) (words : Words) (driver : Driver) (side : Side)
    → IsSetup setup → setup.pace ≡ Free → words.bell % 2 ≡ 1 → driver.done ≡ false
    → (is_some driver.table ≡ true) ⊎ (is_even words.third ≡ true)
    → GetsOn words.bell driver side (turn_of setup words (record { driver = driver; side = side }))

-- a turn that answers Done has answered the close, now or before
abbrev pub DoneIsClosed : Type 0
DoneIsClosed = (setup : Setup) (words : Words) (world : World)
    → (turn_of setup words world).answer ≡ Done
    → (turn_of setup words world).driver.done ≡ true

-- a driver that has answered the close answered its bell value, has taken or lost each sample, and
-- holds nothing
pub record IsAtRest (setup : Setup) (driver : Driver) (side : Side) : Type 0 where
  pub answered : driver.answered ≡ setup.last
  pub at : driver.at ≡ length setup.samples
  pub table : driver.table ≡ None
  pub active : driver.pair.active ≡ None
  pub holds0 : side.first.holds ≡ false
  pub holds1 : side.second.holds ≡ false
  pub holds2 : side.third.holds ≡ false

-- after the close a driver is at rest
abbrev pub ClosedIsAtRest : Type 0
ClosedIsAtRest = (setup : Setup) (driver : Driver) (side : Side)
    → DriverInvariant setup driver side → driver.done ≡ true → IsAtRest setup driver side
