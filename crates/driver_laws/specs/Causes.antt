-- Why a turn answered what it did: a cause for each answer (CauseOf), over the side before the turn
-- and the side after it.
use Rattle.std.specs.Prelude.{◌≡◌, ℕ, ◌+◌, ◌/◌, ◌%◌, ◌≤◌, ◌<◌, true, false, if◌then◌else◌, List, [], ◌∷◌, drop, Option, Some, None, is_some, ◌⊎◌}
use Rattle.sample_key.specs.declared.keys.Marked.{Marked}
use Rattle.sample_key.specs.declared.losses.Pace.{Pace}
use Rattle.sample_key.specs.declared.losses.Pace.TheVariants.{Free, Exact}
use Rattle.driver_model.specs.Table.{Table, empty_table}
use Rattle.driver_model.specs.Sides.{Side, is_even}
use Rattle.driver_model.specs.Driver.{Setup, Driver, Words, Turned, needs_write, answers_now, turn_of}
use Rattle.driver_model.specs.declared.answers.Turn.{Turn}
use Rattle.driver_model.specs.declared.answers.Turn.TheVariants.{Took, Lost, Held, Answered, Idle, Done}

-- the table after the turn looked for it where it was not held: an even word brought it
abbrev pub table_after : Option Table → Side → ℕ → Option Table
table_after (Some table) before read = Some table
table_after None before read =
    if is_even read then Some (empty_table before.buckets before.turn) else None

-- the driver after the turn looked for the table
abbrev pub with_table : Driver → Side → Side → Driver
with_table driver before after =
    record driver { table = table_after driver.table before after.third.read }

-- no buffer was active, both were looked at in this turn, and both words say that they are out
abbrev pub BothOut : Driver → Side → Side → Type 0
BothOut driver before after =
    (driver.pair.active ≡ None)
    × (after.first.tries ≡ before.first.tries + 1) × (after.second.tries ≡ before.second.tries + 1)
    × (after.first.read % 2 ≡ 1) × (after.second.read % 2 ≡ 1)

-- a buffer was active, or one that was looked at in this turn came back
abbrev pub HasBuffer : Driver → Side → Side → Type 0
HasBuffer driver before after =
    (is_some driver.pair.active ≡ true)
    ⊎ (((after.first.tries ≡ before.first.tries + 1) × (after.first.read % 2 ≡ 0))
    ⊎ ((after.second.tries ≡ before.second.tries + 1) × (after.second.read % 2 ≡ 0)))

-- P of the next sample, where one is left
abbrev pub OfNext : Setup → Driver → (Marked → Type 0) → Type 0
OfNext setup driver P =
    (sample : Marked) × ((rest : List Marked) × (drop driver.at setup.samples ≡ sample ∷ rest))
    × P sample

-- the sample is due at this bell value and needs a write, at this pace, and no buffer was to be had
abbrev pub FindsNone : Setup → Driver → Side → Side → ℕ → Pace → Marked → Type 0
FindsNone setup driver before after bell pace sample =
    (sample.mark ≤ bell / 2) × (needs_write sample.key driver.table ≡ true) × (setup.pace ≡ pace)
    × BothOut driver before after

-- the cause of each answer, where the close was not answered before
abbrev pub CauseAt : Setup → Driver → Side → Side → ℕ → Turn → Type 0
CauseAt setup driver before after bell Done =
    (answers_now setup driver bell ≡ true) × (bell ≡ setup.last)
CauseAt setup driver before after bell Answered =
    (answers_now setup driver bell ≡ true) × (bell ≡ setup.last → ⊥)
CauseAt setup driver before after bell Idle =
    (answers_now setup driver bell ≡ false) × (drop driver.at setup.samples ≡ [])
CauseAt setup driver before after bell Held =
    (answers_now setup driver bell ≡ false)
    × OfNext setup driver (λ sample. (bell / 2 < sample.mark)
    ⊎ FindsNone setup driver before after bell Exact sample)
CauseAt setup driver before after bell (Lost loss) =
    (answers_now setup driver bell ≡ false)
    × OfNext setup driver (λ sample. FindsNone setup driver before after bell Free sample
    × (loss ≡ record {
      index = driver.at;
      event = sample.key.event;
      word0 = after.first.read;
      word1 = after.second.read;
    }))
CauseAt setup driver before after bell Took =
    (answers_now setup driver bell ≡ false)
    × OfNext setup driver (λ sample. (sample.mark ≤ bell / 2)
    × ((needs_write sample.key driver.table ≡ false)
    ⊎ ((needs_write sample.key driver.table ≡ true) × HasBuffer driver before after)))

-- the cause of each answer of a turn: after the close it is Done
pub record CauseOf (setup : Setup) (driver : Driver) (before after : Side)
    (answer : Turn) : Type 0 where
  pub closed : driver.done ≡ true → answer ≡ Done
  pub going : driver.done ≡ false →
      CauseAt setup (with_table driver before after) before after after.heard answer

-- what a turn answered has its cause
abbrev pub HasCause : Setup → Driver → Side → Turned → Type 0
HasCause setup driver side turned = CauseOf setup driver side turned.side turned.answer

-- each answer of a turn has its cause, where the buffer to look at first is one of the two
abbrev pub AnswersHaveCauses : Type 0
AnswersHaveCauses = (setup : Setup) (words : Words) (driver : Driver) (side : Side)
    → driver.pair.next ≤ 1
    → HasCause setup driver side (turn_of setup words (record { driver = driver; side = side }))
