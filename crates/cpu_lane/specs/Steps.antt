-- What a step of the driver made is what its definition says.
use Rattle.std.specs.Prelude.{◌≡◌, ℕ, ◌==◌, nat_le, if◌then◌else◌, length, List, Option, Some, None}
use Rattle.sample_key.specs.Counted.{Counted}
use Rattle.sample_key.specs.declared.keys.Key.{Key}
use Rattle.driver_model.specs.Sides.{Side, is_even, side_look_buffer}
use Rattle.driver_model.specs.Driver.{Setup, Driver, World, Turned, activate, take_next, needs_write, hand_buffer, push, ends_with}
use Rattle.driver_model.specs.declared.answers.Turn.{Turn}
use Rattle.driver_model.specs.declared.answers.Turn.TheVariants.{Took}
use Rattle.overflow_pair.specs.Contents.{Contents, empty_buffer}
use Rattle.cpu_lane.specs.Seen.{driver_of}
use Rattle.cpu_lane.specs.declared.drivers.Driver as held
use Rattle.cpu_lane.specs.declared.drivers.Found.{Found}
use Rattle.cpu_lane.specs.declared.drivers.Found.TheVariants.{Active, Out}

-- the state of a driver with its side, as the definitions see both
abbrev pub world_of : held.Driver → Side → World
world_of driver side = record { driver = driver_of driver; side = side }

-- the driver and the side are those of this world
abbrev pub Is : World → Driver → Side → Type 0
Is world driver side = (driver ≡ world.driver) × (side ≡ world.side)

-- the turn answered this, and the driver and the side are as it left them
abbrev pub Gives : Turned → Turn → Driver → Side → Type 0
Gives turned answer driver side = (answer ≡ turned.answer) × (driver ≡ turned.driver) × (side ≡ turned.side)

-- the driver and the side after a look at this buffer that read this word
abbrev pub looked : Driver → Side → ℕ → ℕ → World
looked driver side b word = record {
  driver = if is_even word then activate driver b else driver;
  side = side_look_buffer side b word;
}

-- what the looks found: an empty buffer of this size, which is active now; or both are out, with the words read last
abbrev pub Finds : ℕ → Side → Found → Option Contents → Type 0
Finds size side Active active = active ≡ Some (empty_buffer size)
Finds size side (Out word0 word1) active = (active ≡ None) × (word0 ≡ side.first.read) × (word1 ≡ side.second.read)

-- both buffers are out, with these words: that of the one looked at last, of this number, and that of the other
abbrev pub both_out : ℕ → ℕ → ℕ → Found
both_out last word before = if last == 0 then Out word before else Out before word

-- these are the entries of the active buffer now, which is handed if it is full
abbrev pub put : Setup → Driver → Side → List Counted → World
put setup driver side entries =
    if nat_le setup.size (length entries)
    then hand_buffer setup driver side driver.pair.active_number entries
    else record { driver = record driver { pair = record driver.pair { active = Some entries } }; side = side }

-- the next sample, of this key, is taken where a buffer of these entries is active
abbrev pub take_held : Setup → World → Key → List Counted → Turned
take_held setup world key entries =
    if needs_write key world.driver.table
    then ends_with (push setup world key entries) Took
    else ends_with (record { driver = take_next world.driver key world.driver.table; side = world.side }) Took
