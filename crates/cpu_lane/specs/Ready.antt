-- What the steps of a turn ask of the driver and its side: it follows from the invariant.
use Rattle.std.specs.Prelude.{◌≡◌, ℕ, ◌+◌, ◌/◌, ◌^◌, ◌<◌, ◌≤◌, List, ◌∷◌, true, drop, length, is_some, IfSome}
use Rattle.sample_key.specs.Marks.{due}
use Rattle.sample_key.specs.declared.limits.TheConstants.{LAST_CPU, MOST_SAMPLES}
use Rattle.sample_key.specs.declared.keys.Key.{Key}
use Rattle.sample_key.specs.declared.keys.Marked.{Marked}
use Rattle.driver_model.specs.Sides.{Side}
use Rattle.driver_model.specs.Handover.{FarSide, rung_of}
use Rattle.driver_model.specs.Table.{Table}
use Rattle.driver_model.specs.Driver.{Setup, Driver, pair_handed, buffer_header, table_header}
use Rattle.driver_model.specs.Invariant.{IsSetup, is_active, table_entries, active_entries}
use Rattle.driver_laws.specs.Turns.{HasRoomForTurn}
use Rattle.overflow_pair.specs.Contents.{Contents}
use Rattle.lane_side.specs.Fixed.{Fixed}
use Rattle.lane_side.specs.Calls.{MayHandBuffer, MayHandTable}

-- the side is that of a driver with this setup
pub record IsSideOf (setup : Setup) (fixed : Fixed) (side : Side) : Type 0 where
  pub cpu : fixed.cpu ≡ setup.cpu
  pub samples : fixed.samples ≡ setup.samples
  pub size : setup.size ≡ side.buffer

-- A value that a turn heard is at most 2^32. It is the value rung last, where the side tells those.
pub record HeardBy (fixed : Fixed) (far : FarSide) (heard : ℕ) : Type 0 where
  pub bound : heard ≤ 2 ^ 32
  pub told : fixed.told ≡ true → heard ≡ rung_of far.rungs

-- there is room for the two hands of a turn, with all entries that the driver holds and one more
abbrev pub HasRoom : Driver → Side → Type 0
HasRoom driver side = HasRoomForTurn driver side.room

-- driver and side are ready for the steps of a turn
pub record Ready (setup : Setup) (fixed : Fixed) (driver : Driver) (side : Side) : Type 0 where
  pub setup_is : IsSetup setup
  pub side_is : IsSideOf setup fixed side
  pub room : HasRoom driver side
  pub holds0 : side.first.holds ≡ is_active driver.pair 0
  pub holds1 : side.second.holds ≡ is_active driver.pair 1
  pub holds2 : side.third.holds ≡ is_some driver.table
  pub table : IfSome driver.table (λ table. length table.rows ≡ side.buckets)
  pub active : IfSome driver.pair.active (λ entries. length entries < side.buffer)
  pub buffer : 1 ≤ side.buffer
  pub number : driver.pair.active_number ≤ 1
  pub next : driver.pair.next ≤ 1
  pub hands0 : driver.pair.hands0 ≡ length side.first.handed
  pub hands1 : driver.pair.hands1 ≡ length side.second.handed
  pub hands2 : driver.tables ≡ length side.third.handed
  pub few0 : driver.pair.hands0 ≤ driver.at
  pub few1 : driver.pair.hands1 ≤ driver.at
  pub few2 : driver.tables ≤ driver.answered
  pub answered : driver.answered ≤ side.heard
  pub at : driver.at ≤ due setup.samples (side.heard / 2)
  pub held : length (table_entries driver.table) + length (active_entries driver.pair.active) ≤ driver.at
  pub all : driver.stats.folded + driver.stats.placed + driver.stats.evicted + driver.stats.spilt
      + driver.stats.direct + length driver.losses ≡ driver.at

-- a hand of the active buffer, which is this one
pub record CanHand (setup : Setup) (fixed : Fixed) (driver : Driver) (side : Side)
    (buffer : Contents) : Type 0 where
  pub number : driver.pair.active_number ≤ 1
  pub few0 : driver.pair.hands0 < 2 ^ 62
  pub few1 : driver.pair.hands1 < 2 ^ 62
  pub cpu : setup.cpu ≤ LAST_CPU
  pub at : driver.at ≤ MOST_SAMPLES
  pub may : MayHandBuffer driver.pair.active_number fixed side
      (buffer_header setup driver.at driver.pair.active_number
      (pair_handed driver.pair driver.pair.active_number))
      buffer

-- a hand of the table, which is this one and answers this value
pub record CanHandTable (setup : Setup) (fixed : Fixed) (driver : Driver) (side : Side)
    (bell : ℕ) (table : Table) : Type 0 where
  pub few : driver.tables < 2 ^ 62
  pub cpu : setup.cpu ≤ LAST_CPU
  pub at : driver.at ≤ MOST_SAMPLES
  pub may : MayHandTable fixed side (table_header setup driver bell) table

-- one sample more can be counted
pub record CanCount (driver : Driver) : Type 0 where
  pub at : driver.at < MOST_SAMPLES
  pub all : driver.stats.folded + driver.stats.placed + driver.stats.evicted + driver.stats.spilt
      + driver.stats.direct + length driver.losses ≡ driver.at

-- the next sample has this key, and is due at the bell value heard
abbrev pub IsDue : Setup → Driver → Side → Key → Type 0
IsDue setup driver side key =
    (sample : Marked) × (rest : List Marked) × (drop driver.at setup.samples ≡ sample ∷ rest)
    × (sample.key ≡ key) × (sample.mark ≤ side.heard / 2)
