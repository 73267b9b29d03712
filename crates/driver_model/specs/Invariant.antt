-- What every turn of a driver keeps (DriverInvariant), in eleven parts.
use Rattle.std.specs.Prelude.{◌≡◌, ℕ, ◌+◌, ◌/◌, ◌%◌, ◌^◌, ◌<◌, ◌≤◌, ◌==◌, Bool, true, ◌&&◌, if◌then◌else◌, is_some, List, [], ◌∷◌, ◌++◌, length, take, Option, Some, None, ◌⊎◌, slice_get, IsSomeAnd, IfSome}
use Rattle.sample_key.specs.Bags.{weight, times, batched, batched_upto, lost, lost_below}
use Rattle.sample_key.specs.Counted.{Counted}
use Rattle.sample_key.specs.Headers.{Header}
use Rattle.sample_key.specs.Sent.{Sent}
use Rattle.sample_key.specs.Marks.{due, IsRising, MarksUpTo}
use Rattle.sample_key.specs.declared.keys.Key.{Key}
use Rattle.sample_key.specs.declared.keys.Marked.{Marked}
use Rattle.sample_key.specs.declared.limits.TheConstants.{LAST_CPU, MOST_SAMPLES}
use Rattle.sample_key.specs.declared.losses.Loss.{Loss}
use Rattle.sample_key.specs.declared.losses.Pace.{Pace}
use Rattle.sample_key.specs.declared.losses.Pace.TheVariants.{Free, Exact}
use Rattle.driver_model.specs.Lists.{Each, AllOf, SomeOf}
use Rattle.driver_model.specs.Table.{Table, entries_in, IsTable, FitsTable}
use Rattle.driver_model.specs.Sides.{Side}
use Rattle.driver_model.specs.Driver.{Setup, Buffers, Driver}

-- what a driver may be made for
pub record IsSetup (setup : Setup) : Type 0 where
  pub cpu : setup.cpu ≤ LAST_CPU
  pub few : length setup.samples ≤ MOST_SAMPLES
  pub rising : IsRising setup.samples
  pub odd : setup.last % 2 ≡ 1
  pub bound : setup.last ≤ 2 ^ 32
  pub due : MarksUpTo (setup.last / 2) setup.samples

-- the entries of the table, where it is held
abbrev pub table_entries : Option Table → List Counted
table_entries None = []
table_entries (Some table) = entries_in table

-- the entries of the active buffer, where there is one
abbrev pub active_entries : Option (List Counted) → List Counted
active_entries None = []
active_entries (Some entries) = entries

-- how often the batches handed of all cells count a key
abbrev pub handed_weight : Key → Side → ℕ
handed_weight key side =
    batched key side.first.handed + batched key side.second.handed + batched key side.third.handed

-- the same, of the batches that go up to at most so many samples
abbrev pub handed_upto : Key → ℕ → Side → ℕ
handed_upto key most side =
    batched_upto key most side.first.handed + batched_upto key most side.second.handed
    + batched_upto key most side.third.handed

-- Nothing is counted twice or dropped: the samples taken or lost so far are, key by key, the
-- entries of the table held, of the active buffer and of all batches, and the lost samples.
abbrev pub IsConserved : Setup → Driver → Side → Type 0
IsConserved setup driver side = (key : Key) →
    weight key (table_entries driver.table) + weight key (active_entries driver.pair.active)
    + handed_weight key side + lost key setup.samples driver.losses
    ≡ times key (take driver.at setup.samples)

-- A table batch is a whole flush: with the table batches before it, the buffer batches that it
-- names as sent, and the losses below, it is the first `upto` samples.
pub record IsWholeFlush (samples : List Marked) (first second : List Sent) (losses : List Loss)
    (done : List Sent) (batch : Sent) : Type 0 where
  pub sent0 : batch.note.sent0 ≤ length first
  pub sent1 : batch.note.sent1 ≤ length second
  pub upto : batch.note.upto ≤ length samples
  pub whole : (key : Key) →
      batched key done + weight key batch.entries + batched key (take batch.note.sent0 first)
      + batched key (take batch.note.sent1 second)
      + lost_below key batch.note.upto samples losses
      ≡ times key (take batch.note.upto samples)

-- each table batch is a whole flush
abbrev pub AreWholeFlushes : Setup → Driver → Side → Type 0
AreWholeFlushes setup driver side =
    Each (IsWholeFlush setup.samples side.first.handed side.second.handed driver.losses)
    side.third.handed

-- Batches come from the samples before them: those that go up to at most so many samples count,
-- with the losses below, no key more often than those first samples.
abbrev pub IsBounded : Setup → Driver → Side → Type 0
IsBounded setup driver side = (most : ℕ) (key : Key) → most ≤ driver.at →
    handed_upto key most side + lost_below key most setup.samples driver.losses
    ≤ times key (take most setup.samples)

-- batches are numbered 1, 2, 3 and so on, and `upto` never falls
abbrev pub InOrder : List Sent → Type 0
InOrder handed =
    Each (λ done batch. (batch.note.number ≡ length done + 1)
    × AllOf (λ before. before.note.upto ≤ batch.note.upto) done) handed

-- the hands of a buffer that a header names
abbrev pub sent_of : ℕ → Header → ℕ
sent_of number header = if number == 0 then header.sent0 else header.sent1

-- a table batch was handed just after this buffer batch
abbrev pub CutBy : ℕ → Sent → Sent → Type 0
CutBy cell batch table =
    (table.note.upto ≡ batch.note.upto) × (sent_of cell table.note ≡ batch.note.number)

-- a buffer batch is full, or shorter where a table batch was handed just after it
abbrev pub FullOrCut : ℕ → ℕ → List Sent → Sent → Type 0
FullOrCut cell size tables batch =
    (1 ≤ length batch.entries) × (length batch.entries ≤ size)
    × ((length batch.entries ≡ size) ⊎ SomeOf (CutBy cell batch) tables)

-- a buffer was out when a sample was lost: the word is odd, the batch that it stands for was handed
-- before the sample's index, and the next one, if any, after it
abbrev pub WasOut : List Sent → ℕ → ℕ → Type 0
WasOut handed index word =
    (word % 2 ≡ 1)
    × IsSomeAnd (slice_get handed (word / 2))
    (λ batch. (batch.note.number ≡ (word + 1) / 2) × (batch.note.upto ≤ index))
    × IfSome (slice_get handed (word / 2 + 1)) (λ next. index < next.note.upto)

-- both buffers were out when a sample was lost
abbrev pub IsExplained : List Sent → List Sent → Loss → Type 0
IsExplained first second loss =
    WasOut first loss.index loss.word0 × WasOut second loss.index loss.word1

-- the batches handed are numbered in order, full or cut by a flush, and fit their cells; and each
-- loss is explained by them
pub record IsWellFormed (setup : Setup) (driver : Driver) (side : Side) : Type 0 where
  pub order0 : InOrder side.first.handed
  pub order1 : InOrder side.second.handed
  pub order2 : InOrder side.third.handed
  pub sizes0 : AllOf (FullOrCut 0 setup.size side.third.handed) side.first.handed
  pub sizes1 : AllOf (FullOrCut 1 setup.size side.third.handed) side.second.handed
  pub tables : AllOf (λ batch. FitsTable side.buckets batch.entries) side.third.handed
  pub losses : AllOf (IsExplained side.first.handed side.second.handed) driver.losses

-- whether the active buffer is the one of this number
abbrev pub is_active : Buffers → ℕ → Bool
is_active pair number = is_some pair.active && pair.active_number == number

-- an active buffer is neither empty nor full
abbrev pub IsPartlyFull : ℕ → Option (List Counted) → Type 0
IsPartlyFull size active =
    IfSome active (λ entries. (1 ≤ length entries) × (length entries < size))

-- driver and side agree on who holds what, on the sizes, and on how often each cell was handed
pub record IsInStep (driver : Driver) (side : Side) : Type 0 where
  pub holds0 : side.first.holds ≡ is_active driver.pair 0
  pub holds1 : side.second.holds ≡ is_active driver.pair 1
  pub holds2 : side.third.holds ≡ is_some driver.table
  pub table : IfSome driver.table (IsTable side.buckets)
  pub active : IsPartlyFull side.buffer driver.pair.active
  pub buckets : 1 ≤ side.buckets
  pub buffer : 1 ≤ side.buffer
  pub turn : side.turn < 4
  pub number : driver.pair.active_number ≤ 1
  pub next : driver.pair.next ≤ 1
  pub hands0 : driver.pair.hands0 ≡ length side.first.handed
  pub hands1 : driver.pair.hands1 ≡ length side.second.handed
  pub hands2 : driver.tables ≡ length side.third.handed

-- no sample was taken or lost before it was due, and no batch goes beyond the samples taken or lost
pub record IsInRange (setup : Setup) (driver : Driver) (side : Side) : Type 0 where
  pub at : driver.at ≤ due setup.samples (side.heard / 2)
  pub upto0 : AllOf (λ batch. batch.note.upto ≤ driver.at) side.first.handed
  pub upto1 : AllOf (λ batch. batch.note.upto ≤ driver.at) side.second.handed
  pub upto2 : AllOf (λ batch. batch.note.upto ≤ driver.at) side.third.handed

-- the losses rise by index, and each is of a sample taken or lost so far and has its event
abbrev pub LossesInOrder : Setup → Driver → Type 0
LossesInOrder setup driver = Each (λ done loss.
    (loss.index < driver.at) × AllOf (λ before. before.index < loss.index) done
    × IsSomeAnd (slice_get setup.samples loss.index) (λ sample. loss.event ≡ sample.key.event))
    driver.losses

-- the value answered last by a list of table batches, or this
abbrev pub last_answer : ℕ → List Sent → ℕ
last_answer last [] = last
last_answer last (batch ∷ batches) = last_answer batch.note.answers batches

-- the table batches answer odd values that rise; the last is the value answered last, and was heard
pub record AnswersRise (driver : Driver) (side : Side) : Type 0 where
  pub rise : Each (λ done batch. (batch.note.answers % 2 ≡ 1)
      × AllOf (λ before. before.note.answers < batch.note.answers) done) side.third.handed
  pub last : last_answer 0 side.third.handed ≡ driver.answered
  pub heard : driver.answered ≤ side.heard

-- how many entries a list of batches has
abbrev pub entries_of : List Sent → ℕ
entries_of [] = 0
entries_of (batch ∷ batches) = length batch.entries + entries_of batches

-- the statistics count the entries of tables and buffers, and all samples that were not lost
pub record IsCounted (driver : Driver) (side : Side) : Type 0 where
  pub placed :
      driver.stats.placed ≡ entries_of side.third.handed + length (table_entries driver.table)
  pub written : driver.stats.evicted + driver.stats.spilt + driver.stats.direct
      ≡ entries_of side.first.handed + entries_of side.second.handed
      + length (active_entries driver.pair.active)
  pub all : driver.stats.folded + driver.stats.placed + driver.stats.evicted + driver.stats.spilt
      + driver.stats.direct + length driver.losses
      ≡ driver.at

-- at the exact pace nothing is lost, and each table batch goes up to just the samples that were due
-- at its answer
abbrev pub IsExact : Setup → Driver → Side → Pace → Type 0
IsExact setup driver side Free = Unit {0}
IsExact setup driver side Exact =
    (driver.losses ≡ [])
    × AllOf (λ batch. batch.note.upto ≡ due setup.samples (batch.note.answers / 2))
    side.third.handed

-- the last of a list of batches names all hands of the buffers as sent
abbrev pub LastNames : ℕ → ℕ → List Sent → Type 0
LastNames hands0 hands1 handed =
    (front : List Sent) × (batch : Sent) × (handed ≡ front ++ batch ∷ [])
    × (batch.note.sent0 ≡ hands0) × (batch.note.sent1 ≡ hands1)

-- after the close all samples were taken or lost, nothing is held, and the last table batch names
-- all buffers as sent
pub record IsAtEnd (setup : Setup) (driver : Driver) (side : Side) : Type 0 where
  pub at : driver.at ≡ length setup.samples
  pub table : driver.table ≡ None
  pub active : driver.pair.active ≡ None
  pub last : LastNames driver.pair.hands0 driver.pair.hands1 side.third.handed

-- the driver is done exactly where it answered the close
pub record IsClosed (setup : Setup) (driver : Driver) (side : Side) : Type 0 where
  pub done : driver.done ≡ (driver.answered == setup.last)
  pub end : driver.done ≡ true → IsAtEnd setup driver side

-- the invariant of a driver and its side
pub record DriverInvariant (setup : Setup) (driver : Driver) (side : Side) : Type 0 where
  pub conserved : IsConserved setup driver side
  pub flushes : AreWholeFlushes setup driver side
  pub bounded : IsBounded setup driver side
  pub well_formed : IsWellFormed setup driver side
  pub in_step : IsInStep driver side
  pub in_range : IsInRange setup driver side
  pub losses_in_order : LossesInOrder setup driver
  pub answers_rise : AnswersRise driver side
  pub counted : IsCounted driver side
  pub exact : IsExact setup driver side setup.pace
  pub closed : IsClosed setup driver side
