-- One cell of a plain side: who holds its value, and what a look and a poll make of that.
use Rattle.std.specs.Prelude.{ℕ, Bool, true, false}
use Rattle.sample_key.specs.declared.batches.Parcel.{Parcel}
use Rattle.lane_side.specs.declared.cells.Holder.{Holder}
use Rattle.lane_side.specs.declared.cells.Holder.TheVariants.{AtHome, WithDriver, Posted, WithDaemon}
use Rattle.lane_side.specs.declared.cells.Cell.{Cell}
use Rattle.turn_cell.specs.declared.passing.Look.{Look}
use Rattle.turn_cell.specs.declared.passing.Look.TheVariants.{Back, Out}
use Rattle.turn_cell.specs.declared.passing.PollOf.{PollOf}
use Rattle.turn_cell.specs.declared.passing.PollOf.TheVariants.{Parcel as Got, Home}

-- whether the driver holds the value
abbrev pub is_drivers : {B : Type 0} → Holder B → Bool
is_drivers (AtHome value) = false
is_drivers WithDriver = true
is_drivers (Posted parcel) = false
is_drivers WithDaemon = false

-- whether the daemon holds the value
abbrev pub is_daemons : {B : Type 0} → Holder B → Bool
is_daemons (AtHome value) = false
is_daemons WithDriver = false
is_daemons (Posted parcel) = false
is_daemons WithDaemon = true

-- where the value is after a look
abbrev pub after_look : {B : Type 0} → Holder B → Holder B
after_look (AtHome value) = WithDriver
after_look WithDriver = WithDriver
after_look (Posted parcel) = Posted parcel
after_look WithDaemon = WithDaemon

-- what a look that read this word answers
abbrev pub look_of : {B : Type 0} → ℕ → Holder B → Look B
look_of word (AtHome value) = Back value
look_of word WithDriver = Out word
look_of word (Posted parcel) = Out word
look_of word WithDaemon = Out word

-- where the value is after a poll
abbrev pub after_poll : {B : Type 0} → Holder B → Holder B
after_poll (AtHome value) = AtHome value
after_poll WithDriver = WithDriver
after_poll (Posted parcel) = WithDaemon
after_poll WithDaemon = WithDaemon

-- what a poll that read this word answers
abbrev pub poll_of : {B : Type 0} → ℕ → Holder B → PollOf (Parcel B)
poll_of word (AtHome value) = Home word
poll_of word WithDriver = Home word
poll_of word (Posted parcel) = Got parcel
poll_of word WithDaemon = Home word

-- a cell that was handed and given back so often
abbrev pub cell_of : {B : Type 0} → ℕ → ℕ → Holder B → Cell B
cell_of hands given holder = record { hands = hands; given = given; holder = holder }
