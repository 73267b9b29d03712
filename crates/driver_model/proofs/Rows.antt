use Rattle.std.proofs.Common.{◌≡◌, ℕ, zero, suc, ◌+◌, ◌%◌, List, [], ◌∷◌, refl, true, false, Some, None}
use Rattle.sample_key.specs.Counted.{entry}
use Rattle.sample_key.specs.declared.events.Event.TheVariants.{Cycles}
use Rattle.sample_key.specs.declared.keys.Key.{Key}
use Rattle.sample_key.specs.declared.keys.Marked.{Marked}
use Rattle.sample_key.specs.declared.losses.Pace.TheVariants.{Free}
use Rattle.driver_model.specs.Table.{Table, add, empty_table, needs_room}
use Rattle.driver_model.specs.Sides.{new_side}
use Rattle.driver_model.specs.Handover.{Given, none_given}
use Rattle.driver_model.specs.Driver.{Setup, World, Turned, new_driver}
use Rattle.driver_model.specs.Runs.{next_turn}
use Rattle.driver_model.specs.declared.answers.Added.TheVariants.{Folded, Placed, Evicted}
use Rattle.driver_model.specs.declared.answers.Turn.TheVariants.{Took, Lost, Held, Answered, Idle}
use Rattle.driver_model.specs.declared.plans.Stats.{Stats}

-- worked examples, computed by the definitions

-- the driver and its side as a turn left them
abbrev left_by : Turned → World
left_by turned = record { driver = turned.driver; side = turned.side }

-- so many turns on end, at the same bell value and with nothing given back meanwhile
abbrev turns : ℕ → Setup → ℕ → Given → World → World
turns zero setup bell given world = world
turns (suc n) setup bell given world =
    turns n setup bell given (left_by (next_turn setup bell given world))

-- process 7 counts cycles at this program counter
abbrev at_pc : (pc : ℕ) → pc % 4 ≡ 0 → Key
at_pc pc h = record { pid = 7; pc = pc; event = Cycles; aligned = h }

abbrev k0 : Key
k0 = at_pc 0x1000 refl

abbrev k1 : Key
k1 = at_pc 0x1004 refl

abbrev k2 : Key
k2 = at_pc 0x1008 refl

abbrev k3 : Key
k3 = at_pc 0x100c refl

abbrev k4 : Key
k4 = at_pc 0x1010 refl

abbrev k5 : Key
k5 = at_pc 0x1014 refl

abbrev k6 : Key
k6 = at_pc 0x1018 refl

-- a sample with no record before it
abbrev sample : Key → Marked
sample k = record { key = k; mark = 0 }

-- a driver of processor 0 at the free pace, where the trace has so many records
abbrev setup : List Marked → ℕ → ℕ → Setup
setup samples last size = record { cpu = 0; samples = samples; pace = Free; last = last; size = size }

-- a new driver with a new side
abbrev start : ℕ → ℕ → World
start buckets size = record { driver = new_driver; side = new_side None buckets size }

-- eviction order: one bucket, four keys, and a fifth that takes the way of the first
abbrev four : Table
four = (add (add (add (add (empty_table 1 0) k0).table k1).table k2).table k3).table

five_rows : (add four k4).table ≡ record { rows = (entry k4 1 ∷ entry k1 1 ∷ entry k2 1 ∷ entry k3 1 ∷ []) ∷ []; turn = 1 }
five_rows = refl

five_added : (add four k4).added ≡ Evicted (entry k0 1)
five_added = refl

first_added : (add (empty_table 1 0) k0).added ≡ Placed
first_added = refl

again_added : (add four k2).added ≡ Folded
again_added = refl

four_room : needs_room four k2 ≡ false
four_room = refl

five_room : needs_room four k4 ≡ true
five_room = refl

-- both buffers out: one bucket, buffers of one entry, and seven samples of seven keys
abbrev seven : Setup
seven = setup (sample k0 ∷ sample k1 ∷ sample k2 ∷ sample k3 ∷ sample k4 ∷ sample k5 ∷ sample k6 ∷ []) 1 1

abbrev after_six : World
after_six = turns 6 seven 0 none_given (start 1 1)

six_first : after_six.side.first.handed ≡ record {
  note = record { cpu = 0; cell = 0; number = 1; upto = 5; answers = 0; sent0 = 1; sent1 = 0 };
  entries = entry k0 1 ∷ [];
} ∷ []
six_first = refl

six_second : after_six.side.second.handed ≡ record {
  note = record { cpu = 0; cell = 1; number = 1; upto = 6; answers = 0; sent0 = 1; sent1 = 1 };
  entries = entry k1 1 ∷ [];
} ∷ []
six_second = refl

seventh : (next_turn seven 0 none_given after_six).answer ≡ Lost (record { index = 6; event = Cycles; word0 = 1; word1 = 1 })
seventh = refl

seventh_stats : (next_turn seven 0 none_given after_six).driver.stats
    ≡ record { folded = 0; placed = 4; evicted = 2; spilt = 0; direct = 0 }
seventh_stats = refl

seventh_tries : (next_turn seven 0 none_given after_six).side.first.tries ≡ after_six.side.first.tries + 1
seventh_tries = refl

-- the second look: the same, where the daemon gave buffer 1 back before the last turn
abbrev one_back : Given
one_back = record { first = 0; second = 1; third = 0 }

found : (next_turn seven 0 one_back after_six).answer ≡ Took
found = refl

found_read : (next_turn seven 0 one_back after_six).side.first.read ≡ 1
found_read = refl

found_other : (next_turn seven 0 one_back after_six).side.second.read ≡ 2
found_other = refl

found_stats : (next_turn seven 0 one_back after_six).driver.stats
    ≡ record { folded = 0; placed = 4; evicted = 3; spilt = 0; direct = 0 }
found_stats = refl

-- a driver that holds this table, and has counted samples before its list begins
abbrev with_table : Table → Stats → World
with_table t stats = record { driver = record new_driver { table = Some t; stats = stats }; side = new_side None 1 8192 }

-- the largest entry: 65,534 samples of one key were counted, and two more come
abbrev two : Setup
two = setup (sample k0 ∷ sample k0 ∷ []) 1 8192

abbrev nearly : World
nearly = with_table
    (record { rows = (entry k0 65534 ∷ []) ∷ []; turn = 0 })
    (record { folded = 65533; placed = 1; evicted = 0; spilt = 0; direct = 0 })

full_table : (turns 1 two 0 none_given nearly).driver.table ≡ Some (record { rows = (entry k0 65535 ∷ []) ∷ []; turn = 0 })
full_table = refl

spilt_table : (turns 2 two 0 none_given nearly).driver.table ≡ Some (record { rows = (entry k0 1 ∷ []) ∷ []; turn = 0 })
spilt_table = refl

spilt_active : (turns 2 two 0 none_given nearly).driver.pair.active ≡ Some (entry k0 65535 ∷ [])
spilt_active = refl

spilt_stats : (turns 2 two 0 none_given nearly).driver.stats
    ≡ record { folded = 65534; placed = 1; evicted = 0; spilt = 1; direct = 0 }
spilt_stats = refl

-- the largest entry, refused: both buffers are out, and the entry keeps its count
abbrev eight : Setup
eight = setup (sample k0 ∷ sample k1 ∷ sample k2 ∷ sample k3 ∷ sample k4 ∷ sample k5 ∷ sample k4 ∷ sample k4 ∷ []) 1 1

abbrev six_of_eight : World
six_of_eight = turns 6 eight 0 none_given (start 1 1)

six_table : six_of_eight.driver.table
    ≡ Some (record { rows = (entry k4 1 ∷ entry k5 1 ∷ entry k2 1 ∷ entry k3 1 ∷ []) ∷ []; turn = 2 })
six_table = refl

abbrev at_limit : World
at_limit = record {
  driver = record six_of_eight.driver {
    table = Some (record { rows = (entry k4 65534 ∷ entry k5 1 ∷ entry k2 1 ∷ entry k3 1 ∷ []) ∷ []; turn = 2 });
    stats = record { folded = 65533; placed = 4; evicted = 2; spilt = 0; direct = 0 };
  };
  side = six_of_eight.side;
}

refused : (next_turn eight 0 none_given (turns 1 eight 0 none_given at_limit)).answer
    ≡ Lost (record { index = 7; event = Cycles; word0 = 1; word1 = 1 })
refused = refl

refused_table : (turns 2 eight 0 none_given at_limit).driver.table
    ≡ Some (record { rows = (entry k4 65535 ∷ entry k5 1 ∷ entry k2 1 ∷ entry k3 1 ∷ []) ∷ []; turn = 2 })
refused_table = refl

refused_stats : (turns 2 eight 0 none_given at_limit).driver.stats
    ≡ record { folded = 65534; placed = 4; evicted = 2; spilt = 0; direct = 0 }
refused_stats = refl

-- a flush in progress: the table is handed at the bell value 1, and two samples go directly to a buffer
abbrev three : Setup
three = setup (sample k0 ∷ sample k1 ∷ sample k2 ∷ []) 3 8192

abbrev after_first : World
after_first = turns 1 three 0 none_given (start 16 8192)

flushed : (next_turn three 1 none_given after_first).answer ≡ Answered
flushed = refl

direct : (turns 3 three 1 none_given after_first).driver.stats
    ≡ record { folded = 0; placed = 1; evicted = 0; spilt = 0; direct = 2 }
direct = refl

direct_active : (turns 3 three 1 none_given after_first).driver.pair.active ≡ Some (entry k1 1 ∷ entry k2 1 ∷ [])
direct_active = refl

direct_idle : (next_turn three 1 none_given (turns 3 three 1 none_given after_first)).answer ≡ Idle
direct_idle = refl

-- the order of records: a sample with a record before it is held until the bell says that the record is in force
abbrev later : Setup
later = setup (record { key = k0; mark = 1 } ∷ []) 3 8192

held : (next_turn later 0 none_given (start 16 8192)).answer ≡ Held
held = refl

due_now : (next_turn later 2 none_given (turns 1 later 0 none_given (start 16 8192))).answer ≡ Took
due_now = refl
