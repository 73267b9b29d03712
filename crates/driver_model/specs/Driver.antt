-- The driver: its state, and one turn of it (turn_of) as a function of the words that it reads.
use Rattle.std.specs.Prelude.{ℕ, ◌+◌, ◌/◌, ◌%◌, ◌==◌, nat_lt, nat_le, ◌&&◌, ◌||◌, Bool, false, not, if◌then◌else◌, List, [], ◌∷◌, ◌++◌, length, drop, Option, Some, None, is_some, unwrap_or}
use Rattle.sample_key.specs.Counted.{Counted, entry}
use Rattle.sample_key.specs.Headers.{Header}
use Rattle.sample_key.specs.Sent.{Sent}
use Rattle.sample_key.specs.Marks.{due}
use Rattle.sample_key.specs.declared.keys.Key.{Key}
use Rattle.sample_key.specs.declared.keys.Marked.{Marked}
use Rattle.sample_key.specs.declared.losses.Loss.{Loss}
use Rattle.sample_key.specs.declared.losses.Pace.{Pace}
use Rattle.sample_key.specs.declared.losses.Pace.TheVariants.{Free, Exact}
use Rattle.driver_model.specs.Table.{Table, entries_in, empty_table, add, given_out}
use Rattle.driver_model.specs.Sides.{Side, is_even, side_hear, side_look_table, side_look_buffer, side_hand_table, side_hand_buffer}
use Rattle.driver_model.specs.declared.answers.Added.{Added}
use Rattle.driver_model.specs.declared.answers.Added.TheVariants.{Folded, Placed, Evicted, Spilt}
use Rattle.driver_model.specs.declared.answers.Turn.{Turn}
use Rattle.driver_model.specs.declared.answers.Turn.TheVariants.{Took, Lost, Held, Answered, Idle, Done}
use Rattle.driver_model.specs.declared.plans.Stats.{Stats}

-- what never changes: the processor, its samples, the pace, the value of the close, and the size of
-- a buffer
pub record Setup : Type 0 where
  pub cpu : ℕ
  pub samples : List Marked
  pub pace : Pace
  pub last : ℕ
  pub size : ℕ

-- the active buffer with its number, the buffer to look at first, and the hands of both
pub record Buffers : Type 0 where
  pub active : Option (List Counted)
  pub active_number : ℕ
  pub next : ℕ
  pub hands0 : ℕ
  pub hands1 : ℕ

-- the state of a driver
pub record Driver : Type 0 where
  -- the samples taken or lost so far
  pub at : ℕ
  -- the table, where it is held
  pub table : Option Table
  -- the buffers
  pub pair : Buffers
  -- the hands of the table
  pub tables : ℕ
  -- the bell value answered last, 0 before the first
  pub answered : ℕ
  -- whether the close was answered
  pub done : Bool
  -- the samples lost, in order
  pub losses : List Loss
  -- how the others were counted
  pub stats : Stats

-- a driver and its side
pub record World : Type 0 where
  pub driver : Driver
  pub side : Side

-- what a turn makes of them, and what it answers
pub record Turned : Type 0 where
  pub answer : Turn
  pub driver : Driver
  pub side : Side

-- the words that looks at the two buffers would read
pub record Two : Type 0 where
  pub first : ℕ
  pub second : ℕ

-- all that a turn may read: the bell, the word of the table and those of the buffers
pub record Words : Type 0 where
  pub bell : ℕ
  pub third : ℕ
  pub two : Two

-- the turn changed nothing more, and answers this
abbrev pub ends_with : World → Turn → Turned
ends_with world answer = record { answer = answer; driver = world.driver; side = world.side }

-- where the table is not held, the driver looks for it
abbrev pub regain : Driver → Side → ℕ → Option Table → World
regain driver side word (Some table) = record { driver = driver; side = side }
regain driver side word None = record {
  driver =
      if is_even word
      then record driver { table = Some (empty_table side.buckets side.turn) }
      else driver;
  side = side_look_table side word;
}

-- whether the driver may answer this value: at the free pace any but the close, and the close when
-- no sample is left; at the exact pace when no sample is left that was due at the value's position
abbrev pub may_answer : Setup → Driver → ℕ → Pace → Bool
may_answer setup driver bell Free =
    not (bell == setup.last) || nat_le (length setup.samples) driver.at
may_answer setup driver bell Exact = due (drop driver.at setup.samples) (bell / 2) == 0

-- whether the driver answers this value: it is odd and above the last one answered, the table is
-- held, and it may
abbrev pub answers_now : Setup → Driver → ℕ → Bool
answers_now setup driver bell =
    bell % 2 == 1 && nat_lt driver.answered bell && is_some driver.table
    && may_answer setup driver bell setup.pace

-- the buffers after the active one, of this number, was handed
abbrev pub pair_handed : Buffers → ℕ → Buffers
pair_handed pair number =
    if number == 0
    then record pair { active = None; next = 1; hands0 = pair.hands0 + 1 }
    else record pair { active = None; next = 0; hands1 = pair.hands1 + 1 }

-- the hands of a buffer
abbrev pub hands_of : Buffers → ℕ → ℕ
hands_of pair number = if number == 0 then pair.hands0 else pair.hands1

-- the header of a buffer, where its hand is counted already
abbrev pub buffer_header : Setup → ℕ → ℕ → Buffers → Header
buffer_header setup at number pair = record {
  cpu = setup.cpu;
  cell = number;
  number = hands_of pair number;
  upto = at;
  answers = 0;
  sent0 = pair.hands0;
  sent1 = pair.hands1;
}

-- the header of the table, which answers this value
abbrev pub table_header : Setup → Driver → ℕ → Header
table_header setup driver bell = record {
  cpu = setup.cpu;
  cell = 2;
  number = driver.tables + 1;
  upto = driver.at;
  answers = bell;
  sent0 = driver.pair.hands0;
  sent1 = driver.pair.hands1;
}

-- the batch of a buffer, where its hand is counted already
abbrev pub buffer_batch : Setup → ℕ → ℕ → Buffers → List Counted → Sent
buffer_batch setup at number pair entries =
    record { note = buffer_header setup at number pair; entries = entries }

-- the batch of the table, which answers this value
abbrev pub table_batch : Setup → Driver → ℕ → Table → Sent
table_batch setup driver bell table =
    record { note = table_header setup driver bell; entries = entries_in table }

-- the active buffer, of this number and with these entries, is handed
abbrev pub hand_buffer : Setup → Driver → Side → ℕ → List Counted → World
hand_buffer setup driver side number entries =
    let pair = pair_handed driver.pair number in
    record {
      driver = record driver { pair = pair };
      side = side_hand_buffer side number (buffer_batch setup driver.at number pair entries);
    }

-- the active buffer is handed where there is one
abbrev pub hand_active : Setup → Driver → Side → Option (List Counted) → World
hand_active setup driver side None = record { driver = driver; side = side }
hand_active setup driver side (Some entries) =
    hand_buffer setup driver side driver.pair.active_number entries

-- the table is handed and answers this value
abbrev pub hand_table : Setup → Driver → Side → ℕ → Table → World
hand_table setup driver side bell table = record {
  driver = record driver {
    table = None;
    tables = driver.tables + 1;
    answered = bell;
    done = bell == setup.last;
  };
  side = side_hand_table side (table_batch setup driver bell table) table.turn;
}

-- this value is answered: first the active buffer is handed, then the table
abbrev pub answer_with : Setup → World → ℕ → Option Table → Turned
answer_with setup world bell None = ends_with world Idle
answer_with setup world bell (Some table) =
    let left = hand_active setup world.driver world.side world.driver.pair.active in
    ends_with (hand_table setup left.driver left.side bell table)
    (if bell == setup.last then Done else Answered)

-- the statistics after a sample was counted in the table in this way, or directly in a buffer
abbrev pub tally : Stats → Option Added → Stats
tally stats (Some Folded) = record stats { folded = stats.folded + 1 }
tally stats (Some Placed) = record stats { placed = stats.placed + 1 }
tally stats (Some (Evicted given)) = record stats { evicted = stats.evicted + 1 }
tally stats (Some (Spilt given)) = record stats { spilt = stats.spilt + 1 }
tally stats None = record stats { direct = stats.direct + 1 }

-- the next sample, of this key, is taken: the table counts it where it is held
abbrev pub take_next : Driver → Key → Option Table → Driver
take_next driver key (Some table) =
    record driver {
      at = driver.at + 1;
      table = Some (add table key).table;
      stats = tally driver.stats (Some (add table key).added);
    }
take_next driver key None = record driver { at = driver.at + 1; stats = tally driver.stats None }

-- what a sample of this key needs written, if anything: the entry that the table would give out,
-- and where the table is out the sample itself
abbrev pub to_write : Key → Option Table → Option Counted
to_write key (Some table) = given_out (add table key).added
to_write key None = Some (entry key 1)

-- the entry that is written for a sample of this key that needs a write
abbrev pub entry_to_write : Key → Option Table → Counted
entry_to_write key table = unwrap_or (to_write key table) (entry key 1)

-- whether a sample of this key needs a write
abbrev pub needs_write : Key → Option Table → Bool
needs_write key table = is_some (to_write key table)

-- this buffer came back empty and is the active one
abbrev pub activate : Driver → ℕ → Driver
activate driver number =
    record driver { pair = record driver.pair { active = Some []; active_number = number } }

-- the other buffer
abbrev pub other : ℕ → ℕ
other number = if number == 0 then 1 else 0

-- the word of a buffer
abbrev pub word_at : Two → ℕ → ℕ
word_at words number = if number == 0 then words.first else words.second

-- the second look of a turn
abbrev pub look_other : Two → Driver → Side → ℕ → World
look_other words driver side number = record {
  driver = if is_even (word_at words number) then activate driver number else driver;
  side = side_look_buffer side number (word_at words number);
}

-- the driver looks at this buffer, then, where that is out, at the other; the first that is back is
-- active
abbrev pub look_both : Two → Driver → Side → ℕ → World
look_both words driver side number =
    if is_even (word_at words number)
    then record {
      driver = activate driver number;
      side = side_look_buffer side number (word_at words number);
    }
    else look_other words driver
    (side_look_buffer side number (word_at words number)) (other number)

-- where no buffer is active, the driver looks for one
abbrev pub find_buffer : Two → Driver → Side → Option (List Counted) → World
find_buffer words driver side (Some entries) = record { driver = driver; side = side }
find_buffer words driver side None = look_both words driver side driver.pair.next

-- the sample is taken and what it needs written is pushed to the active buffer, which is handed if
-- it is full
abbrev pub push : Setup → World → Key → List Counted → World
push setup world key entries =
    let after = take_next world.driver key world.driver.table in
    let full = entries ++ entry_to_write key world.driver.table ∷ [] in
    if nat_le setup.size (length full)
    then hand_buffer setup after world.side after.pair.active_number full
    else record {
      driver = record after { pair = record after.pair { active = Some full } };
      side = world.side;
    }

-- the loss of the next sample, of this key: both buffers were out when this turn looked
abbrev pub loss_of : World → Key → Loss
loss_of world key = record {
  index = world.driver.at;
  event = key.event;
  word0 = world.side.first.read;
  word1 = world.side.second.read;
}

-- the next sample is lost
abbrev pub lose : World → Key → Turned
lose world key = record {
  answer = Lost (loss_of world key);
  driver = record world.driver {
    at = world.driver.at + 1;
    losses = world.driver.losses ++ loss_of world key ∷ [];
  };
  side = world.side;
}

-- the sample needs a write: it is taken where a buffer is active, and else lost at the free pace
-- and held at the exact
abbrev pub write : Setup → World → Key → Pace → Option (List Counted) → Turned
write setup world key pace (Some entries) = ends_with (push setup world key entries) Took
write setup world key Free None = lose world key
write setup world key Exact None = ends_with world Held

-- the sample needs a write: a buffer is looked for first
abbrev pub write_sample : Setup → Two → World → Key → Turned
write_sample setup words world key =
    let found = find_buffer words world.driver world.side world.driver.pair.active in
    write setup found key setup.pace found.driver.pair.active

-- the next sample is due: the table counts it, or it needs a write
abbrev pub take_sample : Setup → Two → World → Key → Turned
take_sample setup words world key =
    if needs_write key world.driver.table
    then write_sample setup words world key
    else ends_with (record {
      driver = take_next world.driver key world.driver.table;
      side = world.side;
    }) Took

-- the turn goes on with the samples that are left
abbrev pub next_sample : Setup → Two → ℕ → World → List Marked → Turned
next_sample setup words bell world [] = ends_with world Idle
next_sample setup words bell world (sample ∷ rest) =
    if nat_lt (bell / 2) sample.mark
    then ends_with world Held
    else take_sample setup words world sample.key

-- the turn goes on after the bell was heard and the table looked for
abbrev pub after_regain : Setup → Words → World → Turned
after_regain setup words world =
    if answers_now setup world.driver words.bell
    then answer_with setup world words.bell world.driver.table
    else next_sample setup words.two words.bell world (drop world.driver.at setup.samples)

-- one turn of the driver
abbrev pub turn_of : Setup → Words → World → Turned
turn_of setup words world =
    if world.driver.done
    then ends_with world Done
    else after_regain setup words
    (regain world.driver (side_hear world.side words.bell) words.third world.driver.table)

-- no sample was counted yet
abbrev pub no_stats : Stats
no_stats = record { folded = 0; placed = 0; evicted = 0; spilt = 0; direct = 0 }

-- no buffer is active, and buffer 0 is looked at first
abbrev pub no_buffers : Buffers
no_buffers = record { active = None; active_number = 0; next = 0; hands0 = 0; hands1 = 0 }

-- a new driver
abbrev pub new_driver : Driver
new_driver = record {
  at = 0;
  table = None;
  pair = no_buffers;
  tables = 0;
  answered = 0;
  done = false;
  losses = [];
  stats = no_stats;
}
