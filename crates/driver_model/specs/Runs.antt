-- The next turn over a side that tells its words: all that it reads follows from the lists.
use Rattle.std.specs.Prelude.{ℕ, ◌+◌, length}
use Rattle.driver_model.specs.Sides.{Side, Slot}
use Rattle.driver_model.specs.Handover.{Given}
use Rattle.driver_model.specs.Driver.{Setup, World, Words, Turned, turn_of}

-- the word of a cell that was handed and given back so often
abbrev pub word_of : Slot → ℕ → ℕ
word_of slot given = length slot.handed + given

-- the words of cells whose values were given back so often, at this bell value
abbrev pub words_at : ℕ → Given → Side → Words
words_at bell given side = record {
  bell = bell;
  third = word_of side.third given.third;
  two = record {
    first = word_of side.first given.first;
    second = word_of side.second given.second;
  };
}

-- the next turn of a driver whose cells were given back so often
abbrev pub next_turn : Setup → ℕ → Given → World → Turned
next_turn setup bell given world = turn_of setup (words_at bell given world.side) world
