-- Words of a text, and the numbers that a row's fields hold.
use Rattle.std.specs.Prelude.{ℕ, ◌^◌, ◌<◌, Bool, nat_lt, List}
use Rattle.std.specs.List.{list_all}
use Rattle.database_state.specs.declared.rows.KnownRow.{KnownRow}
use Rattle.database_state.specs.declared.rows.UnknownRow.{UnknownRow}

-- every byte is above the blank, so that a word ends before a blank or a line feed
abbrev pub is_word : List ℕ → Bool
is_word text = list_all (λ byte. nat_lt 32 byte) text

-- the fields of a row are numbers of their types
pub record KnownFits (r : KnownRow) : Type 0 where
  pub epoch : r.epoch < 2 ^ 32
  pub image : r.image < 2 ^ 32
  pub event : r.event < 2 ^ 8
  pub g : r.g < 2 ^ 32

pub record UnknownFits (r : UnknownRow) : Type 0 where
  pub epoch : r.epoch < 2 ^ 32
  pub event : r.event < 2 ^ 8
  pub g : r.g < 2 ^ 32
