-- What contracts see of an opened database.
use Rattle.std.specs.Prelude.{Bool, length}
use Rattle.std.specs.declared.option.Option.{Option}
use Rattle.database_state.specs.declared.rows.KnownRow.{KnownRow}
use Rattle.database_state.specs.declared.rows.UnknownRow.{UnknownRow}
use Rattle.database_state.specs.Rows.{is_known_row, is_unknown_row}
use Rattle.database_state.specs.Heads.{Head}
use Rattle.database_state.specs.declared.faults.DbFault.{DbFault}
use Rattle.epoch_store.specs.declared.database.Database.{Database}

-- its head
abbrev pub head_of : Database → Head
head_of db = db.head

-- the fault of the commit that failed, if one did
abbrev pub failed_of : Database → Option DbFault
failed_of db = db.failed

-- a row in the ranges of a head
abbrev pub is_row_of : Head → KnownRow → Bool
is_row_of h r = is_known_row h.epoch (length h.names) h.generation r

-- an unknown row in the ranges of a head
abbrev pub is_unknown_row_of : Head → UnknownRow → Bool
is_unknown_row_of h r = is_unknown_row h.epoch h.generation r
