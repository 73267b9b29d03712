-- What a database counts: how many samples it holds at each place, and which files say so.
use Rattle.std.specs.Prelude.{◌≡◌, ℕ, ◌==◌, if◌then◌else◌, List, ◌++◌, map, sum_by}
use Rattle.store_io.specs.declared.file_refs.FileRef.{FileRef}
use Rattle.sample_key.specs.Events.{code_of}
use Rattle.trace_model.specs.Counting.{Spot, Known, Unknown, Row, Rises, listed_at, rows_text}
use Rattle.database_model.specs.declared.profiles.ProfileRow.{ProfileRow}
use Rattle.database_state.specs.Database.{Database}
use Rattle.database_state.specs.Rows.{known_ref, unknown_ref}
use Rattle.database_state.specs.Heads.{Head}
use Rattle.dcpiprof_report.specs.Counting.{rows_or_none}

-- how much the rows of a profile count at an offset
abbrev pub sum_at : ℕ → List ProfileRow → ℕ
sum_at offset rows = sum_by (λ (row : ProfileRow). if offset == row.offset then row.count else 0) rows

-- how much a database counts at a place
abbrev pub count_in : Database → Spot → ℕ
count_in db (Known epoch image event offset) = sum_at offset (rows_or_none (db.known epoch image (code_of event)))
count_in db (Unknown epoch event pc) = sum_at pc (rows_or_none (db.unknown epoch (code_of event)))

-- rows in strictly rising order, each above 0, that list what a database counts at each place
pub record AreCountsIn (db : Database) (rows : List Row) : Type 0 where
  pub rise : Rises rows
  pub counts : (spot : Spot) → listed_at spot rows ≡ count_in db spot

-- the text of what a database counts
pub record IsTextOf (db : Database) (text : List ℕ) : Type 0 where
  pub rows : List Row
  pub counts : AreCountsIn db rows
  pub printed : text ≡ rows_text rows

-- the files of all profiles of a head, in its order
abbrev pub all_files : Head → List FileRef
all_files head = map known_ref head.known ++ map unknown_ref head.unknown
