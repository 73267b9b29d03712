-- What stops a change: the first of the images and profiles, in the order in which a commit takes them, that has no room or
-- whose file is bad.
use Rattle.std.specs.Prelude.{◌≡◌, ◌⊎◌, ℕ, ◌+◌, ◌^◌, ◌<◌, ◌≤◌, true, List, ◌++◌, length}
use Rattle.std.specs.declared.option.Option.{Option}
use Rattle.std.specs.declared.option.Option.TheVariants.{Some, None}
use Rattle.store_io.specs.Files.{Files}
use Rattle.store_io.specs.declared.file_refs.FileRef.{FileRef}
use Rattle.sample_key.specs.Events.{code_of}
use Rattle.trace_model.specs.Recording.{name_at}
use Rattle.database_model.specs.declared.profiles.ProfileRow.{ProfileRow}
use Rattle.database_state.specs.Rows.{known_before, unknown_before, known_place, unknown_place, known_row, unknown_row, known_ref, unknown_ref}
use Rattle.database_state.specs.declared.rows.KnownRow.{KnownRow}
use Rattle.database_state.specs.declared.rows.UnknownRow.{UnknownRow}
use Rattle.database_state.specs.Heads.{Head}
use Rattle.database_state.specs.Standing.{known_at, unknown_at}
use Rattle.database_state.specs.declared.faults.DbFault.{DbFault}
use Rattle.database_state.specs.declared.faults.DbFault.TheVariants.{StoreFault, Bad, Full, Memory}
use Rattle.database_state.specs.declared.faults.FullWhat.{FullWhat}
use Rattle.database_state.specs.declared.faults.FullWhat.TheVariants as full
use Rattle.growth_model.specs.Additions.{Additions}
use Rattle.growth_model.specs.Growth.{IsCounted, Selects, IsNewName, count_at}
use Rattle.profile_merge.specs.declared.owners.Owner.{Owner}
use Rattle.profile_merge.specs.declared.owners.Owner.TheVariants.{Known, Unknown}

-- what is added to a profile at each offset, where these are the images by their numbers
abbrev pub added_to : Additions → List (List ℕ) → Owner → ℕ → ℕ
added_to added names (Known epoch image event) =
    added.known epoch (name_at names image) (code_of event)
added_to added names (Unknown epoch event) = added.unknown epoch (code_of event)

-- the image of a profile has a number
abbrev pub IsNumbered : List (List ℕ) → Owner → Type 0
IsNumbered names (Known epoch image event) = image < length names
IsNumbered names (Unknown epoch event) = Unit {0}

-- a profile to which something is added
pub record IsChanged (added : Additions) (names : List (List ℕ)) (owner : Owner) : Type 0 where
  pub numbered : IsNumbered names owner
  pub counted : IsCounted (added_to added names owner)

-- a profile comes before another in a commit: the known ones first, by epoch, image number and event code
abbrev pub ComesBefore : Owner → Owner → Type 0
ComesBefore (Known epoch image event) (Known other number kind) =
    known_before (known_place epoch image (code_of event)) (known_place other number (code_of kind))
    ≡ true
ComesBefore (Known epoch image event) (Unknown other kind) = Unit {0}
ComesBefore (Unknown epoch event) (Known other number kind) = ⊥
ComesBefore (Unknown epoch event) (Unknown other kind) =
    unknown_before (unknown_place epoch (code_of event)) (unknown_place other (code_of kind)) ≡ true

-- what the files say of a profile under a head
abbrev pub held_by : Head → Files → Owner → Option (List ProfileRow)
held_by h files (Known epoch image event) =
    known_at files (known_row h.known epoch image (code_of event))
held_by h files (Unknown epoch event) =
    unknown_at files (unknown_row h.unknown epoch (code_of event))

-- the file that the head's row of a profile names
abbrev pub IsFileOf : Head → Owner → FileRef → Type 0
IsFileOf h (Known epoch image event) file = (row : KnownRow)
    × (known_row h.known epoch image (code_of event) ≡ Some row) × (file ≡ known_ref row)
IsFileOf h (Unknown epoch event) file = (row : UnknownRow)
    × (unknown_row h.unknown epoch (code_of event) ≡ Some row) × (file ≡ unknown_ref row)

-- a place in a profile
abbrev pub full_at : Owner → ℕ → FullWhat
full_at (Known epoch image event) offset = full.Known epoch image (code_of event) offset
full_at (Unknown epoch event) pc = full.Unknown epoch (code_of event) pc

-- a profile has room for what is added: its file is good, and no sum is above 2 ^ 48
abbrev pub HasRoom : (ℕ → ℕ) → Option (List ProfileRow) → Type 0
HasRoom added None = ⊥
HasRoom added (Some rows) = (offset : ℕ) → count_at rows offset + added offset ≤ 2 ^ 48

-- The first offset at which the sum is above 2 ^ 48, with what is held and added there.
pub record IsOver (added : ℕ → ℕ) (rows : List ProfileRow) (offset held more : ℕ) : Type 0 where
  pub is_held : held ≡ count_at rows offset
  pub is_added : more ≡ added offset
  pub over : 2 ^ 48 < held + more
  pub first : (before : ℕ) → before < offset → count_at rows before + added before ≤ 2 ^ 48

-- what is wrong with a profile
abbrev pub IsWrong : (ℕ → ℕ) → Head → Files → Owner → DbFault → Type 0
IsWrong added h files owner StoreFault = ⊥
IsWrong added h files owner (Bad file) = IsFileOf h owner file × (held_by h files owner ≡ None)
IsWrong added h files owner (Full what held more) =
    (rows : List ProfileRow) × (offset : ℕ) × (held_by h files owner ≡ Some rows)
    × (what ≡ full_at owner offset) × IsOver added rows offset held more
IsWrong added h files owner Memory = ⊥

-- The first changed profile with which something is wrong, and what it is.
pub record IsFirstWrong (added : Additions) (names : List (List ℕ)) (h : Head) (files : Files)
    (fault : DbFault)
    : Type 0 where
  pub owner : Owner
  pub changed : IsChanged added names owner
  pub wrong : IsWrong (added_to added names owner) h files owner fault
  pub first : (other : Owner) → ComesBefore other owner → IsChanged added names other →
      HasRoom (added_to added names other) (held_by h files other)

-- What stops the change: more than 4,096 images, or else the first profile with which something is wrong.
pub record IsFirstFault (images : List (List ℕ)) (added : Additions) (h : Head) (files : Files)
    (fault : DbFault)
    : Type 0 where
  pub more : List (List ℕ)
  pub chosen : Selects (IsNewName h.names added) images more
  pub why : ((4096 < length (h.names ++ more)) × (fault ≡ Full full.Images 4096 1))
      ⊎ ((length (h.names ++ more) ≤ 4096) × IsFirstWrong added (h.names ++ more) h files fault)
