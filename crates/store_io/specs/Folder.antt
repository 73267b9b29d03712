-- What contracts see of a store over a folder.
use Rattle.std.specs.Prelude.{◌≡◌, ℕ, None, Some, IsNone, is_none, IsTrue}
use Rattle.std.specs.declared.option.Option.{Option}
use Rattle.std.specs.declared.string.String.{String}
use Rattle.std.specs.declared.alloc.Global.{Global}
use Rattle.store_io.specs.declared.folder.DirStore.{DirStore}
use Rattle.store_io.specs.Files.{Files}

-- the faults of the store
abbrev pub folder_faults : {R : Type 0} → DirStore R → ℕ
folder_faults s = s.faults

-- the folder's path
abbrev pub folder_path : {R : Type 0} → DirStore R → String Global
folder_path s = s.path

-- a store that tells nothing tells no files
pub untold : (files : Files) → None ≡ Some files → ⊥
untold files told = coe 0 1 (i. is_there (told i)) tt
  where
    is_there : Option Files → Type 0
    is_there None = Unit {0}
    is_there (Some f) = ⊥
