-- The head of the database: a command opens the database by the head of the greatest sealed generation.
use Rattle.std.specs.Prelude.{◌≡◌, ℕ, ◌≤◌, IfSome}
use Rattle.store_io.specs.Files.{Files}
use Rattle.store_io.specs.declared.file_refs.FileRef.{FileRef}
use Rattle.store_io.specs.declared.file_refs.FileRef.TheVariants as named
use Rattle.database_state.specs.Heads.{Head}
use Rattle.database_state.specs.Standing.{HaveHead, IsLatest}
use Rattle.epoch_store.specs.Reading.{HasNoHead}
use Rattle.report_text.specs.declared.epochs.Epochs.{Epochs}
use Rattle.report_text.specs.declared.epochs.Epochs.TheVariants.{All, One}
use Rattle.dcpi_top.specs.Streams.{Disk}
use Rattle.dcpi_top.specs.Inputs.{IsTold}

-- the database was opened with this head, which its files have where the store tells them
abbrev pub OpenedWith : Disk → Head → Type 0
OpenedWith disk head = IfSome disk.old (λ files. HaveHead files head)

-- the database was opened
abbrev pub IsOpened : Disk → Type 0
IsOpened disk = (head : Head) × OpenedWith disk head

-- the file is the head of the greatest sealed generation, which is missing or not in its form
abbrev pub IsBadHead : Files → FileRef → Type 0
IsBadHead files file =
    (g : ℕ) × (file ≡ named.Head g) × (1 ≤ g) × IsLatest files g × HasNoHead files g

-- the same where the files are told
abbrev pub HasBadHead : Disk → FileRef → Type 0
HasBadHead disk file = IfSome disk.old (λ files. IsBadHead files file)

-- the files are told, and have this head
abbrev pub IsToldHead : Disk → Head → Type 0
IsToldHead disk head = IsTold disk.old (λ files. HaveHead files head)

-- they are told, and this is their head, which is bad
abbrev pub IsToldBadHead : Disk → FileRef → Type 0
IsToldBadHead disk file = IsTold disk.old (λ files. IsBadHead files file)

-- the epochs that are asked for are there
abbrev pub AreThere : Epochs → Head → Type 0
AreThere All head = Unit {0}
AreThere (One epoch) head = epoch ≤ head.epoch
