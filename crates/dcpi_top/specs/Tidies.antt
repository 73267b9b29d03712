-- What `tidy` owes: the files that the database does not use are gone, their number is the text, and the database is the same.
use Rattle.std.specs.Prelude.{◌≡◌, ◌⊎◌, ℕ, List, ◌++◌, codes, IfSome}
use Rattle.std.specs.declared.option.Option.{Option}
use Rattle.std.specs.declared.option.Option.TheVariants.{Some}
use Rattle.std.specs.Fmt.{decimal}
use Rattle.store_io.specs.Files.{Files}
use Rattle.store_io.specs.Outcomes.{AfterSome, Told}
use Rattle.store_io.specs.Crashes.{LeavesOnly, LeftNow, Passes}
use Rattle.database_state.specs.Heads.{Head}
use Rattle.database_state.specs.Standing.{HaveHead, database_of}
use Rattle.dcpid_core.specs.Storing.{TellsNow}
use Rattle.store_tidy.specs.Removals.{LeftUntidy, Tidied}
use Rattle.store_tidy.specs.Unused.{LosesUnused, Says, without_unused}
use Rattle.dcpi_top.specs.Streams.{Disk}
use Rattle.dcpi_top.specs.Heads.{OpenedWith}
use Rattle.dcpi_top.specs.Messages.{ended}

-- the text of so many removals
abbrev pub removed_text : ℕ → List ℕ
removed_text removed = codes "removed " ++ ended (decimal removed)

-- The files that this head does not use are gone and no others, so many they were; and what is left says what the files said.
abbrev pub TidiesWhole : Head → ℕ → Files → Files → Type 0
TidiesWhole head removed old new = Tidied head removed old new × Says head (database_of head old) new

-- Of the files that this head does not use the first are gone, in byte order, and the next one maybe; and what is left says what
-- the files said.
abbrev pub TidiesInPart : Head → Files → Files → Type 0
TidiesInPart head old new = LeftUntidy head old new × Says head (database_of head old) new

-- The text of a tidying. The database was opened with this head, and the text is the number of the files that were removed: where
-- the store tells its files, all those that the head does not use.
pub record IsTidyText (disk : Disk) (text : List ℕ) : Type 0 where
  pub head : Head
  pub removed : ℕ
  pub opened : OpenedWith disk head
  pub tidied : Told (TidiesWhole head removed) disk.old disk.new
  pub printed : text ≡ removed_text removed

-- the database was opened with this head, and some first of the files that it does not use are gone
pub record IsTidiedInPart (disk : Disk) : Type 0 where
  pub head : Head
  pub opened : OpenedWith disk head
  pub tidied : Told (TidiesInPart head) disk.old disk.new

-- the files stay, or some first of those that the head does not use are gone
abbrev pub MayBeTidied : Disk → Type 0
MayBeTidied disk = (disk.new ≡ disk.old) ⊎ IsTidiedInPart disk

-- What a crash at any moment of a tidying leaves: what a crash left before, maybe without some of the files that the head does
-- not use. So it stands for the database of before, and so do the present files. Where the status is 0 or 5, and a crash at the
-- start left the present files alone, a crash from now on leaves them without the files that the head does not use.
pub record LeavesDatabase {D : Type 0} (files : D → Option Files) (moment : D → ℕ)
    (left_since : D → ℕ → Files → Type 0) (old new : D) (status : ℕ)
    : Type 0 where
  pub head : Head
  pub opened : IfSome (files old) (λ f. HaveHead f head)
  pub steps : Passes moment left_since old new
      (AfterSome (LeftNow moment left_since old) (LosesUnused head))
  pub any_moment : (h : Head) (f : Files) → TellsNow files moment left_since old h f →
      LeavesOnly moment left_since old new (Says h (database_of h f))
  pub present : (h : Head) (f g : Files) → TellsNow files moment left_since old h f →
      files new ≡ Some g → Says h (database_of h f) g
  pub settled : (status ≡ 0) ⊎ (status ≡ 5) → (f : Files) → files old ≡ Some f →
      ((c : Files) → LeftNow moment left_since old c → c ≡ f) →
      (c : Files) → LeftNow moment left_since new c → c ≡ without_unused head f
