-- What each command's text is, and why a command gives none.
use Rattle.std.specs.Prelude.{◌≡◌, ◌⊎◌, ℕ, ◌<◌, List}
use Rattle.std.specs.declared.option.Option.{Option}
use Rattle.std.specs.declared.option.Option.TheVariants.{Some}
use Rattle.std.specs.declared.result.Result.{Result}
use Rattle.std.specs.declared.result.Result.TheVariants.{Ok, Err}
use Rattle.std.specs.Io.KnownBytes.{IsAtEnd}
use Rattle.sample_key.specs.Events.{code_of}
use Rattle.store_io.specs.Files.{Files}
use Rattle.store_io.specs.declared.file_refs.FileRef.{FileRef}
use Rattle.database_state.specs.Heads.{Head}
use Rattle.database_state.specs.declared.faults.FullWhat.{FullWhat}
use Rattle.database_state.specs.declared.faults.DbFault.TheVariants as faults
use Rattle.symbol_ranges.specs.declared.symbols.Symbol.{Symbol}
use Rattle.report_text.specs.declared.epochs.Epochs.{Epochs}
use Rattle.report_text.specs.declared.epochs.Epochs.TheVariants.{One}
use Rattle.dcpiprof_report.specs.Reading.{first_bad, wanted}
use Rattle.dcpi_top.specs.declared.commands.Command.{Command}
use Rattle.dcpi_top.specs.declared.commands.Command.TheVariants.{Plain, Replay, ProfImage, ProfProcedure, Cat, Runs, Tidy, Make}
use Rattle.dcpi_top.specs.declared.refusals.Refusal.{Refusal}
use Rattle.dcpi_top.specs.declared.refusals.Refusal.TheVariants.{Usage, TraceBad, ReadFault, StoreFault, WriteFault, Memory, DatabaseBad, Full, SymbolBad, NoSuchEpoch}
use Rattle.dcpi_top.specs.Streams.{Stream, Disk, KeepsCount, HasFailed, IsUntouched}
use Rattle.dcpi_top.specs.Inputs.{IsFirstBadIn, IsFirstBadSymbol, ReadsAsSymbols}
use Rattle.dcpi_top.specs.Heads.{AreThere, HasBadHead, IsOpened, OpenedWith}
use Rattle.dcpi_top.specs.Plains.{IsPlainTextOf}
use Rattle.dcpi_top.specs.Replays.{IsReplayText, StopsRun}
use Rattle.counts_listing.specs.Counting.{IsTextOf}
use Rattle.dcpi_top.specs.Listings.{IsImageText, IsProcedureText, IsRunsTextOf, IsWholeText, bad_profile, bad_segment}
use Rattle.dcpi_top.specs.Tidies.{IsTidyText, MayBeTidied}
use Rattle.dcpi_top.specs.Makes.{IsMadeAnswer}

-- the command reads a trace
abbrev pub ReadsTrace : Command → Type 0
ReadsTrace Plain = Unit {0}
ReadsTrace Replay = Unit {0}
ReadsTrace (ProfImage epochs event csv) = ⊥
ReadsTrace (ProfProcedure epochs event csv) = ⊥
ReadsTrace Cat = ⊥
ReadsTrace Runs = ⊥
ReadsTrace Tidy = ⊥
ReadsTrace (Make seed samples trace) = ⊥

-- it reads a symbol list
abbrev pub ReadsSymbols : Command → Type 0
ReadsSymbols Plain = ⊥
ReadsSymbols Replay = ⊥
ReadsSymbols (ProfImage epochs event csv) = ⊥
ReadsSymbols (ProfProcedure epochs event csv) = Unit {0}
ReadsSymbols Cat = ⊥
ReadsSymbols Runs = ⊥
ReadsSymbols Tidy = ⊥
ReadsSymbols (Make seed samples trace) = ⊥

-- it opens a database
abbrev pub UsesStore : Command → Type 0
UsesStore Plain = ⊥
UsesStore Replay = Unit {0}
UsesStore (ProfImage epochs event csv) = Unit {0}
UsesStore (ProfProcedure epochs event csv) = Unit {0}
UsesStore Cat = Unit {0}
UsesStore Runs = Unit {0}
UsesStore Tidy = Unit {0}
UsesStore (Make seed samples trace) = ⊥

-- a text of `plain`: the input was read to its end
pub record IsPlainDone (input : Stream) (text : List ℕ) : Type 0 where
  pub is_text : IsPlainTextOf input.old text
  pub whole : IsAtEnd input.new

-- the text of a command
abbrev pub IsText : Command → Stream → Disk → List ℕ → Type 0
IsText Plain input disk text = IsPlainDone input text
IsText Replay input disk text = IsReplayText input disk text
IsText (ProfImage epochs event csv) input disk text = IsImageText epochs event csv disk text
IsText (ProfProcedure epochs event csv) input disk text =
    IsProcedureText epochs event csv input disk text
IsText Cat input disk text = IsWholeText bad_profile IsTextOf disk text
IsText Runs input disk text = IsWholeText bad_segment IsRunsTextOf disk text
IsText Tidy input disk text = IsTidyText disk text
IsText (Make seed samples trace) input disk text = IsMadeAnswer seed samples trace text

-- the input is not read, and the files stay
abbrev pub OnlyListsFiles : Stream → Disk → Type 0
OnlyListsFiles input disk = IsUntouched input × (disk.new ≡ disk.old)

-- What a command leaves as it was, whatever it answers: only a replay changes the database, and only a trace or a symbol list is
-- read from the input. A tidying removes some first of the files that the database does not use, if any; to make a trace touches
-- nothing.
abbrev pub LeavesAlone : Command → Stream → Disk → Type 0
LeavesAlone Plain input disk = IsUntouched disk
LeavesAlone Replay input disk = Unit {0}
LeavesAlone (ProfImage epochs event csv) input disk = OnlyListsFiles input disk
LeavesAlone (ProfProcedure epochs event csv) input disk = disk.new ≡ disk.old
LeavesAlone Cat input disk = OnlyListsFiles input disk
LeavesAlone Runs input disk = OnlyListsFiles input disk
LeavesAlone Tidy input disk = IsUntouched input × MayBeTidied disk
LeavesAlone (Make seed samples trace) input disk = IsUntouched input × IsUntouched disk

-- the database was opened, and these epochs are there
abbrev pub HasEpochs : Epochs → Disk → Type 0
HasEpochs epochs disk = (head : Head) × OpenedWith disk head × AreThere epochs head

-- What comes before a command reads its input: it opened its database, if it uses one, and the epochs that it asks for are there.
-- A command that makes a trace never comes to read.
abbrev pub IsBegun : Command → Disk → Type 0
IsBegun Plain disk = Unit {0}
IsBegun Replay disk = IsOpened disk
IsBegun (ProfImage epochs event csv) disk = HasEpochs epochs disk
IsBegun (ProfProcedure epochs event csv) disk = HasEpochs epochs disk
IsBegun Cat disk = IsOpened disk
IsBegun Runs disk = IsOpened disk
IsBegun Tidy disk = IsOpened disk
IsBegun (Make seed samples trace) disk = ⊥

-- the epoch that is asked for is above the last one
pub record LacksEpoch (epochs : Epochs) (disk : Disk) (epoch last : ℕ) : Type 0 where
  pub head : Head
  pub opened : OpenedWith disk head
  pub asked : epochs ≡ One epoch
  pub is_last : last ≡ head.epoch
  pub above : last < epoch

-- the same of the epochs that a command asks for
abbrev pub IsMissing : Command → Disk → ℕ → ℕ → Type 0
IsMissing Plain disk epoch last = ⊥
IsMissing Replay disk epoch last = ⊥
IsMissing (ProfImage epochs event csv) disk epoch last = LacksEpoch epochs disk epoch last
IsMissing (ProfProcedure epochs event csv) disk epoch last = LacksEpoch epochs disk epoch last
IsMissing Cat disk epoch last = ⊥
IsMissing Runs disk epoch last = ⊥
IsMissing Tidy disk epoch last = ⊥
IsMissing (Make seed samples trace) disk epoch last = ⊥

-- a file of a row that is wanted is missing or not in its form, and is the first such one
pub record ReadsBad (epochs : Epochs) (event : ℕ) (disk : Disk) (file : FileRef) : Type 0 where
  pub head : Head
  pub opened : OpenedWith disk head
  pub there : AreThere epochs head
  pub first : (f : Files) → disk.old ≡ Some f → first_bad f (wanted head epochs event) ≡ Some file

-- the first bad file of those that a text of the whole database reads
pub record FindsFirst (first : Head → Files → Option FileRef) (disk : Disk) (file : FileRef)
    : Type 0 where
  pub head : Head
  pub opened : OpenedWith disk head
  pub found : (f : Files) → disk.old ≡ Some f → first head f ≡ Some file

-- the input was read to its end, and is a symbol list
pub record HasSymbols (input : Stream) : Type 0 where
  pub symbols : List Symbol
  pub reads : ReadsAsSymbols input symbols
  pub whole : IsAtEnd input.new

-- a file that the command reads behind the head is the first bad one
abbrev pub FindsBad : Command → Stream → Disk → FileRef → Type 0
FindsBad Plain input disk file = ⊥
FindsBad Replay input disk file = StopsRun input disk (faults.Bad file)
FindsBad (ProfImage epochs event csv) input disk file = ReadsBad epochs (code_of event) disk file
FindsBad (ProfProcedure epochs event csv) input disk file =
    HasSymbols input × ReadsBad epochs (code_of event) disk file
FindsBad Cat input disk file = FindsFirst bad_profile disk file
FindsBad Runs input disk file = FindsFirst bad_segment disk file
FindsBad Tidy input disk file = ⊥
FindsBad (Make seed samples trace) input disk file = ⊥

-- the head of the greatest sealed generation is bad, and nothing else was done
pub record StopsAtHead (input : Stream) (disk : Disk) (file : FileRef) : Type 0 where
  pub bad : HasBadHead disk file
  pub unread : IsUntouched input
  pub untouched : IsUntouched disk

-- a part of the run has no room in the database
abbrev pub IsFull : Command → Stream → Disk → FullWhat → ℕ → ℕ → Type 0
IsFull Plain input disk what held added = ⊥
IsFull Replay input disk what held added = StopsRun input disk (faults.Full what held added)
IsFull (ProfImage epochs event csv) input disk what held added = ⊥
IsFull (ProfProcedure epochs event csv) input disk what held added = ⊥
IsFull Cat input disk what held added = ⊥
IsFull Runs input disk what held added = ⊥
IsFull Tidy input disk what held added = ⊥
IsFull (Make seed samples trace) input disk what held added = ⊥

-- no fault of the input or the store was counted
abbrev pub KeepsCounts : Stream → Disk → Type 0
KeepsCounts input disk = KeepsCount input × KeepsCount disk

-- why a command gives no text
abbrev pub IsCause : Command → Stream → Disk → Refusal → Type 0
IsCause command input disk Usage = ⊥
IsCause command input disk (TraceBad line why) =
    ReadsTrace command × IsBegun command disk × IsFirstBadIn input line why
    × KeepsCount input × IsUntouched disk
IsCause command input disk ReadFault =
    IsBegun command disk × HasFailed input × IsUntouched disk
IsCause command input disk StoreFault = UsesStore command × KeepsCount input × HasFailed disk
IsCause command input disk WriteFault = ⊥
IsCause command input disk Memory = KeepsCounts input disk
IsCause command input disk (DatabaseBad file) = UsesStore command × KeepsCounts input disk
    × (StopsAtHead input disk file ⊎ FindsBad command input disk file)
IsCause command input disk (Full what held added) =
    KeepsCounts input disk × IsFull command input disk what held added
IsCause command input disk (SymbolBad line why) =
    ReadsSymbols command × IsBegun command disk × IsFirstBadSymbol input line why
    × KeepsCount input × IsUntouched disk
IsCause command input disk (NoSuchEpoch epoch last) =
    IsMissing command disk epoch last × IsUntouched input × IsUntouched disk

-- what a command gives: its text, or why there is none
abbrev pub GivesText : {T : Type 0} → (T → List ℕ) → Command → Stream → Disk → Result T Refusal → Type 0
GivesText bytes command input disk (Ok text) =
    IsText command input disk (bytes text) × KeepsCounts input disk
GivesText bytes command input disk (Err refusal) = IsCause command input disk refusal
