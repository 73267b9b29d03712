-- Which refusal is owed where the objects tell what they hold, and which calls are sound.
use Rattle.std.specs.Prelude.{◌≡◌, ◌⊎◌, ℕ, ◌<◌, List}
use Rattle.std.specs.declared.option.Option.{Option}
use Rattle.std.specs.declared.option.Option.TheVariants.{Some, None}
use Rattle.sample_key.specs.Events.{code_of}
use Rattle.store_io.specs.Files.{Files}
use Rattle.store_io.specs.declared.file_refs.FileRef.{FileRef}
use Rattle.database_state.specs.Heads.{Head}
use Rattle.database_state.specs.Standing.{HaveHead}
use Rattle.database_state.specs.declared.faults.FullWhat.{FullWhat}
use Rattle.database_state.specs.declared.faults.DbFault.TheVariants as faults
use Rattle.trace_model.specs.Recording.{Recording}
use Rattle.symbol_ranges.specs.declared.symbols.Symbol.{Symbol}
use Rattle.report_text.specs.declared.epochs.Epochs.{Epochs}
use Rattle.report_text.specs.declared.epochs.Epochs.TheVariants.{One}
use Rattle.dcpiprof_report.specs.Reading.{first_bad, wanted}
use Rattle.dcpi_top.specs.declared.commands.Command.{Command}
use Rattle.dcpi_top.specs.declared.commands.Command.TheVariants.{Plain, Replay, ProfImage, ProfProcedure, Cat, Runs, Tidy, Make}
use Rattle.dcpi_top.specs.declared.refusals.Refusal.{Refusal}
use Rattle.dcpi_top.specs.declared.refusals.Refusal.TheVariants.{Usage, TraceBad, ReadFault, StoreFault, WriteFault, Memory, DatabaseBad, Full, SymbolBad, NoSuchEpoch}
use Rattle.dcpi_top.specs.Streams.{Stream, Disk}
use Rattle.dcpi_top.specs.Inputs.{IsToldBad, IsToldBadSymbol, IsToldList, IsToldTrace}
use Rattle.dcpi_top.specs.Heads.{AreThere, IsToldBadHead, IsToldHead}
use Rattle.dcpi_top.specs.Listings.{bad_profile, bad_segment}
use Rattle.dcpi_top.specs.Replays.{IsSoundReplay, MustStop}
use Rattle.dcpi_top.specs.Causes.{ReadsSymbols, ReadsTrace, UsesStore}

-- the files are told to have a head, and these epochs are there
abbrev pub HasToldEpochs : Epochs → Disk → Type 0
HasToldEpochs epochs disk = (head : Head) × IsToldHead disk head × AreThere epochs head

-- what comes before a command reads its input is told to be good; one that makes a trace never comes to read
abbrev pub IsToldBegun : Command → Disk → Type 0
IsToldBegun Plain disk = Unit {0}
IsToldBegun Replay disk = (head : Head) × IsToldHead disk head
IsToldBegun (ProfImage epochs event csv) disk = HasToldEpochs epochs disk
IsToldBegun (ProfProcedure epochs event csv) disk = HasToldEpochs epochs disk
IsToldBegun Cat disk = (head : Head) × IsToldHead disk head
IsToldBegun Runs disk = (head : Head) × IsToldHead disk head
IsToldBegun Tidy disk = (head : Head) × IsToldHead disk head
IsToldBegun (Make seed samples trace) disk = ⊥

-- the files are told to have a head, and the epoch that is asked for is above its last one
pub record ToldLacks (epochs : Epochs) (disk : Disk) (epoch last : ℕ) : Type 0 where
  pub head : Head
  pub opened : IsToldHead disk head
  pub asked : epochs ≡ One epoch
  pub is_last : last ≡ head.epoch
  pub above : last < epoch

abbrev pub IsToldMissing : Command → Disk → ℕ → ℕ → Type 0
IsToldMissing Plain disk epoch last = ⊥
IsToldMissing Replay disk epoch last = ⊥
IsToldMissing (ProfImage epochs event csv) disk epoch last = ToldLacks epochs disk epoch last
IsToldMissing (ProfProcedure epochs event csv) disk epoch last = ToldLacks epochs disk epoch last
IsToldMissing Cat disk epoch last = ⊥
IsToldMissing Runs disk epoch last = ⊥
IsToldMissing Tidy disk epoch last = ⊥
IsToldMissing (Make seed samples trace) disk epoch last = ⊥

-- The files are told to have a head under which the epochs are there; this is the first bad file of the rows that are wanted, if
-- one is bad.
pub record ToldFirst (epochs : Epochs) (event : ℕ) (disk : Disk) (first : Option FileRef)
    : Type 0 where
  pub head : Head
  pub files : Files
  pub told : disk.old ≡ Some files
  pub has_head : HaveHead files head
  pub there : AreThere epochs head
  pub is_first : first_bad files (wanted head epochs event) ≡ first

-- The files are told to have a head; this is the first bad file of those that a text of the whole database reads, if one is bad.
pub record ToldWhole (first : Head → Files → Option FileRef) (disk : Disk) (bad : Option FileRef)
    : Type 0 where
  pub head : Head
  pub files : Files
  pub told : disk.old ≡ Some files
  pub has_head : HaveHead files head
  pub is_first : first head files ≡ bad

-- the input is told to be a symbol list
abbrev pub HasToldList : Stream → Type 0
HasToldList input = (symbols : List Symbol) × IsToldList input symbols

-- a file that the command reads behind the head is told to be the first bad one
abbrev pub MustFind : Command → Stream → Disk → FileRef → Type 0
MustFind Plain input disk file = ⊥
MustFind Replay input disk file = MustStop input disk (faults.Bad file)
MustFind (ProfImage epochs event csv) input disk file =
    ToldFirst epochs (code_of event) disk (Some file)
MustFind (ProfProcedure epochs event csv) input disk file =
    HasToldList input × ToldFirst epochs (code_of event) disk (Some file)
MustFind Cat input disk file = ToldWhole bad_profile disk (Some file)
MustFind Runs input disk file = ToldWhole bad_segment disk (Some file)
MustFind Tidy input disk file = ⊥
MustFind (Make seed samples trace) input disk file = ⊥

-- a part of the run is told to have no room: for an image, for a count, or for the rows of the head
abbrev pub MustBeFull : Command → Stream → Disk → FullWhat → ℕ → ℕ → Type 0
MustBeFull Plain input disk what held added = ⊥
MustBeFull Replay input disk what held added = MustStop input disk (faults.Full what held added)
MustBeFull (ProfImage epochs event csv) input disk what held added = ⊥
MustBeFull (ProfProcedure epochs event csv) input disk what held added = ⊥
MustBeFull Cat input disk what held added = ⊥
MustBeFull Runs input disk what held added = ⊥
MustBeFull Tidy input disk what held added = ⊥
MustBeFull (Make seed samples trace) input disk what held added = ⊥

-- The refusal has its cause by what the input and the store tell, and no cause comes before it.
abbrev pub IsOwed : Command → Stream → Disk → Refusal → Type 0
IsOwed command input disk Usage = ⊥
IsOwed command input disk (TraceBad line why) =
    ReadsTrace command × IsToldBegun command disk × IsToldBad input line why
IsOwed command input disk ReadFault = ⊥
IsOwed command input disk StoreFault = ⊥
IsOwed command input disk WriteFault = ⊥
IsOwed command input disk Memory = ⊥
IsOwed command input disk (DatabaseBad file) =
    UsesStore command × (IsToldBadHead disk file ⊎ MustFind command input disk file)
IsOwed command input disk (Full what held added) = MustBeFull command input disk what held added
IsOwed command input disk (SymbolBad line why) =
    ReadsSymbols command × IsToldBegun command disk × IsToldBadSymbol input line why
IsOwed command input disk (NoSuchEpoch epoch last) = IsToldMissing command disk epoch last

-- All that the command reads is told and good, and a replay keeps the limits of the database. To make a trace asks for nothing.
abbrev pub IsSound : Command → Stream → Disk → Type 0
IsSound Plain input disk = (recording : Recording) × IsToldTrace input recording
IsSound Replay input disk = IsSoundReplay input disk
IsSound (ProfImage epochs event csv) input disk = ToldFirst epochs (code_of event) disk None
IsSound (ProfProcedure epochs event csv) input disk =
    HasToldList input × ToldFirst epochs (code_of event) disk None
IsSound Cat input disk = ToldWhole bad_profile disk None
IsSound Runs input disk = ToldWhole bad_segment disk None
IsSound Tidy input disk = (head : Head) × IsToldHead disk head
IsSound (Make seed samples trace) input disk = Unit {0}

-- a fault of an object, or want of memory
abbrev pub IsFree : Refusal → Type 0
IsFree Usage = ⊥
IsFree (TraceBad line why) = ⊥
IsFree ReadFault = Unit {0}
IsFree StoreFault = Unit {0}
IsFree WriteFault = Unit {0}
IsFree Memory = Unit {0}
IsFree (DatabaseBad file) = ⊥
IsFree (Full what held added) = ⊥
IsFree (SymbolBad line why) = ⊥
IsFree (NoSuchEpoch epoch last) = ⊥

-- this was refused, or else there was a fault or want of memory
abbrev pub IsRefusedAs : Refusal → Option Refusal → Type 0
IsRefusedAs owed None = ⊥
IsRefusedAs owed (Some refusal) = (refusal ≡ owed) ⊎ IsFree refusal

-- nothing was refused, or else there was a fault or want of memory
abbrev pub IsServed : Option Refusal → Type 0
IsServed None = Unit {0}
IsServed (Some refusal) = IsFree refusal
