-- Why a run by threads is not begun.
use Rattle.std.specs.Prelude.{◌≡◌, ℕ}
use Rattle.std.specs.declared.option.Option.{Option}
use Rattle.std.specs.declared.option.Option.TheVariants.{Some}
use Rattle.std.specs.declared.result.Result.{Result}
use Rattle.std.specs.declared.result.Result.TheVariants.{Ok, Err}
use Rattle.store_io.specs.Files.{Files}
use Rattle.database_state.specs.Heads.{Head}
use Rattle.dcpi_top.specs.declared.refusals.Refusal.{Refusal}
use Rattle.dcpi_top.specs.declared.refusals.Refusal.TheVariants.{Usage, TraceBad, ReadFault, StoreFault, WriteFault, Memory, DatabaseBad, Full, SymbolBad, NoSuchEpoch}
use Rattle.dcpi_top.specs.Streams.{Stream, Disk, KeepsCount, HasFailed, IsUntouched, seen}
use Rattle.dcpi_top.specs.Heads.{IsOpened, IsToldBadHead, IsToldHead}
use Rattle.dcpi_top.specs.Inputs.{IsFirstBadIn, IsToldBad}
use Rattle.dcpi_top.specs.Causes.{KeepsCounts, StopsAtHead}
use Rattle.dcpi_top.specs.Moments.{ReadsOnly}

-- What comes before a run and has its cause: a fault of the store or a bad head when the database is opened; and then, with the
-- database opened, a fault of the input or its first bad line; or want of memory.
abbrev pub IsCauseBefore : Stream → Disk → Refusal → Type 0
IsCauseBefore input disk Usage = ⊥
IsCauseBefore input disk (TraceBad line why) =
    IsOpened disk × IsFirstBadIn input line why × KeepsCount input × IsUntouched disk
IsCauseBefore input disk ReadFault = IsOpened disk × HasFailed input × IsUntouched disk
IsCauseBefore input disk StoreFault = IsUntouched input × HasFailed disk
IsCauseBefore input disk WriteFault = ⊥
IsCauseBefore input disk Memory = KeepsCounts input disk
IsCauseBefore input disk (DatabaseBad file) = StopsAtHead input disk file
IsCauseBefore input disk (Full what held added) = ⊥
IsCauseBefore input disk (SymbolBad line why) = ⊥
IsCauseBefore input disk (NoSuchEpoch epoch last) = ⊥

-- the same of what a call answers that comes before the run
abbrev pub IsRefusedBefore : {T : Type 0} → Stream → Disk → Result T Refusal → Type 0
IsRefusedBefore input disk (Ok value) = Unit {0}
IsRefusedBefore input disk (Err refusal) = IsCauseBefore input disk refusal

-- The refusal has its cause by what the input and the store tell, and no cause comes before it.
abbrev pub IsOwedBefore : Stream → Disk → Refusal → Type 0
IsOwedBefore input disk Usage = ⊥
IsOwedBefore input disk (TraceBad line why) =
    ((head : Head) × IsToldHead disk head) × IsToldBad input line why
IsOwedBefore input disk ReadFault = ⊥
IsOwedBefore input disk StoreFault = ⊥
IsOwedBefore input disk WriteFault = ⊥
IsOwedBefore input disk Memory = ⊥
IsOwedBefore input disk (DatabaseBad file) = IsToldBadHead disk file
IsOwedBefore input disk (Full what held added) = ⊥
IsOwedBefore input disk (SymbolBad line why) = ⊥
IsOwedBefore input disk (NoSuchEpoch epoch last) = ⊥

-- No run was begun: there is a cause, nothing was written to the output, the files stay, and a crash leaves what it left before.
pub record IsUnbegun {D : Type 0} (files : D → Option Files) (faults moment : D → ℕ)
    (left_since : D → ℕ → Files → Type 0) (input : Stream) (old new : D) (output : Stream)
    (refusal : Option Refusal) : Type 0 where
  pub why : Refusal
  pub refused : refusal ≡ Some why
  pub cause : IsCauseBefore input (seen files faults old new) why
  pub reads : ReadsOnly files moment left_since old new
  pub unwritten : IsUntouched output
