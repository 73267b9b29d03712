-- A refusal that is owed before a run is the one that is answered, but for a fault or want of memory.
use Rattle.std.proofs.Common.{◌≡◌, ◌⊎◌, inl, inr, ℕ, sym, subst}
use Rattle.std.specs.declared.option.Option.{Option}
use Rattle.sample_key.specs.declared.losses.Pace.{Pace}
use Rattle.store_io.specs.Files.{Files}
use Rattle.store_io.specs.declared.file_refs.FileRef.{FileRef}
use Rattle.trace_model.specs.declared.reasons.TraceWhy.{TraceWhy}
use Rattle.database_state.specs.Heads.{Head}
use Rattle.dcpi_top.specs.declared.refusals.Refusal.{Refusal}
use Rattle.dcpi_top.specs.declared.refusals.Refusal.TheVariants.{Usage, TraceBad, ReadFault, StoreFault, WriteFault, Memory, DatabaseBad, Full, SymbolBad, NoSuchEpoch}
use Rattle.dcpi_top.specs.Streams.{Stream, Disk, seen}
use Rattle.dcpi_top.specs.Inputs.{IsToldBad}
use Rattle.dcpi_top.specs.Heads.{IsToldBadHead, IsToldHead}
use Rattle.dcpi_top.specs.Owing.{IsFree, IsRefusedAs}
use Rattle.dcpi_top.proofs.KnownLaws.{Known}
use Rattle.dcpi_top.proofs.Owed.{no_trace, one_head_file, one_line, told_bad}
use Rattle.dcpi_top.proofs.Sound.{told_good}
use Rattle.dcpi_run_top.specs.Beginning.{IsCauseBefore, IsOwedBefore}
use Rattle.dcpi_run_top.specs.Answering.{ServesRun}
use Rattle.dcpi_run_top.specs.Runs.{IsMade}

-- a bad line that is told
line_owed : Known → (input : Stream) (disk : Disk) (line : ℕ) (why : TraceWhy) (head : Head) → IsToldHead disk head → IsToldBad input line why
    → (r : Refusal) → IsCauseBefore input disk r → (r ≡ TraceBad line why) ⊎ IsFree r
line_owed laws input disk line why head opened told Usage cause = absurd cause
line_owed laws input disk line why head opened told (TraceBad a b) cause = inl (one_line laws input.old a line b why cause.1 told)
line_owed laws input disk line why head opened told ReadFault cause = inr tt
line_owed laws input disk line why head opened told StoreFault cause = inr tt
line_owed laws input disk line why head opened told WriteFault cause = absurd cause
line_owed laws input disk line why head opened told Memory cause = inr tt
line_owed laws input disk line why head opened told (DatabaseBad file) cause = absurd (told_good disk.old head file cause.bad opened)
line_owed laws input disk line why head opened told (Full what held added) cause = absurd cause
line_owed laws input disk line why head opened told (SymbolBad a b) cause = absurd cause
line_owed laws input disk line why head opened told (NoSuchEpoch epoch last) cause = absurd cause

-- a bad head that is told
head_owed : (input : Stream) (disk : Disk) (file : FileRef) → IsToldBadHead disk file → (r : Refusal) → IsCauseBefore input disk r
    → (r ≡ DatabaseBad file) ⊎ IsFree r
head_owed input disk file told Usage cause = absurd cause
head_owed input disk file told (TraceBad a b) cause = absurd (told_bad disk.old cause.0.0 file cause.0.1 told)
head_owed input disk file told ReadFault cause = inr tt
head_owed input disk file told StoreFault cause = inr tt
head_owed input disk file told WriteFault cause = absurd cause
head_owed input disk file told Memory cause = inr tt
head_owed input disk file told (DatabaseBad other) cause = inl (one_head_file disk.old other file cause.bad told)
head_owed input disk file told (Full what held added) cause = absurd cause
head_owed input disk file told (SymbolBad a b) cause = absurd cause
head_owed input disk file told (NoSuchEpoch epoch last) cause = absurd cause

-- what is owed where no run was begun
owed_before : Known → (input : Stream) (disk : Disk) (owed : Refusal) → IsOwedBefore input disk owed → (r : Refusal) → IsCauseBefore input disk r
    → (r ≡ owed) ⊎ IsFree r
owed_before laws input disk Usage due r cause = absurd due
owed_before laws input disk (TraceBad line why) due r cause = line_owed laws input disk line why due.0.0 due.0.1 due.1 r cause
owed_before laws input disk ReadFault due r cause = absurd due
owed_before laws input disk StoreFault due r cause = absurd due
owed_before laws input disk WriteFault due r cause = absurd due
owed_before laws input disk Memory due r cause = absurd due
owed_before laws input disk (DatabaseBad file) due r cause = head_owed input disk file due r cause
owed_before laws input disk (Full what held added) due r cause = absurd due
owed_before laws input disk (SymbolBad a b) due r cause = absurd due
owed_before laws input disk (NoSuchEpoch epoch last) due r cause = absurd due

module _ (laws : Known) {D : Type 0} (files : D → Option Files) (counts moment : D → ℕ) (left_since : D → ℕ → Files → Type 0) (pace : Pace)
    (input : Stream) (old new : D) (output : Stream) (refusal : Option Refusal) where
  -- where a run was made, nothing is owed before it
  none_owed : IsMade files counts moment left_since pace input old new output refusal → (owed : Refusal)
      → IsOwedBefore input (seen files counts old new) owed → ⊥
  none_owed made Usage due = due
  none_owed made (TraceBad line why) due = no_trace laws input.old line why made.ran.recording made.ran.into.reads due.1
  none_owed made ReadFault due = due
  none_owed made StoreFault due = due
  none_owed made WriteFault due = due
  none_owed made Memory due = due
  none_owed made (DatabaseBad file) due = told_bad (files old) made.ran.head file made.ran.into.opened due
  none_owed made (Full what held added) due = due
  none_owed made (SymbolBad a b) due = due
  none_owed made (NoSuchEpoch epoch last) due = due

  pub owed_is_answered : ServesRun files counts moment left_since pace input old new output refusal → (owed : Refusal)
      → IsOwedBefore input (seen files counts old new) owed → IsRefusedAs owed refusal
  owed_is_answered (inl unbegun) owed due = subst (λ r. IsRefusedAs owed r) (sym unbegun.refused)
      (owed_before laws input (seen files counts old new) owed due unbegun.why unbegun.cause)
  owed_is_answered (inr made) owed due = absurd (none_owed made owed due)
