-- A run of which all is sound is served, but for want of memory.
use Rattle.std.proofs.Common.{◌≡◌, ◌⊎◌, inl, inr, ℕ, true, refl, sym, subst, ap}
use Rattle.std.specs.declared.option.Option.{Option}
use Rattle.std.specs.declared.option.Option.TheVariants.{Some, None}
use Rattle.std.specs.declared.result.Result.{Result}
use Rattle.std.specs.declared.result.Result.TheVariants.{Ok, Err}
use Rattle.std.specs.List.{IsDistinct}
use Rattle.std.specs.Str.{bytes_eq}
use Rattle.sample_key.specs.declared.losses.Pace.{Pace}
use Rattle.trace_model.specs.Recording.{Recording}
use Rattle.trace_model.specs.Streams.{records_in}
use Rattle.store_io.specs.Files.{Files}
use Rattle.database_state.specs.Heads.{Head}
use Rattle.database_state.specs.Standing.{HaveHead, database_of}
use Rattle.database_state.specs.declared.faults.DbFault.{DbFault}
use Rattle.database_state.specs.declared.faults.DbFault.TheVariants as faults
use Rattle.growth_model.specs.Fitting.{KeepsLimits}
use Rattle.dcpid_core.specs.Storing.{is_found_before}
use Rattle.dcpid_core.specs.declared.outcomes.Outcome.{Outcome}
use Rattle.run_drive.specs.Outcomes.{StopsRun}
use Rattle.dcpi_top.specs.declared.refusals.Refusal.{Refusal}
use Rattle.dcpi_top.specs.declared.refusals.Refusal.TheVariants.{Usage, TraceBad, ReadFault, StoreFault, WriteFault, Memory, DatabaseBad, Full, SymbolBad, NoSuchEpoch}
use Rattle.dcpi_top.specs.Inputs.{IsToldTrace}
use Rattle.dcpi_top.specs.Refusals.{status_in, status_of}
use Rattle.dcpi_top.specs.Replays.{IsReadInto}
use Rattle.dcpi_top.specs.Streams.{Stream, Disk, HasFailed, seen}
use Rattle.dcpi_top.proofs.KnownLaws.{Known}
use Rattle.dcpi_top.proofs.Sound.{images_apart, no_bad_line, not_bad, same_head, same_trace}
use Rattle.dcpi_run_top.specs.Answering.{IsSoundRun, ServesRun, record_left}
use Rattle.dcpi_run_top.specs.Beginning.{IsCauseBefore}
use Rattle.dcpi_run_top.specs.Runs.{HasRun, TellsRun}

-- what is told: the trace, and files with their head
record IsTold (input : Stream) (disk : Disk) (recording : Recording) (head : Head) (f : Files) : Type 0 where
  pub reads : IsToldTrace input recording
  pub told : disk.old ≡ Some f
  pub has_head : HaveHead f head

-- no run was begun
sound_before : Known → (input : Stream) (disk : Disk) (recording : Recording) (head : Head) (f : Files) → IsTold input disk recording head f
    → (HasFailed input → ⊥) → (HasFailed disk → ⊥) → (why : Refusal) → IsCauseBefore input disk why → (status_of why ≡ 0) ⊎ (status_of why ≡ 6)
sound_before laws input disk recording head f is read store Usage cause = absurd cause
sound_before laws input disk recording head f is read store (TraceBad line why) cause = absurd (no_bad_line laws input.old line why recording cause.1 is.reads)
sound_before laws input disk recording head f is read store ReadFault cause = absurd (read cause.1)
sound_before laws input disk recording head f is read store StoreFault cause = absurd (store cause.1)
sound_before laws input disk recording head f is read store WriteFault cause = absurd cause
sound_before laws input disk recording head f is read store Memory cause = inr refl
sound_before laws input disk recording head f is read store (DatabaseBad file) cause = absurd (not_bad disk.old f head file cause.bad is.told is.has_head)
sound_before laws input disk recording head f is read store (Full what held added) cause = absurd cause
sound_before laws input disk recording head f is read store (SymbolBad a b) cause = absurd cause
sound_before laws input disk recording head f is read store (NoSuchEpoch epoch last) cause = absurd cause

module _ (laws : Known) {D : Type 0} (files : D → Option Files) (counts moment : D → ℕ) (left_since : D → ℕ → Files → Type 0) (pace : Pace)
    (input : Stream) (old new : D) (recording : Recording) (head : Head) (f : Files) (is : IsTold input (seen files counts old new) recording head f) where
  -- a record that keeps the limits is not stopped
  goes_through : (trace : Recording) (begin : Head) (fault : DbFault) → is_found_before fault ≡ true
      → IsReadInto input trace (seen files counts old new) begin
      → (stops : StopsRun files counts moment left_since pace trace begin old new fault)
      → KeepsLimits recording.images (records_in recording) stops.kept head (database_of head f) → ⊥
  goes_through trace begin fault before into stops fits =
      let one : trace ≡ recording = same_trace laws input.old trace recording into.reads is.reads in
      let same : begin ≡ head = same_head laws (files old) f begin head into.opened is.told is.has_head in
      let has : HaveHead f begin = subst (λ h. HaveHead f h) (sym same) is.has_head in
      let apart : IsDistinct bytes_eq trace.images = subst (λ (r : Recording). IsDistinct bytes_eq r.images) (sym one) (images_apart input.old recording is.reads) in
      let keeps : KeepsLimits trace.images (records_in trace) stops.kept begin (database_of begin f) =
      subst (λ (r : Recording). KeepsLimits r.images (records_in r) stops.kept begin (database_of begin f)) (sym one)
      (subst (λ h. KeepsLimits recording.images (records_in recording) stops.kept h (database_of h f)) (sym same) fits) in
      let (g, now, at) = stops.store.cause f fault is.told has refl before in
      laws.no_stop trace stops.kept stops.parts begin f g fault apart keeps before at

  -- a run was made
  sound_made : (output : Stream) (refusal : Option Refusal) (result : Result Outcome DbFault)
      (ran : HasRun files counts moment left_since pace input old new result) → TellsRun result output refusal
      → KeepsLimits recording.images (records_in recording)
      (record_left files counts moment left_since pace ran.recording ran.head old new result ran.leaves) head (database_of head f)
      → (HasFailed (seen files counts old new) → ⊥) → (HasFailed output → ⊥) → (status_in refusal ≡ 0) ⊎ (status_in refusal ≡ 6)
  sound_made output None (Ok outcome) ran told fits store write = inl refl
  sound_made output (Some refusal) (Ok outcome) ran told fits store write = elim told [
    | inl short ↦ inr (ap status_of short.0)
    | inr failed ↦ absurd (write failed.1)
  ]
  sound_made output None (Err fault) ran told fits store write = absurd told
  sound_made output (Some refusal) (Err faults.StoreFault) ran told fits store write = absurd (store ran.disk)
  sound_made output (Some refusal) (Err (faults.Bad file)) ran told fits store write =
      absurd (goes_through ran.recording ran.head (faults.Bad file) refl ran.into ran.leaves fits)
  sound_made output (Some refusal) (Err (faults.Full what held added)) ran told fits store write =
      absurd (goes_through ran.recording ran.head (faults.Full what held added) refl ran.into ran.leaves fits)
  sound_made output (Some refusal) (Err faults.Memory) ran told fits store write = inr (ap status_of told.0)

pub served_soundly : Known → {D : Type 0} (files : D → Option Files) (counts moment : D → ℕ) (left_since : D → ℕ → Files → Type 0) (pace : Pace)
    (input : Stream) (old new : D) (output : Stream) (refusal : Option Refusal)
    (serves : ServesRun files counts moment left_since pace input old new output refusal)
    → IsSoundRun files counts moment left_since pace input old new output refusal serves
    → (HasFailed input → ⊥) → (HasFailed (seen files counts old new) → ⊥) → (HasFailed output → ⊥)
    → (status_in refusal ≡ 0) ⊎ (status_in refusal ≡ 6)
served_soundly laws {D} files counts moment left_since pace input old new output refusal (inl unbegun) sound read store write =
    subst (λ r. (status_in r ≡ 0) ⊎ (status_in r ≡ 6)) (sym unbegun.refused)
    (sound_before laws input (seen files counts old new) sound.recording sound.head sound.told_files
    (record { reads = sound.reads; told = sound.told; has_head = sound.has_head }) read store unbegun.why unbegun.cause)
served_soundly laws {D} files counts moment left_since pace input old new output refusal (inr made) sound read store write =
    sound_made laws files counts moment left_since pace input old new sound.recording sound.head sound.told_files
    (record { reads = sound.reads; told = sound.told; has_head = sound.has_head }) output refusal made.result made.ran made.told sound.fits store write
