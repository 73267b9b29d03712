-- What the top call promises of a run follows from what serving it says, and from the line that was told.
use Rattle.std.proofs.Common.{◌≢◌, ◌≤◌, inl, inr, ℕ, refl, sym, subst}
use Rattle.std.specs.declared.option.Option.{Option}
use Rattle.std.specs.declared.option.Option.TheVariants.{Some, None}
use Rattle.std.specs.declared.result.Result.{Result}
use Rattle.std.specs.declared.result.Result.TheVariants.{Ok, Err}
use Rattle.sample_key.specs.declared.losses.Pace.{Pace}
use Rattle.store_io.specs.Files.{Files}
use Rattle.database_state.specs.declared.faults.DbFault.{DbFault}
use Rattle.database_state.specs.declared.faults.DbFault.TheVariants as faults
use Rattle.dcpid_core.specs.declared.outcomes.Outcome.{Outcome}
use Rattle.dcpi_top.specs.declared.refusals.Refusal.{Refusal}
use Rattle.dcpi_top.specs.declared.refusals.Refusal.TheVariants.{Usage, TraceBad, ReadFault, StoreFault, WriteFault, Memory, DatabaseBad, Full, SymbolBad, NoSuchEpoch}
use Rattle.dcpi_top.specs.Answers.{Call}
use Rattle.dcpi_top.specs.Messages.{TellsLine}
use Rattle.dcpi_top.specs.Refusals.{IsOfDatabase, status_in, status_of}
use Rattle.dcpi_top.specs.Streams.{Stream, Disk, seen}
use Rattle.dcpi_top.proofs.KnownLaws.{Known}
use Rattle.dcpi_run_top.specs.Answering.{AnswersRun, ServesRun}
use Rattle.dcpi_run_top.specs.Beginning.{IsCauseBefore}
use Rattle.dcpi_run_top.specs.Runs.{TellsRun}
use Rattle.dcpi_run_top.proofs.Owed.{owed_is_answered}
use Rattle.dcpi_run_top.proofs.Sound.{served_soundly}

-- a run is not refused for its words, a symbol list or an epoch
abbrev NotThese : ℕ → Type 0
NotThese status = (status ≢ 1) × (status ≢ 9) × (status ≢ 10)

of_cause : (input : Stream) (disk : Disk) (why : Refusal) → IsCauseBefore input disk why → NotThese (status_of why)
of_cause input disk Usage cause = absurd cause
of_cause input disk (TraceBad line why) cause = (λ e. absurd (cc), λ e. absurd (cc), λ e. absurd (cc))
of_cause input disk ReadFault cause = (λ e. absurd (cc), λ e. absurd (cc), λ e. absurd (cc))
of_cause input disk StoreFault cause = (λ e. absurd (cc), λ e. absurd (cc), λ e. absurd (cc))
of_cause input disk WriteFault cause = absurd cause
of_cause input disk Memory cause = (λ e. absurd (cc), λ e. absurd (cc), λ e. absurd (cc))
of_cause input disk (DatabaseBad file) cause = (λ e. absurd (cc), λ e. absurd (cc), λ e. absurd (cc))
of_cause input disk (Full what held added) cause = absurd cause
of_cause input disk (SymbolBad line why) cause = absurd cause
of_cause input disk (NoSuchEpoch epoch last) cause = absurd cause

of_fault : (fault : DbFault) (refusal : Refusal) → IsOfDatabase fault refusal → NotThese (status_of refusal)
of_fault faults.StoreFault refusal is = subst (λ r. NotThese (status_of r)) (sym is) (λ e. absurd (cc), λ e. absurd (cc), λ e. absurd (cc))
of_fault (faults.Bad file) refusal is = subst (λ r. NotThese (status_of r)) (sym is) (λ e. absurd (cc), λ e. absurd (cc), λ e. absurd (cc))
of_fault (faults.Full what held added) refusal is = subst (λ r. NotThese (status_of r)) (sym is) (λ e. absurd (cc), λ e. absurd (cc), λ e. absurd (cc))
of_fault faults.Memory refusal is = subst (λ r. NotThese (status_of r)) (sym is) (λ e. absurd (cc), λ e. absurd (cc), λ e. absurd (cc))

of_run : (result : Result Outcome DbFault) (output : Stream) (refusal : Option Refusal) → TellsRun result output refusal → NotThese (status_in refusal)
of_run (Ok outcome) output None told = (λ e. absurd (cc), λ e. absurd (cc), λ e. absurd (cc))
of_run (Ok outcome) output (Some refusal) told = elim told [
  | inl short ↦ subst (λ r. NotThese (status_of r)) (sym short.0) (λ e. absurd (cc), λ e. absurd (cc), λ e. absurd (cc))
  | inr failed ↦ subst (λ r. NotThese (status_of r)) (sym failed.0) (λ e. absurd (cc), λ e. absurd (cc), λ e. absurd (cc))
]
of_run (Err fault) output None told = absurd told
of_run (Err fault) output (Some refusal) told = of_fault fault refusal told.0

never_these : {D : Type 0} (files : D → Option Files) (counts moment : D → ℕ) (left_since : D → ℕ → Files → Type 0) (pace : Pace)
    (input : Stream) (old new : D) (output : Stream) (refusal : Option Refusal)
    → ServesRun files counts moment left_since pace input old new output refusal → NotThese (status_in refusal)
never_these files counts moment left_since pace input old new output refusal (inl unbegun) =
    subst (λ r. NotThese (status_in r)) (sym unbegun.refused) (of_cause input (seen files counts old new) unbegun.why unbegun.cause)
never_these files counts moment left_since pace input old new output refusal (inr made) = of_run made.result output refusal made.told

-- the promises
pub answered : Known → {D : Type 0} (files : D → Option Files) (counts moment : D → ℕ) (left_since : D → ℕ → Files → Type 0) (pace : Pace)
    (call : Call) (old new : D) (refusal : Option Refusal)
    → ServesRun files counts moment left_since pace call.input old new call.output refusal → TellsLine refusal call.errors
    → call.errors.faults_before ≤ call.errors.faults_after
    → AnswersRun files counts moment left_since pace call old new (status_in refusal)
answered laws {D} files counts moment left_since pace call old new refusal serves told later = record {
  refusal = refusal;
  is_status = refl;
  serves = serves;
  line = told;
  later = later;
  never = never_these files counts moment left_since pace call.input old new call.output refusal serves;
  answers = owed_is_answered laws files counts moment left_since pace call.input old new call.output refusal serves;
  complete = served_soundly laws files counts moment left_since pace call.input old new call.output refusal serves;
}
