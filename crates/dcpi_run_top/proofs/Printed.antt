-- The summary of a run was written, or what a failed write left of it.
use Rattle.std.proofs.Common.{◌≡◌, inr, List, ℕ, subst}
use Rattle.std.specs.Prelude.{IsErrAnd}
use Rattle.std.specs.declared.option.Option.TheVariants.{None}
use Rattle.std.specs.declared.result.Result.{Result}
use Rattle.std.specs.declared.result.Result.TheVariants.{Ok, Err}
use Rattle.std.specs.Io.KnownBytes.{Appends}
use Rattle.outside_io.specs.Prefix.{AppendsPrefix}
use Rattle.dcpid_core.specs.declared.outcomes.Outcome.{Outcome}
use Rattle.dcpi_top.specs.declared.refusals.Refusal.{Refusal}
use Rattle.dcpi_top.specs.declared.refusals.Refusal.TheVariants.{WriteFault}
use Rattle.dcpi_top.specs.Refusals.{refused}
use Rattle.dcpi_top.specs.Streams.{Stream, HasFailed, KeepsCount}
use Rattle.dcpi_run_top.specs.Runs.{TellsSummary, summary_in}

pub whole : (outcome : Outcome) (output : Stream) (bytes : List ℕ) → bytes ≡ summary_in outcome → KeepsCount output
    → Appends output.old output.new bytes → TellsSummary outcome output None
whole outcome output bytes is kept written = (kept, subst (λ text. Appends output.old output.new text) is written)

pub front : {T : Type 0} (outcome : Outcome) (output : Stream) (bytes : List ℕ) (result : Result T Refusal) → bytes ≡ summary_in outcome
    → HasFailed output → AppendsPrefix output.old output.new bytes → IsErrAnd result (λ r. r ≡ WriteFault)
    → TellsSummary outcome output (refused result)
front outcome output bytes (Ok value) is failed written refuses = absurd refuses
front outcome output bytes (Err refusal) is failed written refuses =
    inr (refuses, failed, subst (λ text. AppendsPrefix output.old output.new text) is written)
