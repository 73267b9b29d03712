-- The test of the epochs that are asked for.
use Rattle.std.specs.Prelude.{◌≡◌, ℕ, ◌<◌}
use Rattle.std.specs.declared.result.Result.{Result}
use Rattle.std.specs.declared.result.Result.TheVariants.{Ok, Err}
use Rattle.database_state.specs.Heads.{Head}
use Rattle.report_text.specs.declared.epochs.Epochs.{Epochs}
use Rattle.report_text.specs.declared.epochs.Epochs.TheVariants.{One}
use Rattle.dcpi_top.specs.declared.refusals.Refusal.{Refusal}
use Rattle.dcpi_top.specs.declared.refusals.Refusal.TheVariants.{NoSuchEpoch}
use Rattle.dcpi_top.specs.Heads.{AreThere}

-- an epoch above the last one is refused, with both numbers
pub record IsAbove (epochs : Epochs) (head : Head) (refusal : Refusal) : Type 0 where
  pub epoch : ℕ
  pub asked : epochs ≡ One epoch
  pub above : head.epoch < epoch
  pub refused : refusal ≡ NoSuchEpoch epoch head.epoch

-- the epochs are there, or one is above the last one
abbrev pub ChecksEpochs : {T : Type 0} → Epochs → Head → Result T Refusal → Type 0
ChecksEpochs epochs head (Ok value) = AreThere epochs head
ChecksEpochs epochs head (Err refusal) = IsAbove epochs head refusal
