-- The laws of the layers below, as one value.
use Rattle.std.proofs.Common.{◌≡◌, ℕ, List}
use Rattle.store_io.specs.Files.{Files}
use Rattle.trace_laws.specs.Readings.{HasOneTrace, HasOneRefusal, IsRefused, IsTrace}
use Rattle.symbol_ranges.specs.Readings as symbols
use Rattle.database_state.specs.Heads as heads
use Rattle.database_state.specs.Standing.{HaveHead}
use Rattle.growth_model.specs.Laws.{FirstHeadsAreOne, FirstPartsAreOne, OneHeadIsOne}
use Rattle.profile_merge.specs.Laws.{GrowthHasNoFault}
use Rattle.made_runs.specs.Stopping.{FittingRunsDoNotStop}
use Rattle.made_runs.proofs.Stopping.{Growing}

pub record Known : Type 0 where
  pub not_both : (bytes : List ℕ) → IsTrace bytes → IsRefused bytes → ⊥
  pub one_trace : (bytes : List ℕ) → HasOneTrace bytes
  pub one_refusal : (bytes : List ℕ) → HasOneRefusal bytes
  pub no_list : (bytes : List ℕ) → symbols.IsList bytes → symbols.IsRefused bytes → ⊥
  pub one_symbol_refusal : (bytes : List ℕ) → symbols.HasOneRefusal bytes
  pub one_head : (files : Files) (h k : heads.Head) → HaveHead files h → HaveHead files k → h ≡ k
  pub grown : FirstPartsAreOne
  pub next_head : OneHeadIsOne
  pub first_heads : FirstHeadsAreOne
  pub no_fault : GrowthHasNoFault
  pub no_stop : FittingRunsDoNotStop

-- those of growth
pub growing : Known → Growing
growing laws = record { grown = laws.grown; next_head = laws.next_head; first_heads = laws.first_heads; no_fault = laws.no_fault }
