-- Causes of faults, where the count of the store's faults stayed.
use Rattle.std.proofs.Common.{◌≡◌, ℕ, sym, subst}
use Rattle.database_state.specs.declared.faults.DbFault.{DbFault}
use Rattle.epoch_store.specs.Faults.{IsReadCause}

pub read_cause_at : (before now : ℕ) (fault : DbFault) → now ≡ before → IsReadCause before before fault → IsReadCause before now fault
read_cause_at before now fault same cause = subst (λ n. IsReadCause before n fault) (sym same) cause
