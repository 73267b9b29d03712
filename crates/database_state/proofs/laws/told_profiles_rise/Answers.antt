use Rattle.database_state.proofs.WithinLimits.{known_told, unknown_told}
use Rattle.database_state.proofs.laws.told_profiles_rise.Goals as goal

pub returns-clause-known : goal.returns-clause-known
returns-clause-known c = known_told

pub returns-clause-unknown : goal.returns-clause-unknown
returns-clause-unknown c = unknown_told
