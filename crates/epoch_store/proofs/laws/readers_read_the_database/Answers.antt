use Rattle.std.proofs.Common.{ap}
use Rattle.database_state.specs.Updates.{at_image}
use Rattle.database_state.specs.Rows.{known_row}
use Rattle.database_state.specs.Standing.{known_at}
use Rattle.epoch_store.proofs.Parts.{part_at}
use Rattle.epoch_store.proofs.laws.readers_read_the_database.Goals as goal

pub returns-clause-known : goal.returns-clause-known
returns-clause-known c = λ h files name epoch image event here. ap (λ o. at_image o (λ i. known_at files (known_row h.known epoch i event))) here

pub returns-clause-segment : goal.returns-clause-segment
returns-clause-segment c = λ h files g some most. part_at h.generation g files some most
