use Rattle.epoch_store.proofs.OneHead.{one_head, one_database}
use Rattle.epoch_store.proofs.laws.files_stand_for_one_database.Goals as goal

pub returns-clause-heads : goal.returns-clause-heads
returns-clause-heads c = one_head

pub returns-clause-databases : goal.returns-clause-databases
returns-clause-databases c = one_database
