use Rattle.database_state.proofs.Names.{one_file, one_seal, no_seal}
use Rattle.database_state.proofs.laws.file_names_are_apart.Goals as goal

pub returns-clause-files : goal.returns-clause-files
returns-clause-files c = one_file

pub returns-clause-seals : goal.returns-clause-seals
returns-clause-seals c = one_seal

pub returns-clause-kinds : goal.returns-clause-kinds
returns-clause-kinds c = no_seal
