-- Names are cut into their fields and joined again.
use Rattle.std.proofs.Common.{arith}
use Rattle.text_num.specs.Numbers.{HasSpelling}
use Rattle.text_num.proofs.Spelling.{has_spelling}
use Rattle.store_tidy.proofs.Spelled.{file_said, seal_said, named}
use Rattle.store_tidy.proofs.laws.forms_are_of_files.Goals as goal

decimals : HasSpelling 10
decimals = has_spelling 10 (omega arith) (omega arith) (omega arith)

pub returns-clause-files : goal.returns-clause-files
returns-clause-files c = file_said decimals

pub returns-clause-seals : goal.returns-clause-seals
returns-clause-seals c = seal_said decimals

pub returns-clause-named : goal.returns-clause-named
returns-clause-named c = named decimals
