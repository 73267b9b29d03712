use Rattle.std.proofs.Common.{rules, length-append}
use Rattle.database_tests.proofs.changes.image_count.Goals as goal

pub returns : goal.returns
returns c = search (rules, length-append)
