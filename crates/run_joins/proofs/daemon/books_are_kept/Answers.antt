use Rattle.run_laws.proofs.Keeping.{books_begin, books_noted, books_advanced}
use Rattle.run_joins.proofs.daemon.books_are_kept.Goals as goal

pub returns : goal.returns
returns c = record { begins = books_begin; noted = books_noted; advanced = books_advanced }
