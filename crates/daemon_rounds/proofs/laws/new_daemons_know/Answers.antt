-- By the laws of its doings.
use Rattle.daemon_rounds.proofs.Beginning.{begins}
use Rattle.daemon_rounds.proofs.laws.new_daemons_know.Goals as goal

pub returns : goal.returns
returns c = begins c.books_are_kept.ensures c.daemons_collect.ensures c.counts_agree.ensures
