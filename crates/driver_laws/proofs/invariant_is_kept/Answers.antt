use Rattle.driver_laws.proofs.Start.{start_keeps}
use Rattle.driver_laws.proofs.Polls.{kept_polled, kept_polled_table, kept_called}
use Rattle.driver_laws.proofs.Steps.{kept_turn}
use Rattle.driver_laws.proofs.invariant_is_kept.Goals as goal

pub returns-clause-start : goal.returns-clause-start
returns-clause-start c = start_keeps

pub returns-clause-turn : goal.returns-clause-turn
returns-clause-turn c = kept_turn

pub returns-clause-polls : goal.returns-clause-polls
returns-clause-polls c = record { buffer = kept_polled; table = kept_polled_table; called = kept_called }
