use Rattle.run_laws.proofs.Systems.{run_holds}
use Rattle.run_laws.proofs.Endings.{valid_run, agreeing_run, partial_run}
use Rattle.run_laws.specs.Laws.{run_so_far}
use Rattle.run_laws.proofs.runs.records_are_valid.Goals as goal

pub returns-clause-valid : goal.returns-clause-valid
returns-clause-valid c = λ pace trace first_epoch run steps fit finished.
    valid_run pace trace first_epoch run (run_so_far pace trace first_epoch steps)
    (run_holds (record { start = c.invariant_is_kept.ensures.start; turn = c.invariant_is_kept.ensures.turn; polls = c.invariant_is_kept.ensures.polls; heard = c.bell_is_heard.ensures; did = c.turns_hand_batches.ensures }) pace trace first_epoch steps fit) finished

pub returns-clause-agree : goal.returns-clause-agree
returns-clause-agree c = λ pace trace first_epoch run steps fit finished.
    agreeing_run pace trace first_epoch run (run_so_far pace trace first_epoch steps)
    (run_holds (record { start = c.invariant_is_kept.ensures.start; turn = c.invariant_is_kept.ensures.turn; polls = c.invariant_is_kept.ensures.polls; heard = c.bell_is_heard.ensures; did = c.turns_hand_batches.ensures }) pace trace first_epoch steps fit) finished

pub returns-clause-so_far : goal.returns-clause-so_far
returns-clause-so_far c = λ pace trace first_epoch steps fit.
    partial_run pace trace first_epoch (run_so_far pace trace first_epoch steps)
    (run_holds (record { start = c.invariant_is_kept.ensures.start; turn = c.invariant_is_kept.ensures.turn; polls = c.invariant_is_kept.ensures.polls; heard = c.bell_is_heard.ensures; did = c.turns_hand_batches.ensures }) pace trace first_epoch steps fit)
