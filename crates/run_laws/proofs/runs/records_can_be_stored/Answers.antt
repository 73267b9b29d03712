use Rattle.run_laws.proofs.Systems.{run_holds}
use Rattle.run_laws.proofs.Storing.{storable, recorded}
use Rattle.run_laws.specs.Laws.{run_so_far}
use Rattle.run_laws.proofs.runs.records_can_be_stored.Goals as goal

pub returns-clause-stored : goal.returns-clause-stored
returns-clause-stored c = λ pace trace run first_epoch steps fit some part within.
    storable pace trace run first_epoch (run_so_far pace trace first_epoch steps) fit
    (run_holds (record { start = c.invariant_is_kept.ensures.start; turn = c.invariant_is_kept.ensures.turn; polls = c.invariant_is_kept.ensures.polls; heard = c.bell_is_heard.ensures; did = c.turns_hand_batches.ensures }) pace trace first_epoch steps fit) some part within

pub returns-clause-tallied : goal.returns-clause-tallied
returns-clause-tallied c = λ pace trace run first_epoch steps fit.
    recorded pace trace run first_epoch (run_so_far pace trace first_epoch steps) fit
    (run_holds (record { start = c.invariant_is_kept.ensures.start; turn = c.invariant_is_kept.ensures.turn; polls = c.invariant_is_kept.ensures.polls; heard = c.bell_is_heard.ensures; did = c.turns_hand_batches.ensures }) pace trace first_epoch steps fit)
