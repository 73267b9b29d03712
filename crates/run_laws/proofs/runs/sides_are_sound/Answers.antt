use Rattle.run_laws.proofs.Systems.{run_holds}
use Rattle.run_laws.proofs.Passing.{sound}
use Rattle.run_laws.specs.Laws.{run_so_far}
use Rattle.run_laws.proofs.runs.sides_are_sound.Goals as goal

pub returns : goal.returns
returns c = λ pace trace first_epoch steps fit.
    sound pace trace first_epoch (run_so_far pace trace first_epoch steps) fit
    (run_holds (record { start = c.invariant_is_kept.ensures.start; turn = c.invariant_is_kept.ensures.turn; polls = c.invariant_is_kept.ensures.polls; heard = c.bell_is_heard.ensures; did = c.turns_hand_batches.ensures }) pace trace first_epoch steps fit)
