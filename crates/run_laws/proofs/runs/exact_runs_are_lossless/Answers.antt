use Rattle.sample_key.specs.declared.losses.Pace.TheVariants.{Exact}
use Rattle.run_laws.proofs.Systems.{run_holds}
use Rattle.run_laws.proofs.Lossless.{lossless}
use Rattle.run_laws.specs.Laws.{run_so_far}
use Rattle.run_laws.proofs.runs.exact_runs_are_lossless.Goals as goal

pub returns : goal.returns
returns c = λ trace first_epoch steps fit.
    lossless trace first_epoch (run_so_far Exact trace first_epoch steps)
    (run_holds (record { start = c.invariant_is_kept.ensures.start; turn = c.invariant_is_kept.ensures.turn; polls = c.invariant_is_kept.ensures.polls; heard = c.bell_is_heard.ensures; did = c.turns_hand_batches.ensures }) Exact trace first_epoch steps fit)
