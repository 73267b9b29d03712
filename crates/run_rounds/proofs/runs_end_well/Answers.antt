use Rattle.std.proofs.Common.{◌≡◌, true, ◌++◌, arith}
use Rattle.sample_key.specs.declared.losses.Pace.TheVariants.{Free}
use Rattle.run_model.specs.Running.{rounds, enough_rounds}
use Rattle.run_laws.specs.Laws.{run_so_far}
use Rattle.run_rounds.proofs.runs_end_well.Goals as goal

pub returns : goal.returns
returns c = λ trace run first_epoch fit.
    let steps = trace.schedule ++ rounds (enough_rounds trace) trace in
    let finished : (run_so_far Free trace first_epoch steps).daemon.finished ≡ true =
    c.rounds_finish.ensures trace first_epoch (enough_rounds trace) trace.schedule fit (omega arith) in
    record {
      finished = finished;
      valid = c.records_are_valid.ensures.valid Free trace first_epoch run steps fit finished;
      agree = c.records_are_valid.ensures.agree Free trace first_epoch run steps fit finished;
    }
