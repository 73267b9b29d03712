-- What the bytes tell is a fault of no store.
use Rattle.std.proofs.lemmas.Result.{err_from_is_err_and}
use Rattle.epoch_store.proofs.Causes.{read_cause_at}
use Rattle.epoch_store.proofs.reading.read_run_part.Goals as goal

pub returns-in_err-part-clause-cause : goal.returns-in_err-part-clause-cause
returns-in_err-part-clause-cause g c =
    let p = err_from_is_err_and c.from_residual-in_err-part.result c.from_residual-in_err-part.ensures.1 in
    rw (p.1, p.2) (read_cause_at _ _ _ c.in_ok-bytes.ensures.cause (c.in_err-part.ensures.cause (g.D.Store.faults c.args.store.now)))
