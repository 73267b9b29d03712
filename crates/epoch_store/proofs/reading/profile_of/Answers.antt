-- What the bytes tell is a fault of no store.
use Rattle.std.proofs.lemmas.Result.{err_from_is_err_and}
use Rattle.epoch_store.proofs.Causes.{read_cause_at}
use Rattle.epoch_store.proofs.reading.profile_of.Goals as goal

pub returns-in_err-profile-clause-cause : goal.returns-in_err-profile-clause-cause
returns-in_err-profile-clause-cause g c =
    let p = err_from_is_err_and c.from_residual-in_err-profile.result c.from_residual-in_err-profile.ensures.1 in
    rw (p.1, p.2) (read_cause_at _ _ _ c.in_ok-bytes.ensures.cause (c.in_err-profile.ensures.cause (g.D.Store.faults c.args.store.now)))
