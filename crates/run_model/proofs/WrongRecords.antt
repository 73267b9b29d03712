-- Records that are not valid.
use Rattle.std.proofs.Common.{[], ◌∷◌, ◌++◌, map, arith}
use Rattle.sample_key.specs.declared.losses.Pace.TheVariants.{Free}
use Rattle.database_model.specs.Runs.{Drained}
use Rattle.run_model.specs.Validity.{IsValidRun}
use Rattle.run_model.proofs.Rows.{fold_trace, fold_key, both_out, seventh_key, kept_of}

-- the loss is left out
without_losses : IsValidRun Free both_out (record (kept_of both_out) { losses = [] ∷ [] }) → ⊥
without_losses valid = omega (arith, (valid.shares 0 (omega arith)).counted seventh_key)

-- a batch is drained once more from its copy
drained_twice : IsValidRun Free fold_trace
    (record (kept_of fold_trace) { drains = (kept_of fold_trace).drains ++ (kept_of fold_trace).drains }) → ⊥
drained_twice valid = omega (arith, (valid.shares 0 (omega arith)).counted fold_key)

-- the drains are noted a position early
abbrev noted_early : Drained → Drained
noted_early drain = record drain { at = 0 }

early : IsValidRun Free fold_trace (record (kept_of fold_trace) { drains = map noted_early (kept_of fold_trace).drains }) → ⊥
early valid = omega (arith, (valid.shares 0 (omega arith)).answered.times.0.now)
