-- What was read is what the bytes tell, and a bad field is one of bytes that tell nothing.
use Rattle.std.proofs.Common.{arith, Err, refl, ap, ◌∙◌}
use Rattle.database_model.specs.ProfileForm.{format1}
use Rattle.epoch_store.proofs.Values.{tells, tells_none}
use Rattle.epoch_store.proofs.reading.profile_in.Goals as goal

pub returns-in-Ok-clause-profile : goal.returns-in-Ok-clause-profile
returns-in-Ok-clause-profile c = tells format1 c.args.bytes.now _ c.in-Ok.ensures.found

pub returns-in-Err-Bad-clause-profile : goal.returns-in-Err-Bad-clause-profile
returns-in-Err-Bad-clause-profile c = (refl, tells_none format1 c.args.bytes.now c.in-Err-Bad.field-0-0 (λ i. omega (arith, c.type_inv.bytes i)) (c.read_profile.ensures.bad c.in-Err-Bad.field-0-0 (c.in-Err-Bad.is ∙ ap Err c.in-Err-Bad.field-0-is)))
