use Rattle.std.proofs.Common.{arith}
use Rattle.var_bytes.proofs.Answering.{is_found, is_only, is_bad, is_refused}
use Rattle.database_model.specs.ProfileForm.{format1}
use Rattle.profile_file.proofs.reading.read_profile.Goals as goal

pub returns-clause-found : goal.returns-clause-found
returns-clause-found c = is_found format1 c.args.bytes.now c.whole_profile.result (λ i. omega (arith, c.type_inv.bytes i)) c.whole_profile.ensures

pub returns-clause-only : goal.returns-clause-only
returns-clause-only c = is_only format1 c.args.bytes.now c.whole_profile.result c.whole_profile.ensures

pub returns-clause-bad : goal.returns-clause-bad
returns-clause-bad c = is_bad format1 c.args.bytes.now c.whole_profile.result (λ i. omega (arith, c.type_inv.bytes i)) c.whole_profile.ensures

pub returns-clause-refused : goal.returns-clause-refused
returns-clause-refused c = is_refused format1 c.args.bytes.now c.whole_profile.result (λ i. omega (arith, c.type_inv.bytes i)) c.whole_profile.ensures
