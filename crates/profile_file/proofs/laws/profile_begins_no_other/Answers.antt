use Rattle.database_model.specs.ProfileForm.{format1}
use Rattle.var_bytes.proofs.FormLaws.{none_begins}
use Rattle.profile_file.proofs.laws.profile_begins_no_other.Goals as goal

pub returns : goal.returns
returns c = none_begins format1
