use Rattle.var_bytes.specs.Numbers.{spell}
use Rattle.profile_file.proofs.ProfileLaws.{profile_fields, profile_spelled, profile_told}
use Rattle.profile_file.proofs.laws.profiles_have_spellings.Goals as goal

pub returns-clause-spelled : goal.returns-clause-spelled
returns-clause-spelled c = λ rows rise. (spell (profile_fields rows), profile_spelled rows rise)

pub returns-clause-told : goal.returns-clause-told
returns-clause-told c = profile_told
