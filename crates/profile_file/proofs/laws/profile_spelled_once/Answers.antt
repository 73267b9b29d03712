use Rattle.profile_file.proofs.ProfileLaws.{spelled_once}
use Rattle.profile_file.proofs.laws.profile_spelled_once.Goals as goal

pub returns : goal.returns
returns c = spelled_once
