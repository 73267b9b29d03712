use Rattle.profile_file.proofs.ProfileLaws.{read_told}
use Rattle.profile_file.proofs.laws.read_rows_rise.Goals as goal

pub returns : goal.returns
returns c = record { told = read_told }
