use Rattle.epoch_store.proofs.Within.{within_limits}
use Rattle.epoch_store.proofs.laws.what_stands_is_within_limits.Goals as goal

pub returns : goal.returns
returns c = within_limits
