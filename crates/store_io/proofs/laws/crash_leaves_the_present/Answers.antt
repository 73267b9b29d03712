-- Whole changes leave what they made.
use Rattle.std.proofs.Common.{Some, sym, ap}
use Rattle.store_io.specs.Memory.{changes_of}
use Rattle.store_io.proofs.History.{only_now}
use Rattle.store_io.proofs.laws.crash_leaves_the_present.Goals as goal

pub returns : goal.returns
returns c = λ whole files here. ap Some (sym (only_now (changes_of c.args.store.now) files whole here))
