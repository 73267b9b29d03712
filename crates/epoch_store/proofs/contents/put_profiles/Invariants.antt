-- The writes of the changed profiles so far.
use Rattle.std.proofs.Common.{◌≡◌, List, ◌++◌, take}
use Rattle.store_io.specs.FileNames.{file_name}
use Rattle.epoch_store.specs.Puts.{Put}
use Rattle.epoch_store.specs.Commits.{AreWritten}
use Rattle.epoch_store.proofs.contents.put_profiles.Given as goal

abbrev pub invariant-loop-update : goal.invariant-loop-update
invariant-loop-update g l = (ws : List Put) × (l.writes.items ≡ l.fn.writes.items ++ ws) × AreWritten (λ u. file_name (g.U.Changed.file l.g u)) g.U.Changed.rows (take l.update-index l.updates) ws
