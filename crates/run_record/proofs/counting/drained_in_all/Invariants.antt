use Rattle.std.proofs.Common.{◌≡◌, ◌≤◌, ◌*◌, take}
use Rattle.std.specs.Prelude.{sum_by}
use Rattle.database_model.specs.Tally.{drained_of}
use Rattle.run_record.proofs.counting.drained_in_all.Given as goal

abbrev pub invariant-loop-d : goal.invariant-loop-d
invariant-loop-d l = record { sum : l.sum ≡ sum_by (drained_of l.cpu l.event l.flag) (take l.d-index l.drains); small : l.sum ≤ 131070000000 * l.d-index }
