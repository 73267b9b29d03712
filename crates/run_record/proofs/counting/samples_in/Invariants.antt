use Rattle.std.proofs.Common.{◌≡◌, ◌≤◌, ◌*◌, take}
use Rattle.std.specs.Prelude.{sum_by}
use Rattle.std.specs.List.{zip}
use Rattle.database_model.specs.Tally.{samples_of}
use Rattle.run_record.proofs.counting.samples_in.Given as goal

abbrev pub invariant-loop-i : goal.invariant-loop-i
invariant-loop-i l = record { sum : l.sum ≡ sum_by (samples_of l.event l.flag) (take l.i (zip l.entries l.known)); small : l.sum ≤ 65535 * l.i }
