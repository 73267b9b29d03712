use Rattle.std.proofs.Common.{◌≡◌, ◌++◌, map}
use Rattle.dcpiprof_report.specs.Sums.{row_of}
use Rattle.dcpiprof_report.proofs.listing.unsorted.Given as goal

abbrev pub invariant-loop-label : goal.invariant-loop-label
invariant-loop-label l = l.rows.items ++ map row_of l.label-iterator ≡ map row_of l.fn.sums.entries
