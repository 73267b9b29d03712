-- What is listed first among the others is listed first among all.
use Rattle.std.proofs.Common.{◌≡◌, drop}
use Rattle.store_io.specs.Changes.{listed}
use Rattle.store_io.proofs.changes.listed.Given as goal

abbrev pub invariant-loop-fail : goal.invariant-loop-fail
invariant-loop-fail l = listed (drop l.fail-index l.fails) l.call ≡ listed l.fails l.call
