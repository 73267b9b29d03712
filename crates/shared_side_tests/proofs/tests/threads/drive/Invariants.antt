use Rattle.std.proofs.Common.{◌≡◌}
use Rattle.shared_side_tests.proofs.tests.threads.drive.Given as goal

abbrev pub invariant-loop : goal.invariant-loop
invariant-loop l = l.work.side.fixed ≡ l.fn.work.side.fixed
