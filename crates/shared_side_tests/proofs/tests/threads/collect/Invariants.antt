use Rattle.std.proofs.Common.{◌≡◌}
use Rattle.shared_side_tests.specs.Rounds.{IsPolledEvenly}
use Rattle.shared_side_tests.proofs.tests.threads.collect.Given as goal

abbrev pub invariant-loop : goal.invariant-loop
invariant-loop l =
    record {
      fixed : l.daemon.fixed ≡ l.fn.daemon.fixed;
      polled : IsPolledEvenly l.daemon.seen l.daemon.far;
    }
