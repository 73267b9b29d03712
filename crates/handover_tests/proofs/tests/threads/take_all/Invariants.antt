use Rattle.std.proofs.Common.{◌≡◌, ◌≤◌, false}
use Rattle.handover_tests.proofs.tests.threads.take_all.Given as goal

abbrev pub invariant-tries : goal.invariant-tries
invariant-tries l = record {
  free : l.daemon.holds ≡ false;
  most : l.taken ≤ 10000;
  cell : l.daemon.cell ≡ l.initial.daemon.cell;
  key : l.daemon.key ≡ l.initial.daemon.key;
}
