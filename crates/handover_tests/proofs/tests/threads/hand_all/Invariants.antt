use Rattle.std.proofs.Common.{◌≡◌, ◌≤◌, length, false}
use Rattle.handover_tests.proofs.tests.threads.hand_all.Given as goal

abbrev pub invariant-tries : goal.invariant-tries
invariant-tries l = record {
  free : l.lane.holds ≡ false;
  count : length l.lane.handed ≡ l.handed;
  most : l.handed ≤ 10000;
  cell : l.lane.cell ≡ l.initial.lane.cell;
  key : l.lane.key ≡ l.initial.lane.key;
}
