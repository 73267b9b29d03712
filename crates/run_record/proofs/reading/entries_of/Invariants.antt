use Rattle.std.proofs.Common.{◌≤◌, ◌-◌, length}
use Rattle.run_record.proofs.Steps.{AreRead}
use Rattle.run_record.proofs.reading.entries_of.Given as goal

abbrev pub invariant-loop : goal.invariant-loop
invariant-loop l =
    record {
      within : l.at ≤ length l.bytes;
      told : AreRead l.count (l.count - l.counter) l.entries.items l.known.items l.bytes l.at l.fn.at;
    }
