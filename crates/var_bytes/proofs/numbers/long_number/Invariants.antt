use Rattle.std.proofs.Common.{◌≡◌, ◌+◌, drop}
use Rattle.var_bytes.specs.Reading.{joined, narrow, wide_at}
use Rattle.var_bytes.proofs.numbers.long_number.Given as goal

abbrev pub invariant-loop-byte : goal.invariant-loop-byte
invariant-loop-byte l =
    record {
      len : l.len ≡ l.byte-index + 1;
      told : narrow (joined l.value l.scale l.len (wide_at (drop l.byte-index l.bytes))) ≡ narrow (joined l.first 128 1 (wide_at l.bytes));
    }
