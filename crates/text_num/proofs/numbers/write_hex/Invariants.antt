use Rattle.std.proofs.Common.{◌≡◌, ℕ, ◌+◌, ◌<◌, ◌≤◌, ◌^◌, drop, length, false}
use Rattle.std.specs.Fmt.{digits_onto, digits}
use Rattle.text_num.proofs.numbers.write_hex.Given as goal

-- what is left to write stands in front of what was written
abbrev pub invariant-loop-left : goal.invariant-loop-left
invariant-loop-left l = record {
  size : length l.buffer ≡ 16;
  most : l.at ≤ 16;
  room : l.left < 16 ^ l.at;
  some : 0 < l.at;
  told : digits_onto (l.at + 48) 16 false l.left (drop l.at l.buffer) ≡ digits 16 false l.n;
}

abbrev pub decreases-loop-left : goal.decreases-loop-left
decreases-loop-left l = l.left
