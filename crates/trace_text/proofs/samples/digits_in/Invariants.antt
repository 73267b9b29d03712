use Rattle.std.proofs.Common.{◌≡◌, ◌<◌, ◌^◌, true, take}
use Rattle.std.specs.List.{list_all}
use Rattle.text_num.specs.Numbers.{is_digit, value_of}
use Rattle.trace_text.proofs.samples.digits_in.Given as goal

-- what was read are digits, and they write the number so far
abbrev pub invariant-loop-count : goal.invariant-loop-count
invariant-loop-count l = record {
  digits : list_all (is_digit l.base) (take l.count l.text) ≡ true;
  value : l.n ≡ value_of l.base (take l.count l.text);
  small : l.n < 16 ^ l.count;
}
