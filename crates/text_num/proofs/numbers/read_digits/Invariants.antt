use Rattle.std.proofs.Common.{◌≡◌, ◌<◌, ◌^◌, drop}
use Rattle.text_num.specs.Numbers.{number_after}
use Rattle.text_num.proofs.numbers.read_digits.Given as goal

-- what is left to read leads to the number of the whole
abbrev pub invariant-loop-c : goal.invariant-loop-c
invariant-loop-c l = record {
  told : number_after l.base l.n (drop l.c-index l.text) ≡ number_after l.base 0 l.text;
  small : l.n < 2 ^ 64;
}
