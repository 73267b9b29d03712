-- What is said of the ranges and fields that are left is said of all.
use Rattle.std.proofs.Common.{◌≡◌, drop}
use Rattle.store_tidy.specs.FileForms.{are_decimals_in}
use Rattle.text_num.specs.Fields.{fields_behind}
use Rattle.store_tidy.proofs.forms.are_decimals_in.Given as goal

abbrev pub invariant-loop-range : goal.invariant-loop-range
invariant-loop-range l = are_decimals_in (drop l.range-index l.ranges) (fields_behind 46 l.rest) ≡ are_decimals_in l.fn.ranges (fields_behind 46 l.fn.text)
