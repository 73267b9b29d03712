use Rattle.std.proofs.Common.{◌≡◌, drop}
use Rattle.std.specs.List.{position_from}
use Rattle.sample_key.specs.Bags.{same_key}
use Rattle.assoc_table.proofs.buckets.find_among.Given as goal

abbrev pub invariant-loop-i : goal.invariant-loop-i
invariant-loop-i l =
    position_from (λ e. same_key l.key e.key) l.i (drop l.i l.entries) ≡ position_from (λ e. same_key l.key e.key) 0 l.entries
