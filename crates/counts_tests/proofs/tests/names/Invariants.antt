use Rattle.std.proofs.Common.{◌≡◌, ◌++◌, map, drop}
use Rattle.counts_tests.proofs.tests.names.Given as goal

abbrev pub invariant-loop-text : goal.invariant-loop-text
invariant-loop-text l = l.names.items ++ map (λ text. text.now) (drop l.text-index l.texts) ≡ map (λ text. text.now) l.texts
