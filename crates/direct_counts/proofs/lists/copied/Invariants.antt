use Rattle.std.proofs.Common.{◌≡◌, ◌++◌}
use Rattle.direct_counts.proofs.lists.copied.Given as goal

abbrev pub invariant-loop-site : goal.invariant-loop-site
invariant-loop-site l = l.rows.items ++ l.site-iterator ≡ l.counts.entries
