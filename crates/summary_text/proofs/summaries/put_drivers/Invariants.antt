use Rattle.std.proofs.Common.{◌≡◌, ◌++◌, drop}
use Rattle.summary_text.specs.Summaries.{stats_lines}
use Rattle.summary_text.proofs.summaries.put_drivers.Given as goal

abbrev pub invariant-loop-cpu : goal.invariant-loop-cpu
invariant-loop-cpu l = l.out.items ++ stats_lines l.cpu (drop l.cpu l.stats) ≡ l.initial.out.items ++ stats_lines 0 l.stats
