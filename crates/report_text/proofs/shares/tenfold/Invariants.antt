use Rattle.std.proofs.Common.{◌≡◌, ◌<◌, ◌≤◌, ◌+◌, ◌*◌}
use Rattle.report_text.proofs.shares.tenfold.Given as goal

abbrev pub invariant-loop-turn : goal.invariant-loop-turn
invariant-loop-turn l = record { parts : l.times * l.total + l.rest ≡ l._turn * l.part; left : l.rest < l.total; few : l.times ≤ l._turn }
