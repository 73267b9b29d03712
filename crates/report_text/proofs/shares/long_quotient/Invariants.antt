use Rattle.std.proofs.Common.{◌≡◌, ◌<◌, ◌≤◌, ◌+◌, ◌*◌, ◌^◌}
use Rattle.report_text.proofs.shares.long_quotient.Given as goal

abbrev pub invariant-loop-digit : goal.invariant-loop-digit
invariant-loop-digit l = record { parts : l.quotient * l.total + l.rest ≡ 10 ^ l._digit * l.part; left : l.rest < l.total; few : l.quotient + 2 ≤ 3 * 10 ^ l._digit }
