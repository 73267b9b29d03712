use Rattle.std.proofs.Common.{arith}
use Rattle.trace_laws.proofs.Shortness.{few_bytes, few_lines}
use Rattle.trace_laws.proofs.bounds.traces_are_short.Goals as goal

pub returns-clause-lines : goal.returns-clause-lines
returns-clause-lines c bytes trace = let s = trace.1.says in
    record { lines = s.lines; text = s.text; are_lines = s.are_lines; few = omega (arith, few_lines bytes trace.0 trace.1) }

pub returns-clause-bytes : goal.returns-clause-bytes
returns-clause-bytes c bytes trace = omega (arith, few_bytes bytes trace.0 trace.1)
