use Rattle.trace_laws.proofs.Exclusive.{not_both, one_refusal}
use Rattle.trace_laws.proofs.Inverse.{one_trace}
use Rattle.trace_laws.proofs.Rebuilt.{trace_or_refused}
use Rattle.trace_laws.proofs.readings.one_reading.Goals as goal

pub returns-clause-not_both : goal.returns-clause-not_both
returns-clause-not_both c bytes trace bad = not_both bytes bad.0 bad.1 trace.0 bad.2 trace.1

pub returns-clause-one_refusal : goal.returns-clause-one_refusal
returns-clause-one_refusal c = one_refusal

pub returns-clause-one_trace : goal.returns-clause-one_trace
returns-clause-one_trace c = one_trace

pub returns-clause-some : goal.returns-clause-some
returns-clause-some c = trace_or_refused
