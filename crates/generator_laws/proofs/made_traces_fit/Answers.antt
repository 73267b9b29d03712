use Rattle.trace_model.specs.Traces.{recording_of}
use Rattle.generator_laws.proofs.Counting.{is_quiet}
use Rattle.generator_laws.proofs.made_traces_fit.Goals as goal

pub returns-clause-lossless : goal.returns-clause-lossless
returns-clause-lossless c = λ made run first_epoch.
    c.unscheduled_runs_lose_nothing.ensures (recording_of c.args.trace.now) run first_epoch c.traces_are_fit.ensures made.unscheduled

pub returns-clause-fits : goal.returns-clause-fits
returns-clause-fits c = λ made. c.quiet_runs_fit.ensures (is_quiet (recording_of c.args.trace.now) c.args.trace.now.in_order made)
