use Rattle.made_runs.proofs.traces.trace_of.Goals as goal

pub returns-clause-of_seed : goal.returns-clause-of_seed
returns-clause-of_seed c =
    c.said_traces_are_read.ensures c.args.seed c.args.samples c.in_ok-trace.ensures.made c.in_ok-trace.ensures.unscheduled
