use Rattle.std.proofs.Common.{◌∙◌}
use Rattle.trace_model.specs.Traces.{recording_of}
use Rattle.generator_laws.specs.Made.{IsMade}
use Rattle.made_runs.specs.FirstRuns.{first_record}
use Rattle.made_runs.proofs.Counted.{samples_are}
use Rattle.made_runs.proofs.Taken.{lost_none, taken_all}
use Rattle.made_runs.proofs.laws.made_run_is_whole.Goals as goal

pub returns : goal.returns
returns c =
    let r = recording_of c.args.trace.now in
    let is = c.requires.made in
    let made : IsMade r = record { seed = c.args.seed; samples = c.args.samples; few = c.requires.few; said = is.said; unscheduled = is.unscheduled } in
    let ends = c.runs_end_well.ensures r 1 0 c.traces_are_fit.ensures in
    let none = c.made_traces_fit.ensures.lossless made 1 0 in
    record {
      valid = ends.valid;
      agree = ends.agree;
      losses = none;
      lost = lost_none (first_record r) none;
      taken = taken_all r (first_record r) c.traces_are_fit.ensures ends.valid none
          ∙ samples_are c.args.seed c.args.samples r c.requires.few is.unscheduled is.said;
    }
