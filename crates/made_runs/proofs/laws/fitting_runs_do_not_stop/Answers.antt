use Rattle.made_runs.proofs.Stopping.{no_stop}
use Rattle.made_runs.proofs.laws.fitting_runs_do_not_stop.Goals as goal

pub returns : goal.returns
returns c = no_stop (record {
  grown = c.growth_is_determined.ensures.parts;
  next_head = c.heads_are_determined.ensures.part;
  first_heads = c.heads_are_determined.ensures.parts;
  no_fault = c.growth_has_no_fault.ensures;
})
