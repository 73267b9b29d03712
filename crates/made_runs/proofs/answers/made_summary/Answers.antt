-- What the text reads as is this very trace.
use Rattle.std.proofs.Common.{◌∙◌, ap, sym}
use Rattle.made_runs.specs.FirstRuns.{first_summary}
use Rattle.made_runs.proofs.answers.made_summary.Goals as goal

pub returns-clause-read_back : goal.returns-clause-read_back
returns-clause-read_back c read reads = c.in_ok-text.ensures ∙ ap first_summary (sym (c.in_ok-trace.ensures.of_seed.alone read reads))
