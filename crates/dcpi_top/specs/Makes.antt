-- What `make` owes: the summary of the run of a made trace, or the text of the trace.
use Rattle.std.specs.Prelude.{ℕ, Bool, true, false, List}
use Rattle.made_runs.specs.FirstRuns.{IsMadeSummary, IsMadeText, IsSummaryOfRead}

-- The text of a made trace; or the summary of its run, as the first one into an empty database, which is also the summary of
-- whatever the text of the trace reads as.
abbrev pub IsMadeAnswer : ℕ → ℕ → Bool → List ℕ → Type 0
IsMadeAnswer seed samples true text = IsMadeText seed samples text
IsMadeAnswer seed samples false text =
    IsMadeSummary seed samples text × IsSummaryOfRead seed samples text
