-- What a loop over those that wait, and one over those that run, keep of each; and what that says of their works.
use Rattle.std.proofs.Common.{List, subst}
use Rattle.lane_threads.specs.Pairs.{Pairwise}
use Rattle.lane_threads.specs.Promising.{IsOfWork, Runs}
use Rattle.lane_threads.specs.Working.{Working, IsEnded}
use Rattle.lane_threads.specs.declared.starts.Waiting.{Waiting}
use Rattle.lane_threads.specs.declared.runners.Runner.{Runner}
use Rattle.lane_threads.proofs.Pairing.{pairs_then}

-- it runs the work that waited
abbrev pub StartsAs : Waiting → Runner → Type 0
StartsAs waiting runner = Runs waiting.work runner

-- of whatever work it runs, this is the end
abbrev pub EndsAs : Runner → Working → Type 0
EndsAs runner end = (work : Working) → Runs work runner → IsEnded work end

pub works_run : (works : List Working) (all : List Waiting) (runners : List Runner)
    → Pairwise IsOfWork works all → Pairwise StartsAs all runners → Pairwise Runs works runners
works_run works all runners = pairs_then IsOfWork StartsAs Runs works all runners (λ work waiting runner e h. subst (λ (w : Working). Runs w runner) e h)

pub works_end : (works : List Working) (runners : List Runner) (ends : List Working)
    → Pairwise Runs works runners → Pairwise EndsAs runners ends → Pairwise IsEnded works ends
works_end works runners ends = pairs_then Runs EndsAs IsEnded works runners ends (λ work runner end e h. h work e)
