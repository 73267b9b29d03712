-- The counts that were read are those of the run.
use Rattle.std.proofs.Common.{◌≡◌, ◌^◌, ◌<◌, List, length, ap, subst, sym, ◌∙◌}
use Rattle.database_model.specs.Runs.{Drained, Recorded}
use Rattle.summary_text.specs.Bounds.{AllSmall, AreFew}
use Rattle.summary_text.proofs.SmallRows.{tally_small}
use Rattle.summary_text.proofs.tallies.run_tally.Goals as goal

pub returns-clause-few : goal.returns-clause-few
returns-clause-few c =
    let read : c.deref.result.now ≡ c.args.kept.now.drains = c.deref.ensures.value ∙ ap (λ (r : Recorded). r.drains) c.kept.view_is in
    let small : AllSmall c.args.kept.now.drains = subst (λ (ds : List Drained). AllSmall ds) read c.read_counts.ensures.small in
    let few : length c.args.kept.now.drains < 2 ^ 64 = subst (λ (ds : List Drained). length ds < 2 ^ 64) read c.read_counts.ensures.few in
    subst AreFew (sym c.in_ok-rows.ensures) (tally_small c.args.kept.now c.requires small few)
