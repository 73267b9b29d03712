-- A change brings the names up to date.
use Rattle.std.proofs.Common.{◌≡◌, take, ◌∙◌, sym, ap, map}
use Rattle.std.proofs.lemmas.List.{take_all}
use Rattle.store_io.specs.Files.{no_files}
use Rattle.store_io.specs.Changes.{after_steps}
use Rattle.store_io.proofs.Presence.{next_present, filter_all}
use Rattle.store_io.proofs.changes.present_names.Goals as goal

pub loop-change-preserved : goal.loop-change-preserved
loop-change-preserved c =
    let before = after_steps (take c.loop-change.change-index c.args.changes.now) no_files in
    record {
      present = next_present c.args.changes.now c.loop-change.change-index c.change-item.result _ c.loop-change-test.true c.change-item.is (c.in_ok-follow.ensures.present before c.loop-change.invariant.present);
      names = c.in_ok-follow.ensures.names c.loop-change.invariant.names;
    }

pub returns-clause-names : goal.returns-clause-names
returns-clause-names c = filter_all _ c.loop-change.invariant.names
