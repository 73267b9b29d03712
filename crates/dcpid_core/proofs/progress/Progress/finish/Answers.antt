-- The rest may be committed in the present epoch.
use Rattle.std.proofs.Common.{rules, ◌≡◌, None}
use Rattle.dcpid_core.proofs.Current.{ready_now}
use Rattle.dcpid_core.proofs.progress.Progress.finish.Goals as goal

pub commit_part-requires-clause-ready : goal.commit_part-requires-clause-ready
commit_part-requires-clause-ready g c =
    let fine : c.args.self.failure ≡ None = search rules in
    ready_now c.args.task.now c.args.self c.args.self.applied c.args.self.epoch (c.requires.sound.current fine)
