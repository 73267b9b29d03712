-- Before the first step nothing is in force and nothing is noted.
use Rattle.std.proofs.Common.{rules, refl}
use Rattle.dcpid_core.specs.Insides.{records_of}
use Rattle.dcpid_core.proofs.Current.{sound_start}
use Rattle.trace_outline.specs.Views.{viewed}
use Rattle.dcpid_core.proofs.progress.Progress.at_start.Goals as goal

pub returns-clause-sound : goal.returns-clause-sound
returns-clause-sound c = sound_start c.args.task.now _ refl refl (search rules) c.last_epoch-epoch.ensures c.args.db.range c.new.ensures
    (c.new-2.ensures.nothing (viewed c.args.task.now.trace).images (records_of c.args.task.now)) (c.new-2.ensures.images (viewed c.args.task.now.trace).images) (c.new-2.ensures.epochs c.last_epoch-epoch.result)
    c.new-4.ensures.items c.requires.works c.requires.run refl
