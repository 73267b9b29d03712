-- One record further.
use Rattle.dcpid_core.proofs.Current.{sound_failed, sound_moved}
use Rattle.dcpid_core.proofs.progress.Progress.put_in_force.Goals as goal

pub returns-in-Ok-clause-sound : goal.returns-in-Ok-clause-sound
returns-in-Ok-clause-sound g c = sound_moved c.args.task.now c.args.self.now c.keep_books.new.self _ c.args.notice.now c.requires.task c.requires.sound c.requires.notice c.in-Ok.ensures.only c.step-in-Ok.ensures c.in-Ok.ensures.current

pub returns-in-Err-clause-sound : goal.returns-in-Err-clause-sound
returns-in-Err-clause-sound g c = sound_failed c.args.task.now c.args.self.now c.keep_books.new.self _ c.args.notice.now c.in-Err.fault c.requires.task c.requires.sound c.requires.notice c.in-Err.ensures.only c.step-in-Err.ensures
