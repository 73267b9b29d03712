-- The end changes no book.
use Rattle.dcpid_core.proofs.Current.{sound_finished}
use Rattle.dcpid_core.proofs.progress.Progress.settle.Goals as goal

pub returns-in-None-clause-sound : goal.returns-in-None-clause-sound
returns-in-None-clause-sound g c = sound_finished c.args.task.now c.args.self.now c.requires.sound
