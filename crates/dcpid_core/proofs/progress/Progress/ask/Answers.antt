-- The bells are not above the value that is rung.
use Rattle.std.proofs.Common.{arith}
use Rattle.dcpid_core.specs.Insides.{collection_of}
use Rattle.dcpid_core.proofs.Bells.{all_below}
use Rattle.dcpid_core.proofs.Current.{sound_asked}
use Rattle.dcpid_core.proofs.progress.Progress.ask.Goals as goal

pub ring_all-requires-clause-later : goal.ring_all-requires-clause-later
ring_all-requires-clause-later g c = all_below (collection_of c.args.task.now c.args.self.now) 0 c.flush_before.result _ (omega (arith, c.flush_before.ensures)) c.requires.fitting.each

pub returns-clause-sound : goal.returns-clause-sound
returns-clause-sound g c = sound_asked c.args.task.now c.args.self.now c.requires.sound c.requires.need
