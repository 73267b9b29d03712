-- The bells are not above the value that is rung.
use Rattle.std.proofs.Common.{arith}
use Rattle.dcpid_core.specs.Insides.{collection_of}
use Rattle.dcpid_core.proofs.Bells.{all_below}
use Rattle.dcpid_core.proofs.progress.Progress.go_to.Goals as goal

pub ring_all-requires-clause-later : goal.ring_all-requires-clause-later
ring_all-requires-clause-later g c = all_below (collection_of c.args.task.now c.args.self.now) 0 c.in_force.result _ (omega (arith, c.in_force.ensures, c.put_in_force.ensures.applied)) c.requires.fitting.each
