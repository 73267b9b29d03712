-- The books do not rest on what is counted of a flush.
use Rattle.std.proofs.Common.{rules}
use Rattle.dcpid_core.proofs.Current.{current_taken}
use Rattle.dcpid_core.proofs.progress.Progress.take.Goals as goal

pub note-requires-clause-current : goal.note-requires-clause-current
note-requires-clause-current g c = current_taken c.args.task.now c.args.self.now _ c.requires.sound (search rules)
