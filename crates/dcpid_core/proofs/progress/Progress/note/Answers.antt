-- What was gathered is what the drains add, with the one that was noted.
use Rattle.std.proofs.Common.{rules, arith, ◌≡◌, ◌++◌, ◌∷◌, [], subst}
use Rattle.profile_merge.specs.Gathering.{Gathers, drained}
use Rattle.dcpid_core.proofs.Current.{current_noted}
use Rattle.dcpid_core.specs.Insides.{records_of}
use Rattle.trace_outline.specs.Views.{viewed}
use Rattle.dcpid_core.proofs.progress.Progress.note.Goals as goal

pub returns-clause-current : goal.returns-clause-current
returns-clause-current g c =
    let e : c.copy_to.new.out.items ≡ g.B.Body.entries c.args.body.now = search rules in
    current_noted c.args.task.now c.args.self.now _ c.args.self.now.applied c.args.self.now.epoch (record { note = c.args.note; entries = g.B.Body.entries c.args.body.now })
    c.requires.task c.requires.applied c.requires.entries c.requires.current (search rules) (search rules)
    (subst (λ es. Gathers c.gather.new.into (viewed c.args.task.now.trace).images (records_of c.args.task.now) (c.args.self.now.noted.items ++ drained (records_of c.args.task.now) c.args.self.now.applied c.args.self.now.epoch (record { note = c.args.note; entries = es }) ∷ [])) e
    (c.in_ok-known.ensures.gathered (viewed c.args.task.now.trace).images (records_of c.args.task.now) c.args.self.now.applied c.args.self.now.noted.items c.requires.current.mappings c.requires.current.gathers))
    (c.in_ok-known.ensures.images (viewed c.args.task.now.trace).images (records_of c.args.task.now) c.args.self.now.applied c.requires.current.mappings (c.requires.task.images c.args.self.now.applied) c.requires.current.images)
    (c.in_ok-known.ensures.epochs c.args.self.now.epoch (omega arith) c.requires.current.epochs)
