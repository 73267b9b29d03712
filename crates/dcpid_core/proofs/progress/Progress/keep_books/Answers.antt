-- The books of one record more.
use Rattle.std.proofs.Common.{rules, ◌≡◌, true, false, ap, subst, sym, refl}
use Rattle.trace_model.specs.Parts.{ends_part}
use Rattle.load_map.specs.Maps.{Applies}
use Rattle.dcpid_core.specs.declared.progress.Progress.{Progress}
use Rattle.dcpid_core.proofs.Current.{all_three, current_moved, current_settled, ready_mapped, ready_next}
use Rattle.dcpid_core.proofs.progress.Progress.keep_books.Goals as goal

pub end_part-requires-clause-ready : goal.end_part-requires-clause-ready
end_part-requires-clause-ready g c = ready_mapped c.args.task.now c.args.self.now _ _ (ready_next c.args.task.now c.args.self.now c.args.self.now.applied c.args.self.now.epoch c.args.notice.now (c.requires.sound.current c.requires.fine))

pub returns-then-ends_part-clause-current : goal.returns-then-ends_part-clause-current
returns-then-ends_part-clause-current g c =
    let ends : ends_part c.args.notice.now ≡ true = search rules in
    let applies : Applies c.args.self.now.map c.args.notice.now c.end_part.new.self.map = subst (λ m. Applies c.args.self.now.map c.args.notice.now m) (sym (ap (λ (p : Progress). p.map) c.end_part.ensures.only)) c.in_ok-apply.ensures.applied in
    all_three c.end_part.result c.end_part.ensures.settled c.end_part.ensures.part c.end_part.ensures.noted
    (λ settled part noted. current_settled c.args.task.now c.args.self.now c.end_part.new.self c.args.self.now.applied c.args.self.now.epoch c.args.notice.now c.requires.notice ends (c.requires.sound.current c.requires.fine) applies settled part noted)

pub returns-else-ends_part-clause-current : goal.returns-else-ends_part-clause-current
returns-else-ends_part-clause-current g c =
    let ends : ends_part c.args.notice.now ≡ false = search rules in
    current_moved c.args.task.now c.args.self.now _ c.args.self.now.applied c.args.self.now.epoch c.args.notice.now c.requires.notice ends (c.requires.sound.current c.requires.fine) c.in_ok-apply.ensures.applied refl
