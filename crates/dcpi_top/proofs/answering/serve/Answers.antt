use Rattle.std.proofs.Common.{◌≡◌, ◌∙◌, map, string_bytes, subst, sym}
use Rattle.dcpi_top.specs.declared.refusals.Refusal.TheVariants.{WriteFault}
use Rattle.dcpi_top.specs.Commands.{command_of}
use Rattle.dcpi_top.specs.Moments.{LeavesAtAnyMoment}
use Rattle.dcpi_top.specs.Refusals.{status_of}
use Rattle.dcpi_top.specs.Streams.{Stream, seen}
use Rattle.dcpi_top.proofs.Makings.{makes_few}
use Rattle.dcpi_top.proofs.Passing.{passes}
use Rattle.dcpi_top.proofs.Unprinted.{unprinted}
use Rattle.dcpi_top.proofs.answering.serve.Goals as goal

pub returns-in_err-put_all-clause-any_moment : goal.returns-in_err-put_all-clause-any_moment
returns-in_err-put_all-clause-any_moment g c =
    let input : Stream = seen g.S.Source.left g.S.Source.faults c.args.source.now c.text_for.new.source in
    passes (λ refusal. refusal ≡ WriteFault)
    (λ status. LeavesAtAnyMoment g.D.Store.files g.D.Store.moment g.D.Store.left_since (command_of (map string_bytes c.args.words.now.items)) input c.args.store.now c.text_for.new.store status) _
    c.from_residual-in_err-put_all.ensures.1
    (λ refusal is. subst (λ r. LeavesAtAnyMoment g.D.Store.files g.D.Store.moment g.D.Store.left_since (command_of (map string_bytes c.args.words.now.items)) input c.args.store.now c.text_for.new.store (status_of r)) (sym is)
    (subst (λ named. LeavesAtAnyMoment g.D.Store.files g.D.Store.moment g.D.Store.left_since named input c.args.store.now c.text_for.new.store 5) (sym c.in-Some.is ∙ c.words_of.ensures)
    (unprinted g.D.Store.files g.D.Store.moment g.D.Store.left_since c.in-Some.command input c.args.store.now c.text_for.new.store c.in_ok-text.ensures.any_moment)))

pub text_for-requires : goal.text_for-requires
text_for-requires g c = record {
  few = makes_few (map string_bytes c.args.words.now.items) c.in-Some.command (sym c.in-Some.is ∙ c.words_of.ensures);
}
