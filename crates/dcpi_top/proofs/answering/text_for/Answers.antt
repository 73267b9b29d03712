use Rattle.std.proofs.Common.{refl, subst, sym}
use Rattle.std.specs.declared.option.Option.TheVariants.{Some}
use Rattle.dcpi_top.specs.Causes.{GivesText}
use Rattle.dcpi_top.specs.Moments.{LeavesAtAnyMoment}
use Rattle.dcpi_top.specs.Refusals.{refused, status_in}
use Rattle.dcpi_top.specs.Streams.{seen}
use Rattle.dcpi_top.proofs.answering.text_for.Goals as goal

pub returns-in-Plain-clause-gives : goal.returns-in-Plain-clause-gives
returns-in-Plain-clause-gives g c = subst (λ command. GivesText (λ text. text.items) command
    (seen g.S.Source.left g.S.Source.faults c.args.source.now c.plain_text.new.source)
    (seen g.D.Store.files g.D.Store.faults c.args.store.now c.args.store.now) c.plain_text.result) (sym c.in-Plain.is)
    (c.plain_text.ensures (seen g.D.Store.files g.D.Store.faults c.args.store.now c.args.store.now)
    (record { same = refl; faults = refl }))

pub returns-in-ProfImage-clause-gives : goal.returns-in-ProfImage-clause-gives
returns-in-ProfImage-clause-gives g c = subst (λ command. GivesText (λ text. text.items) command
    (seen g.S.Source.left g.S.Source.faults c.args.source.now c.args.source.now)
    (seen g.D.Store.files g.D.Store.faults c.args.store.now c.image_text.new.store) c.image_text.result) (sym c.in-ProfImage.is)
    (c.image_text.ensures.gives (seen g.S.Source.left g.S.Source.faults c.args.source.now c.args.source.now)
    (record { same = refl; faults = refl }))

pub returns-in-Cat-clause-gives : goal.returns-in-Cat-clause-gives
returns-in-Cat-clause-gives g c = subst (λ command. GivesText (λ text. text.items) command
    (seen g.S.Source.left g.S.Source.faults c.args.source.now c.args.source.now)
    (seen g.D.Store.files g.D.Store.faults c.args.store.now c.counts_of.new.store) c.counts_of.result) (sym c.in-Cat.is)
    (c.counts_of.ensures.gives (seen g.S.Source.left g.S.Source.faults c.args.source.now c.args.source.now)
    (record { same = refl; faults = refl }))

pub returns-in-Runs-clause-gives : goal.returns-in-Runs-clause-gives
returns-in-Runs-clause-gives g c = subst (λ command. GivesText (λ text. text.items) command
    (seen g.S.Source.left g.S.Source.faults c.args.source.now c.args.source.now)
    (seen g.D.Store.files g.D.Store.faults c.args.store.now c.runs_of.new.store) c.runs_of.result) (sym c.in-Runs.is)
    (c.runs_of.ensures.gives (seen g.S.Source.left g.S.Source.faults c.args.source.now c.args.source.now)
    (record { same = refl; faults = refl }))

pub returns-in-Tidy-clause-gives : goal.returns-in-Tidy-clause-gives
returns-in-Tidy-clause-gives g c = subst (λ command. GivesText (λ text. text.items) command
    (seen g.S.Source.left g.S.Source.faults c.args.source.now c.args.source.now)
    (seen g.D.Store.files g.D.Store.faults c.args.store.now c.tidy_text.new.store) c.tidy_text.result) (sym c.in-Tidy.is)
    (c.tidy_text.ensures.gives (seen g.S.Source.left g.S.Source.faults c.args.source.now c.args.source.now)
    (record { same = refl; faults = refl }))

pub returns-in-Tidy-clause-any_moment : goal.returns-in-Tidy-clause-any_moment
returns-in-Tidy-clause-any_moment g c = subst (λ command. LeavesAtAnyMoment g.D.Store.files g.D.Store.moment g.D.Store.left_since (Some command)
    (seen g.S.Source.left g.S.Source.faults c.args.source.now c.args.source.now) c.args.store.now c.tidy_text.new.store (status_in (refused c.tidy_text.result))) (sym c.in-Tidy.is)
    (c.tidy_text.ensures.leaves (seen g.S.Source.left g.S.Source.faults c.args.source.now c.args.source.now))

pub returns-in-Make-clause-gives : goal.returns-in-Make-clause-gives
returns-in-Make-clause-gives g c = subst (λ command. GivesText (λ text. text.items) command
    (seen g.S.Source.left g.S.Source.faults c.args.source.now c.args.source.now)
    (seen g.D.Store.files g.D.Store.faults c.args.store.now c.args.store.now) c.make_text.result) (sym c.in-Make.is)
    (c.make_text.ensures (seen g.S.Source.left g.S.Source.faults c.args.source.now c.args.source.now)
    (seen g.D.Store.files g.D.Store.faults c.args.store.now c.args.store.now)
    (record { same = refl; faults = refl }) (record { same = refl; faults = refl }))
