-- Each exit that added a change is what one change more makes of the files.
use Rattle.std.proofs.Common.{◌≡◌, Some, ◌∙◌, sym, ap, refl, subst}
use Rattle.store_io.specs.declared.steps.Outcome.TheVariants.{HalfRemoved}
use Rattle.store_io.specs.Changes.{listed, Adds}
use Rattle.store_io.specs.Memory.{fails_of}
use Rattle.store_io.proofs.History.{added_time, added_whole, added_failed}
use Rattle.store_io.proofs.Exits.{removed_files, removed_crash, removed_torn, unremoved_files, unremoved_crash, unremoved_torn, unremoved_left}
use Rattle.store_io.proofs.memory.MemStoreStore.remove.Goals as goal

pub invariant_of-self-clause-whole : goal.invariant_of-self-clause-whole
invariant_of-self-clause-whole c = λ none. c.add.ensures.whole refl ∙ c.args.self.now.whole none

pub returns-in_ok-add-in-None-clause-files : goal.returns-in_ok-add-in-None-clause-files
returns-in_ok-add-in-None-clause-files c = removed_files c.in_ok-add-in-None.ensures.added

pub returns-in_ok-add-in-None-clause-crash : goal.returns-in_ok-add-in-None-clause-crash
returns-in_ok-add-in-None-clause-crash c = removed_crash c.in_ok-add-in-None.ensures.added

pub returns-in_ok-add-in-None-clause-time : goal.returns-in_ok-add-in-None-clause-time
returns-in_ok-add-in-None-clause-time c = added_time c.in_ok-add-in-None.ensures.added

pub returns-in_ok-add-in-None-clause-torn : goal.returns-in_ok-add-in-None-clause-torn
returns-in_ok-add-in-None-clause-torn c = removed_torn c.in_ok-add-in-None.ensures.added

pub returns-in_ok-add-in-None-clause-failures : goal.returns-in_ok-add-in-None-clause-failures
returns-in_ok-add-in-None-clause-failures c = record { ok = added_whole c.in_ok-add-in-None.ensures.added refl; failed = λ e. cc; memory = λ e. cc }

pub returns-in_ok-add-in-Some-clause-files : goal.returns-in_ok-add-in-Some-clause-files
returns-in_ok-add-in-Some-clause-files c = unremoved_files c.in_ok-add-in-Some.ensures.added

pub returns-in_ok-add-in-Some-clause-crash : goal.returns-in_ok-add-in-Some-clause-crash
returns-in_ok-add-in-Some-clause-crash c = unremoved_crash c.in_ok-add-in-Some.ensures.added

pub returns-in_ok-add-in-Some-clause-time : goal.returns-in_ok-add-in-Some-clause-time
returns-in_ok-add-in-Some-clause-time c = added_time c.in_ok-add-in-Some.ensures.added

pub returns-in_ok-add-in-Some-clause-torn : goal.returns-in_ok-add-in-Some-clause-torn
returns-in_ok-add-in-Some-clause-torn c = unremoved_torn c.in_ok-add-in-Some.ensures.added

pub returns-in_ok-add-in-Some-clause-left : goal.returns-in_ok-add-in-Some-clause-left
returns-in_ok-add-in-Some-clause-left c =
    let left = c.in-Some.left.now in
    let more = subst (λ g. Adds c.args.self.now.changes.items c.add-in-Some.new.changes.items c.args.name.now (HalfRemoved g)) c.takes_away-gone.ensures c.in_ok-add-in-Some.ensures.added in
    let is : listed (fails_of c.args.self.now) c.saturating_add-self.result ≡ Some left = sym (c.in-Some.ensures.left ∙ ap (λ l. listed l c.saturating_add-self.result) c.deref.ensures.value) in
    λ e. rw is (unremoved_left left more)

pub returns-in_ok-add-in-Some-clause-failures : goal.returns-in_ok-add-in-Some-clause-failures
returns-in_ok-add-in-Some-clause-failures c = record { ok = tt; failed = λ e. added_failed c.in_ok-add-in-Some.ensures.added refl; memory = λ e. cc }
