-- Each exit that added a change is what one change more makes of the files.
use Rattle.std.proofs.Common.{◌≡◌, Some, ◌∙◌, sym, ap, refl}
use Rattle.store_io.specs.Files.{no_files, with_file}
use Rattle.store_io.specs.Changes.{after_steps, listed, left_bytes}
use Rattle.store_io.specs.Memory.{files_of, fails_of}
use Rattle.store_io.proofs.History.{added_time, added_whole, added_failed}
use Rattle.store_io.proofs.Exits.{written_files, written_crash, written_torn, unwritten_is, unwritten_files, unwritten_crash, unwritten_time, unwritten_torn}
use Rattle.store_io.proofs.memory.MemStoreStore.write.Goals as goal

pub invariant_of-self-in-None-clause-whole : goal.invariant_of-self-in-None-clause-whole
invariant_of-self-in-None-clause-whole c = λ none. c.add.ensures.whole refl ∙ c.args.self.now.whole none

pub returns-in_ok-add-in-None-clause-files : goal.returns-in_ok-add-in-None-clause-files
returns-in_ok-add-in-None-clause-files c = written_files c.in_ok-bytes-in-None.ensures.items c.in_ok-add-in-None.ensures.added

pub returns-in_ok-add-in-None-clause-crash : goal.returns-in_ok-add-in-None-clause-crash
returns-in_ok-add-in-None-clause-crash c = written_crash c.in_ok-bytes-in-None.ensures.items c.in_ok-add-in-None.ensures.added

pub returns-in_ok-add-in-None-clause-time : goal.returns-in_ok-add-in-None-clause-time
returns-in_ok-add-in-None-clause-time c = added_time c.in_ok-add-in-None.ensures.added

pub returns-in_ok-add-in-None-clause-torn : goal.returns-in_ok-add-in-None-clause-torn
returns-in_ok-add-in-None-clause-torn c = written_torn c.in_ok-add-in-None.ensures.added

pub returns-in_ok-add-in-None-clause-failures : goal.returns-in_ok-add-in-None-clause-failures
returns-in_ok-add-in-None-clause-failures c = record { ok = added_whole c.in_ok-add-in-None.ensures.added refl; failed = λ e. cc; memory = λ e. cc }

pub returns-in_ok-add-in-Some-clause-files : goal.returns-in_ok-add-in-Some-clause-files
returns-in_ok-add-in-Some-clause-files c = unwritten_files c.args.bytes.now _ c.half_written.ensures.held c.in_ok-add-in-Some.ensures.added

pub returns-in_ok-add-in-Some-clause-crash : goal.returns-in_ok-add-in-Some-clause-crash
returns-in_ok-add-in-Some-clause-crash c = unwritten_crash c.args.bytes.now c.in_ok-add-in-Some.ensures.added

pub returns-in_ok-add-in-Some-clause-time : goal.returns-in_ok-add-in-Some-clause-time
returns-in_ok-add-in-Some-clause-time c = unwritten_time c.in_ok-add-in-Some.ensures.added

pub returns-in_ok-add-in-Some-clause-torn : goal.returns-in_ok-add-in-Some-clause-torn
returns-in_ok-add-in-Some-clause-torn c = unwritten_torn c.half_written.ensures.torn c.in_ok-add-in-Some.ensures.added

pub returns-in_ok-add-in-Some-clause-left : goal.returns-in_ok-add-in-Some-clause-left
returns-in_ok-add-in-Some-clause-left c =
    let files = files_of c.args.self.now in
    let left = c.in-Some.left.now in
    let before = c.find-before.ensures ∙ ap (λ l. after_steps l no_files c.bytes.result.now) c.deref-in-Some.ensures.value ∙ ap files c.bytes.ensures.bytes in
    let kept = c.in_ok-bytes-in-Some.ensures ∙ ap (left_bytes left) before in
    let is : listed (fails_of c.args.self.now) c.saturating_add-self.result ≡ Some left = sym (c.in-Some.ensures.left ∙ ap (λ l. listed l c.saturating_add-self.result) c.deref.ensures.value) in
    λ e. rw is (unwritten_is _ c.half_written.ensures.held c.in_ok-add-in-Some.ensures.added ∙ ap (λ b. with_file c.args.name.now b files) kept)

pub returns-in_ok-add-in-Some-clause-failures : goal.returns-in_ok-add-in-Some-clause-failures
returns-in_ok-add-in-Some-clause-failures c = record { ok = tt; failed = λ e. added_failed c.in_ok-add-in-Some.ensures.added c.half_written.ensures.failed; memory = λ e. cc }
