-- The writes begin where the next head has room, and the seal follows them.
use Rattle.std.proofs.Common.{rules, ◌≡◌, sym, subst}
use Rattle.std.proofs.lemmas.Result.{err_from_is_err_and}
use Rattle.database_state.specs.Heads.{Head, IsHead}
use Rattle.database_state.specs.Updates.{head_after}
use Rattle.database_state.specs.Standing.{seal_file}
use Rattle.epoch_store.specs.Commits.{AreWritesOf}
use Rattle.epoch_store.proofs.Crashes.{begins, midst, sealing, all_files, all_crash}
use Rattle.epoch_store.proofs.committing.try_commit.Goals as goal

pub returns-in_err-next-clause-cause : goal.returns-in_err-next-clause-cause
returns-in_err-next-clause-cause g c =
    let p = err_from_is_err_and c.from_residual.result c.from_residual.ensures.1 in
    rw (p.1, p.2) (c.in_err-next.ensures.cause (g.D.Store.faults c.args.store.now))

pub returns-in_err-write_all-clause-time : goal.returns-in_err-write_all-clause-time
returns-in_err-write_all-clause-time g c =
    let next = head_after c.args.change.now c.args.head.now in
    let ws = c.deref.result.now in
    let of : AreWritesOf c.in_ok-next.next c.args.change.now ws = subst (λ l. AreWritesOf c.in_ok-next.next c.args.change.now l) (sym c.deref.ensures.value) c.in_ok-writes.ensures.writes in
    let start = begins c.args.head.now c.in_ok-next.next c.args.change.now ws c.requires.range c.requires.fits c.in_ok-next.ensures.next c.in_ok-next.ensures.room c.in_ok-writes.ensures.names of in
    midst next c.args.change.now ws start c.in_err-write_all.ensures.time

pub returns-in_err-write-clause-time : goal.returns-in_err-write-clause-time
returns-in_err-write-clause-time g c =
    let next = head_after c.args.change.now c.args.head.now in
    let ws = c.deref.result.now in
    let of : AreWritesOf c.in_ok-next.next c.args.change.now ws = subst (λ l. AreWritesOf c.in_ok-next.next c.args.change.now l) (sym c.deref.ensures.value) c.in_ok-writes.ensures.writes in
    let start = begins c.args.head.now c.in_ok-next.next c.args.change.now ws c.requires.range c.requires.fits c.in_ok-next.ensures.next c.in_ok-next.ensures.room c.in_ok-writes.ensures.names of in
    let named : c.in_ok-seal.seal ≡ seal_file next.generation = search rules in
    sealing next c.args.change.now ws start c.in_ok-write_all.ensures.time c.in_ok-write_all.ensures.crash (rw named at c.in_err-write.ensures.time)

pub returns-clause-time : goal.returns-clause-time
returns-clause-time g c =
    let next = head_after c.args.change.now c.args.head.now in
    let ws = c.deref.result.now in
    let of : AreWritesOf c.in_ok-next.next c.args.change.now ws = subst (λ l. AreWritesOf c.in_ok-next.next c.args.change.now l) (sym c.deref.ensures.value) c.in_ok-writes.ensures.writes in
    let start = begins c.args.head.now c.in_ok-next.next c.args.change.now ws c.requires.range c.requires.fits c.in_ok-next.ensures.next c.in_ok-next.ensures.room c.in_ok-writes.ensures.names of in
    let named : c.in_ok-seal.seal ≡ seal_file next.generation = search rules in
    sealing next c.args.change.now ws start c.in_ok-write_all.ensures.time c.in_ok-write_all.ensures.crash (rw named at c.in_ok-write.ensures.time)

pub returns-clause-head : goal.returns-clause-head
returns-clause-head g c =
    let start = begins c.args.head.now c.in_ok-next.next c.args.change.now _ c.requires.range c.requires.fits c.in_ok-next.ensures.next c.in_ok-next.ensures.room c.in_ok-writes.ensures.names c.in_ok-writes.ensures.writes in
    (c.in_ok-next.ensures.next, subst (λ (n : Head). IsHead n) (sym c.in_ok-next.ensures.next) start.head)

pub returns-clause-files : goal.returns-clause-files
returns-clause-files g c =
    let next = head_after c.args.change.now c.args.head.now in
    let ws = c.deref.result.now in
    let of : AreWritesOf c.in_ok-next.next c.args.change.now ws = subst (λ l. AreWritesOf c.in_ok-next.next c.args.change.now l) (sym c.deref.ensures.value) c.in_ok-writes.ensures.writes in
    let start = begins c.args.head.now c.in_ok-next.next c.args.change.now ws c.requires.range c.requires.fits c.in_ok-next.ensures.next c.in_ok-next.ensures.room c.in_ok-writes.ensures.names of in
    let named : c.in_ok-seal.seal ≡ seal_file next.generation = search rules in
    all_files next c.args.change.now ws (g.D.Store.files c.args.store.now) (g.D.Store.files c.write_all.new.store) (g.D.Store.files c.write.new.self) start c.in_ok-write_all.ensures.files (rw named at c.in_ok-write.ensures.files.ok)

pub returns-clause-crash : goal.returns-clause-crash
returns-clause-crash g c =
    let next = head_after c.args.change.now c.args.head.now in
    let ws = c.deref.result.now in
    let of : AreWritesOf c.in_ok-next.next c.args.change.now ws = subst (λ l. AreWritesOf c.in_ok-next.next c.args.change.now l) (sym c.deref.ensures.value) c.in_ok-writes.ensures.writes in
    let start = begins c.args.head.now c.in_ok-next.next c.args.change.now ws c.requires.range c.requires.fits c.in_ok-next.ensures.next c.in_ok-next.ensures.room c.in_ok-writes.ensures.names of in
    let named : c.in_ok-seal.seal ≡ seal_file next.generation = search rules in
    all_crash next c.args.change.now ws (g.D.Store.left_since c.args.store.now (g.D.Store.moment c.args.store.now)) (g.D.Store.left_since c.write_all.new.store (g.D.Store.moment c.write_all.new.store)) (g.D.Store.left_since c.write.new.self (g.D.Store.moment c.write.new.self)) start c.in_ok-write_all.ensures.crash (rw named at c.in_ok-write.ensures.crash.ok)
