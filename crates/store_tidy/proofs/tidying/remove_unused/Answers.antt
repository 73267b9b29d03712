-- The names are listed, and those that the head does not use are taken away.
use Rattle.std.proofs.Common.{rules, ◌≡◌, length, ap, ◌∙◌}
use Rattle.std.specs.Prelude.{filter}
use Rattle.epoch_store.specs.Databases.{head_of}
use Rattle.store_tidy.specs.Unused.{is_unused}
use Rattle.store_tidy.proofs.Still.{passes, whole, settled}
use Rattle.store_tidy.proofs.tidying.remove_unused.Goals as goal

pub returns-in_err-remove_all-clause-time : goal.returns-in_err-remove_all-clause-time
returns-in_err-remove_all-clause-time g c =
    let h = head_of c.args.db.now in
    let names = c.in_ok-names.names.items in
    let list : c.deref.result.now ≡ filter (is_unused h) names = search rules in
    passes h names c.in_ok-names.ensures.time c.in_ok-names.ensures.crash (rw list at c.in_err-remove_all.ensures.time)

pub returns-clause-time : goal.returns-clause-time
returns-clause-time g c =
    let h = head_of c.args.db.now in
    let names = c.in_ok-names.names.items in
    let list : c.deref.result.now ≡ filter (is_unused h) names = search rules in
    passes h names c.in_ok-names.ensures.time c.in_ok-names.ensures.crash (rw list at c.in_ok-remove_all.ensures.time)

pub returns-clause-files : goal.returns-clause-files
returns-clause-files g c =
    let h = head_of c.args.db.now in
    let names = c.in_ok-names.names.items in
    let list : c.deref.result.now ≡ filter (is_unused h) names = search rules in
    let size : c.len.result ≡ length c.in_ok-unused.unused.items = search rules in
    let count : c.len.result ≡ length (filter (is_unused h) names) = size ∙ ap length c.in_ok-unused.ensures in
    whole h names c.len.result (g.D.Store.files c.args.store.now) (g.D.Store.files c.names.new.self) (g.D.Store.files c.remove_all.new.store) c.in_ok-names.ensures.files c.in_ok-names.ensures.order c.in_ok-names.ensures.names count (rw list at c.in_ok-remove_all.ensures.files)

pub returns-clause-settled : goal.returns-clause-settled
returns-clause-settled g c =
    let h = head_of c.args.db.now in
    let names = c.in_ok-names.names.items in
    let list : c.deref.result.now ≡ filter (is_unused h) names = search rules in
    settled h names (g.D.Store.files c.args.store.now) (g.D.Store.left_since c.args.store.now (g.D.Store.moment c.args.store.now)) (g.D.Store.left_since c.names.new.self (g.D.Store.moment c.names.new.self)) (g.D.Store.left_since c.remove_all.new.store (g.D.Store.moment c.remove_all.new.store)) c.in_ok-names.ensures.order c.in_ok-names.ensures.names c.in_ok-names.ensures.crash (rw list at c.in_ok-remove_all.ensures.crash)
