-- What a commit leaves is what its writes and its seal leave.
use Rattle.std.proofs.Common.{inl, sym, subst}
use Rattle.database_state.specs.Heads.{Head}
use Rattle.database_state.specs.Updates.{updated}
use Rattle.database_state.specs.Standing.{CrashesSay, SaysWhereTold}
use Rattle.store_io.proofs.Chains.{now_among}
use Rattle.epoch_store.specs.Databases.{head_of}
use Rattle.epoch_store.specs.Commits.{FilesChanged}
use Rattle.epoch_store.proofs.Crashes.{files_changed, any_moment, after_end, others_stay, told_weaker, says_on}
use Rattle.epoch_store.proofs.committing.commit.Goals as goal

pub returns-in-Ok-clause-files : goal.returns-in-Ok-clause-files
returns-in-Ok-clause-files g c =
    subst (λ (n : Head). FilesChanged c.args.change.now (head_of c.args.db.now) n (g.D.Store.files c.args.store.now) (g.D.Store.files c.try_commit.new.store)) (sym c.in-Ok.ensures.head.0)
    (files_changed (head_of c.args.db.now) c.args.change.now (g.D.Store.files c.args.store.now) (g.D.Store.files c.try_commit.new.store) c.args.db.now.range c.requires c.in-Ok.ensures.files)

pub returns-in-Ok-clause-any_moment : goal.returns-in-Ok-clause-any_moment
returns-in-Ok-clause-any_moment g c = any_moment {D = g.row.D.Denot} g.D.Store.moment g.D.Store.left_since c.args.store.now c.try_commit.new.store (head_of c.args.db.now) c.args.change.now c.args.db.now.range c.requires c.in-Ok.ensures.time

pub returns-in-Err-clause-any_moment : goal.returns-in-Err-clause-any_moment
returns-in-Err-clause-any_moment g c = any_moment {D = g.row.D.Denot} g.D.Store.moment g.D.Store.left_since c.args.store.now c.try_commit.new.store (head_of c.args.db.now) c.args.change.now c.args.db.now.range c.requires c.in-Err.ensures.time

pub returns-in-Ok-clause-after : goal.returns-in-Ok-clause-after
returns-in-Ok-clause-after g c = λ said says.
    subst (λ (n : Head). CrashesSay (g.D.Store.left_since c.try_commit.new.store (g.D.Store.moment c.try_commit.new.store)) n (updated c.args.change.now said)) (sym c.in-Ok.ensures.head.0)
    (after_end (g.D.Store.left_since c.args.store.now (g.D.Store.moment c.args.store.now)) (g.D.Store.left_since c.try_commit.new.store (g.D.Store.moment c.try_commit.new.store)) (head_of c.args.db.now) c.args.change.now c.args.db.now.range c.requires c.in-Ok.ensures.crash said says)

pub returns-in-Ok-clause-others : goal.returns-in-Ok-clause-others
returns-in-Ok-clause-others g c =
    told_weaker (g.D.Store.files c.args.store.now) (g.D.Store.files c.try_commit.new.store) (λ d f. others_stay (head_of c.args.db.now) c.args.change.now d f c.args.db.now.range c.requires) c.in-Ok.ensures.files

pub returns-in-Ok-clause-told : goal.returns-in-Ok-clause-told
returns-in-Ok-clause-told g c = λ said says.
    let old = g.D.Store.files c.args.store.now in
    let new = g.D.Store.files c.try_commit.new.store in
    let h = head_of c.args.db.now in
    let changed = files_changed h c.args.change.now old new c.args.db.now.range c.requires c.in-Ok.ensures.files in
    subst (λ (n : Head). SaysWhereTold new n (updated c.args.change.now said)) (sym c.in-Ok.ensures.head.0) (says_on _ h _ c.args.change.now old new c.in-Ok.ensures.files changed said says)

pub returns-in-Ok-clause-present : goal.returns-in-Ok-clause-present
returns-in-Ok-clause-present g c = λ said says f is.
    let new = c.try_commit.new.store in
    now_among {D = g.row.D.Denot} (g.met.D.Store.lasting new)
    (any_moment {D = g.row.D.Denot} g.D.Store.moment g.D.Store.left_since c.args.store.now new (head_of c.args.db.now) c.args.change.now c.args.db.now.range c.requires c.in-Ok.ensures.time said says) f (g.met.D.Store.present new f is)

pub returns-in-Err-clause-present : goal.returns-in-Err-clause-present
returns-in-Err-clause-present g c = λ said says f is.
    let new = c.try_commit.new.store in
    now_among {D = g.row.D.Denot} (g.met.D.Store.lasting new)
    (any_moment {D = g.row.D.Denot} g.D.Store.moment g.D.Store.left_since c.args.store.now new (head_of c.args.db.now) c.args.change.now c.args.db.now.range c.requires c.in-Err.ensures.time said says) f (g.met.D.Store.present new f is)

pub returns-in-Some-clause-present : goal.returns-in-Some-clause-present
returns-in-Some-clause-present g c = λ said says f is.
    let now = says f (g.met.D.Store.present c.args.store.now f is) in
    inl (head_of c.args.db.now, now.0, now.1)
