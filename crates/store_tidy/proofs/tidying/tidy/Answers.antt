-- What is left has lost nothing that the head uses.
use Rattle.store_io.proofs.Chains.{now_among}
use Rattle.epoch_store.specs.Databases.{head_of}
use Rattle.store_tidy.proofs.Still.{any_moment, says_where_told}
use Rattle.store_tidy.proofs.tidying.tidy.Goals as goal

pub returns-clause-told : goal.returns-clause-told
returns-clause-told g c = says_where_told (head_of c.args.db.now) (g.D.Store.files c.args.store.now) (g.D.Store.files c.remove_unused.new.store) c.remove_unused.result c.remove_unused.ensures.files c.remove_unused.ensures.part

pub returns-clause-any_moment : goal.returns-clause-any_moment
returns-clause-any_moment g c = any_moment {D = g.row.D.Denot} g.D.Store.moment g.D.Store.left_since c.args.store.now c.remove_unused.new.store (head_of c.args.db.now) c.remove_unused.ensures.time

pub returns-clause-present : goal.returns-clause-present
returns-clause-present g c = λ said says f is.
    let new = c.remove_unused.new.store in
    now_among {D = g.row.D.Denot} (g.met.D.Store.lasting new)
    (any_moment {D = g.row.D.Denot} g.D.Store.moment g.D.Store.left_since c.args.store.now new (head_of c.args.db.now) c.remove_unused.ensures.time said says) f (g.met.D.Store.present new f is)

pub returns-clause-after : goal.returns-clause-after
returns-clause-after g c = λ said says.
    let new = c.remove_unused.new.store in
    now_among {D = g.row.D.Denot} (g.met.D.Store.lasting new)
    (any_moment {D = g.row.D.Denot} g.D.Store.moment g.D.Store.left_since c.args.store.now new (head_of c.args.db.now) c.remove_unused.ensures.time said says)
