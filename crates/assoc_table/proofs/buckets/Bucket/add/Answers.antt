use Rattle.std.proofs.Common.{◌≡◌, ◌+◌, List, take, set, sym, subst}
use Rattle.sample_key.specs.Counted.{Counted, entry}
use Rattle.driver_model.specs.Table.{row_add}
use Rattle.assoc_table.proofs.Rows.{folded_row, spilt_row}
use Rattle.assoc_table.proofs.buckets.Bucket.add.Goals as goal

pub returns-then-old-lt-MOST_COUNT-clause-row : goal.returns-then-old-lt-MOST_COUNT-clause-row
returns-then-old-lt-MOST_COUNT-clause-row c =
    let i = c.in-Some.i in let k = c.old.inside.key in let n = c.old.inside.count in let b = c.self.inside in
    subst (λ (z : List Counted). take b.len (set b.entries i (entry k (n + 1))) ≡ (row_add z c.args.key c.args.victim.now).row) c.self.view_is
    (folded_row b.entries b.len i c.args.victim.now c.args.key c.index-self-i.result (entry k n) (sym c.in-Some.ensures.found) c.in-Some.ensures.within c.old.view_is c.if-old-lt-MOST_COUNT.true)

pub returns-else-old-lt-MOST_COUNT-clause-row : goal.returns-else-old-lt-MOST_COUNT-clause-row
returns-else-old-lt-MOST_COUNT-clause-row c =
    let i = c.in-Some.i in let k = c.old.inside.key in let n = c.old.inside.count in let b = c.self.inside in
    subst (λ (z : List Counted). take b.len (set b.entries i (entry k 1)) ≡ (row_add z c.args.key c.args.victim.now).row) c.self.view_is
    (spilt_row b.entries b.len i c.args.victim.now c.args.key c.index-self-i.result (entry k n) (sym c.in-Some.ensures.found) c.in-Some.ensures.within c.old.view_is c.if-old-lt-MOST_COUNT.false)
