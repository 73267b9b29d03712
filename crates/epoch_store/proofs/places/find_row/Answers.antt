-- The row of a place stands behind the rows before it, or nowhere.
use Rattle.std.proofs.Common.{sym, ◌∙◌}
use Rattle.epoch_store.proofs.Halving.{found, past_all, sought_in_vain}
use Rattle.epoch_store.proofs.places.find_row.Goals as goal

pub returns-then-at-rows : goal.returns-then-at-rows
returns-then-at-rows g c = sym (past_all c.requires.order c.args.rows.now c.args.place c.count_before-at.result c.count_before-at.ensures.before c.count_before-at.ensures.within c.if-at-rows.true)

pub returns-then-is_same : goal.returns-then-is_same
returns-then-is_same g c = sym (found c.requires.order c.args.rows.now c.args.place c.index-rows-at.result c.count_before-at.result c.count_before-at.ensures.before c.if-at-rows.false c.index-rows-at.is (sym c.is_same.ensures ∙ c.if-is_same.true))

pub returns : goal.returns
returns g c = sym (sought_in_vain c.requires.order c.args.rows.now c.args.place c.index-rows-at.result c.count_before-at.result c.requires.rising c.count_before-at.ensures.before c.count_before-at.ensures.behind c.if-at-rows.false c.index-rows-at.is (sym c.is_same.ensures ∙ c.if-is_same.false))
