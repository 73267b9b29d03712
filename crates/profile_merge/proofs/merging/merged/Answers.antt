-- Each sum is merged at its place.
use Rattle.std.proofs.Common.{rules, ◌≡◌, List, [], ◌∷◌, ◌++◌, subst, drop}
use Rattle.std.proofs.lemmas.Result.{err_from_is_err_and}
use Rattle.database_model.specs.declared.profiles.ProfileRow.{ProfileRow}
use Rattle.growth_model.specs.Growth.{AreGrown}
use Rattle.profile_merge.specs.Sums.{sum_at}
use Rattle.profile_merge.specs.Merging.{IsFullAt, first_count}
use Rattle.profile_merge.proofs.MergeSteps.{MergedSoFar, CopiedTo, below1, one_merged, is_over, full_place, all_merged}
use Rattle.profile_merge.proofs.merging.merged.Goals as goal

pub put_sum-requires-clause-below : goal.put_sum-requires-clause-below
put_sum-requires-clause-below c =
    let rows = c.rows-rows.result.now in
    let sums = c.args.sums.now in
    let iter : c.loop-offset.offset-iterator ≡ (c.in-Some.offset.now, c.in-Some.count.now) ∷ c.next.new.self = search rules in
    let so = subst (MergedSoFar rows sums c.loop-offset.out (drop c.loop-offset.at rows)) iter c.loop-offset.invariant.1 in
    let copied : CopiedTo c.in-Some.offset.now c.loop-offset.out (drop c.loop-offset.at rows) c.copy_below.new.out (drop c.in_ok-at.at rows) = record { whole = c.in_ok-at.ensures.whole; below = c.in_ok-at.ensures.below; from = c.in_ok-at.ensures.next } in
    below1 rows sums c.loop-offset.out (drop c.loop-offset.at rows) c.copy_below.new.out (drop c.in_ok-at.at rows) c.in-Some.offset.now c.in-Some.count.now c.next.new.self so copied

pub returns-in_err-at-2 : goal.returns-in_err-at-2
returns-in_err-at-2 c =
    let rows = c.rows-rows.result.now in
    let sums = c.args.sums.now in
    let iter : c.loop-offset.offset-iterator ≡ (c.in-Some.offset.now, c.in-Some.count.now) ∷ c.next.new.self = search rules in
    let so = subst (MergedSoFar rows sums c.loop-offset.out (drop c.loop-offset.at rows)) iter c.loop-offset.invariant.1 in
    let copied : CopiedTo c.in-Some.offset.now c.loop-offset.out (drop c.loop-offset.at rows) c.copy_below.new.out (drop c.in_ok-at.at rows) = record { whole = c.in_ok-at.ensures.whole; below = c.in_ok-at.ensures.below; from = c.in_ok-at.ensures.next } in
    let over = is_over rows sums c.loop-offset.out (drop c.loop-offset.at rows) c.copy_below.new.out (drop c.in_ok-at.at rows) c.in-Some.offset.now c.in-Some.count.now c.next.new.self so copied in
    let full = full_place c.args.owner c.in-Some.offset.now (first_count c.in-Some.offset.now (drop c.in_ok-at.at rows)) c.in-Some.count.now sums rows c.in_err-at-2.field-0.0 c.in_err-at-2.ensures.full over in
    let p = err_from_is_err_and c.from_residual-in_err-at-2.result c.from_residual-in_err-at-2.ensures.1 in
    rw (p.1, p.2) (subst (λ (l : List ProfileRow). IsFullAt c.args.owner sums l c.in_err-at-2.field-0.0) c.rows-rows.ensures.list full)

pub loop-offset-preserved : goal.loop-offset-preserved
loop-offset-preserved c =
    let rows = c.rows-rows.result.now in
    let sums = c.args.sums.now in
    let iter : c.loop-offset.offset-iterator ≡ (c.in-Some.offset.now, c.in-Some.count.now) ∷ c.next.new.self = search rules in
    let so = subst (MergedSoFar rows sums c.loop-offset.out (drop c.loop-offset.at rows)) iter c.loop-offset.invariant.1 in
    let copied : CopiedTo c.in-Some.offset.now c.loop-offset.out (drop c.loop-offset.at rows) c.copy_below.new.out (drop c.in_ok-at.at rows) = record { whole = c.in_ok-at.ensures.whole; below = c.in_ok-at.ensures.below; from = c.in_ok-at.ensures.next } in
    (c.in_ok-at-2.ensures.within, rw (c.in_ok-at-2.ensures.out, c.in_ok-at-2.ensures.rest) (one_merged rows sums c.loop-offset.out (drop c.loop-offset.at rows) c.copy_below.new.out (drop c.in_ok-at.at rows) c.in-Some.offset.now c.in-Some.count.now c.next.new.self so copied c.in_ok-at-2.ensures.room))

pub returns : goal.returns
returns c =
    let rows = c.rows-rows.result.now in
    let sums = c.args.sums.now in
    let done : c.loop-offset.offset-iterator ≡ [] = search rules in
    let so = subst (MergedSoFar rows sums c.loop-offset.out (drop c.loop-offset.at rows)) done c.loop-offset.invariant.1 in
    rw c.in_ok-copy_rest.ensures (subst (λ (l : List ProfileRow). AreGrown (sum_at sums) l (c.loop-offset.out ++ drop c.loop-offset.at rows)) c.rows-rows.ensures.list (all_merged rows sums c.loop-offset.out (drop c.loop-offset.at rows) so))
