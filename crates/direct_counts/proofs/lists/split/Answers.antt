use Rattle.std.proofs.Common.{◌≡◌, ◌≤◌, [], drop, length, arith}
use Rattle.std.proofs.Math.ListN.{drop_of_length-le}
use Rattle.trace_model.specs.Counting.{rows_in_order}
use Rattle.direct_counts.specs.Sites.{rows_in}
use Rattle.direct_counts.proofs.Rows.{all_listed}
use Rattle.direct_counts.proofs.lists.split.Goals as goal

pub invariant_of-result : goal.invariant_of-result
invariant_of-result c =
    let rows = c.args.rows.now in
    let past : length rows ≤ c.loop-row.row-index = omega arith in
    let none : drop c.loop-row.row-index rows ≡ [] = drop_of_length-le rows past in
    let is : rows_in_order c.loop-row.known.items c.loop-row.unknown.items ≡ rows_in c.args.names.now rows = all_listed c.loop-row.known.items c.loop-row.unknown.items (rows_in c.args.names.now rows) (rw none at c.loop-row.invariant) c.requires.rising in
    record { rise = rw is c.requires.rising }

pub returns : goal.returns
returns c =
    let rows = c.args.rows.now in
    let past : length rows ≤ c.loop-row.row-index = omega arith in
    let none : drop c.loop-row.row-index rows ≡ [] = drop_of_length-le rows past in
    all_listed c.loop-row.known.items c.loop-row.unknown.items (rows_in c.args.names.now rows) (rw none at c.loop-row.invariant) c.requires.rising
