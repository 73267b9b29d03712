-- The rows of the next head are those held and those added.
use Rattle.std.proofs.Common.{rules, arith, ◌≡◌, ◌+◌, refl, ap, ◌∙◌}
use Rattle.database_state.specs.Heads.{row_count}
use Rattle.database_state.specs.Updates.{head_after}
use Rattle.database_state.specs.Rows.{is_rising, known_before, unknown_before}
use Rattle.head_file.proofs.Limits.{ranges_of}
use Rattle.epoch_store.proofs.NextHead.{rows_after, known_rise, unknown_rise}
use Rattle.epoch_store.proofs.next.next_of.Goals as goal

pub returns-then-rows-gt-MOST_ROWS-clause-room : goal.returns-then-rows-gt-MOST_ROWS-clause-room
returns-then-rows-gt-MOST_ROWS-clause-room c =
    let total = rows_after c.args.head.now c.args.change.now c.requires.range c.requires.fits in
    let held : c.len.result + c.len-2.result + c.from.result ≡ row_count c.args.head.now = search rules in
    let rows : c.len-3.result + c.len-4.result + c.from-2.result ≡ row_count (head_after c.args.change.now c.args.head.now) = search rules in
    (refl, held, omega (arith, total, held, rows, c.from-then-rows-gt-MOST_ROWS.ensures), omega (arith, total, rows, c.if-rows-gt-MOST_ROWS.true))

pub returns-clause-room : goal.returns-clause-room
returns-clause-room c =
    let total = rows_after c.args.head.now c.args.change.now c.requires.range c.requires.fits in
    let rows : c.len-3.result + c.len-4.result + c.from-2.result ≡ row_count (head_after c.args.change.now c.args.head.now) = search rules in
    omega (arith, total, rows, c.if-rows-gt-MOST_ROWS.false)

pub known_after-requires-clause-rising : goal.known_after-requires-clause-rising
known_after-requires-clause-rising c =
    let rows : c.deref.result.now ≡ c.args.head.now.known = search rules in
    ap (is_rising known_before) rows ∙ (ranges_of c.args.head.now c.requires.range).known_order

pub known_after-requires-clause-each : goal.known_after-requires-clause-each
known_after-requires-clause-each c =
    let changed : c.deref-2.result.now ≡ c.args.change.now.known = search rules in
    rw changed (known_rise _ c.args.change.now.known c.requires.fits.known_order)

pub unknown_after-requires-clause-rising : goal.unknown_after-requires-clause-rising
unknown_after-requires-clause-rising c =
    let rows : c.deref-3.result.now ≡ c.args.head.now.unknown = search rules in
    ap (is_rising unknown_before) rows ∙ (ranges_of c.args.head.now c.requires.range).unknown_order

pub unknown_after-requires-clause-each : goal.unknown_after-requires-clause-each
unknown_after-requires-clause-each c =
    let changed : c.deref-4.result.now ≡ c.args.change.now.unknown = search rules in
    rw changed (unknown_rise _ c.args.change.now.unknown c.requires.fits.unknown_order)
