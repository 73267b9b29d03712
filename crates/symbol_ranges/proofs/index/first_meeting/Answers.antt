-- Only the symbol at the place may have an offset that is searched.
use Rattle.std.proofs.Common.{rules, ◌≡◌, ◌<◌, ◌∙◌, true, false, get_or, length, ap, sym, Some}
use Rattle.std.proofs.lemmas.List.{get_or_default}
use Rattle.symbol_ranges.specs.Lines.{meets}
use Rattle.symbol_ranges.specs.Index.{symbol_at, blank}
use Rattle.symbol_ranges.proofs.Halving.{found, missed, past_all, place_within}
use Rattle.symbol_ranges.proofs.index.first_meeting.Goals as goal

pub returns-then-at-order : goal.returns-then-at-order
returns-then-at-order c = past_all c.args.lines.now c.args.order.now c.args.image.now c.args.first c.args.last c.count_before-at.result (search rules) c.count_before-at.ensures.before

pub returns-then-meets : goal.returns-then-meets
returns-then-meets c =
    let lines = c.args.lines.now in
    let order = c.args.order.now in
    let at = c.count_before-at.result in
    let within : at < length order = c.if-at-order.false in
    let same : c.index-lines-order.result ≡ symbol_at lines (get_or order at 0) = c.index-lines-order.is ∙ get_or_default lines (get_or order at 0) c.index-lines-order.result blank (place_within lines order at 0 c.requires.within within) in
    let holds : meets c.args.image.now c.args.first c.args.last c.index-lines-order.result ≡ true = sym c.meets.ensures ∙ c.if-meets.true in
    ap (λ s. Some s) same ∙ found lines order c.args.image.now c.args.first c.args.last at within c.count_before-at.ensures.before (ap (meets c.args.image.now c.args.first c.args.last) (sym same) ∙ holds)

pub returns : goal.returns
returns c =
    let lines = c.args.lines.now in
    let order = c.args.order.now in
    let at = c.count_before-at.result in
    let within : at < length order = c.if-at-order.false in
    let same : c.index-lines-order.result ≡ symbol_at lines (get_or order at 0) = c.index-lines-order.is ∙ get_or_default lines (get_or order at 0) c.index-lines-order.result blank (place_within lines order at 0 c.requires.within within) in
    let other : meets c.args.image.now c.args.first c.args.last c.index-lines-order.result ≡ false = sym c.meets.ensures ∙ c.if-meets.false in
    missed lines order c.args.image.now c.args.first c.args.last at within c.requires.rising c.count_before-at.ensures.before c.count_before-at.ensures.behind (ap (meets c.args.image.now c.args.first c.args.last) (sym same) ∙ other)
