-- What a line says goes to the end, and its place into the index.
use Rattle.std.proofs.Common.{◌≡◌, ◌++◌, ◌∷◌, [], true, false, take, drop, length, rules}
use Rattle.std.specs.List.{AllByRecursion, insert}
use Rattle.symbol_ranges.specs.Index.{is_before, symbol_at}
use Rattle.symbol_ranges.specs.Reads.{Fits, symbol_in, texts_of}
use Rattle.symbol_ranges.proofs.Adding.{added}
use Rattle.symbol_ranges.proofs.symbols.Symbols.push.Goals as goal

pub invariant_of-self-2 : goal.invariant_of-self-2
invariant_of-self-2 c =
    let lines = c.self.inside.lines.items in
    let order = c.self.inside.order.items in
    let at = c.count_before-at.result in
    let x = symbol_in (texts_of c.args.fields.now) c.args.range in
    let more : c.push.new.self.items ≡ lines ++ x ∷ [] = search rules in
    let index : c.insert.new.self.items ≡ insert order at (length lines) = search rules in
    let fits : Fits lines x = search rules in
    let before : AllByRecursion (λ k. is_before x.image x.start (symbol_at lines k) ≡ true) (take at order) = rw (c.deref.ensures.value, c.deref-2.ensures.value) at c.count_before-at.ensures.before in
    let behind : AllByRecursion (λ k. is_before x.image x.start (symbol_at lines k) ≡ false) (drop at order) = rw (c.deref.ensures.value, c.deref-2.ensures.value) at c.count_before-at.ensures.behind in
    rw (more, index) (added lines order x at c.self.invariant fits before behind)
