-- What the index finds is what the lines have.
use Rattle.std.proofs.Common.{◌≡◌, List, subst, rules}
use Rattle.std.specs.Prelude.{find}
use Rattle.std.specs.Option.{option_copied}
use Rattle.symbol_ranges.specs.declared.symbols.Symbol.{Symbol}
use Rattle.symbol_ranges.specs.Lines.{meets}
use Rattle.symbol_ranges.specs.Index.{shown}
use Rattle.symbol_ranges.specs.Reads.{Meeting}
use Rattle.symbol_ranges.proofs.Halving.{meeting_is}
use Rattle.symbol_ranges.proofs.symbols.Symbols.meeting.Goals as goal

pub returns-clause-found : goal.returns-clause-found
returns-clause-found c =
    let is : option_copied c.first_meeting.result ≡ find (meets c.args.image.now c.args.first c.args.last) (shown c.self.inside.lines.items c.self.inside.order.items) = search rules in
    subst (λ (l : List Symbol). Meeting l c.args.image.now c.args.first c.args.last (option_copied c.first_meeting.result)) c.self.view_is
    (meeting_is c.self.inside.lines.items c.self.inside.order.items c.args.image.now c.args.first c.args.last (option_copied c.first_meeting.result) c.self.invariant is)
