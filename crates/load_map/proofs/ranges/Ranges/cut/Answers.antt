use Rattle.load_map.proofs.Rising.{cut_rises, either_rises}
use Rattle.load_map.proofs.ranges.Ranges.cut.Goals as goal

pub invariant_of-self : goal.invariant_of-self
invariant_of-self c =
    let ranges = c.self.inside.list.items in
    either_rises c.exchange.result c.exchange.new.ranges.items _ ranges c.exchange.ensures.exchanged c.exchange.ensures.refused (cut_rises c.args.base c.args.end ranges c.requires c.self.invariant) c.self.invariant
