use Rattle.load_map.proofs.Rising.{put_rises, either_rises}
use Rattle.load_map.proofs.ranges.Ranges.put.Goals as goal

pub invariant_of-self : goal.invariant_of-self
invariant_of-self c =
    let ranges = c.self.inside.list.items in
    either_rises c.exchange.result c.exchange.new.ranges.items _ ranges c.exchange.ensures.exchanged c.exchange.ensures.refused (put_rises c.args.range ranges c.requires c.self.invariant) c.self.invariant
