use Rattle.std.proofs.Common.{◌≡◌, rules}
use Rattle.load_map.specs.Maps.{ranges_of}
use Rattle.load_map.specs.Ranges.{RangesFrom}
use Rattle.load_map.proofs.Covering.{cover_only, cover_all}
use Rattle.load_map.proofs.maps.LoadMap.ranges.Goals as goal

pub returns-in-Some-clause-only : goal.returns-in-Some-clause-only
returns-in-Some-clause-only c =
    let map = c.args.self.now in
    let ranges = c.as_slice.result.now in
    let is : ranges ≡ ranges_of map c.args.pid = search rules in
    let rise : RangesFrom 0 ranges = search rules in
    cover_only map c.args.pid ranges is rise

pub returns-in-Some-clause-all : goal.returns-in-Some-clause-all
returns-in-Some-clause-all c =
    let map = c.args.self.now in
    let ranges = c.as_slice.result.now in
    let is : ranges ≡ ranges_of map c.args.pid = search rules in
    cover_all map c.args.pid ranges is
