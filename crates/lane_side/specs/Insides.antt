-- The fields of a plain side, as its parts.
use Rattle.lane_side.specs.Plain.{PlainParts}
use Rattle.lane_side.specs.declared.plain.PlainSide.TheInside.{Inside}

-- the parts that a plain side has in its fields
abbrev pub parts_of : Inside → PlainParts
parts_of inside = record {
  cpu = inside.cpu;
  samples = inside.samples.value.items;
  buckets = inside.buckets;
  buffer = inside.buffer;
  first = inside.first;
  second = inside.second;
  third = inside.third;
  bell = inside.bell;
  history = inside.history;
  tallies = inside.log;
}
