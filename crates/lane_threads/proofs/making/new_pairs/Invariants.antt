-- the processors so far are ready, and the streams of the others are left
use Rattle.std.proofs.Common.{◌≡◌, ◌-◌, length, map}
use Rattle.std.specs.List.{range_with_len}
use Rattle.std.specs.Vec.Iter.{into_iter_items}
use Rattle.trace_cut.specs.Cutting.{lanes_in}
use Rattle.trace_outline.specs.Views.{viewed}
use Rattle.trace_model.specs.Streams.{stream_of}
use Rattle.lane_threads.specs.Starting.{AllStart}
use Rattle.lane_threads.proofs.making.new_pairs.Given as goal

abbrev pub invariant-loop-cpu : goal.invariant-loop-cpu
invariant-loop-cpu l = record {
  streams : lanes_in (into_iter_items l.streams) ≡ map (λ cpu. stream_of cpu (viewed l.trace)) (range_with_len l.cpu ((viewed l.trace).cpus - l.cpu));
  count : length l.pairs.works.items ≡ l.cpu;
  start : AllStart l.pace (viewed l.trace) 0 l.pairs.works.items l.pairs.sides.items;
}
