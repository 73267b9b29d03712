-- the next stream is there, and is this processor's; and one more processor is ready
use Rattle.std.proofs.Common.{rules, ◌≡◌, ◌∙◌, ◌-◌, ℕ, ◌∷◌, length, map, ap, arith}
use Rattle.std.proofs.lemmas.List.{length_push}
use Rattle.std.specs.Vec.Iter.{into_iter_items}
use Rattle.trace_outline.specs.Views.{viewed}
use Rattle.trace_model.specs.Streams.{stream_of}
use Rattle.std.specs.List.{range_with_len}
use Rattle.trace_cut.specs.Cutting.{lanes_in}
use Rattle.lane_threads.proofs.Starting.{starts_more, streams_step, streams_left}
use Rattle.lane_threads.proofs.making.new_pairs.Goals as goal

pub unreachable-requires : goal.unreachable-requires
unreachable-requires c =
    let empty = rw c.in_default.is at c.next.ensures.cases in
    let none : length (into_iter_items c.loop-cpu.streams) ≡ 0 = omega (arith, c.loop-cpu.streams.rest.ok.0) in
    streams_left (λ cpu. stream_of cpu (viewed c.args.trace.now)) c.loop-cpu.cpu (viewed c.args.trace.now).cpus _ c.loop-cpu.invariant.streams (omega (arith, c.cpus-cpu-end.ensures, c.loop-cpu-test.true)) none

pub new_pair-requires-clause-samples : goal.new_pair-requires-clause-samples
new_pair-requires-clause-samples c =
    let left : into_iter_items c.loop-cpu.streams ≡ c.in-Some.samples ∷ into_iter_items c.next.new.self = search rules in
    (streams_step (λ cpu. stream_of cpu (viewed c.args.trace.now)) c.loop-cpu.cpu (viewed c.args.trace.now).cpus _ _ _ c.loop-cpu.invariant.streams (omega (arith, c.cpus-cpu-end.ensures, c.loop-cpu-test.true)) left).0

pub loop-cpu-preserved : goal.loop-cpu-preserved
loop-cpu-preserved c =
    let h = c.loop-cpu.invariant in
    let left : into_iter_items c.loop-cpu.streams ≡ c.in-Some.samples ∷ into_iter_items c.next.new.self = search rules in
    record {
      streams = (streams_step (λ cpu. stream_of cpu (viewed c.args.trace.now)) c.loop-cpu.cpu (viewed c.args.trace.now).cpus _ _ _ h.streams (omega (arith, c.cpus-cpu-end.ensures, c.loop-cpu-test.true)) left).1;
      count = omega (arith, ap length c.in_ok-push.ensures.items, length_push c.loop-cpu.pairs.works.items c.in_ok-work.work);
      start = starts_more _ _ c.loop-cpu.cpu _ _ _ _ _ _ c.in_ok-push.ensures.items c.in_ok-push-2.ensures.items h.start h.count c.in_ok-work.ensures;
    }

pub loop-cpu-init : goal.loop-cpu-init
loop-cpu-init c = record {
  streams = ap lanes_in c.into_iter-streams.ensures.rest ∙ c.requires.streams
      ∙ ap (λ (n : ℕ). map (λ cpu. stream_of cpu (viewed c.args.trace.now)) (range_with_len 0 n)) {x = (viewed c.args.trace.now).cpus} {y = (viewed c.args.trace.now).cpus - 0} (omega arith);
  count = ap length c.new.ensures.items;
  start = search rules;
}
