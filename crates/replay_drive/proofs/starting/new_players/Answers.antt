-- The next stream is there, and one player more starts.
use Rattle.std.proofs.Common.{◌∙◌, ap, ◌+◌, [], ◌∷◌, length, arith, length-append}
use Rattle.sample_key.specs.declared.losses.Pace.TheVariants.{Free}
use Rattle.trace_outline.specs.Views.{viewed}
use Rattle.trace_model.specs.Streams.{streams_in}
use Rattle.replay_drive.proofs.Beginning.{one_more_starts, stands_on, streams_count, stream_there}
use Rattle.replay_drive.proofs.starting.new_players.Goals as goal

pub index_mut-requires : goal.index_mut-requires
index_mut-requires c =
    let many = streams_count c.loop-cpu.cpu c.loop-cpu.streams.items (viewed c.args.trace.now) c.loop-cpu.invariant.streams in
    omega (arith, c.loop-cpu.streams.ok.0, many, c.loop-cpu-test.true, c.loop-cpu.auto.cpu-end)

pub new_player-requires-clause-samples : goal.new_player-requires-clause-samples
new_player-requires-clause-samples c =
    ap (λ v. v.items) (c.replace-samples.ensures.value ∙ c.index_mut.ensures.value)
    ∙ stream_there c.loop-cpu.cpu c.loop-cpu.streams.items _ (viewed c.args.trace.now) c.loop-cpu.invariant.streams (omega (arith, c.loop-cpu-test.true, c.loop-cpu.auto.cpu-end))

pub loop-cpu-preserved : goal.loop-cpu-preserved
loop-cpu-preserved c =
    let more = one_more_starts Free (viewed c.args.trace.now) c.loop-cpu.cpu _ _ _ _ c.loop-cpu.invariant.count c.loop-cpu.invariant.started c.in_ok-lane.ensures in
    let lanes = c.in_ok-push.ensures.items in
    let sides = c.in_ok-push-2.ensures.items in
    record {
      started = rw (lanes, sides) more;
      count = ap length lanes ∙ length-append c.loop-cpu.players.lanes.items (_ ∷ []) ∙ ap (λ n. n + 1) c.loop-cpu.invariant.count;
      streams = stands_on c.loop-cpu.cpu c.loop-cpu.streams.items _ (streams_in (viewed c.args.trace.now)) c.loop-cpu.invariant.streams;
    }
