-- The players so far, and the streams of those to come.
use Rattle.std.proofs.Common.{◌≡◌, length}
use Rattle.sample_key.specs.declared.losses.Pace.TheVariants.{Free}
use Rattle.trace_outline.specs.Views.{viewed}
use Rattle.trace_model.specs.Streams.{streams_in}
use Rattle.trace_cut.specs.Cutting.{lanes_in}
use Rattle.replay_drive.specs.Players.{AllStart}
use Rattle.replay_drive.proofs.Beginning.{StandFrom}
use Rattle.replay_drive.proofs.starting.new_players.Given as goal

abbrev pub invariant-loop-cpu : goal.invariant-loop-cpu
invariant-loop-cpu l = record {
  started : AllStart Free (viewed l.trace) l.cpu l.players.lanes.items l.players.sides.items;
  count : length l.players.lanes.items ≡ l.cpu;
  streams : StandFrom l.cpu (lanes_in l.streams.items) (streams_in (viewed l.trace));
}
