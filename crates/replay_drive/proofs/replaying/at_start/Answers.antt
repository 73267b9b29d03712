-- The replay has taken no steps.
use Rattle.std.proofs.Common.{refl}
use Rattle.trace_outline.specs.Views.{viewed}
use Rattle.epoch_store.specs.Databases.{head_of}
use Rattle.replay_drive.proofs.Started.{starts}
use Rattle.replay_drive.proofs.replaying.at_start.Goals as goal

pub returns : goal.returns
returns c = record {
  taken = record {
    fit = c.views_are_fit.ensures;
    stands = starts c.laws.ensures.counts (viewed c.args.trace.now) (head_of c.args.db) c.in_ok-players.players.lanes.items c.in_ok-players.players.sides.items c.in_ok-daemon.daemon c.in_ok-players.ensures c.in_ok-daemon.ensures;
    finished = refl;
  };
  daemon = c.in_ok-daemon.ensures;
}
