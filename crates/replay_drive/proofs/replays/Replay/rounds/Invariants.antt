-- The rounds so far were taken.
use Rattle.std.proofs.Common.{◌≡◌}
use Rattle.replay_drive.specs.Replaying.{IsUnderWay, TakesSteps, repeated}
use Rattle.replay_drive.proofs.StepsMany.{StoresOf}
use Rattle.replay_drive.proofs.replays.Replay.rounds.Given as goal

abbrev pub invariant-loop : goal.invariant-loop
invariant-loop g l = record {
  under : IsUnderWay l.self;
  taken : TakesSteps l.initial.self l.self (repeated l.counter l.round);
  stores : StoresOf g.D.Store.files g.D.Store.faults g.D.Store.moment g.D.Store.left_since l.initial.self l.self l.initial.store l.store (repeated l.count l.round);
  origin : g.D.Store.origin l.store ≡ g.D.Store.origin l.initial.store;
}
