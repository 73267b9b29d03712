-- The steps so far were taken.
use Rattle.std.proofs.Common.{◌≡◌, take}
use Rattle.replay_drive.specs.Replaying.{IsUnderWay, TakesSteps}
use Rattle.replay_drive.proofs.StepsMany.{StoresOf}
use Rattle.replay_drive.proofs.replays.Replay.steps.Given as goal

abbrev pub invariant-loop-step : goal.invariant-loop-step
invariant-loop-step g l = record {
  under : IsUnderWay l.self;
  taken : TakesSteps l.initial.self l.self (take l.step-index l.steps);
  stores : StoresOf g.D.Store.files g.D.Store.faults g.D.Store.moment g.D.Store.left_since l.initial.self l.self l.initial.store l.store l.steps;
  origin : g.D.Store.origin l.store ≡ g.D.Store.origin l.initial.store;
}
