-- The laws of a driver that the laws of a run rest on.
use Rattle.driver_laws.specs.Turns.{StartKeeps, TurnKeeps, PollsKeep, BellIsHeard}
use Rattle.driver_laws.specs.Doings.{TurnDid}

pub record DriverLaws : Type 0 where
  pub start : StartKeeps
  pub turn : TurnKeeps
  pub polls : PollsKeep
  pub heard : BellIsHeard
  pub did : TurnDid
