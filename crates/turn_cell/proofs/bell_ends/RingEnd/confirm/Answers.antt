use Rattle.std.proofs.Common.{subst}
use Rattle.turn_cell.specs.Doorbell.{IsRungOrZero}
use Rattle.turn_cell.proofs.bell_ends.RingEnd.confirm.Goals as goal

pub returns-clause-rung : goal.returns-clause-rung
returns-clause-rung c = subst (λ e. IsRungOrZero e.rungs e.noted) c.self.view_is c.load_by_ringer.ensures.step.4
