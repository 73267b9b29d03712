use Rattle.std.proofs.Common.{◌≡◌, ℕ, ◌%◌, ◌≤◌, refl, sym, arith, Option, ne_eqb}
use Rattle.sample_key.specs.declared.losses.Pace.{Pace}
use Rattle.sample_key.specs.declared.losses.Pace.TheVariants.{Free, Exact}
use Rattle.driver_model.specs.Sides.{Room, new_side}
use Rattle.driver_model.specs.Driver.{Setup, new_driver}
use Rattle.driver_model.specs.Invariant.{IsExact, DriverInvariant}

-- nothing was lost or handed yet
exact_start : (u : Setup) (room : Option Room) (buckets buffer : ℕ) (p : Pace) → IsExact u new_driver (new_side room buckets buffer) p
exact_start u room buckets buffer Free = tt
exact_start u room buckets buffer Exact = (refl, tt)

-- the invariant at the start
pub start_keeps : (u : Setup) (room : Option Room) (buckets buffer : ℕ) → u.last % 2 ≡ 1 → 1 ≤ buckets → 1 ≤ buffer
    → DriverInvariant u new_driver (new_side room buckets buffer)
start_keeps u room buckets buffer odd some size = record {
  conserved = λ k. refl;
  flushes = tt;
  bounded = λ n k l. omega arith;
  well_formed = record { order0 = tt; order1 = tt; order2 = tt; sizes0 = tt; sizes1 = tt; tables = tt; losses = tt };
  in_step = record {
    holds0 = refl;
    holds1 = refl;
    holds2 = refl;
    table = tt;
    active = tt;
    buckets = some;
    buffer = size;
    turn = omega arith;
    number = omega arith;
    next = omega arith;
    hands0 = refl;
    hands1 = refl;
    hands2 = refl;
  };
  in_range = record { at = omega arith; upto0 = tt; upto1 = tt; upto2 = tt };
  losses_in_order = tt;
  answers_rise = record { rise = tt; last = refl; heard = omega arith };
  counted = record { placed = refl; written = refl; all = refl };
  exact = exact_start u room buckets buffer u.pace;
  closed = record { done = sym (ne_eqb 0 u.last (λ e. omega (arith, e, odd))); end = λ e. cc };
}
