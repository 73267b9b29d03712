use Rattle.std.proofs.Common.{ℕ, ◌+◌, refl, eqb}
use Rattle.std.proofs.lemmas.Bool.{cond_both}
use Rattle.driver_model.specs.Sides.{Slot, Side}
use Rattle.driver_model.specs.Handover.{slot_polled, side_poll_buffer, side_poll_table, side_called}
use Rattle.driver_model.specs.Driver.{Setup, Driver}
use Rattle.driver_model.specs.Invariant.{DriverInvariant}
use Rattle.driver_laws.proofs.Parts.{exact_same}

-- the daemon's calls keep the driver's invariant

-- the cell with the tries and the word of another
abbrev with_tries : Slot → Slot → Slot
with_tries s r = record s { tries = r.tries; read = r.read }

-- the side with the calls, the tries and the words of another, as the daemon's calls change them
abbrev with_calls : Side → Side → Side
with_calls v w = record v { first = with_tries v.first w.first; second = with_tries v.second w.second; third = with_tries v.third w.third; steps = w.steps }

-- the invariant is not about these
kept_calls : (u : Setup) (d : Driver) (v w : Side) → DriverInvariant u d v → DriverInvariant u d (with_calls v w)
kept_calls u d v w i = record {
  conserved = i.conserved;
  flushes = i.flushes;
  bounded = i.bounded;
  well_formed = record { order0 = i.well_formed.order0; order1 = i.well_formed.order1; order2 = i.well_formed.order2; sizes0 = i.well_formed.sizes0; sizes1 = i.well_formed.sizes1; tables = i.well_formed.tables; losses = i.well_formed.losses };
  in_step = record { holds0 = i.in_step.holds0; holds1 = i.in_step.holds1; holds2 = i.in_step.holds2; table = i.in_step.table; active = i.in_step.active; buckets = i.in_step.buckets; buffer = i.in_step.buffer; turn = i.in_step.turn; number = i.in_step.number; next = i.in_step.next; hands0 = i.in_step.hands0; hands1 = i.in_step.hands1; hands2 = i.in_step.hands2 };
  in_range = record { at = i.in_range.at; upto0 = i.in_range.upto0; upto1 = i.in_range.upto1; upto2 = i.in_range.upto2 };
  losses_in_order = i.losses_in_order;
  answers_rise = record { rise = i.answers_rise.rise; last = i.answers_rise.last; heard = i.answers_rise.heard };
  counted = record { placed = i.counted.placed; written = i.counted.written; all = i.counted.all };
  exact = exact_same u d d v (with_calls v w) u.pace refl refl i.exact;
  closed = record { done = i.closed.done; end = λ e. let x = i.closed.end e in record { at = x.at; table = x.table; active = x.active; last = x.last } };
}

pub kept_called : (u : Setup) (d : Driver) (v : Side) → DriverInvariant u d v → DriverInvariant u d (side_called v)
kept_called u d v i = kept_calls u d v (side_called v) i

pub kept_polled_table : (u : Setup) (d : Driver) (v : Side) (w : ℕ) → DriverInvariant u d v → DriverInvariant u d (side_poll_table v w)
kept_polled_table u d v w i = kept_calls u d v (side_poll_table v w) i

pub kept_polled : (u : Setup) (d : Driver) (v : Side) (b w : ℕ) → DriverInvariant u d v → DriverInvariant u d (side_poll_buffer v b w)
kept_polled u d v b w i =
    cond_both (eqb b 0) (record v { steps = v.steps + 1; first = slot_polled v.first w }) (record v { steps = v.steps + 1; second = slot_polled v.second w })
    (DriverInvariant u d)
    (λ e. kept_calls u d v (side_poll_buffer v 0 w) i)
    (λ e. kept_calls u d v (side_poll_buffer v 1 w) i)
