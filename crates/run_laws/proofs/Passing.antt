-- Between any two steps the cells are handed over as their words say, and the bell is sound.
use Rattle.std.proofs.Common.{◌≡◌, ℕ, ◌+◌, ◌%◌, ◌^◌, ◌≤◌, List, [], ◌∷◌, length, refl, sym, ◌∙◌, ap, arith, inl, inr, Bool, true, false, Some, is_some, length-append, eq-eqb}
use Rattle.std.specs.Prelude.{slice_get}
use Rattle.sample_key.specs.Sent.{Sent}
use Rattle.sample_key.specs.declared.losses.Pace.{Pace}
use Rattle.trace_model.specs.Recording.{Recording}
use Rattle.driver_model.specs.Handover.{IsHandover}
use Rattle.driver_model.specs.Invariant.{is_active}
use Rattle.run_model.specs.Running.{Processor, System}
use Rattle.run_laws.specs.Laws.{IsFit, IsHandedOver}
use Rattle.run_laws.proofs.Basics.{IsFront, IsPassed, both_answers, front_even}
use Rattle.run_laws.proofs.Lanes.{bell_of}
use Rattle.run_laws.proofs.Systems.{SystemHolds}

-- one cell
handed_over : (handed taken : List Sent) (mine driver_holds daemon_holds : Bool) → IsPassed taken handed mine → driver_holds ≡ mine → daemon_holds ≡ false
    → IsHandover handed taken (length taken) (length handed + length taken) driver_holds daemon_holds
handed_over handed taken mine driver_holds daemon_holds passed holds free = record {
  counted = refl;
  home = λ even. let same : taken ≡ handed = front_even taken handed passed.front (eq-eqb ((length handed + length taken) % 2) 0 even) in (ap length same, same);
  out = λ odd. (out_count passed.front odd, passed.front);
  driver = λ own. let same : length taken ≡ length handed = ap length (passed.home (sym holds ∙ own)) in omega arith;
  daemon = λ own. both_answers daemon_holds own free;
}
  where
    out_count : IsFront taken handed → (length handed + length taken) % 2 ≡ 1 → length taken + 1 ≡ length handed
    out_count (inl e) odd = let l : length taken ≡ length handed = ap length e in absurd (omega arith)
    out_count (inr (batch, e)) odd = sym (ap length e ∙ length-append taken (batch ∷ []))

-- the bell's value fits
bell_fits : (asking : Bool) (at : ℕ) → at ≤ 65536 → bell_of asking at ≤ 2 ^ 32
bell_fits false at h = omega arith
bell_fits true at h = omega arith

pub sound : (pace : Pace) (trace : Recording) (first_epoch : ℕ) (system : System) → IsFit trace → SystemHolds pace trace first_epoch system
    → (cpu : ℕ) (processor : Processor) → slice_get system.processors cpu ≡ Some processor → IsHandedOver processor
sound pace trace first_epoch system fit holds cpu processor there =
    let lane = holds.lanes cpu processor there in
    let within : system.daemon.applied ≤ 65536 = omega (arith, holds.books.stands.within, fit.records) in
    record {
      first = handed_over processor.side.first.handed processor.far.first.taken (is_active processor.driver.pair 0) processor.side.first.holds processor.far.first.holds
          lane.cell0.passed lane.lane.in_step.holds0 lane.idle.free0;
      second = handed_over processor.side.second.handed processor.far.second.taken (is_active processor.driver.pair 1) processor.side.second.holds processor.far.second.holds
          lane.cell1.passed lane.lane.in_step.holds1 lane.idle.free1;
      third = handed_over processor.side.third.handed processor.far.third.taken (is_some processor.driver.table) processor.side.third.holds processor.far.third.holds
          lane.cell2.passed lane.lane.in_step.holds2 lane.idle.free2;
      bell = record {
        last = refl;
        rising = lane.bell.rising;
        bound = omega (arith, lane.bell.last, bell_fits system.daemon.asking system.daemon.applied within);
        behind = omega (arith, lane.bell.last, lane.bell.behind);
        known = lane.bell.known;
      };
      given = lane.idle.given;
    }
