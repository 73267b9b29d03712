-- At the exact pace nothing is lost, and each flush goes up to just the samples that were due.
use Rattle.std.proofs.Common.{◌≡◌, ℕ, ◌/◌, ◌∙◌, ap, arith}
use Rattle.sample_key.specs.Marks.{due}
use Rattle.sample_key.specs.declared.losses.Pace.TheVariants.{Exact}
use Rattle.trace_model.specs.Recording.{Recording}
use Rattle.trace_model.specs.Streams.{stream_of}
use Rattle.driver_laws.proofs.Lists.{all_both}
use Rattle.run_model.specs.Running.{System}
use Rattle.run_model.specs.Shares.{drains_of}
use Rattle.run_model.specs.Validity.{IsTakenInTime}
use Rattle.run_laws.specs.Laws.{IsLossless}
use Rattle.run_laws.proofs.Systems.{SystemHolds}
use Rattle.run_laws.proofs.Endings.{drained_facts, facts_front, got_within}

pub lossless : (trace : Recording) (first_epoch : ℕ) (system : System) → SystemHolds Exact trace first_epoch system → IsLossless trace system
lossless trace first_epoch system holds = record {
  losses = λ cpu processor there. (holds.lanes cpu processor there).lane.exact.0;
  due_then = λ cpu within.
      let samples = stream_of cpu trace in
      let drains = system.daemon.drains in
      let found = got_within system.processors cpu (omega (arith, holds.count)) in
      let lane = holds.lanes cpu found.0 found.1 in
      all_both (λ d. d.batch.note.upto ≡ due samples (d.batch.note.answers / 2)) (IsTakenInTime (drains_of cpu 0 drains) (drains_of cpu 1 drains))
      (λ d. d.batch.note.upto ≡ due samples d.at)
      (λ d exact time. let half : d.batch.note.answers / 2 ≡ d.at = omega (arith, time.now) in exact ∙ ap (λ (n : ℕ). due samples n) half)
      (drains_of cpu 2 drains)
      (drained_facts (λ b. b.note.upto ≡ due samples (b.note.answers / 2)) (drains_of cpu 2 drains) found.0.far.third.taken lane.cell2.same
      (facts_front (λ b. b.note.upto ≡ due samples (b.note.answers / 2)) found.0.far.third.taken found.0.side.third.handed lane.cell2.passed.front lane.lane.exact.1))
      lane.in_time;
}
