-- The value rung last says how many records are in force.
use Rattle.std.proofs.Common.{◌≡◌, ℕ, ◌/◌, ◌≤◌, List, length, ap, ◌∙◌, subst, arith}
use Rattle.std.proofs.lemmas.Bool.{cond_both}
use Rattle.sample_key.specs.Marks.{due}
use Rattle.sample_key.specs.Sent.{Sent}
use Rattle.sample_key.specs.declared.keys.Marked.{Marked}
use Rattle.sample_key.specs.declared.losses.Pace.{Pace}
use Rattle.trace_model.specs.declared.notices.Record.{Record}
use Rattle.driver_model.specs.Handover.{rung_of}
use Rattle.run_model.specs.Daemon.{Daemon, drain_of, flush_before, in_force, rungs_of}
use Rattle.run_model.specs.Validity.{IsDueAt}
use Rattle.run_joins.specs.Collecting.{BellIsKnown}

pub timely : BellIsKnown → (pace : Pace) (records : List Record) (daemon : Daemon) (samples : List Marked) (batch : Sent) → daemon.applied ≤ length records
    → batch.note.upto ≤ due samples (rung_of (rungs_of pace records daemon) / 2) → IsDueAt samples (drain_of records daemon batch)
timely known pace records daemon samples batch within upto =
    let half : rung_of (rungs_of pace records daemon) / 2 ≡ daemon.applied =
    ap (λ n. n / 2) (known pace records daemon within)
    ∙ cond_both daemon.asking (flush_before daemon.applied) (in_force daemon.applied) (λ n. n / 2 ≡ daemon.applied) (λ _. omega arith) (λ _. omega arith) in
    subst (λ (n : ℕ). batch.note.upto ≤ due samples n) half upto
