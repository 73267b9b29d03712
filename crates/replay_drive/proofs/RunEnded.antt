-- The end of a replay: what the drivers lost is that of the run, and the rest is the run's last part.
use Rattle.std.proofs.Common.{◌≡◌, refl, sym, ◌∙◌, ap, subst, ℕ, ◌+◌, List, [], ◌∷◌, length, take, arith, true, None, eqb, eq-eqb}
use Rattle.std.proofs.lemmas.Bool.{cond-true}
use Rattle.std.specs.Prelude.{map, filter}
use Rattle.std.specs.List.{All, count_by}
use Rattle.std.proofs.lemmas.List.{length-map}
use Rattle.std.proofs.lemmas.List.Sums.{length-filter}
use Rattle.sample_key.specs.declared.losses.Loss.{Loss}
use Rattle.sample_key.specs.declared.losses.Pace.TheVariants.{Free}
use Rattle.trace_model.specs.Parts.{ends_part, epoch_after, part_of}
use Rattle.trace_model.specs.Recording.{Recording}
use Rattle.trace_model.specs.Streams.{records_in}
use Rattle.trace_model.specs.declared.notices.Record.{Record}
use Rattle.trace_model.specs.declared.notices.Step.{Step}
use Rattle.driver_model.specs.declared.plans.Stats.{Stats}
use Rattle.database_model.specs.Ranges.{AreLosses}
use Rattle.database_model.specs.Runs.{Drained}
use Rattle.growth_model.specs.Grown.{epoch_after_parts, part_count}
use Rattle.lane_side.specs.Plain.{Plain}
use Rattle.cpu_lane.specs.Seen.{Seen}
use Rattle.run_model.specs.Daemon.{Daemon}
use Rattle.run_model.specs.Running.{Processor, record_of}
use Rattle.run_model.specs.Shares.{drains_in_part, last_part}
use Rattle.run_laws.specs.Laws.{RecordsCanBeTallied, run_so_far, stats_of}
use Rattle.run_laws.proofs.Driven.{DriverLaws}
use Rattle.run_laws.proofs.Systems.{run_holds}
use Rattle.dcpid_core.specs.Finishing.{AreLossesOf}
use Rattle.dcpid_core.specs.Parts.{part_in}
use Rattle.dcpid_core.specs.Storing.{Part}
use Rattle.replay_drive.specs.Players.{processors_of}
use Rattle.replay_drive.specs.Growing.{KeepsParts}
use Rattle.replay_drive.specs.Replaying.{HasTaken}
use Rattle.replay_drive.specs.Ending.{HasEnded}
use Rattle.replay_drive.specs.declared.replays.Replay.{Replay}
use Rattle.replay_drive.proofs.Among.{as_many}
use Rattle.replay_drive.proofs.PartsKept.{epoch_by_parts, segment_parts, whole_part}
use Rattle.replay_drive.proofs.StepsMany.{take_all}
use Rattle.replay_drive.proofs.StepsTaken.{as_many_sides}
use Rattle.replay_drive.proofs.StoreKept.{IsNextPart}

-- what the drivers lost
losses_of : (ls : List Seen) (ss : List Plain) → length ls ≡ length ss → map (λ (p : Processor). p.driver.losses) (processors_of ls ss) ≡ map (λ (l : Seen). l.driver.losses) ls
losses_of [] ss many = refl
losses_of (l ∷ ls) [] many = absurd (omega (arith, many))
losses_of (l ∷ ls) (s ∷ ss) many = ap {B = List (List Loss)} (λ z. l.driver.losses ∷ z) (losses_of ls ss (omega (arith, many)))

-- and counted
counted_by : (ls : List Seen) (ss : List Plain) → length ls ≡ length ss → map (λ (p : Processor). p.driver.stats) (processors_of ls ss) ≡ map (λ (l : Seen). l.driver.stats) ls
counted_by [] ss many = refl
counted_by (l ∷ ls) [] many = absurd (omega (arith, many))
counted_by (l ∷ ls) (s ∷ ss) many = ap {B = List Stats} (λ z. l.driver.stats ∷ z) (counted_by ls ss (omega (arith, many)))

-- they are those of the run
pub losses_are : (trace : Recording) (run first_epoch : ℕ) (steps : List Step) (replay : Replay) → HasTaken trace run first_epoch steps replay
    → map (λ (l : Seen). l.driver.losses) replay.lanes.items ≡ (record_of run first_epoch (run_so_far Free trace first_epoch steps)).losses
losses_are trace run first_epoch steps replay taken =
    sym (losses_of replay.lanes.items replay.sides.items (as_many Free trace 0 replay.lanes.items replay.sides.items taken.stands.players))
    ∙ ap (map (λ (p : Processor). p.driver.losses)) (sym taken.stands.processors)

pub stats_are : (trace : Recording) (run first_epoch : ℕ) (steps : List Step) (replay : Replay) → HasTaken trace run first_epoch steps replay
    → map (λ (l : Seen). l.driver.stats) replay.lanes.items ≡ stats_of (run_so_far Free trace first_epoch steps)
stats_are trace run first_epoch steps replay taken =
    sym (counted_by replay.lanes.items replay.sides.items (as_many Free trace 0 replay.lanes.items replay.sides.items taken.stands.players))
    ∙ ap (map (λ (p : Processor). p.driver.stats)) (sym taken.stands.processors)

-- there is a list for each processor, and each can be stored
pub losses_fit : DriverLaws → RecordsCanBeTallied → (trace : Recording) (run first_epoch : ℕ) (steps : List Step) (replay : Replay) (losses : List (List Loss)) → HasTaken trace run first_epoch steps replay
    → losses ≡ map (λ (l : Seen). l.driver.losses) replay.lanes.items → AreLossesOf replay.daemon.trace.cpus losses
losses_fit laws law trace run first_epoch steps replay losses taken is = record {
  count = ap length is ∙ length-map replay.lanes.items (λ (l : Seen). l.driver.losses) ∙ as_many Free trace 0 replay.lanes.items replay.sides.items taken.stands.players
      ∙ as_many_sides laws trace run first_epoch steps replay.lanes.items replay.sides.items replay.daemon taken.fit taken.stands;
  each = subst (λ (z : List (List Loss)). All AreLosses z) (sym (is ∙ losses_are trace run first_epoch steps replay taken)) (law Free trace run first_epoch steps taken.fit).losses;
}

-- the daemon is finished too
pub daemon_finished : (trace : Recording) (run first_epoch : ℕ) (steps : List Step) (replay : Replay) → HasEnded trace run first_epoch steps replay → replay.daemon.state.finished ≡ true
daemon_finished trace run first_epoch steps replay ended =
    ap (λ (z : Daemon). z.finished) ended.taken.stands.state ∙ sym ended.taken.finished ∙ ended.finished

-- what is left is the last part of the run's record
pub last_next : DriverLaws → (trace : Recording) (run first_epoch : ℕ) (steps : List Step) (replay : Replay) (losses : List (List Loss)) → HasEnded trace run first_epoch steps replay
    → replay.daemon.failure ≡ None → KeepsParts trace replay.daemon
    → losses ≡ (record_of run first_epoch (run_so_far Free trace first_epoch steps)).losses
    → IsNextPart trace (record_of run first_epoch (run_so_far Free trace first_epoch steps)) replay.daemon.part (part_in replay.daemon replay.daemon.state.epoch true losses)
    × (replay.daemon.part + 1 ≡ part_count (records_in trace))
last_next laws trace run first_epoch steps replay losses ended fine keeps lost =
    let d = replay.daemon in
    let stands = ended.taken.stands in
    let system = run_so_far Free trace first_epoch steps in
    let records = records_in trace in
    let kept = record_of run first_epoch system in
    let holds = run_holds laws Free trace first_epoch steps ended.taken.fit in
    let all : system.daemon.applied ≡ length records = (holds.ended (sym ended.taken.finished ∙ ended.finished)).all in
    let applied : d.state.applied ≡ length records = ap (λ (z : Daemon). z.applied) stands.state ∙ all in
    let last : d.part ≡ last_part records =
    keeps.part fine ∙ ap (λ n. part_of records n) applied ∙ ap (count_by ends_part) (take_all records (length records) (omega arith)) in
    let is : eqb d.part (last_part records) ≡ true = eq-eqb d.part (last_part records) last in
    let at_epoch : d.state.epoch ≡ epoch_after_parts first_epoch records (d.part + 1) =
    ap (λ (z : Daemon). z.epoch) stands.state ∙ holds.books.epoch ∙ epoch_by_parts first_epoch records system.daemon.applied
    ∙ ap (λ n. epoch_after_parts first_epoch records n) (ap (λ n. part_of records n) (ap (λ (z : Daemon). z.applied) (sym stands.state)) ∙ sym (keeps.part fine))
    ∙ ap (λ (z : List Record). epoch_after first_epoch z) (taken_whole records d.part last ∙ sym (taken_whole_more records d.part last)) in (
      record {
        same = whole_part replay.daemon.head (ap (λ (t : Recording). t.images) stands.trace_is) (ap records_in stands.trace_is) at_epoch
            (segment_parts stands.run_is refl (sym is) stands.first_is
            (keeps.noted fine ∙ ap (λ (z : List Drained). drains_in_part records d.part z) (stands.drains fine))
            (lost ∙ sym (cond-true (eqb d.part (last_part records)) kept.losses [] is)));
        within = omega (arith, last);
      },
      ap (λ n. n + 1) last,
    )
  where
    -- all records that end a part
    taken_whole : (records : List Record) (n : ℕ) → n ≡ last_part records → take n (filter ends_part records) ≡ filter ends_part records
    taken_whole records n is = take_all (filter ends_part records) n (omega (arith, length-filter ends_part records, is))

    taken_whole_more : (records : List Record) (n : ℕ) → n ≡ last_part records → take (n + 1) (filter ends_part records) ≡ filter ends_part records
    taken_whole_more records n is = take_all (filter ends_part records) (n + 1) (omega (arith, length-filter ends_part records, is))
