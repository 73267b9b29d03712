use Rattle.std.proofs.Common.{◌∙◌, ◌≡◌, inl, inr, subst, sym}
use Rattle.trace_model.specs.Traces.{recording_of}
use Rattle.database_state.specs.Standing.{HaveHead}
use Rattle.store_io.proofs.Chains.{reads_then}
use Rattle.epoch_store.specs.Databases.{head_of}
use Rattle.dcpi_top.specs.declared.commands.Command.TheVariants.{Replay}
use Rattle.dcpi_top.specs.Causes.{GivesText}
use Rattle.dcpi_top.specs.Refusals.{refused, status_in}
use Rattle.dcpi_top.specs.Streams.{Disk, Stream, seen}
use Rattle.dcpi_top.specs.Replays.{IsReadInto}
use Rattle.dcpi_top.proofs.Listed.{if_some}
use Rattle.dcpi_top.proofs.Replayed.{after_opening}
use Rattle.dcpi_top.proofs.replays.replay_text.Goals as goal

pub returns-clause-gives : goal.returns-clause-gives
returns-clause-gives g c =
    let input : Stream = seen g.S.Source.left g.S.Source.faults c.args.source.now c.read_trace.new.source in
    let before : Disk = seen g.D.Store.files g.D.Store.faults c.open_database.new.store c.run_text.new.store in
    let all : Disk = seen g.D.Store.files g.D.Store.faults c.args.store.now c.run_text.new.store in
    let same : before ≡ all = λ i. record {
      old = c.in_ok-db.ensures.reads.files i;
      new = g.D.Store.files c.run_text.new.store;
      faults_before = c.in_ok-db.ensures.cause i;
      faults_after = g.D.Store.faults c.run_text.new.store;
    } in
    let into : IsReadInto input (recording_of c.in_ok-trace.trace) before (head_of c.in_ok-db.db) = record {
      reads = c.in_ok-trace.ensures.reads;
      whole = c.in_ok-trace.ensures.whole;
      counted = c.in_ok-trace.ensures.faults;
      opened = if_some (g.D.Store.files c.open_database.new.store) (λ f. HaveHead f (head_of c.in_ok-db.db))
          (λ f told. c.in_ok-db.ensures.head f (sym c.in_ok-db.ensures.reads.files ∙ told));
    } in
    subst (λ disk. GivesText (λ text. text.items) Replay input disk c.run_text.result) same (c.run_text.ensures.gives input into)

pub returns-clause-leaves : goal.returns-clause-leaves
returns-clause-leaves g c =
    let input : Stream = seen g.S.Source.left g.S.Source.faults c.args.source.now c.read_trace.new.source in
    let before : Disk = seen g.D.Store.files g.D.Store.faults c.open_database.new.store c.run_text.new.store in
    let into : IsReadInto input (recording_of c.in_ok-trace.trace) before (head_of c.in_ok-db.db) = record {
      reads = c.in_ok-trace.ensures.reads;
      whole = c.in_ok-trace.ensures.whole;
      counted = c.in_ok-trace.ensures.faults;
      opened = if_some (g.D.Store.files c.open_database.new.store) (λ f. HaveHead f (head_of c.in_ok-db.db))
          (λ f told. c.in_ok-db.ensures.head f (sym c.in_ok-db.ensures.reads.files ∙ told));
    } in
    elim (c.run_text.ensures.leaves input into) [
      | inl reads ↦ inl (reads_then c.in_ok-db.ensures.reads reads)
      | inr parts ↦ inr (after_opening g.D.Store.files g.D.Store.moment g.D.Store.left_since input c.args.store.now c.open_database.new.store c.run_text.new.store
          (status_in (refused c.run_text.result)) c.in_ok-db.ensures.reads parts)
    ]
