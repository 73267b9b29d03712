-- What a poll does: a batch is taken and noted, or only taken where a fault is kept, or none waits.
use Rattle.std.specs.Prelude.{◌≡◌, ℕ, zero, suc, ◌%◌, [], ◌∷◌, ◌++◌, length, slice_set, slice_index_or, unwrap_or, Some, None}
use Rattle.sample_key.specs.Sent.{Sent}
use Rattle.sample_key.specs.declared.limits.TheConstants.{LAST_CELL}
use Rattle.trace_model.specs.Streams.{records_in}
use Rattle.driver_model.specs.Sides.{Side, slot_of}
use Rattle.driver_model.specs.Handover.{FarSide, far_took_buffer, far_took_table, far_gave_buffer, far_gave_table, side_called, side_poll_buffer, side_poll_table, WasRung}
use Rattle.lane_side.specs.Fixed.{Fixed}
use Rattle.lane_side.specs.Calls.{HasHandedTurn, IsLastHanded, KeepsNote, PollsEvenly, ReadsBuffer, ReadsTable}
use Rattle.database_state.specs.declared.faults.DbFault.TheVariants.{Memory}
use Rattle.run_model.specs.Daemon.{drain_of, flush_before, noted}
use Rattle.dcpid_core.specs.Flushes.{IsCounter, flush_took, no_flush}
use Rattle.dcpid_core.specs.Collection.{Collection}
use Rattle.dcpid_core.specs.declared.polled.Polled.{Polled}
use Rattle.dcpid_core.specs.declared.polled.Polled.TheVariants.{Drained, Passed, Home}

-- the daemon after it took this batch from a cell of a processor
abbrev pub took : ℕ → ℕ → Sent → Collection → Collection
took cpu cell batch daemon = record daemon {
  flushes = slice_set daemon.flushes cpu
      (flush_took (flush_before daemon.state.applied)
      (slice_index_or daemon.flushes cpu no_flush) cell batch.note);
}

-- and noted it
abbrev pub drained : ℕ → ℕ → Sent → Collection → Collection
drained cpu cell batch daemon = record (took cpu cell batch daemon) {
  state = noted (records_in daemon.trace) daemon.state batch;
  noted = daemon.noted ++ drain_of (records_in daemon.trace) daemon.state batch ∷ [];
}

-- or passed it over: it keeps a fault, from before, or want of memory from now on
abbrev pub passed : ℕ → ℕ → Sent → Collection → Collection
passed cpu cell batch daemon =
    record (took cpu cell batch daemon) { failure = Some (unwrap_or daemon.failure Memory) }

-- what is said of a batch that was taken: it was noted exactly where no fault is kept afterwards
abbrev pub Takes : ℕ → ℕ → Sent → Collection → Polled → Collection → Type 0
Takes cpu cell batch daemon Drained new =
    (daemon.failure ≡ None) × (new ≡ drained cpu cell batch daemon)
Takes cpu cell batch daemon Passed new = new ≡ passed cpu cell batch daemon
Takes cpu cell batch daemon (Home word) new = ⊥

-- where the cells must be polled evenly, no other cell has fewer tries than this one
abbrev pub CellPollsEvenly : ℕ → Fixed → Side → Type 0
CellPollsEvenly zero fixed side = PollsEvenly fixed.even side.first.tries side
CellPollsEvenly (suc zero) fixed side = PollsEvenly fixed.even side.second.tries side
CellPollsEvenly (suc (suc cell)) fixed side = PollsEvenly fixed.even side.third.tries side

-- A poll that found this batch in a buffer: it read one word, which was odd, and the buffer was given back.
pub record TookBuffer (number : ℕ) (fixed : Fixed) (before : Side) (far : FarSide) (after : Side)
    (left : FarSide) (batch : Sent) : Type 0 where
  pub odd : (slot_of after number).read % 2 ≡ 1
  pub told : ReadsBuffer before far number (slot_of after number).read
  pub side : after ≡ side_called (side_poll_buffer before number (slot_of after number).read)
  pub taken : left ≡ far_gave_buffer (far_took_buffer far number batch) number
  pub note : KeepsNote number (length batch.entries) fixed far.rungs batch.note
  pub counter : IsCounter batch.note
  pub answers : batch.note.answers ≡ 0
  pub last : IsLastHanded (slot_of before number) far batch

-- A poll that found this batch in the table's cell.
pub record TookTable (fixed : Fixed) (before : Side) (far : FarSide) (after : Side)
    (left : FarSide) (batch : Sent) : Type 0 where
  pub odd : after.third.read % 2 ≡ 1
  pub told : ReadsTable before far after.third.read
  pub side : after ≡ side_called (side_poll_table before after.third.read)
  pub turn : ℕ
  pub handed_turn : HasHandedTurn before far turn
  pub taken : left ≡ far_gave_table (far_took_table far batch turn)
  pub note : KeepsNote LAST_CELL (length batch.entries) fixed far.rungs batch.note
  pub counter : IsCounter batch.note
  pub answers : WasRung batch.note.answers far.rungs
  pub last : IsLastHanded before.third far batch

-- A poll of a buffer that found it at home: it read this word, which was even.
pub record BufferHome (number : ℕ) (before : Side) (far : FarSide) (after : Side) (left : FarSide)
    (word : ℕ) : Type 0 where
  pub word_is : word ≡ (slot_of after number).read
  pub even : word % 2 ≡ 0
  pub told : ReadsBuffer before far number word
  pub side : after ≡ side_poll_buffer before number word
  pub stays : left ≡ far

-- A poll of the table that found it at home.
pub record TableHome (before : Side) (far : FarSide) (after : Side) (left : FarSide) (word : ℕ)
    : Type 0 where
  pub word_is : word ≡ after.third.read
  pub even : word % 2 ≡ 0
  pub told : ReadsTable before far word
  pub side : after ≡ side_poll_table before word
  pub stays : left ≡ far

-- What a poll answers, where `taken` is said of the batch that was found and `home` of the word that was read.
abbrev pub Answers : (Sent → Type 0) → (ℕ → Type 0) → ℕ → ℕ → Collection → Polled → Collection
    → Type 0
Answers taken home cpu cell daemon Drained new =
    (batch : Sent) × taken batch × Takes cpu cell batch daemon Drained new
Answers taken home cpu cell daemon Passed new =
    (batch : Sent) × taken batch × Takes cpu cell batch daemon Passed new
Answers taken home cpu cell daemon (Home word) new = home word × (new ≡ daemon)

-- What a poll of a cell of a processor does: 0 and 1 are the buffers, 2 is the table.
abbrev pub Polls : ℕ → ℕ → Fixed → Collection → Side → FarSide → Polled → Collection → Side
    → FarSide → Type 0
Polls cpu zero fixed daemon side far answer new after left =
    Answers (TookBuffer 0 fixed side far after left) (BufferHome 0 side far after left)
    cpu 0 daemon answer new
Polls cpu (suc zero) fixed daemon side far answer new after left =
    Answers (TookBuffer 1 fixed side far after left) (BufferHome 1 side far after left)
    cpu 1 daemon answer new
Polls cpu (suc (suc cell)) fixed daemon side far answer new after left =
    Answers (TookTable fixed side far after left) (TableHome side far after left)
    cpu 2 daemon answer new
