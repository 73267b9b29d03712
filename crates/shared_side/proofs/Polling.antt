-- What a poll of a cell makes of the daemon's side: once for each cell, over what its end and the bell tell; then as the calls find it.
use Rattle.std.proofs.Common.{◌≡◌, ℕ, zero, suc, ◌+◌, ◌≤◌, true, false, List, [], ◌∷◌, ◌++◌, length, refl, sym, ap, ◌∙◌, subst, arith}
use Rattle.std.specs.Prelude.{map, Some}
use Rattle.std.proofs.lemmas.List.{map-append}
use Rattle.sample_key.specs.Counted.{Counted}
use Rattle.sample_key.specs.declared.limits.TheConstants.{LAST_CELL}
use Rattle.sample_key.specs.declared.batches.Parcel.{Parcel as Handed}
use Rattle.driver_model.specs.Table.{Table, entries_in}
use Rattle.driver_model.specs.Sides.{Side}
use Rattle.driver_model.specs.Handover.{FarSide, far_slot_of, side_poll_buffer, side_poll_table}
use Rattle.overflow_pair.specs.Contents.{Contents}
use Rattle.lane_side.specs.Calls.{PollsBuffer, PollsTable}
use Rattle.turn_cell.specs.Ends.{DaemonSeen, RingSeen}
use Rattle.turn_cell.specs.Parcels.{IsEven, IsOdd, last_of, MatchPoll}
use Rattle.turn_cell.specs.declared.passing.Parcel.{Parcel}
use Rattle.turn_cell.specs.declared.passing.PollOf.{PollOf}
use Rattle.turn_cell.specs.declared.passing.PollOf.TheVariants.{Parcel as Got, Home}
use Rattle.shared_side.specs.Carrying.{IsKeptBuffer, IsKeptTable, batch_in, turn_of_last}
use Rattle.shared_side.specs.Passing.{poll_in, WasHeard}
use Rattle.shared_side.specs.Shown.{Shown, AreKeys, BufferDaemon, TableDaemon, daemon_seen, daemon_shown}
use Rattle.shared_side.specs.declared.carried.Carried.{Carried}
use Rattle.shared_side.specs.declared.carried.CellKey.{CellKey}
use Rattle.shared_side.proofs.Taking.{taken_buffer, taken_table}

-- what the poll of an end tells
pub record Polled {V : Type 0} (fact : CellKey → Parcel (Carried V) → Type 0) (before after : DaemonSeen CellKey (Carried V)) (poll : PollOf (Parcel (Carried V))) : Type 0 where
  pub stays : (after.cell ≡ before.cell) × (after.key ≡ before.key) × (after.backs ≡ before.backs)
  pub counted : after.tries ≡ before.tries + 1
  pub cause : MatchPoll poll (λ _. IsOdd after.read) (λ word. (word ≡ after.read) × IsEven word)
  pub taken : MatchPoll poll (λ parcel. after.taken ≡ before.taken ++ parcel ∷ []) (λ _. after.taken ≡ before.taken)
  pub last : MatchPoll poll (λ parcel. last_of after.taken ≡ Some parcel) (λ _. Unit {0})
  pub holds : MatchPoll poll (λ _. after.holds ≡ true) (λ _. after.holds ≡ false)
  pub keeps : MatchPoll poll (λ parcel. fact before.key parcel) (λ _. Unit {0})

-- the batches taken, one more
more_taken : {V : Type 0} (entries : V → List Counted) (before after : List (Parcel (Carried V))) (p : Parcel (Carried V)) → after ≡ before ++ p ∷ []
    → map (batch_in entries) after ≡ map (batch_in entries) before ++ batch_in entries p ∷ []
more_taken entries before after p e = ap (λ ps. map (batch_in entries) ps) e ∙ map-append (batch_in entries) before (p ∷ [])

-- the daemon's half of the side after a poll of each cell
side0 : {P : CellKey → Parcel (Carried Contents) → Type 0} (x x' y : BufferDaemon) (z : TableDaemon) (r r' : RingSeen) (poll : PollOf (Parcel (Carried Contents)))
    → Polled P x x' poll → r'.rungs ≡ r.rungs → daemon_seen x' y z r' ≡ side_poll_buffer (daemon_seen x y z r) 0 x'.read
side0 x x' y z r r' poll h same =
    let steps : (daemon_seen x' y z r').steps ≡ (daemon_seen x y z r).steps + 1 = omega (arith, h.counted, ap (λ ns. length ns) same, h.stays.2) in
    λ i. record (daemon_seen x y z r) { first = record { handed = []; holds = false; tries = h.counted i; read = x'.read }; steps = steps i; buffer = (h.stays.1 i).made }

side1 : {P : CellKey → Parcel (Carried Contents) → Type 0} (x y y' : BufferDaemon) (z : TableDaemon) (r r' : RingSeen) (poll : PollOf (Parcel (Carried Contents)))
    → Polled P y y' poll → r'.rungs ≡ r.rungs → daemon_seen x y' z r' ≡ side_poll_buffer (daemon_seen x y z r) 1 y'.read
side1 x y y' z r r' poll h same =
    let steps : (daemon_seen x y' z r').steps ≡ (daemon_seen x y z r).steps + 1 = omega (arith, h.counted, ap (λ ns. length ns) same, h.stays.2) in
    λ i. record (daemon_seen x y z r) { second = record { handed = []; holds = false; tries = h.counted i; read = y'.read }; steps = steps i }

side2 : {P : CellKey → Parcel (Carried Table) → Type 0} (x y : BufferDaemon) (z z' : TableDaemon) (r r' : RingSeen) (poll : PollOf (Parcel (Carried Table)))
    → Polled P z z' poll → r'.rungs ≡ r.rungs → daemon_seen x y z' r' ≡ side_poll_table (daemon_seen x y z r) z'.read
side2 x y z z' r r' poll h same =
    let steps : (daemon_seen x y z' r').steps ≡ (daemon_seen x y z r).steps + 1 = omega (arith, h.counted, ap (λ ns. length ns) same, h.stays.2) in
    λ i. record (daemon_seen x y z r) { third = record { handed = []; holds = false; tries = h.counted i; read = z'.read }; steps = steps i; buckets = (h.stays.1 i).made }

-- the entries of a buffer
abbrev in_buffer : Contents → List Counted
in_buffer buffer = buffer.entries

polled0 : (x x' y : BufferDaemon) (z : TableDaemon) (r r' : RingSeen) (at : List ℕ) (poll : PollOf (Parcel (Carried Contents)))
    → AreKeys x.key y.key z.key r.bell → x.holds ≡ false → Polled IsKeptBuffer x x' poll → r'.rungs ≡ r.rungs → MatchPoll poll (WasHeard r.rungs) (λ _. Unit {0})
    → let s = daemon_shown x y z r at in let t = daemon_shown x' y z r' at in PollsBuffer 0 s.fixed s.seen s.far (poll_in poll) t.seen t.far
polled0 x x' y z r r' at (Got p) keys free h same met =
    let taken = more_taken in_buffer x.taken x'.taken p h.taken in
    let kept = taken_buffer x.key 0 (daemon_shown x y z r at).fixed r.rungs p refl keys.cells.0 refl h.keeps met in
    record {
      side = side0 x x' y z r r' (Got p) h same;
      told = tt;
      cause = record {
        odd = h.cause;
        far = λ i. record (daemon_shown x y z r at).far { first = record { taken = taken i; holds = h.holds i }; rungs = same i };
        note = kept.0;
        answers = kept.1;
        size = kept.2;
        last = tt;
      };
    }
polled0 x x' y z r r' at (Home w) keys free h same met = record {
  side = side0 x x' y z r r' (Home w) h same;
  told = tt;
  cause = record {
    word = h.cause.0;
    even = subst (λ (n : ℕ). IsEven n) h.cause.0 h.cause.1;
    far = λ i. record (daemon_shown x y z r at).far { first = record { taken = map (batch_in in_buffer) (h.taken i); holds = (h.holds ∙ sym free) i }; rungs = same i };
  };
}

polled1 : (x y y' : BufferDaemon) (z : TableDaemon) (r r' : RingSeen) (at : List ℕ) (poll : PollOf (Parcel (Carried Contents)))
    → AreKeys x.key y.key z.key r.bell → y.holds ≡ false → Polled IsKeptBuffer y y' poll → r'.rungs ≡ r.rungs → MatchPoll poll (WasHeard r.rungs) (λ _. Unit {0})
    → let s = daemon_shown x y z r at in let t = daemon_shown x y' z r' at in PollsBuffer 1 s.fixed s.seen s.far (poll_in poll) t.seen t.far
polled1 x y y' z r r' at (Got p) keys free h same met =
    let taken = more_taken in_buffer y.taken y'.taken p h.taken in
    let kept = taken_buffer y.key 1 (daemon_shown x y z r at).fixed r.rungs p keys.cpu.0 keys.cells.1 keys.samples.0 h.keeps met in
    record {
      side = side1 x y y' z r r' (Got p) h same;
      told = tt;
      cause = record {
        odd = h.cause;
        far = λ i. record (daemon_shown x y z r at).far { second = record { taken = taken i; holds = h.holds i }; rungs = same i };
        note = kept.0;
        answers = kept.1;
        size = kept.2 ∙ keys.made;
        last = tt;
      };
    }
polled1 x y y' z r r' at (Home w) keys free h same met = record {
  side = side1 x y y' z r r' (Home w) h same;
  told = tt;
  cause = record {
    word = h.cause.0;
    even = subst (λ (n : ℕ). IsEven n) h.cause.0 h.cause.1;
    far = λ i. record (daemon_shown x y z r at).far { second = record { taken = map (batch_in in_buffer) (h.taken i); holds = (h.holds ∙ sym free) i }; rungs = same i };
  };
}

polled2 : (x y : BufferDaemon) (z z' : TableDaemon) (r r' : RingSeen) (at : List ℕ) (poll : PollOf (Parcel (Carried Table)))
    → AreKeys x.key y.key z.key r.bell → z.holds ≡ false → Polled IsKeptTable z z' poll → r'.rungs ≡ r.rungs → MatchPoll poll (WasHeard r.rungs) (λ _. Unit {0})
    → let s = daemon_shown x y z r at in let t = daemon_shown x y z' r' at in PollsTable s.fixed s.seen s.far (poll_in poll) t.seen t.far
polled2 x y z z' r r' at (Got p) keys free h same met =
    let taken = more_taken entries_in z.taken z'.taken p h.taken in
    let kept = taken_table z.key LAST_CELL (daemon_shown x y z r at).fixed r.rungs p keys.cpu.1 keys.cells.2 keys.samples.1 h.keeps met in
    let turn = ap (λ last. turn_of_last last) h.last in
    record {
      side = side2 x y z z' r r' (Got p) h same;
      told = tt;
      cause = record {
        odd = h.cause;
        far = λ i. record (daemon_shown x y z r at).far { third = record { taken = taken i; holds = h.holds i }; turn = turn i; rungs = same i };
        note = kept.0;
        answers = kept.1;
        size = kept.2;
        last = tt;
        turn = tt;
      };
    }
polled2 x y z z' r r' at (Home w) keys free h same met = record {
  side = side2 x y z z' r r' (Home w) h same;
  told = tt;
  cause = record {
    word = h.cause.0;
    even = subst (λ (n : ℕ). IsEven n) h.cause.0 h.cause.1;
    far = λ i. record (daemon_shown x y z r at).far { third = record { taken = map (batch_in entries_in) (h.taken i); holds = (h.holds ∙ sym free) i }; turn = turn_of_last (last_of (h.taken i)); rungs = same i };
  };
}

-- the same of a buffer's number, of a view and of an answer that equal these
abbrev BufferIsPolled : Side → FarSide → ℕ → Shown → PollOf (Handed Contents) → Type 0
BufferIsPolled after left n s answer = (far_slot_of s.far n).holds ≡ false → PollsBuffer n s.fixed s.seen s.far answer after left

as_found : (P : ℕ → Shown → PollOf (Handed Contents) → Type 0) (m n : ℕ) (view now : Shown) (answer found : PollOf (Handed Contents)) → P m view answer → n ≡ m → view ≡ now → found ≡ answer → P n now found
as_found P m n view now answer found h en ev ea = subst (λ (k : ℕ). P k now found) (sym en) (subst (λ (s : Shown). P m s found) ev (subst (λ (a : PollOf (Handed Contents)). P m view a) (sym ea) h))

pub any_polled0 : (x x' y : BufferDaemon) (z : TableDaemon) (r r' : RingSeen) (at : List ℕ) (poll : PollOf (Parcel (Carried Contents))) (b : ℕ) (now : Shown) (answer : PollOf (Handed Contents))
    → b ≡ 0 → daemon_shown x y z r at ≡ now → answer ≡ poll_in poll → (far_slot_of now.far b).holds ≡ false
    → AreKeys x.key y.key z.key r.bell → Polled IsKeptBuffer x x' poll → r'.rungs ≡ r.rungs → MatchPoll poll (WasHeard r.rungs) (λ _. Unit {0})
    → let t = daemon_shown x' y z r' at in PollsBuffer b now.fixed now.seen now.far answer t.seen t.far
any_polled0 x x' y z r r' at poll b now answer number view same free keys h rungs met =
    let t = daemon_shown x' y z r' at in
    as_found (BufferIsPolled t.seen t.far) 0 b (daemon_shown x y z r at) now (poll_in poll) answer (λ held. polled0 x x' y z r r' at poll keys held h rungs met) number view same free

pub any_polled1 : (x y y' : BufferDaemon) (z : TableDaemon) (r r' : RingSeen) (at : List ℕ) (poll : PollOf (Parcel (Carried Contents))) (b : ℕ) (now : Shown) (answer : PollOf (Handed Contents))
    → b ≡ 1 → daemon_shown x y z r at ≡ now → answer ≡ poll_in poll → (far_slot_of now.far b).holds ≡ false
    → AreKeys x.key y.key z.key r.bell → Polled IsKeptBuffer y y' poll → r'.rungs ≡ r.rungs → MatchPoll poll (WasHeard r.rungs) (λ _. Unit {0})
    → let t = daemon_shown x y' z r' at in PollsBuffer b now.fixed now.seen now.far answer t.seen t.far
any_polled1 x y y' z r r' at poll b now answer number view same free keys h rungs met =
    let t = daemon_shown x y' z r' at in
    as_found (BufferIsPolled t.seen t.far) 1 b (daemon_shown x y z r at) now (poll_in poll) answer (λ held. polled1 x y y' z r r' at poll keys held h rungs met) number view same free

pub any_polled2 : (x y : BufferDaemon) (z z' : TableDaemon) (r r' : RingSeen) (at : List ℕ) (poll : PollOf (Parcel (Carried Table))) (now : Shown) (answer : PollOf (Handed Table))
    → daemon_shown x y z r at ≡ now → answer ≡ poll_in poll → now.far.third.holds ≡ false
    → AreKeys x.key y.key z.key r.bell → Polled IsKeptTable z z' poll → r'.rungs ≡ r.rungs → MatchPoll poll (WasHeard r.rungs) (λ _. Unit {0})
    → let t = daemon_shown x y z' r' at in PollsTable now.fixed now.seen now.far answer t.seen t.far
any_polled2 x y z z' r r' at poll now answer view same free keys h rungs met =
    let t = daemon_shown x y z' r' at in
    subst (λ (a : PollOf (Handed Table)). PollsTable now.fixed now.seen now.far a t.seen t.far) (sym same)
    (subst (λ (s : Shown). s.far.third.holds ≡ false → PollsTable s.fixed s.seen s.far (poll_in poll) t.seen t.far) view (λ held. polled2 x y z z' r r' at poll keys held h rungs met) free)

-- the buffer that is left
pub one_left : (b : ℕ) → b ≤ 1 → (b ≡ 0 → ⊥) → b ≡ 1
one_left zero l e = absurd (e refl)
one_left (suc zero) l e = refl
one_left (suc (suc b)) l e = absurd (omega (arith, l))
