-- One step of a replay is one step of the run.
use Rattle.std.proofs.Common.{◌≡◌, refl, sym, ◌∙◌, ap, subst, ℕ, zero, suc, ◌+◌, ◌<◌, ◌≤◌, List, [], ◌∷◌, ◌++◌, length, map, min, arith, Bool, true, false, Some, None, Option, ◌⊎◌, inl, inr}
use Rattle.std.specs.Prelude.{slice_get, slice_set, unwrap_or}
use Rattle.std.proofs.lemmas.Option.{slice_get_within}
use Rattle.std.proofs.lemmas.List.{length-map}
use Rattle.sample_key.specs.Sent.{Sent}
use Rattle.sample_key.specs.declared.losses.Pace.TheVariants.{Free}
use Rattle.trace_model.specs.Recording.{Recording}
use Rattle.trace_model.specs.Streams.{records_in}
use Rattle.trace_model.specs.declared.notices.Record.{Record}
use Rattle.trace_model.specs.declared.notices.Step.{Step}
use Rattle.trace_model.specs.declared.notices.Step.TheVariants.{Lane, Poll, Advance}
use Rattle.driver_model.specs.Handover.{FarSide}
use Rattle.driver_model.specs.Sides.{Side}
use Rattle.database_state.specs.declared.faults.DbFault.{DbFault}
use Rattle.database_state.specs.declared.faults.DbFault.TheVariants.{Memory}
use Rattle.lane_side.specs.Fixed.{Fixed}
use Rattle.lane_side.specs.Plain.{Plain}
use Rattle.cpu_lane.specs.Seen.{Seen}
use Rattle.run_model.specs.Daemon.{Advancing, Daemon}
use Rattle.run_model.specs.Running.{Processor, System, acts, after_advance, after_poll, after_steps, after_turn, record_of, noted_if, poll_table, polled, waiting_at, words_of}
use Rattle.run_model.specs.declared.advances.Advanced.{Advanced}
use Rattle.run_laws.specs.Laws.{IsFit, run_so_far}
use Rattle.run_laws.proofs.Driven.{DriverLaws}
use Rattle.run_laws.proofs.Systems.{SystemHolds, polls_table, run_holds, waits_table}
use Rattle.dcpid_core.specs.Advancing.{Advances, advance_of, commits}
use Rattle.dcpid_core.specs.Counting.{AdvancesAsTheRun, CountsAgree}
use Rattle.dcpid_core.specs.Collection.{AreFitting, Collection, MayRing, rang, rang_if, views}
use Rattle.dcpid_core.specs.Polling.{CellPollsEvenly, Polls}
use Rattle.dcpid_core.specs.declared.polled.Polled.{Polled}
use Rattle.dcpid_core.specs.declared.polled.Polled.TheVariants.{Drained, Passed, Home}
use Rattle.std.specs.List.{AllByRecursion}
use Rattle.store_io.specs.Files.{Files}
use Rattle.replay_drive.specs.Players.{ArePlayers, half_of, processors_of, system_of, turned_at}
use Rattle.replay_drive.specs.Standing.{StandsAt, ends_run}
use Rattle.replay_drive.specs.Growing.{KeepsParts, KeepsStore}
use Rattle.database_state.specs.Heads.{Head}
use Rattle.replay_drive.specs.Replaying.{FaultRests, HasTaken, IsStored, LeavesStore}
use Rattle.replay_drive.specs.declared.replays.Replay.{Replay}
use Rattle.replay_drive.proofs.AdvanceStores.{KeepsAll, advance_stores, store_as}
use Rattle.replay_drive.proofs.StoreKept.{store_rests}
use Rattle.replay_drive.proofs.Among.{as_many, no_processor, player_here}
use Rattle.replay_drive.proofs.Polling.{TakenBy}
use Rattle.replay_drive.proofs.PollStands.{poll_stands}
use Rattle.replay_drive.proofs.TurnStands.{all_from, no_step, one_step, turn_stands}
use Rattle.replay_drive.proofs.AdvanceStands.{advance_stands, kind_finished, outcome_went, runs_advance}
use Rattle.replay_drive.proofs.PartsKept.{parts_taken}

-- what a replay is after a step
pub record Taken (trace : Recording) (run first_epoch : ℕ) (steps : List Step) (lanes : List Seen) (sides : List Plain) (d : Collection) (finished : Bool) : Type 0 where
  pub stands : StandsAt trace run first_epoch lanes sides d (run_so_far Free trace first_epoch steps)
  pub finished_is : finished ≡ (run_so_far Free trace first_epoch steps).daemon.finished

-- from the system after the step
from_acts : (trace : Recording) (run first_epoch : ℕ) (steps : List Step) (step : Step) (lanes : List Seen) (sides : List Plain) (d : Collection) (finished : Bool)
    → (run_so_far Free trace first_epoch steps).daemon.finished ≡ false
    → StandsAt trace run first_epoch lanes sides d (acts Free trace (run_so_far Free trace first_epoch steps) step)
    → finished ≡ (acts Free trace (run_so_far Free trace first_epoch steps) step).daemon.finished
    → Taken trace run first_epoch (steps ++ step ∷ []) lanes sides d finished
from_acts trace run first_epoch steps step lanes sides d finished going stands is =
    let next = one_step trace first_epoch steps step going in
    record {
      stands = subst (λ (s : System). StandsAt trace run first_epoch lanes sides d s) (sym next) stands;
      finished_is = is ∙ ap (λ (s : System). s.daemon.finished) (sym next);
    }

-- ---- nothing

pub taken_none : (trace : Recording) (run first_epoch : ℕ) (steps : List Step) (step : Step) (lanes : List Seen) (sides : List Plain) (d : Collection) (finished : Bool)
    → finished ≡ (run_so_far Free trace first_epoch steps).daemon.finished → finished ≡ true
    → StandsAt trace run first_epoch lanes sides d (run_so_far Free trace first_epoch steps) → Taken trace run first_epoch (steps ++ step ∷ []) lanes sides d finished
taken_none trace run first_epoch steps step lanes sides d finished is done stands =
    let same = no_step trace first_epoch steps step (sym is ∙ done) in
    record {
      stands = subst (λ (s : System). StandsAt trace run first_epoch lanes sides d s) (sym same) stands;
      finished_is = is ∙ ap (λ (s : System). s.daemon.finished) (sym same);
    }

-- ---- a turn

turn_finished : (trace : Recording) (system : System) (cpu : ℕ) (found : Option Processor) → (after_turn Free trace system cpu found).daemon.finished ≡ system.daemon.finished
turn_finished trace system cpu None = refl
turn_finished trace system cpu (Some p) = refl

pub taken_turn : (trace : Recording) (run first_epoch : ℕ) (steps : List Step) (lanes old_lanes new_lanes : List Seen) (sides old_sides new_sides : List Plain) (d : Collection) (cpu : ℕ) (finished : Bool)
    → old_lanes ≡ lanes → old_sides ≡ sides
    → finished ≡ (run_so_far Free trace first_epoch steps).daemon.finished → finished ≡ false
    → StandsAt trace run first_epoch lanes sides d (run_so_far Free trace first_epoch steps)
    → ((daemon : Daemon) → ArePlayers Free trace 0 old_lanes old_sides → system_of daemon new_lanes new_sides ≡ turned_at Free trace (system_of daemon old_lanes old_sides) cpu)
    → map half_of new_sides ≡ map half_of old_sides
    → (ArePlayers Free trace 0 old_lanes old_sides → ArePlayers Free trace 0 new_lanes new_sides)
    → Taken trace run first_epoch (steps ++ Lane cpu ∷ []) new_lanes new_sides d finished
taken_turn trace run first_epoch steps lanes old_lanes new_lanes sides old_sides new_sides d cpu finished ls ss is going stands turned halves players =
    let now = run_so_far Free trace first_epoch steps in
    let all : ArePlayers Free trace 0 old_lanes old_sides =
    subst (λ (xs : List Seen). ArePlayers Free trace 0 xs old_sides) (sym ls) (subst (λ (ys : List Plain). ArePlayers Free trace 0 lanes ys) (sym ss) stands.players) in
    let turn = turned now.daemon all ∙ ap (λ (xs : List Seen). turned_at Free trace (system_of now.daemon xs old_sides) cpu) ls
    ∙ ap (λ (ys : List Plain). turned_at Free trace (system_of now.daemon lanes ys) cpu) ss in
    let half = halves ∙ ap (map half_of) ss in
    from_acts trace run first_epoch steps (Lane cpu) new_lanes new_sides d finished (sym is ∙ going)
    (turn_stands trace run first_epoch lanes new_lanes sides new_sides d now cpu stands (players all) turn half)
    (is ∙ sym (turn_finished trace now cpu (slice_get now.processors cpu)))

-- ---- a poll

noted_finished : (records : List Record) (daemon : Daemon) (found : Option Sent) → (noted_if records daemon found).finished ≡ daemon.finished
noted_finished records daemon None = refl
noted_finished records daemon (Some batch) = refl

poll_finished : (trace : Recording) (system : System) (cpu cell : ℕ) (found : Option Processor) → (after_poll trace system cpu cell found).daemon.finished ≡ system.daemon.finished
poll_finished trace system cpu cell None = refl
poll_finished trace system cpu cell (Some p) = noted_finished (records_in trace) system.daemon (waiting_at p cell)

-- a cell of more than 2 is the table
poll_table_as : (trace : Recording) (system : System) (cpu cell : ℕ) (found : Option Processor) → after_poll trace system cpu 2 found ≡ after_poll trace system cpu (suc (suc cell)) found
poll_table_as trace system cpu cell None = refl
poll_table_as trace system cpu cell (Some p) =
    let waits : waiting_at p 2 ≡ waiting_at p (suc (suc cell)) = waits_table p 0 ∙ sym (waits_table p cell) in
    let polls : polled p 2 ≡ polled p (suc (suc cell)) =
    polls_table p 0 ∙ ap (λ (z : Option Sent). poll_table p (words_of p).third z) waits ∙ sym (polls_table p cell) in
    ap (λ (q : Processor). polled_with q (waiting_at p 2)) polls ∙ ap (λ (z : Option Sent). polled_with (polled p (suc (suc cell))) z) waits
  where
    polled_with : Processor → Option Sent → System
    polled_with q z = record { processors = slice_set system.processors cpu q; daemon = noted_if (records_in trace) system.daemon z }

same_cell : (trace : Recording) (system : System) (cpu cell m : ℕ) (found : Option Processor) → m ≡ min cell 2 → after_poll trace system cpu m found ≡ after_poll trace system cpu cell found
same_cell trace system cpu zero m found is =
    let same : m ≡ 0 = omega (arith, is) in ap (λ n. after_poll trace system cpu n found) same
same_cell trace system cpu (suc zero) m found is =
    let same : m ≡ 1 = omega (arith, is) in ap (λ n. after_poll trace system cpu n found) same
same_cell trace system cpu (suc (suc cell)) m found is =
    let two : m ≡ 2 = omega (arith, is) in
    ap (λ n. after_poll trace system cpu n found) two ∙ poll_table_as trace system cpu cell found

lane_there : (trace : Recording) (cpu : ℕ) (ls : List Seen) (ss : List Plain) (k : ℕ) → ArePlayers Free trace cpu ls ss → k < length ss → (l : Seen) × (slice_get ls k ≡ Some l)
lane_there trace cpu [] [] k all within = absurd (omega (arith, within))
lane_there trace cpu [] (s ∷ ss) k all within = absurd all
lane_there trace cpu (l ∷ ls) [] k all within = absurd all
lane_there trace cpu (l ∷ ls) (s ∷ ss) zero all within = (l, refl)
lane_there trace cpu (l ∷ ls) (s ∷ ss) (suc k) all within = lane_there trace (cpu + 1) ls ss k all.1 (omega (arith, within))

pub taken_poll : DriverLaws → CountsAgree → (trace : Recording) (run first_epoch : ℕ) (steps : List Step) (lanes : List Seen) (sides : List Plain) (d e : Collection) (cpu cell m : ℕ) (s n : Plain) (answer : Polled) (finished : Bool)
    → IsFit trace → m ≡ min cell 2 → finished ≡ (run_so_far Free trace first_epoch steps).daemon.finished → finished ≡ false
    → StandsAt trace run first_epoch lanes sides d (run_so_far Free trace first_epoch steps)
    → cpu < length sides → slice_get sides cpu ≡ Some s → n.fixed ≡ s.fixed → Polls cpu m s.fixed d s.seen s.far answer e n.seen n.far
    → Taken trace run first_epoch (steps ++ Poll cpu cell ∷ []) lanes (slice_set sides cpu n) e finished
taken_poll laws counts trace run first_epoch steps lanes sides d e cpu cell m s n answer finished fit is same going stands within on fixed polls =
    let now = run_so_far Free trace first_epoch steps in
    let lane = lane_there trace 0 lanes sides cpu stands.players within in
    let next = one_step trace first_epoch steps (Poll cpu cell) (sym same ∙ going) in
    let cells = same_cell trace now cpu cell m (slice_get now.processors cpu) is in
    let holds = run_holds laws Free trace first_epoch steps fit in
    let held : SystemHolds Free trace first_epoch (after_poll trace now cpu m (slice_get now.processors cpu)) =
    subst (λ (x : System). SystemHolds Free trace first_epoch x) (next ∙ sym cells) (run_holds laws Free trace first_epoch (steps ++ Poll cpu cell ∷ []) fit) in
    let low : m ≤ 2 = omega (arith, is) in
    from_acts trace run first_epoch steps (Poll cpu cell) lanes (slice_set sides cpu n) e finished (sym same ∙ going)
    (subst (λ (x : System). StandsAt trace run first_epoch lanes (slice_set sides cpu n) e x) cells
    (poll_stands counts trace run first_epoch lanes sides d e now cpu m lane.0 s n answer low stands holds held lane.1 on fixed polls))
    (same ∙ sym (poll_finished trace now cpu cell (slice_get now.processors cpu)))

-- no such processor
pub taken_past : (trace : Recording) (run first_epoch : ℕ) (steps : List Step) (lanes : List Seen) (sides : List Plain) (d : Collection) (cpu cell : ℕ) (finished : Bool)
    → finished ≡ (run_so_far Free trace first_epoch steps).daemon.finished → finished ≡ false
    → StandsAt trace run first_epoch lanes sides d (run_so_far Free trace first_epoch steps) → length sides ≤ cpu
    → Taken trace run first_epoch (steps ++ Poll cpu cell ∷ []) lanes sides d finished
taken_past trace run first_epoch steps lanes sides d cpu cell finished same going stands past =
    let now = run_so_far Free trace first_epoch steps in
    let many = as_many Free trace 0 lanes sides stands.players in
    let none : slice_get now.processors cpu ≡ None = ap (λ (ps : List Processor). slice_get ps cpu) stands.processors ∙ no_processor lanes sides cpu (omega (arith, many, past)) in
    let is : after_poll trace now cpu cell (slice_get now.processors cpu) ≡ now = ap (after_poll trace now cpu cell) none in
    from_acts trace run first_epoch steps (Poll cpu cell) lanes sides d finished (sym same ∙ going)
    (subst (λ (x : System). StandsAt trace run first_epoch lanes sides d x) (sym is) stands) (same ∙ ap (λ (x : System). x.daemon.finished) (sym is))

-- what a poll takes
polls_take : (cpu cell : ℕ) (fixed : Fixed) (d e : Collection) (v w : Side) (f g : FarSide) (answer : Polled) → cell ≤ 2 → Polls cpu cell fixed d v f answer e w g → (e ≡ d) ⊎ ((batch : Sent) × TakenBy cpu cell batch d e)
polls_take cpu zero fixed d e v w f g Drained le h = inr (h.0, inl h.2)
polls_take cpu zero fixed d e v w f g Passed le h = inr (h.0, inr h.2)
polls_take cpu zero fixed d e v w f g (Home word) le h = inl h.1
polls_take cpu (suc zero) fixed d e v w f g Drained le h = inr (h.0, inl h.2)
polls_take cpu (suc zero) fixed d e v w f g Passed le h = inr (h.0, inr h.2)
polls_take cpu (suc zero) fixed d e v w f g (Home word) le h = inl h.1
polls_take cpu (suc (suc zero)) fixed d e v w f g Drained le h = inr (h.0, inl h.2)
polls_take cpu (suc (suc zero)) fixed d e v w f g Passed le h = inr (h.0, inr h.2)
polls_take cpu (suc (suc zero)) fixed d e v w f g (Home word) le h = inl h.1
polls_take cpu (suc (suc (suc cell))) fixed d e v w f g answer le h = absurd (omega (arith, le))

-- a fault that is kept stays
passed_rests : (o p : Option DbFault) → p ≡ Some (unwrap_or o Memory) → FaultRests o p
passed_rests (Some fault) p is = is
passed_rests None p is = inr is

-- and none begins
same_rests : (o p : Option DbFault) → p ≡ o → FaultRests o p
same_rests (Some fault) p is = is
same_rests None p is = inl is

taken_leaves : (trace : Recording) (d e : Collection) (cpu cell : ℕ) (batch : Sent) → d.trace ≡ trace → TakenBy cpu cell batch d e → LeavesStore trace d e
taken_leaves trace d e cpu cell batch is (inl taken) = record {
  part = ap (λ (c : Collection). c.part) taken.1;
  head = ap (λ (c : Collection). c.head) taken.1;
  fault = same_rests d.failure e.failure (ap (λ (c : Collection). c.failure) taken.1);
  parts = λ keeps. parts_taken trace d e cpu cell batch is (inl taken) keeps;
}
taken_leaves trace d e cpu cell batch is (inr taken) = record {
  part = ap (λ (c : Collection). c.part) taken;
  head = ap (λ (c : Collection). c.head) taken;
  fault = passed_rests d.failure e.failure (ap (λ (c : Collection). c.failure) taken);
  parts = λ keeps. parts_taken trace d e cpu cell batch is (inr taken) keeps;
}

pub poll_leaves : (trace : Recording) (cpu cell m : ℕ) (fixed : Fixed) (d e : Collection) (v w : Side) (f g : FarSide) (answer : Polled) → d.trace ≡ trace → m ≡ min cell 2 → Polls cpu m fixed d v f answer e w g → LeavesStore trace d e
poll_leaves trace cpu cell m fixed d e v w f g answer is low polls =
    elim (polls_take cpu m fixed d e v w f g answer (omega (arith, low)) polls) as (λ z. LeavesStore trace d e) [
      | inl same ↦ record {
        part = ap (λ (c : Collection). c.part) same;
        head = ap (λ (c : Collection). c.head) same;
        fault = same_rests d.failure e.failure (ap (λ (c : Collection). c.failure) same);
        parts = λ keeps. subst (λ (c : Collection). KeepsParts trace c) (sym same) keeps;
      }
      | inr (batch, taken) ↦ taken_leaves trace d e cpu m batch is taken
    ]

-- a plain side is polled and rung as one likes
pub evenly : (cell : ℕ) (fixed : Fixed) (side : Side) → fixed.even ≡ false → CellPollsEvenly cell fixed side
evenly zero fixed side odd = λ e. absurd cc
evenly (suc zero) fixed side odd = λ e. absurd cc
evenly (suc (suc cell)) fixed side odd = λ e. absurd cc

-- ---- an advance

pub sides_count : (ls : List Seen) (ss : List Plain) → length ls ≡ length ss → length (processors_of ls ss) ≡ length ss
sides_count [] [] same = refl
sides_count [] (s ∷ ss) same = absurd (omega (arith, same))
sides_count (l ∷ ls) [] same = refl
sides_count (l ∷ ls) (s ∷ ss) same = ap suc (sides_count ls ss (omega (arith, same)))

-- there is a side for each processor of the trace
pub as_many_sides : DriverLaws → (trace : Recording) (run first_epoch : ℕ) (steps : List Step) (lanes : List Seen) (sides : List Plain) (d : Collection) → IsFit trace
    → StandsAt trace run first_epoch lanes sides d (run_so_far Free trace first_epoch steps) → length sides ≡ d.trace.cpus
as_many_sides laws trace run first_epoch steps lanes sides d fit stands =
    let holds = run_holds laws Free trace first_epoch steps fit in
    sym (sides_count lanes sides (as_many Free trace 0 lanes sides stands.players)) ∙ ap length (sym stands.processors) ∙ holds.count
    ∙ ap (λ (t : Recording). t.cpus) (sym stands.trace_is)

may_ring : (trace : Recording) (cpu : ℕ) (ls : List Seen) (ss : List Plain) → ArePlayers Free trace cpu ls ss → AllByRecursion MayRing ss
may_ring trace cpu [] [] all = tt
may_ring trace cpu [] (s ∷ ss) all = absurd all
may_ring trace cpu (l ∷ ls) [] all = absurd all
may_ring trace cpu (l ∷ ls) (s ∷ ss) all = (
  (λ e. let odd : s.fixed.even ≡ false = ap (λ (x : Fixed). x.even) all.0.fixed in absurd cc),
  may_ring trace (cpu + 1) ls ss all.1,
)

-- the sides as the daemon's contract sees them
pub views_are : (ss : List Plain) → views (λ (s : Plain). s.seen) (λ (s : Plain). s.far) (λ (s : Plain). s.fixed) ss ≡ ss
views_are [] = refl
views_are (s ∷ ss) = ap {B = List Plain} (λ z. s ∷ z) (views_are ss)

pub fitting : DriverLaws → (trace : Recording) (run first_epoch : ℕ) (steps : List Step) (lanes : List Seen) (sides : List Plain) (d : Collection) → IsFit trace
    → StandsAt trace run first_epoch lanes sides d (run_so_far Free trace first_epoch steps) → AreFitting d sides
fitting laws trace run first_epoch steps lanes sides d fit stands = record {
  count = as_many_sides laws trace run first_epoch steps lanes sides d fit stands;
  each = stands.fits;
  even = may_ring trace 0 lanes sides stands.players;
}

pub taken_advance : {D : Type 0} (files : D → Option Files) (faults moment : D → ℕ) (left : D → ℕ → Files → Type 0) → DriverLaws → AdvancesAsTheRun → CountsAgree
    → (trace : Recording) (run first_epoch : ℕ) (steps : List Step) (lanes : List Seen) (sides new_sides : List Plain) (d e : Collection) (store after : D) (answer : Advanced) (was : Bool)
    → IsFit trace → was ≡ (run_so_far Free trace first_epoch steps).daemon.finished → was ≡ false
    → StandsAt trace run first_epoch lanes sides d (run_so_far Free trace first_epoch steps)
    → Advances files faults moment left (advance_of d) d store answer e after → new_sides ≡ rang_if (advance_of d).ring sides
    → Taken trace run first_epoch (steps ++ Advance ∷ []) lanes new_sides e (ends_run answer)
taken_advance files faults moment left laws law counts trace run first_epoch steps lanes sides new_sides d e store after answer was fit same going stands h rings =
    let now = run_so_far Free trace first_epoch steps in
    let next = one_step trace first_epoch steps Advance (sym same ∙ going) in
    let holds = run_holds laws Free trace first_epoch steps fit in
    let held : SystemHolds Free trace first_epoch (after_advance Free trace now) =
    subst (λ (x : System). SystemHolds Free trace first_epoch x) next (run_holds laws Free trace first_epoch (steps ++ Advance ∷ []) fit) in
    let went = outcome_went files faults moment left d e (advance_of d) store after (commits d (advance_of d).answer) refl h.outcome in
    let step = runs_advance law trace run first_epoch lanes sides d now stands holds in
    let mine : d.state.finished ≡ false = ap (λ (z : Daemon). z.finished) stands.state ∙ sym same ∙ going in
    let ends : (advance_of d).daemon.finished ≡ ends_run (advance_of d).answer = kind_finished d.pace (records_in d.trace) d.state (advance_of d) mine step.kind in
    from_acts trace run first_epoch steps Advance lanes new_sides e (ends_run answer) (sym same ∙ going)
    (advance_stands law counts trace run first_epoch lanes sides new_sides d e now stands holds held went rings)
    (ap ends_run h.answer_is ∙ sym ends ∙ ap (λ (a : Advancing). a.daemon.finished) (sym step.its))

-- a plain side need not be polled evenly
pub side_even : (trace : Recording) (ls : List Seen) (ss : List Plain) (cpu : ℕ) (s : Plain) → ArePlayers Free trace 0 ls ss → slice_get ss cpu ≡ Some s → s.fixed.even ≡ false
side_even trace ls ss cpu s all on =
    let lane = lane_there trace 0 ls ss cpu all (slice_get_within ss cpu s on) in
    let player = player_here Free trace ls ss cpu lane.0 s all lane.1 on in
    ap (λ (x : Fixed). x.even) player.fixed

-- the sides after an advance of this daemon
abbrev pub rang_by : Collection → List Plain → List Plain
rang_by d sides = rang_if (advance_of d).ring sides

-- the value that it rings
abbrev pub ring_by : Collection → Option ℕ
ring_by d = (advance_of d).ring

-- the store after an advance
pub stored_advance : {D : Type 0} (files : D → Option Files) (faults moment : D → ℕ) (left : D → ℕ → Files → Type 0) → DriverLaws → AdvancesAsTheRun
    → (trace : Recording) (run first_epoch : ℕ) (steps rest : List Step) (begin : Head) (start store after : D) (answer : Advanced) (before now : Replay)
    → HasTaken trace run first_epoch steps before → before.finished ≡ false
    → IsStored files faults moment left trace run first_epoch (steps ++ Advance ∷ rest) begin start store before
    → Advances files faults moment left (advance_of before.daemon) before.daemon store answer now.daemon after
    → IsStored files faults moment left trace run first_epoch (steps ++ Advance ∷ rest) begin start after now
stored_advance {D = D} files faults moment left laws law trace run first_epoch steps rest begin start store after answer before now taken going stored h =
    let sys = run_so_far Free trace first_epoch steps in
    let idle : sys.daemon.finished ≡ false = sym taken.finished ∙ going in
    let whole : run_so_far Free trace first_epoch (steps ++ Advance ∷ rest) ≡ after_steps Free trace (after_advance Free trace sys) rest = all_from trace first_epoch steps rest Advance idle in
    let next = one_step trace first_epoch steps Advance idle in
    let holds = run_holds laws Free trace first_epoch steps taken.fit in
    let held : SystemHolds Free trace first_epoch (after_advance Free trace sys) =
    subst (λ (x : System). SystemHolds Free trace first_epoch x) next (run_holds laws Free trace first_epoch (steps ++ Advance ∷ []) taken.fit) in
    let keeps : KeepsAll files faults moment left trace (record_of run first_epoch (after_steps Free trace (after_advance Free trace sys) rest)) begin start store before.daemon = record {
      parts = stored.parts;
      store = subst (λ (s : System). KeepsStore files faults moment left trace (record_of run first_epoch s) begin start store before.daemon.part before.daemon.head before.daemon.failure) whole stored.store;
    } in
    let kept = advance_stores files faults moment left law trace run first_epoch before.lanes.items before.sides.items before.daemon now.daemon sys rest begin start store after answer
    taken.stands holds held stored.run_is stored.first_is h keeps in
    record {
      run_is = stored.run_is;
      first_is = stored.first_is;
      parts = kept.parts;
      store = subst (λ (s : System). KeepsStore files faults moment left trace (record_of run first_epoch s) begin start after now.daemon.part now.daemon.head now.daemon.failure) (sym whole) kept.store;
    }

-- the store after a step that makes no call of it
pub stored_rests : {D : Type 0} (files : D → Option Files) (faults moment : D → ℕ) (left : D → ℕ → Files → Type 0) → (trace : Recording) (run first_epoch : ℕ) (all : List Step) (begin : Head) (start store : D) (before now : Replay)
    → IsStored files faults moment left trace run first_epoch all begin start store before → LeavesStore trace before.daemon now.daemon
    → IsStored files faults moment left trace run first_epoch all begin start store now
stored_rests files faults moment left trace run first_epoch all begin start store before now stored leaves = record {
  run_is = stored.run_is;
  first_is = stored.first_is;
  parts = leaves.parts stored.parts;
  store = store_as files faults moment left trace _ begin start store before.daemon.part now.daemon.part before.daemon.head now.daemon.head now.daemon.failure now.daemon.failure (sym leaves.part) (sym leaves.head) refl
      (store_rests files faults moment left trace _ begin start store before.daemon.part before.daemon.head before.daemon.failure now.daemon.failure leaves.fault stored.store);
}

-- sides with the same halves, and sides that were rung, are as many
pub halves_length : (ns ss : List Plain) → map half_of ns ≡ map half_of ss → length ns ≡ length ss
halves_length ns ss same = sym (length-map ns half_of) ∙ ap length same ∙ length-map ss half_of

pub rang_length : (ring : Option ℕ) (ss : List Plain) → length (rang_if ring ss) ≡ length ss
rang_length None ss = refl
rang_length (Some value) ss = length-map ss (rang value)
