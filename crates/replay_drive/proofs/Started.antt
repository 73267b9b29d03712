-- A replay before its first step stands where the run stands, and the store is as it was.
use Rattle.std.proofs.Common.{◌≡◌, refl, sym, ◌∙◌, ap, subst, ℕ, ◌+◌, List, [], ◌∷◌, length, arith, Some, Option}
use Rattle.std.specs.Prelude.{map, replicate}
use Rattle.std.specs.List.{range_with_len}
use Rattle.std.proofs.lemmas.List.FromFn.{length-map-range_with_len}
use Rattle.sample_key.specs.declared.losses.Pace.TheVariants.{Free}
use Rattle.trace_model.specs.Recording.{Recording}
use Rattle.driver_model.specs.Handover.{FarSide, new_far, none_given}
use Rattle.store_io.specs.Files.{Files}
use Rattle.database_state.specs.Heads.{Head}
use Rattle.lane_side.specs.Plain.{Plain}
use Rattle.cpu_lane.specs.Seen.{Seen}
use Rattle.run_model.specs.Daemon.{flush_before}
use Rattle.run_model.specs.Running.{Processor, new_processor, record_of}
use Rattle.run_laws.specs.Laws.{run_so_far}
use Rattle.dcpid_core.specs.Collection.{Collection, FitFrom, new_collection}
use Rattle.dcpid_core.specs.Counting.{Agree, Agrees, CountsAgree, fars_in}
use Rattle.dcpid_core.specs.Flushes.{no_flush}
use Rattle.trace_model.specs.declared.notices.Step.{Step}
use Rattle.replay_drive.specs.Players.{AllStart, ArePlayers, processor_of, processors_of}
use Rattle.replay_drive.specs.Standing.{StandsAt}
use Rattle.replay_drive.specs.Growing.{KeepsParts, KeepsStore}
use Rattle.replay_drive.specs.Replaying.{IsStored}
use Rattle.replay_drive.specs.declared.replays.Replay.{Replay}
use Rattle.replay_drive.proofs.Among.{as_many}
use Rattle.replay_drive.proofs.StepsTaken.{sides_count}
use Rattle.replay_drive.proofs.StoreKept.{store_starts}

-- the daemon's half of each is new
abbrev AreNew : List Plain → Type 0
AreNew [] = Unit {0}
AreNew (s ∷ ss) = (s.far ≡ new_far (Some none_given)) × AreNew ss

all_new : (trace : Recording) (ls : List Seen) (ss : List Plain) (ks : List ℕ) → length ls ≡ length ss → processors_of ls ss ≡ map (new_processor trace) ks → AreNew ss
all_new trace [] [] ks many is = tt
all_new trace [] (s ∷ ss) ks many is = absurd (omega (arith, many))
all_new trace (l ∷ ls) [] ks many is = tt
all_new trace (l ∷ ls) (s ∷ ss) [] many is = absurd cc
all_new trace (l ∷ ls) (s ∷ ss) (k ∷ ks) many is =
    let head : processor_of l s ≡ new_processor trace k = cc in
    let rest : processors_of ls ss ≡ map (new_processor trace) ks = cc in
    (ap (λ (p : Processor). p.far) head, all_new trace ls ss ks (omega (arith, many)) rest)

-- they fit the new daemon
all_fit : (trace : Recording) (begin : Head) (cpu : ℕ) (ls : List Seen) (ss : List Plain) → ArePlayers Free trace cpu ls ss → AreNew ss → FitFrom (new_collection trace Free begin) cpu ss
all_fit trace begin cpu [] [] all new = tt
all_fit trace begin cpu [] (s ∷ ss) all new = absurd all
all_fit trace begin cpu (l ∷ ls) [] all new = absurd all
all_fit trace begin cpu (l ∷ ls) (s ∷ ss) all new = (
  record {
    cpu = ap (λ x. x.cpu) all.0.fixed;
    samples = ap (λ x. x.samples) all.0.fixed;
    first = all.0.back.free0;
    second = all.0.back.free1;
    third = all.0.back.free2;
    rungs = ap (λ (f : FarSide). f.rungs) new.0;
  },
  all_fit trace begin (cpu + 1) ls ss all.1 new.1,
)

-- its counts agree with them
all_agree : CountsAgree → (ss : List Plain) → AreNew ss → Agree (flush_before 0) (replicate (length ss) no_flush) (fars_in ss)
all_agree counts [] new = tt
all_agree counts (s ∷ ss) new = (
  subst (λ (f : FarSide). Agrees (flush_before 0) no_flush f) (sym new.0) (counts.starts 0 (Some none_given)),
  all_agree counts ss new.1,
)

-- new players and a new daemon stand at the start of the run
stands_new : CountsAgree → (trace : Recording) (begin : Head) (lanes : List Seen) (sides : List Plain) → AllStart Free trace trace.cpus lanes sides
    → StandsAt trace (begin.runs + 1) begin.epoch lanes sides (new_collection trace Free begin) (run_so_far Free trace begin.epoch [])
stands_new counts trace begin lanes sides all =
    let many = as_many Free trace 0 lanes sides all.players in
    let new = all_new trace lanes sides (range_with_len 0 trace.cpus) many all.new in
    let count : length sides ≡ trace.cpus = sym (sides_count lanes sides many) ∙ ap length all.new ∙ length-map-range_with_len (new_processor trace) 0 trace.cpus in
    record {
      players = all.players;
      processors = sym all.new;
      trace_is = refl;
      pace_is = refl;
      run_is = refl;
      first_is = refl;
      state = refl;
      drains = λ fine. refl;
      fits = all_fit trace begin 0 lanes sides all.players new;
      counts = subst (λ (n : ℕ). Agree (flush_before 0) (replicate n no_flush) (fars_in sides)) count (all_agree counts sides new);
    }

pub starts : CountsAgree → (trace : Recording) (begin : Head) (lanes : List Seen) (sides : List Plain) (d : Collection) → AllStart Free trace trace.cpus lanes sides → d ≡ new_collection trace Free begin
    → StandsAt trace (begin.runs + 1) begin.epoch lanes sides d (run_so_far Free trace begin.epoch [])
starts counts trace begin lanes sides d all is =
    subst (λ (c : Collection). StandsAt trace (begin.runs + 1) begin.epoch lanes sides c (run_so_far Free trace begin.epoch [])) (sym is) (stands_new counts trace begin lanes sides all)

-- nothing was stored
parts_new : (trace : Recording) (begin : Head) → KeepsParts trace (new_collection trace Free begin)
parts_new trace begin = record { part = λ fine. refl; noted = λ fine. refl }

pub stored_new : {D : Type 0} (files : D → Option Files) (faults moment : D → ℕ) (left : D → ℕ → Files → Type 0) (trace : Recording) (begin : Head) (steps : List Step) (start : D) (replay : Replay)
    → replay.daemon ≡ new_collection trace Free begin → IsStored files faults moment left trace (begin.runs + 1) begin.epoch steps begin start start replay
stored_new files faults moment left trace begin steps start replay is = record {
  run_is = refl;
  first_is = refl;
  parts = subst (λ (c : Collection). KeepsParts trace c) (sym is) (parts_new trace begin);
  store = subst (λ (c : Collection). KeepsStore files faults moment left trace (record_of (begin.runs + 1) begin.epoch (run_so_far Free trace begin.epoch steps)) begin start start c.part c.head c.failure) (sym is)
      (store_starts files faults moment left trace _ begin start);
}
