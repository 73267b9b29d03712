-- One lane and its side as a processor of a run.
use Rattle.std.proofs.Common.{◌≡◌, sym, ◌∙◌, ap, ℕ, List, Some}
use Rattle.std.specs.Prelude.{slice_get, slice_set}
use Rattle.sample_key.specs.declared.losses.Pace.{Pace}
use Rattle.trace_model.specs.Recording.{Recording}
use Rattle.driver_model.specs.Driver.{Driver}
use Rattle.driver_model.specs.Sides.{Side}
use Rattle.driver_model.specs.Handover.{FarSide}
use Rattle.lane_side.specs.Plain.{Plain}
use Rattle.cpu_lane.specs.Seen.{Seen}
use Rattle.run_model.specs.Daemon.{Daemon}
use Rattle.run_model.specs.Running.{Processor, System, setup_of, turned, after_turn}
use Rattle.replay_drive.specs.Players.{ArePlayers, IsPlayer, processor_of, processors_of, system_of, turned_at}
use Rattle.replay_drive.proofs.Among.{processors_set, processor_there}

-- a processor of these parts
abbrev pub processor_with : Driver → Side → FarSide → Processor
processor_with d s f = record { driver = d; side = s; far = f }

-- processors with the same parts are the same
pub same_processor : {d e : Driver} {s t : Side} {f g : FarSide} → d ≡ e → s ≡ t → f ≡ g → processor_with d s f ≡ processor_with e t g
same_processor d s f = λ i. processor_with (d i) (s i) (f i)

-- a run of these processors
abbrev pub system_with : Daemon → List Processor → System
system_with daemon ps = record { processors = ps; daemon = daemon }

-- runs with the same processors are the same
pub with_processors : (daemon : Daemon) {ps qs : List Processor} → ps ≡ qs → system_with daemon ps ≡ system_with daemon qs
with_processors daemon e = λ i. system_with daemon (e i)

-- a turn of one player is that turn of the run
pub turned_system : (pace : Pace) (trace : Recording) (daemon : Daemon) (ls : List Seen) (ss : List Plain) (cpu : ℕ) (l m : Seen) (s t : Plain)
    → ArePlayers pace trace 0 ls ss → slice_get ls cpu ≡ Some l → slice_get ss cpu ≡ Some s → IsPlayer pace trace cpu l s
    → processor_of m t ≡ turned l.setup (processor_of l s)
    → system_of daemon (slice_set ls cpu m) (slice_set ss cpu t) ≡ turned_at pace trace (system_of daemon ls ss) cpu
turned_system pace trace daemon ls ss cpu l m s t all at on player turn =
    let there = processor_there ls ss cpu l s at on in
    let new : processor_of m t ≡ turned (setup_of pace trace cpu) (processor_of l s) = turn ∙ ap (λ x. turned x (processor_of l s)) player.setup in
    let set = processors_set pace trace 0 ls ss cpu m t all in
    with_processors daemon (set ∙ ap (slice_set (processors_of ls ss) cpu) new)
    ∙ ap {B = System} (after_turn pace trace (system_of daemon ls ss) cpu) (sym there)
