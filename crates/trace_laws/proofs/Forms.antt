-- The forms of a part of a trace stand in that part.
use Rattle.std.proofs.Common.{◌≡◌, ℕ, ◌&&◌, Bool, true, false, if◌then◌else◌, List, [], ◌∷◌, refl, Option, Some, None, codes}
use Rattle.std.specs.Option.{option_map}
use Rattle.std.specs.Str.{bytes_eq}
use Rattle.sample_key.specs.declared.events.Event.{Event}
use Rattle.sample_key.specs.Events.{event_named}
use Rattle.trace_model.specs.Said.{Said, ShortHeader, LongHeader, Sampled, Scanned, Loaded, Unloaded, Executed, Exited, KernelMapped, Drained, Merged, EpochBegun, Ended, Turned, Polled, Advanced, values_of}
use Rattle.trace_model.specs.Grammar.{Stage, AtHeader, AtBody, AtSchedule, header_of, body_of, step_of, form_at}
use Rattle.trace_laws.proofs.Lines.{is_short}
use Rattle.trace_laws.proofs.Staged.{stage_of}

-- a form, where there is one, stands in this part
abbrev pub IsFormOf : Stage → Option (Said (List ℕ)) → Type 0
IsFormOf stage None = Unit {0}
IsFormOf stage (Some raw) = (stage_of (values_of raw) ≡ stage) × (is_short (values_of raw) ≡ false)

form_if : (stage : Stage) (b : Bool) (raw : Said (List ℕ)) (rest : Option (Said (List ℕ))) → IsFormOf stage (Some raw) → IsFormOf stage rest → IsFormOf stage (if b then Some raw else rest)
form_if stage true raw rest h k = h
form_if stage false raw rest h k = k

form_either : (stage : Stage) (b : Bool) (form rest : Option (Said (List ℕ))) → IsFormOf stage form → IsFormOf stage rest → IsFormOf stage (if b then form else rest)
form_either stage true form rest h k = h
form_either stage false form rest h k = k

sampled : (a b c : List ℕ) (event : Option Event) → IsFormOf AtBody (option_map (Sampled a b c) event)
sampled a b c None = tt
sampled a b c (Some event) = (refl, refl)

header_is : (fields : List (List ℕ)) → IsFormOf AtHeader (header_of fields)
header_is [] = tt
header_is (a ∷ []) = tt
header_is (a ∷ b ∷ []) = tt
header_is (a ∷ b ∷ c ∷ []) = tt
header_is (a ∷ b ∷ c ∷ cpus ∷ []) = form_if AtHeader (bytes_eq a (codes "dcpi-trace") && bytes_eq b (codes "1") && bytes_eq c (codes "cpus")) (ShortHeader cpus) None (refl, refl) tt
header_is (a ∷ b ∷ c ∷ cpus ∷ d ∷ []) = tt
header_is (a ∷ b ∷ c ∷ cpus ∷ d ∷ buckets ∷ []) = tt
header_is (a ∷ b ∷ c ∷ cpus ∷ d ∷ buckets ∷ e ∷ []) = tt
header_is (a ∷ b ∷ c ∷ cpus ∷ d ∷ buckets ∷ e ∷ buffer ∷ []) =
    form_if AtHeader (bytes_eq a (codes "dcpi-trace") && bytes_eq b (codes "1") && bytes_eq c (codes "cpus") && bytes_eq d (codes "buckets") && bytes_eq e (codes "buffer")) (LongHeader cpus buckets buffer) None (refl, refl) tt
header_is (a ∷ b ∷ c ∷ cpus ∷ d ∷ buckets ∷ e ∷ buffer ∷ f ∷ more) = tt

body_is : (fields : List (List ℕ)) → IsFormOf AtBody (body_of fields)
body_is [] = tt
body_is (word ∷ []) =
    form_if AtBody (bytes_eq word (codes "drain")) Drained _ (refl, refl)
    (form_if AtBody (bytes_eq word (codes "merge")) Merged _ (refl, refl)
    (form_if AtBody (bytes_eq word (codes "epoch")) EpochBegun _ (refl, refl)
    (form_if AtBody (bytes_eq word (codes "end")) Ended None (refl, refl) tt)))
body_is (word ∷ a ∷ []) = form_if AtBody (bytes_eq word (codes "exit")) (Exited a) None (refl, refl) tt
body_is (word ∷ a ∷ b ∷ []) = tt
body_is (word ∷ a ∷ b ∷ c ∷ []) =
    form_if AtBody (bytes_eq word (codes "unload")) (Unloaded a b c) _ (refl, refl)
    (form_if AtBody (bytes_eq word (codes "kernel")) (KernelMapped a b c) None (refl, refl) tt)
body_is (word ∷ a ∷ b ∷ c ∷ d ∷ []) =
    form_either AtBody (bytes_eq word (codes "s")) (option_map (Sampled a b c) (event_named d)) _ (sampled a b c (event_named d))
    (form_if AtBody (bytes_eq word (codes "load")) (Loaded a b c d) _ (refl, refl)
    (form_if AtBody (bytes_eq word (codes "scan")) (Scanned a b c d) _ (refl, refl)
    (form_if AtBody (bytes_eq word (codes "exec")) (Executed a b c d) None (refl, refl) tt)))
body_is (word ∷ a ∷ b ∷ c ∷ d ∷ e ∷ more) = tt

step_is : (fields : List (List ℕ)) → IsFormOf AtSchedule (step_of fields)
step_is [] = tt
step_is (word ∷ []) = form_if AtSchedule (bytes_eq word (codes "a")) Advanced None (refl, refl) tt
step_is (word ∷ a ∷ []) = form_if AtSchedule (bytes_eq word (codes "l")) (Turned a) None (refl, refl) tt
step_is (word ∷ a ∷ b ∷ []) = form_if AtSchedule (bytes_eq word (codes "d")) (Polled a b) None (refl, refl) tt
step_is (word ∷ a ∷ b ∷ c ∷ more) = tt

pub form_is : (stage : Stage) (fields : List (List ℕ)) → IsFormOf stage (form_at stage fields)
form_is AtHeader fields = header_is fields
form_is AtBody fields = body_is fields
form_is AtSchedule fields = step_is fields
