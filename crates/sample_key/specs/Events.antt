-- The codes and the names of events.
use Rattle.std.specs.Prelude.{ℕ, ◌==◌, List, [], ◌∷◌, Option, codes}
use Rattle.std.specs.List.{find}
use Rattle.std.specs.Str.{bytes_eq}
use Rattle.sample_key.specs.declared.events.Event.{Event}
use Rattle.sample_key.specs.declared.events.Event.TheVariants.{Cycles, Imiss, Dmiss, Branchmp}

-- the code of an event
abbrev pub code_of : Event → ℕ
code_of Cycles = 0
code_of Imiss = 1
code_of Dmiss = 2
code_of Branchmp = 3

-- the name of an event in traces and listings
abbrev pub name_of : Event → List ℕ
name_of Cycles = codes "cycles"
name_of Imiss = codes "imiss"
name_of Dmiss = codes "dmiss"
name_of Branchmp = codes "branchmp"

-- all events, by their codes
abbrev pub all_events : List Event
all_events = Cycles ∷ Imiss ∷ Dmiss ∷ Branchmp ∷ []

-- the event of a code, if there is one
abbrev pub event_of_code : ℕ → Option Event
event_of_code code = find (λ e. code_of e == code) all_events

-- the event of a name, if there is one
abbrev pub event_named : List ℕ → Option Event
event_named name = find (λ e. bytes_eq name (name_of e)) all_events
