-- Events stand by their codes.
use Rattle.std.proofs.Common.{◌≡◌, Some, refl, sym, ap, ◌∙◌}
use Rattle.std.specs.declared.cmp.Ordering.{Ordering}
use Rattle.std.specs.Ordering.{nat_cmp}
use Rattle.sample_key.specs.declared.events.Event.{Event}
use Rattle.sample_key.specs.declared.events.Event.TheVariants.{Cycles, Imiss, Dmiss, Branchmp}
use Rattle.sample_key.specs.Events.{code_of, event_of_code}
use Rattle.sample_key.specs.contracts.events.EventOrd.TheImpl as event_ord

-- the order of events
abbrev pub event_cmp : Event → Event → Ordering
event_cmp = event_ord.cmp-value.it

-- it is that of their codes
pub by_codes : (v w : Event) → event_cmp v w ≡ nat_cmp (code_of v) (code_of w)
by_codes Cycles Cycles = refl
by_codes Cycles Imiss = refl
by_codes Cycles Dmiss = refl
by_codes Cycles Branchmp = refl
by_codes Imiss Cycles = refl
by_codes Imiss Imiss = refl
by_codes Imiss Dmiss = refl
by_codes Imiss Branchmp = refl
by_codes Dmiss Cycles = refl
by_codes Dmiss Imiss = refl
by_codes Dmiss Dmiss = refl
by_codes Dmiss Branchmp = refl
by_codes Branchmp Cycles = refl
by_codes Branchmp Imiss = refl
by_codes Branchmp Dmiss = refl
by_codes Branchmp Branchmp = refl

-- an event is that of its code
pub event_back : (v : Event) → event_of_code (code_of v) ≡ Some v
event_back Cycles = refl
event_back Imiss = refl
event_back Dmiss = refl
event_back Branchmp = refl

some_same : {v w : Event} → Some v ≡ Some w → v ≡ w
some_same h = cc

-- events of one code are the same
pub same_event : (v w : Event) → code_of v ≡ code_of w → v ≡ w
same_event v w h = some_same (sym (event_back v) ∙ (ap event_of_code h ∙ event_back w))
