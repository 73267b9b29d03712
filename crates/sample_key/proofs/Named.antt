use Rattle.std.proofs.Common.{◌≡◌, ◌≢◌, ℕ, true, false, List}
use Rattle.sample_key.specs.declared.events.Event.{Event}
use Rattle.sample_key.specs.Events.{name_of}

-- where a name is that of an event, an answer that is there says rightly that it is there
pub some_named : (xs : List ℕ) (e : Event) → xs ≡ name_of e
    → (true ≡ false → (o : Event) → xs ≡ name_of o → ⊥) × (((o : Event) → xs ≢ name_of o) → true ≡ false)
some_named xs e h = ((λ t o g. cc), λ none. absurd (none e h))
