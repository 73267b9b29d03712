-- What one drain more adds, and nothing gathered.
use Rattle.std.proofs.Common.{◌≡◌, ℕ, ◌+◌, Bool, true, false, List, [], ◌∷◌, ◌++◌, Option, None, Some, refl, sym, ◌∙◌, arith}
use Rattle.std.specs.Prelude.{if◌then◌else◌, ◌==◌}
use Rattle.sample_key.specs.Sent.{Sent}
use Rattle.sample_key.specs.declared.events.Event.{Event}
use Rattle.sample_key.specs.Events.{event_of_code}
use Rattle.image_catalog.specs.Images.{place_of}
use Rattle.trace_model.specs.declared.notices.Record.{Record}
use Rattle.database_model.specs.Runs.{Drained}
use Rattle.growth_model.specs.Additions.{Additions, additions_of}
use Rattle.growth_model.proofs.Sums.{drains_add}
use Rattle.profile_merge.specs.Gathering.{known_by, unknown_by, AddAlike, Gathers, drained, first_of}

-- ---- nothing gathered

nothing_known : (epoch offset : ℕ) (image : Option ℕ) (event : Option Event) → known_by [] epoch offset image event ≡ 0
nothing_known epoch offset None event = refl
nothing_known epoch offset (Some image) None = refl
nothing_known epoch offset (Some image) (Some event) = refl

nothing_unknown : (epoch pc : ℕ) (event : Option Event) → unknown_by [] epoch pc event ≡ 0
nothing_unknown epoch pc None = refl
nothing_unknown epoch pc (Some event) = refl

pub nothing_gathered : (images : List (List ℕ)) (records : List Record) → Gathers [] images records []
nothing_gathered images records = λ distinct within. record {
  known = λ epoch name event offset. nothing_known epoch offset (place_of name images) (event_of_code event);
  unknown = λ epoch event pc. nothing_unknown epoch pc (event_of_code event);
}

-- ---- one drain more

or_nothing : (b : Bool) (a : ℕ) → a + ((if b then 0 else 0) + 0) ≡ a
or_nothing true a = omega arith
or_nothing false a = omega arith

pub adds_nothing : (images : List (List ℕ)) (records : List Record) (drains : List Drained) (at epoch : ℕ) (batch : Sent)
    → AddAlike (additions_of images records drains) (additions_of images records (drains ++ drained records at epoch (first_of 0 batch) ∷ []))
adds_nothing images records drains at epoch batch =
    let sums = drains_add images records drains (drained records at epoch (first_of 0 batch) ∷ []) in
    record {
      known = λ e name event offset. sym (or_nothing (e == epoch) _) ∙ sym (sums.known e name event offset);
      unknown = λ e event pc. sym (or_nothing (e == epoch) _) ∙ sym (sums.unknown e event pc);
    }

pub alike_then : {a b c : Additions} → AddAlike a b → AddAlike b c → AddAlike a c
alike_then one two = record {
  known = λ epoch name event offset. one.known epoch name event offset ∙ two.known epoch name event offset;
  unknown = λ epoch event pc. one.unknown epoch event pc ∙ two.unknown epoch event pc;
}
