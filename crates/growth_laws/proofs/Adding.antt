-- What entries add at a place is how often they count the keys that lie there.
use Rattle.std.proofs.Common.{◌≡◌, ℕ, ◌+◌, ◌&&◌, Bool, true, false, List, [], ◌∷◌, Option, None, Some, refl, ap, ◌∙◌}
use Rattle.std.specs.Prelude.{◌==◌, if◌then◌else◌, count_by}
use Rattle.sample_key.specs.Counted.{Counted}
use Rattle.sample_key.specs.declared.events.Event.{Event}
use Rattle.sample_key.specs.Events.{code_of}
use Rattle.trace_model.specs.Attribution.{place_at}
use Rattle.trace_model.specs.Counting.{Spot, Known, Unknown, same_spot, spot_at, spots_in}
use Rattle.trace_model.specs.declared.notices.Place.{Place}
use Rattle.trace_model.specs.declared.notices.Record.{Record}
use Rattle.database_model.specs.Runs.{Drained, Recorded}
use Rattle.trace_model.specs.Recording.{Recording}
use Rattle.trace_model.specs.Streams.{records_in}
use Rattle.run_exact.specs.Exact.{counted_where, lies_at, drained_at, CountsPlainly}
use Rattle.growth_model.specs.Additions.{known_count, unknown_count, known_of, unknown_of, known_drained, unknown_drained, additions_of}
use Rattle.growth_laws.specs.Places.{added_at}

nothing : (b : Bool) → ◌≡◌ {A = ℕ} (if b then 0 else 0) 0
nothing true = refl
nothing false = refl

pair : (b : Bool) (x y : ℕ) → (if b then x + y else 0) ≡ (if b then x else 0) + (if b then y else 0)
pair true x y = refl
pair false x y = refl

four : (e b v o : Bool) (count : ℕ) → (if e then (if (b && v) && o then count else 0) else 0) ≡ (if ((e && b) && v) && o then count else 0)
four true b v o count = refl
four false b v o count = refl

three : (e v o : Bool) (count : ℕ) → (if e then (if v && o then count else 0) else 0) ≡ (if (e && v) && o then count else 0)
three true v o count = refl
three false v o count = refl

-- ---- one entry

known_entry : (images : List (List ℕ)) (name : List ℕ) (event : Event) (e f offset : ℕ) (c : Counted) (o : Option Place)
    → (if e == f then known_count images name (code_of event) offset c o else 0) ≡ (if same_spot (Known e name event offset) (spot_at f images c.key o) then c.count else 0)
known_entry images name event e f offset c None = nothing (e == f)
known_entry images name event e f offset c (Some place) = four (e == f) _ _ _ c.count

unknown_entry : (images : List (List ℕ)) (event : Event) (e f pc : ℕ) (c : Counted) (o : Option Place)
    → (if e == f then unknown_count (code_of event) pc c o else 0) ≡ (if same_spot (Unknown e event pc) (spot_at f images c.key o) then c.count else 0)
unknown_entry images event e f pc c None = three (e == f) _ _ c.count
unknown_entry images event e f pc c (Some place) = nothing (e == f)

-- ---- entries

known_entries : (images : List (List ℕ)) (records : List Record) (name : List ℕ) (event : Event) (e f offset at : ℕ) (entries : List Counted)
    → (if e == f then known_of images (place_at records at) name (code_of event) offset entries else 0) ≡ counted_where (lies_at (Known e name event offset) f images records at) entries
known_entries images records name event e f offset at [] = nothing (e == f)
known_entries images records name event e f offset at (c ∷ entries) =
    pair (e == f) _ _
    ∙ ap (λ (n : ℕ). n + (if e == f then known_of images (place_at records at) name (code_of event) offset entries else 0)) (known_entry images name event e f offset c (place_at records at c.key.pid c.key.pc))
    ∙ ap (λ (n : ℕ). (if lies_at (Known e name event offset) f images records at c.key then c.count else 0) + n) (known_entries images records name event e f offset at entries)

unknown_entries : (images : List (List ℕ)) (records : List Record) (event : Event) (e f pc at : ℕ) (entries : List Counted)
    → (if e == f then unknown_of (place_at records at) (code_of event) pc entries else 0) ≡ counted_where (lies_at (Unknown e event pc) f images records at) entries
unknown_entries images records event e f pc at [] = nothing (e == f)
unknown_entries images records event e f pc at (c ∷ entries) =
    pair (e == f) _ _
    ∙ ap (λ (n : ℕ). n + (if e == f then unknown_of (place_at records at) (code_of event) pc entries else 0)) (unknown_entry images event e f pc c (place_at records at c.key.pid c.key.pc))
    ∙ ap (λ (n : ℕ). (if lies_at (Unknown e event pc) f images records at c.key then c.count else 0) + n) (unknown_entries images records event e f pc at entries)

-- ---- drains

known_all : (images : List (List ℕ)) (records : List Record) (name : List ℕ) (event : Event) (e offset : ℕ) (drains : List Drained)
    → known_drained images records e name (code_of event) offset drains ≡ drained_at (Known e name event offset) images records drains
known_all images records name event e offset [] = refl
known_all images records name event e offset (d ∷ drains) =
    let first = known_entries images records name event e d.epoch offset d.at d.batch.entries in
    let rest = known_all images records name event e offset drains in
    ap (λ (n : ℕ). n + known_drained images records e name (code_of event) offset drains) first
    ∙ ap (λ (n : ℕ). counted_where (lies_at (Known e name event offset) d.epoch images records d.at) d.batch.entries + n) rest

unknown_all : (images : List (List ℕ)) (records : List Record) (event : Event) (e pc : ℕ) (drains : List Drained)
    → unknown_drained records e (code_of event) pc drains ≡ drained_at (Unknown e event pc) images records drains
unknown_all images records event e pc [] = refl
unknown_all images records event e pc (d ∷ drains) =
    let first = unknown_entries images records event e d.epoch pc d.at d.batch.entries in
    let rest = unknown_all images records event e pc drains in
    ap (λ (n : ℕ). n + unknown_drained records e (code_of event) pc drains) first
    ∙ ap (λ (n : ℕ). counted_where (lies_at (Unknown e event pc) d.epoch images records d.at) d.batch.entries + n) rest

pub adds_drained : (images : List (List ℕ)) (records : List Record) (drains : List Drained) (spot : Spot) → added_at (additions_of images records drains) spot ≡ drained_at spot images records drains
adds_drained images records drains (Known e name event offset) = known_all images records name event e offset drains
adds_drained images records drains (Unknown e event pc) = unknown_all images records event e pc drains

pub adds_plainly : (trace : Recording) (kept : Recorded) → CountsPlainly trace kept → (spot : Spot) → added_at (additions_of trace.images (records_in trace) kept.drains) spot ≡ count_by (same_spot spot) (spots_in trace kept.first_epoch)
adds_plainly trace kept plain spot = adds_drained trace.images (records_in trace) kept.drains spot ∙ plain spot
