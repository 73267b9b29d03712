-- Growths that are none, and runs that do not fit.
use Rattle.std.proofs.Common.{◌≡◌, ℕ, ◌+◌, ◌<◌, ◌≤◌, ◌==◌, List, [], ◌∷◌, refl, sym, ◌∙◌, ap, arith, Bool, true, false, Some, None, Option}
use Rattle.std.specs.Prelude.{if◌then◌else◌}
use Rattle.trace_model.specs.Streams.{records_in}
use Rattle.trace_model.specs.declared.notices.Record.{Record}
use Rattle.database_model.specs.declared.profiles.ProfileRow.{ProfileRow}
use Rattle.database_model.specs.Runs.{Recorded}
use Rattle.run_model.specs.Shares.{segment_of}
use Rattle.database_state.specs.Database.{Database, empty_database}
use Rattle.database_state.specs.Heads.{Head}
use Rattle.growth_model.specs.Growth.{IsGrown, IsNewName, GrowsByPart, count_at}
use Rattle.growth_model.specs.Grown.{Grown}
use Rattle.growth_model.specs.Fitting.{FitsAfter, KeepsLimits}
use Rattle.growth_model.proofs.Rows.{image_a, image_b, remapped, remapped_kept, boundary, boundary_kept, part_adds, epochs, epochs_kept}

-- a profile counts what is added to it
counted : (added : ℕ → ℕ) (after : Option (List ProfileRow)) (rows : List ProfileRow) (offset : ℕ)
    → IsGrown added (Some []) after → after ≡ Some rows → count_at rows offset ≡ added offset
counted added after rows offset grown is =
    let found : Some grown.0 ≡ Some rows = sym grown.1 ∙ is in
    let same : grown.0 ≡ rows = cc in
    let there : count_at grown.0 offset ≡ 0 + added offset = grown.2.counts offset in
    let moved : count_at grown.0 offset ≡ count_at rows offset = ap (λ (z : List ProfileRow). count_at z offset) same in
    omega arith

-- unknown samples are not left out
unknown_left_out : (epoch : ℕ) (new : Database)
    → GrowsByPart boundary.images (records_in boundary) epoch (segment_of (records_in boundary) boundary_kept 0) empty_database new
    → new.unknown 0 1 ≡ Some [] → ⊥
unknown_left_out epoch new grows none =
    let one : 0 ≡ 1 =
    counted ((part_adds boundary boundary_kept 0).unknown 0 1) (new.unknown 0 1) [] 0x11000 (grows.unknown 0 1) none in
    omega (arith, one)

-- a sample does not count at the mapping of its own moment, where another was in force at its drain
at_own_moment : (epoch : ℕ) (new : Database)
    → GrowsByPart remapped.images (records_in remapped) epoch (segment_of (records_in remapped) remapped_kept 0) empty_database new
    → new.known 0 image_a 0 ≡ Some (record { offset = 4; count = 1 } ∷ []) → ⊥
at_own_moment epoch new grows is =
    let one : 1 ≡ 0 =
    counted ((part_adds remapped remapped_kept 0).known 0 image_a 0) (new.known 0 image_a 0)
    (record { offset = 4; count = 1 } ∷ []) 4 (grows.known 0 image_a 0) is in
    omega (arith, one)

-- of the two images that the trace names the one with a count is new, and the other is not
counted_images : (epoch : ℕ) (new : Database)
    → GrowsByPart remapped.images (records_in remapped) epoch (segment_of (records_in remapped) remapped_kept 0) empty_database new
    → new.names ≡ image_b ∷ []
counted_images epoch new grows =
    let first = grows.chosen.test image_a in
    let last = grows.chosen.test image_b in
    let without : first ≡ false = is_false first (λ is. no_count (grows.chosen.holds image_a is)) in
    let with_count : last ≡ true = is_true last (λ not. grows.chosen.fails image_b not has_count) in
    grows.names ∙ grows.chosen.list ∙ filtered first last without with_count
  where
    is_false : (test : Bool) → (test ≡ true → ⊥) → test ≡ false
    is_false true never = absurd (never refl)
    is_false false never = refl

    is_true : (test : Bool) → (test ≡ false → ⊥) → test ≡ true
    is_true true never = refl
    is_true false never = absurd (never refl)

    adds_none : (in_epoch : Bool) → 0 < (if in_epoch then 0 else 0) + 0 → ⊥
    adds_none true some = omega arith
    adds_none false some = omega arith

    has_count : IsNewName [] (part_adds remapped remapped_kept 0) image_b
    has_count = record { fresh = refl; epoch = 0; event = 0; counted = record { offset = 4; some = omega arith } }

    no_count : IsNewName [] (part_adds remapped remapped_kept 0) image_a → ⊥
    no_count named = adds_none (named.epoch == 0) named.counted.some

    filtered : (first last : Bool) → first ≡ false → last ≡ true
        → (if first then image_a ∷ (if last then image_b ∷ [] else []) else (if last then image_b ∷ [] else []))
        ≡ image_b ∷ []
    filtered true last a b = absurd (cc)
    filtered false true a b = refl
    filtered false false a b = absurd (cc)

-- nothing is added to a bad profile
bad_stays_bad : (epoch : ℕ) (db new : Database)
    → GrowsByPart boundary.images (records_in boundary) epoch (segment_of (records_in boundary) boundary_kept 0) db new
    → db.unknown 0 1 ≡ None → ⊥
bad_stays_bad epoch db new grows bad =
    added_to_bad ((part_adds boundary boundary_kept 0).unknown 0 1) (db.unknown 0 1) (new.unknown 0 1) 0x11000 (grows.unknown 0 1) bad (omega arith)
  where
    added_to_bad : (added : ℕ → ℕ) (before after : Option (List ProfileRow)) (offset : ℕ) → IsGrown added before after
        → before ≡ None → 0 < added offset → ⊥
    added_to_bad added None after offset grown is some = let none : added offset ≡ 0 = grown.0 offset in omega arith
    added_to_bad added (Some rows) after offset grown is some = cc

-- a run of two parts has no third
third_part : (db new : Database) → Grown epochs.images (records_in epochs) epochs_kept 3 db new → ⊥
third_part db new grown = let most : 3 ≤ 2 = grown.within in omega arith

-- a run of another number does not grow the database
other_run : (new : Database) → Grown epochs.images (records_in epochs) (record epochs_kept { run = 2 }) 1 empty_database new → ⊥
other_run new grown = let one : 2 ≡ 1 = grown.run (omega arith) in omega arith

-- after the last generation no run fits
no_generation_left : (images : List (List ℕ)) (records : List Record) (kept : Recorded) (head : Head) (db : Database)
    → head.generation ≡ 65536 → KeepsLimits images records kept head db → ⊥
no_generation_left images records kept head db last fits =
    let after : FitsAfter images records kept 1 head db = fits 1 (omega arith) in
    let same : after.heads.0.generation ≡ 65536 = ap (λ (h : Head). h.generation) after.heads.1 ∙ last in
    let next : after.head_after.generation ≡ after.heads.0.generation + 1 = after.heads.2.generation in
    let rows = after.within.rows in
    omega arith
