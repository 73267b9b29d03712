-- Many steps, one after the other.
use Rattle.std.proofs.Common.{◌≡◌, refl, sym, ◌∙◌, ap, subst, ℕ, zero, suc, ◌+◌, ◌-◌, ◌<◌, ◌≤◌, List, [], ◌∷◌, ◌++◌, length, take, drop, arith, true, Some, Option, append-nil, append_assoc}
use Rattle.std.specs.Prelude.{slice_get}
use Rattle.trace_model.specs.Recording.{Recording}
use Rattle.trace_model.specs.declared.notices.Step.{Step}
use Rattle.store_io.specs.Files.{Files}
use Rattle.database_state.specs.Heads.{Head}
use Rattle.run_laws.proofs.Basics.{taken_one}
use Rattle.replay_drive.specs.Replaying.{HasTaken, IsStored, IsUnderWay, StoresStep, StoresSteps, TakesStep, TakesSteps, repeated}
use Rattle.replay_drive.proofs.StepsTaken.{taken_none}
use Rattle.replay_drive.specs.declared.replays.Replay.{Replay}

-- the store of a run of these steps is kept from the first to the second
abbrev pub StoresOf : {D : Type 0} → (D → Option Files) → (D → ℕ) → (D → ℕ) → (D → ℕ → Files → Type 0) → Replay → Replay → D → D → List Step → Type 0
StoresOf {D} files faults moment left before after old new steps = (trace : Recording) (run first_epoch : ℕ) (done rest : List Step) (begin : Head) (start : D)
    → HasTaken trace run first_epoch done before
    → IsStored files faults moment left trace run first_epoch (done ++ (steps ++ rest)) begin start old before
    → IsStored files faults moment left trace run first_epoch (done ++ (steps ++ rest)) begin start new after

-- one more of a list of steps
pub steps_push : (done steps : List Step) (i : ℕ) (x : Step) → slice_get steps i ≡ Some x → (done ++ take i steps) ++ x ∷ [] ≡ done ++ take (i + 1) steps
steps_push done steps i x at = append_assoc done (take i steps) (x ∷ []) ∙ ap {B = List Step} (λ z. done ++ z) (sym (taken_one steps i x at))

-- with what comes after it
pub steps_rest : (done steps rest : List Step) (i : ℕ) (x : Step) → slice_get steps i ≡ Some x → (done ++ take i steps) ++ x ∷ (drop (i + 1) steps ++ rest) ≡ done ++ (steps ++ rest)
steps_rest done steps rest i x at =
    append_assoc done (take i steps) (x ∷ (drop (i + 1) steps ++ rest))
    ∙ ap {B = List Step} (λ z. done ++ z) (parts steps i at)
  where
    parts : (xs : List Step) (k : ℕ) → slice_get xs k ≡ Some x → take k xs ++ x ∷ (drop (k + 1) xs ++ rest) ≡ xs ++ rest
    parts [] k h = absurd cc
    parts (y ∷ xs) zero h = let same : x ≡ y = cc in ap {B = List Step} (λ z. z ∷ (xs ++ rest)) same
    parts (y ∷ xs) (suc k) h =
        let more : suc k + 1 ≡ suc (k + 1) = omega arith in
        ap (λ n. y ∷ (take k xs ++ x ∷ (drop n (y ∷ xs) ++ rest))) more ∙ ap {B = List Step} (λ z. y ∷ z) (parts xs k h)

-- one more round
pub repeated_push : (n : ℕ) (round : List Step) → repeated n round ++ round ≡ repeated (n + 1) round
repeated_push zero round = sym (append-nil round)
repeated_push (suc n) round =
    let more : suc n + 1 ≡ suc (n + 1) = omega arith in
    append_assoc round (repeated n round) round ∙ ap {B = List Step} (λ z. round ++ z) (repeated_push n round) ∙ ap (λ m. repeated m round) (sym more)

-- one step more was taken
pub step_taken : (before mid after : Replay) (steps : List Step) (i : ℕ) (x : Step) → slice_get steps i ≡ Some x → TakesSteps before mid (take i steps) → TakesStep mid after x → TakesSteps before after (take (i + 1) steps)
step_taken before mid after steps i x at so_far step = λ trace run first_epoch done h.
    subst (λ (z : List Step). HasTaken trace run first_epoch z after) (steps_push done steps i x at) (step trace run first_epoch (done ++ take i steps) (so_far trace run first_epoch done h))

pub step_stored : {D : Type 0} (files : D → Option Files) (faults moment : D → ℕ) (left : D → ℕ → Files → Type 0) (before mid after : Replay) (old now new : D) (steps : List Step) (i : ℕ) (x : Step)
    → slice_get steps i ≡ Some x → TakesSteps before mid (take i steps) → StoresOf files faults moment left before mid old now steps → StoresStep files faults moment left mid after now new x
    → StoresOf files faults moment left before after old new steps
step_stored files faults moment left before mid after old now new steps i x at taken so_far step = λ trace run first_epoch done rest begin start h stored.
    let all = steps_rest done steps rest i x at in
    subst (λ (z : List Step). IsStored files faults moment left trace run first_epoch z begin start new after) all
    (step trace run first_epoch (done ++ take i steps) (drop (i + 1) steps ++ rest) begin start (taken trace run first_epoch done h)
    (subst (λ (z : List Step). IsStored files faults moment left trace run first_epoch z begin start now mid) (sym all) (so_far trace run first_epoch done rest begin start h stored)))

-- it is under way still
pub under_way : (before after : Replay) (steps : List Step) → IsUnderWay before → TakesSteps before after steps → IsUnderWay after
under_way before after steps way taken = (way.0, way.1, way.2, way.3 ++ steps, taken way.0 way.1 way.2 way.3 way.4)

-- ---- rounds

pub round_taken : (before mid after : Replay) (n : ℕ) (round : List Step) → TakesSteps before mid (repeated n round) → TakesSteps mid after round → TakesSteps before after (repeated (n + 1) round)
round_taken before mid after n round so_far once = λ trace run first_epoch done h.
    subst (λ (z : List Step). HasTaken trace run first_epoch z after) (append_assoc done (repeated n round) round ∙ ap {B = List Step} (λ z. done ++ z) (repeated_push n round))
    (once trace run first_epoch (done ++ repeated n round) (so_far trace run first_epoch done h))

repeated_split : (n k : ℕ) (round rest : List Step) → repeated n round ++ (round ++ (repeated k round ++ rest)) ≡ repeated (n + 1 + k) round ++ rest
repeated_split zero k round rest =
    let one : suc k ≡ 0 + 1 + k = omega arith in
    sym (append_assoc round (repeated k round) rest) ∙ ap (λ m. repeated m round ++ rest) one
repeated_split (suc n) k round rest =
    let more : suc (n + 1 + k) ≡ suc n + 1 + k = omega arith in
    append_assoc round (repeated n round) (round ++ (repeated k round ++ rest))
    ∙ ap {B = List Step} (λ z. round ++ z) (repeated_split n k round rest)
    ∙ sym (append_assoc round (repeated (n + 1 + k) round) rest)
    ∙ ap (λ m. repeated m round ++ rest) more

pub round_stored : {D : Type 0} (files : D → Option Files) (faults moment : D → ℕ) (left : D → ℕ → Files → Type 0) (before mid after : Replay) (old now new : D) (n count : ℕ) (round : List Step) → n < count
    → TakesSteps before mid (repeated n round) → StoresOf files faults moment left before mid old now (repeated count round) → StoresSteps files faults moment left mid after now new round
    → StoresOf files faults moment left before after old new (repeated count round)
round_stored files faults moment left before mid after old now new n count round lt taken so_far once = λ trace run first_epoch done rest begin start h stored.
    let k : ℕ = count - (n + 1) in
    let is : n + 1 + k ≡ count = omega (arith, lt) in
    let all : (done ++ repeated n round) ++ (round ++ (repeated k round ++ rest)) ≡ done ++ (repeated count round ++ rest) =
    append_assoc done (repeated n round) (round ++ (repeated k round ++ rest))
    ∙ ap {B = List Step} (λ z. done ++ z) (repeated_split n k round rest ∙ ap (λ m. repeated m round ++ rest) is) in
    subst (λ (z : List Step). IsStored files faults moment left trace run first_epoch z begin start new after) all
    (once trace run first_epoch (done ++ repeated n round) (repeated k round ++ rest) begin start (taken trace run first_epoch done h)
    (subst (λ (z : List Step). IsStored files faults moment left trace run first_epoch z begin start now mid) (sym all) (so_far trace run first_epoch done rest begin start h stored)))

-- once the run is finished more steps do nothing
pub rest_taken : (trace : Recording) (run first_epoch : ℕ) (steps more : List Step) (replay : Replay) → replay.finished ≡ true → HasTaken trace run first_epoch steps replay → HasTaken trace run first_epoch (steps ++ more) replay
rest_taken trace run first_epoch steps [] replay done taken = subst (λ (z : List Step). HasTaken trace run first_epoch z replay) (sym (append-nil steps)) taken
rest_taken trace run first_epoch steps (x ∷ more) replay done taken =
    let next = taken_none trace run first_epoch steps x replay.lanes.items replay.sides.items replay.daemon replay.finished taken.finished done taken.stands in
    subst (λ (z : List Step). HasTaken trace run first_epoch z replay) (append_assoc steps (x ∷ []) more)
    (rest_taken trace run first_epoch (steps ++ x ∷ []) more replay done (record { fit = taken.fit; stands = next.stands; finished = next.finished_is }))

pub rounds_over : (before now : Replay) (n count : ℕ) (round : List Step) → n ≤ count → now.finished ≡ true → TakesSteps before now (repeated n round) → TakesSteps before now (repeated count round)
rounds_over before now n count round le done taken = λ trace run first_epoch all h.
    let k : ℕ = count - n in
    let is : n + k ≡ count = omega (arith, le) in
    subst (λ (z : List Step). HasTaken trace run first_epoch z now)
    (append_assoc all (repeated n round) (repeated k round) ∙ ap {B = List Step} (λ z. all ++ z) (repeated_join n k round ∙ ap (λ m. repeated m round) is))
    (rest_taken trace run first_epoch (all ++ repeated n round) (repeated k round) now done (taken trace run first_epoch all h))
  where
    repeated_join : (n k : ℕ) (round : List Step) → repeated n round ++ repeated k round ≡ repeated (n + k) round
    repeated_join zero k round =
        let one : k ≡ 0 + k = omega arith in ap (λ m. repeated m round) one
    repeated_join (suc n) k round =
        let more : suc (n + k) ≡ suc n + k = omega arith in
        append_assoc round (repeated n round) (repeated k round) ∙ ap {B = List Step} (λ z. round ++ z) (repeated_join n k round) ∙ ap (λ m. repeated m round) more

-- the first of a list, where there are no more
pub take_all : {A : Type 0} (xs : List A) (n : ℕ) → length xs ≤ n → take n xs ≡ xs
take_all [] zero le = refl
take_all [] (suc n) le = refl
take_all (x ∷ xs) zero le = absurd (omega (arith, le))
take_all {A = A} (x ∷ xs) (suc n) le = ap {B = List A} (λ z. x ∷ z) (take_all xs n (omega (arith, le)))
