-- The changes of a store in memory, in order: what they make of the files, and what a crash among them leaves.
use Rattle.std.specs.Prelude.{◌≡◌, ℕ, ◌==◌, ◌&&◌, Bool, true, false, if◌then◌else◌, List, [], ◌∷◌, ◌++◌, ◌⊎◌, take, drop, None, Some}
use Rattle.std.specs.declared.option.Option.{Option}
use Rattle.std.specs.Option.{option_map}
use Rattle.std.specs.List.{find}
use Rattle.std.specs.Str.{bytes_eq}
use Rattle.store_io.specs.declared.steps.Step.{Step}
use Rattle.store_io.specs.declared.steps.Outcome.{Outcome}
use Rattle.store_io.specs.declared.steps.Outcome.TheVariants.{Written, HalfWritten, Removed, HalfRemoved}
use Rattle.store_io.specs.declared.fails.StoreFail.{StoreFail}
use Rattle.store_io.specs.declared.fails.Left.{Left}
use Rattle.store_io.specs.declared.fails.Left.TheVariants.{Absent, AsBefore, Bytes}
use Rattle.store_io.specs.Files.{Files, no_files, with_file, contents}
use Rattle.store_io.specs.Outcomes.{Torn, MaybeRemoved}

-- the files after a change of this name
abbrev pub after_outcome : Outcome → List ℕ → Files → Files
after_outcome (Written bytes) name files = with_file name (Some (contents bytes)) files
after_outcome (HalfWritten left) name files = with_file name (option_map contents left) files
after_outcome Removed name files = with_file name None files
after_outcome (HalfRemoved gone) name files = if gone then with_file name None files else files

abbrev pub after_step : Step → Files → Files
after_step s files = after_outcome s.outcome s.name files

-- whether the change brought the present files another state of its name
abbrev pub changes_files : Outcome → Bool
changes_files (Written bytes) = true
changes_files (HalfWritten left) = true
changes_files Removed = true
changes_files (HalfRemoved gone) = gone

-- what it brought
abbrev pub bytes_left : Outcome → Option (List ℕ)
bytes_left (Written bytes) = Some (contents bytes)
bytes_left (HalfWritten left) = option_map contents left
bytes_left Removed = None
bytes_left (HalfRemoved gone) = None

-- whether a change says what stands under a name
abbrev pub decides : Step → List ℕ → Bool
decides s name = bytes_eq s.name name && changes_files s.outcome

-- the files after changes, the first of them first
abbrev pub after_steps : List Step → Files → Files
after_steps [] files = files
after_steps (s ∷ steps) files = after_steps steps (after_step s files)

-- what a crash after a change leaves of the files before it: what it was to make, or after a failure any part of it
abbrev pub LeftAfter : Outcome → List ℕ → Files → Files → Type 0
LeftAfter (Written bytes) name old new = new ≡ with_file name (Some (contents bytes)) old
LeftAfter (HalfWritten left) name old new = Torn name old new
LeftAfter Removed name old new = new ≡ with_file name None old
LeftAfter (HalfRemoved gone) name old new = MaybeRemoved name old new

-- whether a change that came out so leaves these bytes under its name
abbrev pub IsHeldAfter : Option (List ℕ) → Outcome → Type 0
IsHeldAfter left outcome =
    (name : List ℕ) (files : Files) → after_outcome outcome name files ≡ with_file name left files

-- whether its name may be torn by a crash after it
abbrev pub MayBeTornAfter : Outcome → Type 0
MayBeTornAfter outcome =
    (name : List ℕ) (old new : Files) → Torn name old new → LeftAfter outcome name old new

-- what a crash during a change leaves
abbrev pub LeftDuring : Outcome → List ℕ → Files → Files → Type 0
LeftDuring (Written bytes) name old new = Torn name old new
LeftDuring (HalfWritten left) name old new = Torn name old new
LeftDuring Removed name old new = MaybeRemoved name old new
LeftDuring (HalfRemoved gone) name old new = MaybeRemoved name old new

-- what a crash after these changes leaves: each failed one may have come out otherwise than the files tell
abbrev pub CrashAfter : List Step → Files → Files → Type 0
CrashAfter [] old new = new ≡ old
CrashAfter (s ∷ steps) old new =
    (mid : Files) × LeftAfter s.outcome s.name old mid × CrashAfter steps mid new

-- what a crash before, during or after any of these changes leaves
abbrev pub CrashAmong : List Step → Files → Files → Type 0
CrashAmong [] old new = new ≡ old
CrashAmong (s ∷ steps) old new =
    (new ≡ old) ⊎ (LeftDuring s.outcome s.name old new ⊎ ((mid : Files) × LeftAfter s.outcome s.name old mid × CrashAmong steps mid new))

-- what a crash may have left since the moment after the first t changes
abbrev pub left_after : List Step → ℕ → Files → Type 0
left_after steps t c =
    (old : Files) × CrashAfter (take t steps) no_files old × CrashAmong (drop t steps) old c

-- whether a change came out whole
abbrev pub is_whole : Outcome → Bool
is_whole (Written bytes) = true
is_whole (HalfWritten left) = false
is_whole Removed = true
is_whole (HalfRemoved gone) = false

-- whether no write and no removal failed
abbrev pub are_whole : List Step → Bool
are_whole [] = true
are_whole (s ∷ steps) = is_whole s.outcome && are_whole steps

-- what is listed first for a call
abbrev pub listed : List StoreFail → ℕ → Option Left
listed fails call = option_map (λ f. f.left) (find (λ f. f.call == call) fails)

-- what a failed write leaves under its name, where it had these bytes before
abbrev pub left_bytes : Left → Option (List ℕ) → Option (List ℕ)
left_bytes Absent before = None
left_bytes AsBefore before = before
left_bytes (Bytes v) before = Some v.items

-- what a failed removal leaves
abbrev pub unremoved_bytes : Left → Option (List ℕ) → Option (List ℕ)
unremoved_bytes Absent before = None
unremoved_bytes AsBefore before = before
unremoved_bytes (Bytes v) before = before

-- whether a failed removal takes the name away
abbrev pub takes_away : Left → Bool
takes_away Absent = true
takes_away AsBefore = false
takes_away (Bytes v) = false

-- one change came to the end of the others
pub record Adds (old new : List Step) (name : List ℕ) (outcome : Outcome) : Type 0 where
  pub step : Step
  pub list : new ≡ old ++ step ∷ []
  pub of_name : step.name ≡ name
  pub came_out : step.outcome ≡ outcome
