-- What contracts see of a store in memory.
use Rattle.std.specs.Prelude.{◌≡◌, ℕ, ◌+◌, ◌-◌, ◌^◌, min, Bool, true, false, List, [], ◌∷◌, length, Some, IsSome, IfSome, OnOk, IsErr, IsErrOf}
use Rattle.std.specs.declared.option.Option.{Option}
use Rattle.std.specs.declared.result.Result.{Result}
use Rattle.store_io.specs.declared.steps.Step.{Step}
use Rattle.store_io.specs.declared.fails.StoreFail.{StoreFail}
use Rattle.store_io.specs.declared.fails.Left.{Left}
use Rattle.store_io.specs.declared.memory.MemStore.{MemStore}
use Rattle.store_io.specs.declared.errors.StoreError.{StoreError}
use Rattle.store_io.specs.declared.errors.StoreError.TheVariants.{Failed, Memory}
use Rattle.store_io.specs.Files.{Files, no_files, with_file}
use Rattle.store_io.specs.Changes.{after_steps, left_after, are_whole, listed}

-- the changes of a store
abbrev pub changes_of : MemStore → List Step
changes_of s = s.changes.items

-- the files of a store
abbrev pub files_of : MemStore → Files
files_of s = after_steps s.changes.items no_files

-- the files of a store, which it tells
abbrev pub told_of : MemStore → Option Files
told_of s = Some (files_of s)

-- the clock of a store
abbrev pub moment_of : MemStore → ℕ
moment_of s = length s.changes.items

-- what a crash may have left of a store since a moment
abbrev pub left_of : MemStore → ℕ → Files → Type 0
left_of s t c = left_after s.changes.items t c

-- whether no write and no removal of a store has failed
abbrev pub no_change_failed : MemStore → Bool
no_change_failed s = are_whole s.changes.items

-- the calls that are to fail
abbrev pub fails_of : MemStore → List StoreFail
fails_of s = s.fails.items

-- no call is to fail
abbrev pub is_faultless : List StoreFail → Bool
is_faultless [] = true
is_faultless (f ∷ fails) = false

-- the origin of a store: whether it was made with no call that is to fail
abbrev pub origin_of : MemStore → Bool
origin_of s = is_faultless s.fails.items

-- the calls that a store had, of all four kinds
abbrev pub calls_of : MemStore → ℕ
calls_of s = s.calls

-- the faults of a store
abbrev pub faults_of : MemStore → ℕ
faults_of s = s.faults

-- the number of the call that comes after n calls; it stops at the greatest u64
abbrev pub next_call : ℕ → ℕ
next_call n = min (n + 1) (2 ^ 64 - 1)

-- a call fails where it is listed, and `Failed` only there
pub record FailsAsListed {T : Type 0} (fails : List StoreFail) (call : ℕ) (result : Result T StoreError) : Type 0 where
  pub at_listed : IsSome (listed fails call) → IsErr result
  pub only_there : IsErrOf result Failed → IsSome (listed fails call)

-- after `Failed` the name holds what is listed, in terms of what it held before
abbrev pub FailsLeaving : {T : Type 0} → (Left → Option (List ℕ) → Option (List ℕ)) → MemStore → MemStore → List ℕ → Result T StoreError → Type 0
FailsLeaving leaves old new name result = IsErrOf result Failed →
    IfSome (listed (fails_of old) (calls_of new)) (λ left. files_of new ≡ with_file name (leaves left (files_of old name)) (files_of old))

-- A call is counted, and fails as the store was made to.
pub record IsCounted {T : Type 0} (old new : MemStore) (result : Result T StoreError) : Type 0 where
  pub calls : calls_of new ≡ next_call (calls_of old)
  pub fails : fails_of new ≡ fails_of old
  pub listed : FailsAsListed (fails_of old) (calls_of new) result

-- A failed change is remembered.
pub record RemembersFailure {T : Type 0} (old new : MemStore) (result : Result T StoreError) : Type 0 where
  pub ok : OnOk result (no_change_failed new ≡ no_change_failed old)
  pub failed : IsErrOf result Failed → no_change_failed new ≡ false
  pub memory : IsErrOf result Memory → no_change_failed new ≡ no_change_failed old
