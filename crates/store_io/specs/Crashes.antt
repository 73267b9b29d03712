-- Time, and what a crash at some moment since may have left. A store's clock and its crashes are given as functions of its state.
use Rattle.std.specs.Prelude.{◌≡◌, ℕ, ◌≤◌, ◌⊎◌, List, None, Some, IsErrOf}
use Rattle.std.specs.declared.option.Option.{Option}
use Rattle.std.specs.declared.result.Result.{Result}
use Rattle.store_io.specs.declared.errors.StoreError.{StoreError}
use Rattle.store_io.specs.declared.errors.StoreError.TheVariants.{Failed, Memory}
use Rattle.store_io.specs.Files.{Files}
use Rattle.store_io.specs.Outcomes.{Torn, MaybeRemoved, Holds, AfterSome, Leaves}

-- Time goes on: a crash since t may have left what it may have left before, or what it may leave during the call.
pub record Elapses (before now : ℕ) (past since : ℕ → Files → Type 0) (during : Files → Type 0) : Type 0 where
  pub later : before ≤ now
  pub nothing_else : (t : ℕ) (c : Files) → t ≤ before → since t c → past t c ⊎ during c
  pub keeps : (t : ℕ) (c : Files) → t ≤ before → past t c → since t c

-- what a crash now leaves
abbrev pub LeftNow : {D : Type 0} → (D → ℕ) → (D → ℕ → Files → Type 0) → D → Files → Type 0
LeftNow moment left_since s = left_since s (moment s)

-- a crash now leaves nothing that it did not leave before
abbrev pub LeavesNoMore : {D : Type 0} → (D → ℕ) → (D → ℕ → Files → Type 0) → D → D → Type 0
LeavesNoMore moment left_since old new =
    (c : Files) → left_since new (moment new) c → left_since old (moment old) c

-- time goes on over a call, during which a crash may leave these
abbrev pub Passes : {D : Type 0} → (D → ℕ) → (D → ℕ → Files → Type 0) → D → D → (Files → Type 0) → Type 0
Passes moment left_since old new during =
    Elapses (moment old) (moment new) (left_since old) (left_since new) during

-- What a call that was to change a name lets a crash leave: since any moment before it, unless it had no memory, all that
-- such a change leaves in its midst, of all that a crash left before; and after `Failed` the same at each later moment.
pub record MayTear {T : Type 0} (less : Files → Files → Type 0) (before now : ℕ) (past since : ℕ → Files → Type 0) (result : Result T StoreError) : Type 0 where
  pub during : (IsErrOf result Memory → ⊥) → (t : ℕ) (c : Files) → t ≤ before → AfterSome (past before) less c → since t c
  pub failed : IsErrOf result Failed → (c : Files) → AfterSome (past before) less c → since now c

-- what a crash leaves after a write of these bytes under a name
abbrev pub LeavesWritten : {D T : Type 0} → (D → ℕ) → (D → ℕ → Files → Type 0) → List ℕ → List ℕ → D → D → Result T StoreError → Type 0
LeavesWritten moment left_since name bytes old new result =
    Leaves (Holds name (Some bytes)) (Torn name) (left_since old (moment old)) (left_since new (moment new)) result

-- what a crash leaves after a removal of a name
abbrev pub LeavesRemoved : {D T : Type 0} → (D → ℕ) → (D → ℕ → Files → Type 0) → List ℕ → D → D → Result T StoreError → Type 0
LeavesRemoved moment left_since name old new result =
    Leaves (Holds name None) (MaybeRemoved name) (left_since old (moment old)) (left_since new (moment new)) result

-- time goes on over a call that is to change a name
abbrev pub PassesChange : {D : Type 0} → (D → ℕ) → (D → ℕ → Files → Type 0) → (Files → Files → Type 0) → D → D → Type 0
PassesChange moment left_since less old new =
    Passes moment left_since old new (AfterSome (left_since old (moment old)) less)

-- the name may be torn by it
abbrev pub Tears : {D T : Type 0} → (D → ℕ) → (D → ℕ → Files → Type 0) → (Files → Files → Type 0) → D → D → Result T StoreError → Type 0
Tears moment left_since less old new result =
    MayTear less (moment old) (moment new) (left_since old) (left_since new) result

-- a call that changes no file, and nothing of what a crash may leave
pub record OnlyReads (old new : Option Files) (before now : ℕ) (past since : ℕ → Files → Type 0) : Type 0 where
  pub files : new ≡ old
  pub crash : (c : Files) → since now c → past before c
  pub time : Elapses before now past since (past before)

-- A crash at any moment since old leaves files that have P.
pub record LeavesOnly {D : Type 0} (moment : D → ℕ) (left_since : D → ℕ → Files → Type 0) (old new : D) (P : Files → Type 0) : Type 0 where
  pub later : moment old ≤ moment new
  pub each : (c : Files) → left_since new (moment old) c → P c
  -- for a run that began earlier
  pub before : (t : ℕ) (c : Files) → t ≤ moment old → left_since new t c → left_since old t c ⊎ P c
