-- An object outside the program before and after a call.
use Rattle.std.specs.Prelude.{◌≡◌, ℕ, ◌≤◌, List}
use Rattle.std.specs.declared.option.Option.{Option}
use Rattle.outside_io.specs.Causes.{Rose}
use Rattle.store_io.specs.Files.{Files}

-- what it tells, if it tells it, and its count of faults
pub record Seen (A : Type 0) : Type 0 where
  pub old : Option A
  pub new : Option A
  pub faults_before : ℕ
  pub faults_after : ℕ

-- a source or a sink: the bytes that are left to read, or those that were written
abbrev pub Stream : Type 0
Stream = Seen (List ℕ)

-- a store: its files
abbrev pub Disk : Type 0
Disk = Seen Files

-- how an object is seen by what it tells
abbrev pub seen : {S A : Type 0} → (S → Option A) → (S → ℕ) → S → S → Seen A
seen tells faults before after = record {
  old = tells before;
  new = tells after;
  faults_before = faults before;
  faults_after = faults after;
}

-- no fault was counted
abbrev pub KeepsCount : {A : Type 0} → Seen A → Type 0
KeepsCount s = s.faults_after ≡ s.faults_before

-- a fault was counted
pub record HasFailed {A : Type 0} (s : Seen A) : Type 0 where
  pub later : s.faults_before ≤ s.faults_after
  pub rose : Rose s.faults_before s.faults_after

-- it tells what it told before, and no fault was counted
pub record IsUntouched {A : Type 0} (s : Seen A) : Type 0 where
  pub same : s.new ≡ s.old
  pub faults : KeepsCount s
