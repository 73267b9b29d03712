-- Calls of a store, one after the other: time, and what a crash since the first of them leaves. Layers above cite these.
use Rattle.std.proofs.Common.{arith, ◌≡◌, ℕ, ◌≤◌, inl, inr, Option, refl, ◌∙◌}
use Rattle.store_io.specs.Files.{Files}
use Rattle.store_io.specs.Crashes.{Elapses, OnlyReads, LeavesOnly}

-- ---- time

-- one call after another
pub chain : {m0 m1 m2 : ℕ} {l0 l1 l2 : ℕ → Files → Type 0} {P Q : Files → Type 0} (R : Files → Type 0) → ((c : Files) → P c → R c) → ((c : Files) → Q c → R c) → Elapses m0 m1 l0 l1 P → Elapses m1 m2 l1 l2 Q → Elapses m0 m2 l0 l2 R
chain R from_p from_q one two = record {
  later = omega (arith, one.later, two.later);
  nothing_else = λ t c le here. elim (two.nothing_else t c (omega (arith, le, one.later)) here) [
    | inl past ↦ elim (one.nothing_else t c le past) [ inl was ↦ inl was | inr during ↦ inr (from_p c during) ]
    | inr during ↦ inr (from_q c during)
  ];
  keeps = λ t c le was. two.keeps t c (omega (arith, le, one.later)) (one.keeps t c le was);
}

-- more may happen during a call
pub wider : (before now : ℕ) (past since : ℕ → Files → Type 0) (P Q : Files → Type 0) → ((c : Files) → P c → Q c) → Elapses before now past since P → Elapses before now past since Q
wider before now past since P Q more time = record {
  later = time.later;
  nothing_else = λ t c below h. elim (time.nothing_else t c below h) [ inl a ↦ inl a | inr b ↦ inr (more c b) ];
  keeps = time.keeps;
}

-- no time passes where nothing changes
pub stands_still : (moment : ℕ) (past : ℕ → Files → Type 0) (P : Files → Type 0) → Elapses moment moment past past P
stands_still moment past P = record { later = omega arith; nothing_else = λ t c below h. inl h; keeps = λ t c below h. h }

-- ---- calls that only read

-- no call at all
pub reads_none : (files : Option Files) (moment : ℕ) (past : ℕ → Files → Type 0) → OnlyReads files files moment moment past past
reads_none files moment past = record { files = refl; crash = λ c here. here; time = stands_still moment past (past moment) }

-- one more
pub reads_then : {f0 f1 f2 : Option Files} {m0 m1 m2 : ℕ} {l0 l1 l2 : ℕ → Files → Type 0} → OnlyReads f0 f1 m0 m1 l0 l1 → OnlyReads f1 f2 m1 m2 l1 l2 → OnlyReads f0 f2 m0 m2 l0 l2
reads_then {m0} {l0} one two = record {
  files = two.files ∙ one.files;
  crash = λ c here. one.crash c (two.crash c here);
  time = chain (l0 m0) (λ c was. was) (λ c was. one.crash c was) one.time two.time;
}

-- ---- what a crash since an earlier moment leaves

-- a call during which a crash leaves files that have P, as it did before
pub leaves_from : {D : Type 0} {moment : D → ℕ} {left : D → ℕ → Files → Type 0} {old new : D} {during : Files → Type 0} (P : Files → Type 0) → ((c : Files) → left old (moment old) c → P c) → ((c : Files) → during c → P c) → Elapses (moment old) (moment new) (left old) (left new) during → LeavesOnly moment left old new P
leaves_from {moment} {left} {old} {new} P was while time = record {
  later = time.later;
  each = λ c here. elim (time.nothing_else (moment old) c (omega arith) here) [ inl past ↦ was c past | inr now ↦ while c now ];
  before = λ t c le here. elim (time.nothing_else t c le here) [ inl past ↦ inl past | inr now ↦ inr (while c now) ];
}

-- a call that only reads
pub only_reads : {D : Type 0} {moment : D → ℕ} {left : D → ℕ → Files → Type 0} {old new : D} (P : Files → Type 0) → ((c : Files) → left old (moment old) c → P c) → Elapses (moment old) (moment new) (left old) (left new) (left old (moment old)) → LeavesOnly moment left old new P
only_reads P was time = leaves_from P was was time

-- more may be left
pub leaves_wider : {D : Type 0} {moment : D → ℕ} {left : D → ℕ → Files → Type 0} {old new : D} {P Q : Files → Type 0} → ((c : Files) → P c → Q c) → LeavesOnly moment left old new P → LeavesOnly moment left old new Q
leaves_wider more only = record {
  later = only.later;
  each = λ c here. more c (only.each c here);
  before = λ t c le here. elim (only.before t c le here) [ inl past ↦ inl past | inr now ↦ inr (more c now) ];
}

-- calls, and others after them
pub leaves_join : {D : Type 0} {moment : D → ℕ} {left : D → ℕ → Files → Type 0} {old mid new : D} {P Q : Files → Type 0} (R : Files → Type 0) → ((c : Files) → P c → R c) → ((c : Files) → Q c → R c) → LeavesOnly moment left old mid P → LeavesOnly moment left mid new Q → LeavesOnly moment left old new R
leaves_join {moment} {left} {old} {mid} {new} R from_p from_q one two = record {
  later = omega (arith, one.later, two.later);
  each = λ c here. elim (two.before (moment old) c one.later here) [ inl past ↦ from_p c (one.each c past) | inr now ↦ from_q c now ];
  before = λ t c le here. elim (two.before t c (omega (arith, le, one.later)) here) [
    | inl past ↦ elim (one.before t c le past) [ inl was ↦ inl was | inr now ↦ inr (from_p c now) ]
    | inr now ↦ inr (from_q c now)
  ];
}

-- a call that only reads, and others after it
pub after_reads : {D : Type 0} {moment : D → ℕ} {left : D → ℕ → Files → Type 0} {old mid new : D} (P : Files → Type 0) → ((c : Files) → left old (moment old) c → P c) → Elapses (moment old) (moment mid) (left old) (left mid) (left old (moment old)) → LeavesOnly moment left mid new P → LeavesOnly moment left old new P
after_reads P was time rest = leaves_join P (λ c p. p) (λ c p. p) (only_reads P was time) rest

-- What a crash now leaves has P too: `lasting` is the law of a store of this name. So have the present files, by the law `present`.
pub now_among : {D : Type 0} {moment : D → ℕ} {left : D → ℕ → Files → Type 0} {old new : D} {P : Files → Type 0} → ((t : ℕ) (c : Files) → t ≤ moment new → left new (moment new) c → left new t c) → LeavesOnly moment left old new P → (c : Files) → left new (moment new) c → P c
now_among {moment} {left} {old} lasting only c here = only.each c (lasting (moment old) c only.later here)
