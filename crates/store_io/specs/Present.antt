-- Laws of a store in memory: the present files are among those that a crash now leaves, and what a crash now leaves is
-- among what a crash since an earlier moment leaves.
use Rattle.std.specs.Prelude.{◌≡◌, ℕ, zero, suc, ◌⊎◌, true, false, List, [], ◌∷◌, length, take, drop, Some, unwrap_or}
use Rattle.std.specs.Option.{option_map}
use Rattle.std.proofs.Common.{inl, inr, refl, sym, ap, ◌∙◌, subst}
use Rattle.std.proofs.Math.Seq.{take-length, drop-length}
use Rattle.store_io.specs.declared.steps.Step.{Step}
use Rattle.store_io.specs.declared.steps.Outcome.{Outcome}
use Rattle.store_io.specs.declared.steps.Outcome.TheVariants.{Written, HalfWritten, Removed, HalfRemoved}
use Rattle.store_io.specs.Files.{Files, no_files, contents}
use Rattle.store_io.specs.Changes.{after_outcome, after_step, after_steps, LeftAfter, CrashAfter, CrashAmong, left_after}

-- a crash after a change may leave what the change made
stands : (o : Outcome) (name : List ℕ) (files : Files) → LeftAfter o name files (after_outcome o name files)
stands (Written bytes) name files = refl
stands (HalfWritten left) name files = (option_map contents left, refl)
stands Removed name files = refl
stands (HalfRemoved true) name files = inl refl
stands (HalfRemoved false) name files = inr refl

-- and after changes what they made
steps_stand : (steps : List Step) (files : Files) → CrashAfter steps files (after_steps steps files)
steps_stand [] files = refl
steps_stand (s ∷ steps) files = (after_step s files, stands s.outcome s.name files, steps_stand steps (after_step s files))

-- what a crash after all changes leaves, it leaves now
pub left_now : (steps : List Step) (c : Files) → CrashAfter steps no_files c → left_after steps (length steps) c
left_now steps c after = (c, subst (λ made. CrashAfter made no_files c) (sym (take-length steps)) after, subst (λ rest. CrashAmong rest c c) (sym (drop-length steps)) refl)

-- and nothing else
pub now_is : (steps : List Step) (c : Files) → left_after steps (length steps) c → CrashAfter steps no_files c
now_is steps c (old, after, among) =
    let same : c ≡ old = subst (λ rest. CrashAmong rest old c) (drop-length steps) among in
    let made : CrashAfter steps no_files old = subst (λ made. CrashAfter made no_files old) (take-length steps) after in
    subst (λ files. CrashAfter steps no_files files) (sym same) made

-- the first t of the changes, and the others
pub crash_parts : (t : ℕ) (steps : List Step) (files c : Files) → CrashAfter steps files c → (mid : Files) × CrashAfter (take t steps) files mid × CrashAfter (drop t steps) mid c
crash_parts zero steps files c after = (files, refl, after)
crash_parts (suc t) [] files c after = (files, refl, after)
crash_parts (suc t) (s ∷ steps) files c (next, made, rest) =
    let (mid, front, back) = crash_parts t steps next c rest in (mid, (next, made, front), back)

-- a crash after changes is one among them
crash_among : (steps : List Step) (files c : Files) → CrashAfter steps files c → CrashAmong steps files c
crash_among [] files c after = after
crash_among (s ∷ steps) files c (next, made, rest) = inr (inr (next, made, crash_among steps next c rest))

pub present_files : (steps : List Step) (files : Files) → Some (after_steps steps no_files) ≡ Some files → left_after steps (length steps) files
present_files steps files told =
    let same : files ≡ after_steps steps no_files = sym (ap (λ o. unwrap_or o no_files) told) in
    left_now steps files (subst (λ f. CrashAfter steps no_files f) (sym same) (steps_stand steps no_files))

pub left_lasts : (steps : List Step) (t : ℕ) (c : Files) → left_after steps (length steps) c → left_after steps t c
left_lasts steps t c now =
    let (mid, front, back) = crash_parts t steps no_files c (now_is steps c now) in
    (mid, front, crash_among (drop t steps) mid c back)
