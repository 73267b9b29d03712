-- What one change more makes of the files and of what a crash may have left.
use Rattle.std.proofs.Common.{rules, arith, ◌≡◌, ℕ, zero, suc, ◌+◌, ◌≤◌, Bool, true, false, cond, ◌&&◌, List, [], ◌∷◌, ◌++◌, ◌⊎◌, inl, inr, None, Some, Option, length, take, drop, refl, sym, ap, ◌∙◌, subst, length-append}
use Rattle.std.proofs.lemmas.List.{take-append-le, drop-append-le}
use Rattle.std.specs.Str.{bytes_eq}
use Rattle.std.proofs.lemmas.Slice.Eq.{bytes_eq-Decides}
use Rattle.store_io.specs.declared.steps.Step.{Step}
use Rattle.store_io.specs.declared.steps.Outcome.{Outcome}
use Rattle.store_io.specs.declared.steps.Outcome.TheVariants.{Written, HalfWritten, Removed, HalfRemoved}
use Rattle.store_io.specs.Files.{Files, no_files, with_file, contents}
use Rattle.store_io.specs.Outcomes.{Torn, MaybeRemoved, AfterSome}
use Rattle.store_io.specs.Crashes.{Elapses}
use Rattle.store_io.specs.Changes.{after_outcome, after_step, after_steps, LeftAfter, LeftDuring, CrashAfter, CrashAmong, left_after, is_whole, are_whole, Adds}
use Rattle.store_io.specs.Present.{left_now, now_is, crash_parts}
pub use Rattle.store_io.proofs.Chains.{wider, stands_still}

-- changes in two parts
pub after_steps-append : (xs ys : List Step) (f : Files) → after_steps (xs ++ ys) f ≡ after_steps ys (after_steps xs f)
after_steps-append [] ys f = refl
after_steps-append (x ∷ xs) ys f = after_steps-append xs ys (after_step x f)

-- a change that was made, or failed, is one in progress
pub during_after : (o : Outcome) (name : List ℕ) (d c : Files) → LeftAfter o name d c → LeftDuring o name d c
during_after (Written bytes) name d c made = (Some (contents bytes), made)
during_after (HalfWritten left) name d c made = made
during_after Removed name d c made = inl made
during_after (HalfRemoved gone) name d c made = made

-- ---- crashes after changes and one more

CrashAfter-push : (xs : List Step) (s : Step) (f c : Files) → CrashAfter (xs ++ s ∷ []) f c → (mid : Files) × CrashAfter xs f mid × LeftAfter s.outcome s.name mid c
CrashAfter-push [] s f c (mid, made, same) = (f, refl, subst (λ x. LeftAfter s.outcome s.name f x) (sym same) made)
CrashAfter-push (x ∷ xs) s f c (next, made, rest) =
    let (mid, front, last) = CrashAfter-push xs s next c rest in (mid, (next, made, front), last)

CrashAfter-more : (xs : List Step) (s : Step) (f mid c : Files) → CrashAfter xs f mid → LeftAfter s.outcome s.name mid c → CrashAfter (xs ++ s ∷ []) f c
CrashAfter-more [] s f mid c same made = (c, subst (λ x. LeftAfter s.outcome s.name x c) same made, refl)
CrashAfter-more (x ∷ xs) s f mid c (next, first, rest) made = (next, first, CrashAfter-more xs s next mid c rest made)

crash_join : (t : ℕ) (steps : List Step) (f old c : Files) → CrashAfter (take t steps) f old → CrashAfter (drop t steps) old c → CrashAfter steps f c
crash_join zero steps f old c same rest = subst (λ x. CrashAfter steps x c) same rest
crash_join (suc t) [] f old c same rest = rest ∙ same
crash_join (suc t) (s ∷ steps) f old c (next, made, front) rest = (next, made, crash_join t steps next old c front rest)

-- ---- crashes among changes and one more

CrashAmong-push : (xs : List Step) (s : Step) (f c : Files) → CrashAmong (xs ++ s ∷ []) f c → CrashAmong xs f c ⊎ ((mid : Files) × CrashAfter xs f mid × LeftDuring s.outcome s.name mid c)
CrashAmong-push [] s f c (inl same) = inl same
CrashAmong-push [] s f c (inr (inl torn)) = inr (f, refl, torn)
CrashAmong-push [] s f c (inr (inr (mid, made, same))) = inr (f, refl, subst (λ x. LeftDuring s.outcome s.name f x) (sym same) (during_after s.outcome s.name f mid made))
CrashAmong-push (x ∷ xs) s f c (inl same) = inl (inl same)
CrashAmong-push (x ∷ xs) s f c (inr (inl torn)) = inl (inr (inl torn))
CrashAmong-push (x ∷ xs) s f c (inr (inr (next, made, rest))) = elim (CrashAmong-push xs s next c rest) [
  | inl a ↦ inl (inr (inr (next, made, a)))
  | inr b ↦ inr (b.0, (next, made, b.1), b.2)
]

CrashAmong-more : (xs : List Step) (s : Step) (f c : Files) → CrashAmong xs f c → CrashAmong (xs ++ s ∷ []) f c
CrashAmong-more [] s f c same = inl same
CrashAmong-more (x ∷ xs) s f c (inl same) = inl same
CrashAmong-more (x ∷ xs) s f c (inr (inl torn)) = inr (inl torn)
CrashAmong-more (x ∷ xs) s f c (inr (inr (next, made, rest))) = inr (inr (next, made, CrashAmong-more xs s next c rest))

CrashAmong-torn : (xs : List Step) (s : Step) (f d c : Files) → CrashAfter xs f d → LeftDuring s.outcome s.name d c → CrashAmong (xs ++ s ∷ []) f c
CrashAmong-torn [] s f d c same torn = inr (inl (subst (λ x. LeftDuring s.outcome s.name x c) same torn))
CrashAmong-torn (x ∷ xs) s f d c (next, made, rest) torn = inr (inr (next, made, CrashAmong-torn xs s next d c rest torn))

-- ---- what a crash since an earlier moment leaves, with one change more

-- a change in progress, from what a crash now leaves
abbrev pub InProgress : List Step → Step → Files → Type 0
InProgress steps s c = AfterSome (left_after steps (length steps)) (LeftDuring s.outcome s.name) c

since_push : (steps : List Step) (s : Step) (t : ℕ) (c : Files) → t ≤ length steps → left_after (steps ++ s ∷ []) t c → (old : Files) × CrashAfter (take t steps) no_files old × CrashAmong (drop t steps ++ s ∷ []) old c
since_push steps s t c below (old, after, among) =
    (old, subst (λ made. CrashAfter made no_files old) (take-append-le t steps (s ∷ []) below) after, subst (λ rest. CrashAmong rest old c) (drop-append-le t steps (s ∷ []) below) among)

since_more : (steps : List Step) (s : Step) (t : ℕ) (old c : Files) → t ≤ length steps → CrashAfter (take t steps) no_files old → CrashAmong (drop t steps ++ s ∷ []) old c → left_after (steps ++ s ∷ []) t c
since_more steps s t old c below after among =
    (old, subst (λ made. CrashAfter made no_files old) (sym (take-append-le t steps (s ∷ []) below)) after, subst (λ rest. CrashAmong rest old c) (sym (drop-append-le t steps (s ∷ []) below)) among)

-- time goes on over one change
passes : (steps : List Step) (s : Step) → Elapses (length steps) (length (steps ++ s ∷ [])) (left_after steps) (left_after (steps ++ s ∷ [])) (InProgress steps s)
passes steps s = record {
  later = omega (arith, length-append steps (s ∷ []));
  nothing_else = λ t c below h.
      let (old, after, among) = since_push steps s t c below h in
      elim (CrashAmong-push (drop t steps) s old c among) [
        | inl before ↦ inl (old, after, before)
        | inr last ↦ inr (last.0, left_now steps last.0 (crash_join t steps no_files old last.0 after last.1), last.2)
      ];
  keeps = λ t c below (old, after, among). since_more steps s t old c below after (CrashAmong-more (drop t steps) s old c among);
}

-- and what it may tear, it tears
tears : (steps : List Step) (s : Step) (t : ℕ) (c : Files) → t ≤ length steps → InProgress steps s c → left_after (steps ++ s ∷ []) t c
tears steps s t c below (d, was, torn) =
    let (mid, front, back) = crash_parts t steps no_files d (now_is steps d was) in
    since_more steps s t mid c below front (CrashAmong-torn (drop t steps) s mid d c back torn)

-- ---- one change came to the end of the others

pub added_files : {old new : List Step} {name : List ℕ} {outcome : Outcome} → Adds old new name outcome → after_steps new no_files ≡ after_outcome outcome name (after_steps old no_files)
added_files {old} {new} {name} {outcome} more =
    ap (λ l. after_steps l no_files) more.list ∙ after_steps-append old (more.step ∷ []) no_files ∙ ap (λ n. after_outcome more.step.outcome n (after_steps old no_files)) more.of_name ∙ ap (λ o. after_outcome o name (after_steps old no_files)) more.came_out

-- said of the change itself, and of its name and how it came out
said : {old new : List Step} {name : List ℕ} {outcome : Outcome} (P : Outcome → List ℕ → Type 0) (more : Adds old new name outcome) → P more.step.outcome more.step.name → P outcome name
said {name = name} P more is = subst (λ o. P o name) more.came_out (subst (λ n. P more.step.outcome n) more.of_name is)

back : {old new : List Step} {name : List ℕ} {outcome : Outcome} (P : Outcome → List ℕ → Type 0) (more : Adds old new name outcome) → P outcome name → P more.step.outcome more.step.name
back {name = name} P more is = subst (λ n. P more.step.outcome n) (sym more.of_name) (subst (λ o. P o name) (sym more.came_out) is)

-- what a crash leaves after it
pub added_now : {old new : List Step} {name : List ℕ} {outcome : Outcome} → Adds old new name outcome → (c : Files) → left_after new (length new) c → AfterSome (left_after old (length old)) (LeftAfter outcome name) c
added_now {old} {new} {name} {outcome} more c h =
    let after : CrashAfter (old ++ more.step ∷ []) no_files c = subst (λ l. CrashAfter l no_files c) more.list (now_is new c h) in
    let (mid, front, last) = CrashAfter-push old more.step no_files c after in
    (mid, left_now old mid front, said (λ o n. LeftAfter o n mid c) more last)

-- and nothing less
pub added_now_all : {old new : List Step} {name : List ℕ} {outcome : Outcome} → Adds old new name outcome → (c : Files) → AfterSome (left_after old (length old)) (LeftAfter outcome name) c → left_after new (length new) c
added_now_all {old} {new} {name} {outcome} more c (mid, was, made) =
    let after : CrashAfter (old ++ more.step ∷ []) no_files c = CrashAfter-more old more.step no_files mid c (now_is old mid was) (back (λ o n. LeftAfter o n mid c) more made) in
    left_now new c (subst (λ l. CrashAfter l no_files c) (sym more.list) after)

-- what a crash may have left during it
pub added_time : {old new : List Step} {name : List ℕ} {outcome : Outcome} → Adds old new name outcome → Elapses (length old) (length new) (left_after old) (left_after new) (AfterSome (left_after old (length old)) (LeftDuring outcome name))
added_time {old} {new} {name} {outcome} more =
    subst (λ n. Elapses (length old) (length n) (left_after old) (left_after n) (AfterSome (left_after old (length old)) (LeftDuring outcome name))) (sym more.list)
    (wider _ _ _ _ (InProgress old more.step) _ (λ c (d, was, torn). (d, was, said (λ o n. LeftDuring o n d c) more torn)) (passes old more.step))

-- and nothing less
pub added_tears : {old new : List Step} {name : List ℕ} {outcome : Outcome} → Adds old new name outcome → (t : ℕ) (c : Files) → t ≤ length old → AfterSome (left_after old (length old)) (LeftDuring outcome name) c → left_after new t c
added_tears {old} {new} {name} {outcome} more t c below (d, was, torn) =
    subst (λ l. left_after l t c) (sym more.list) (tears old more.step t c below (d, was, back (λ o n. LeftDuring o n d c) more torn))

-- ---- whole changes

pub and_first : (a b : Bool) → (a && b) ≡ true → a ≡ true
and_first true b h = refl
and_first false b h = h

pub and_second : (a b : Bool) → (a && b) ≡ true → b ≡ true
and_second true b h = h
and_second false b h = cc

whole_made : (o : Outcome) (name : List ℕ) (d c : Files) → is_whole o ≡ true → LeftAfter o name d c → c ≡ after_outcome o name d
whole_made (Written bytes) name d c whole made = made
whole_made (HalfWritten left) name d c whole made = cc
whole_made Removed name d c whole made = made
whole_made (HalfRemoved gone) name d c whole made = cc

whole_steps : (steps : List Step) (f c : Files) → are_whole steps ≡ true → CrashAfter steps f c → c ≡ after_steps steps f
whole_steps [] f c whole same = same
whole_steps (s ∷ steps) f c whole (next, made, rest) =
    whole_steps steps next c (and_second (is_whole s.outcome) (are_whole steps) whole) rest
    ∙ ap (after_steps steps) (whole_made s.outcome s.name f next (and_first (is_whole s.outcome) (are_whole steps) whole) made)

-- where no change failed, a crash leaves what the changes made, and nothing else
pub only_now : (steps : List Step) (c : Files) → are_whole steps ≡ true → left_after steps (length steps) c → c ≡ after_steps steps no_files
only_now steps c whole h = whole_steps steps no_files c whole (now_is steps c h)

and_assoc : (a b c : Bool) → (a && (b && c)) ≡ ((a && b) && c)
and_assoc true b c = refl
and_assoc false b c = refl

and_true : (b : Bool) → (b && true) ≡ b
and_true true = refl
and_true false = refl

and_false : (b : Bool) → (b && false) ≡ false
and_false true = refl
and_false false = refl

whole_push : (xs : List Step) (s : Step) → are_whole (xs ++ s ∷ []) ≡ (are_whole xs && is_whole s.outcome)
whole_push [] s = and_true (is_whole s.outcome)
whole_push (x ∷ xs) s = ap (λ b. is_whole x.outcome && b) (whole_push xs s) ∙ and_assoc (is_whole x.outcome) (are_whole xs) (is_whole s.outcome)

-- a whole change
pub added_whole : {old new : List Step} {name : List ℕ} {outcome : Outcome} → Adds old new name outcome → is_whole outcome ≡ true → are_whole new ≡ are_whole old
added_whole {old} more whole =
    ap are_whole more.list ∙ whole_push old more.step ∙ ap (λ o. are_whole old && is_whole o) more.came_out ∙ ap (λ b. are_whole old && b) whole ∙ and_true (are_whole old)

-- a failed one
pub added_failed : {old new : List Step} {name : List ℕ} {outcome : Outcome} → Adds old new name outcome → is_whole outcome ≡ false → are_whole new ≡ false
added_failed {old} more failed =
    ap are_whole more.list ∙ whole_push old more.step ∙ ap (λ o. are_whole old && is_whole o) more.came_out ∙ ap (λ b. are_whole old && b) failed ∙ and_false (are_whole old)

-- ---- a name that keeps what it has

same_or : (b : Bool) (x y : Option (List ℕ)) → (b ≡ true → x ≡ y) → cond b x y ≡ y
same_or true x y same = same refl
same_or false x y same = refl

pub keeps_file : (name : List ℕ) (f : Files) → with_file name (f name) f ≡ f
keeps_file name f = λ t n. same_or (bytes_eq name n) (f name) (f n) (λ same. ap f ((bytes_eq-Decides name n).0 same)) t
