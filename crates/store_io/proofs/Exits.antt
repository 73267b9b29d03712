-- What a call that added one change answers of its files and of crashes.
use Rattle.std.proofs.Common.{rules, arith, ◌≡◌, ℕ, ◌≤◌, Bool, true, false, cond, List, [], ◌∷◌, ◌++◌, ◌⊎◌, inl, inr, None, Some, Ok, Err, Option, length, refl, sym, ap, ◌∙◌, subst}
use Rattle.std.specs.Prelude.{IsErrOf}
use Rattle.std.specs.declared.result.Result.{Result}
use Rattle.std.specs.Option.{option_map}
use Rattle.std.specs.Global.{Vec}
use Rattle.store_io.specs.declared.errors.StoreError.{StoreError}
use Rattle.store_io.specs.declared.errors.StoreError.TheVariants.{Failed, Memory}
use Rattle.store_io.specs.declared.steps.Step.{Step}
use Rattle.store_io.specs.declared.steps.Outcome.{Outcome}
use Rattle.store_io.specs.declared.steps.Outcome.TheVariants.{Written, HalfWritten, Removed, HalfRemoved}
use Rattle.store_io.specs.declared.fails.Left.{Left}
use Rattle.store_io.specs.declared.fails.Left.TheVariants.{Absent, AsBefore, Bytes}
use Rattle.store_io.specs.Files.{Files, no_files, with_file, contents}
use Rattle.store_io.specs.Outcomes.{Torn, MaybeRemoved, Holds, AfterSome, Makes, Leaves, Writes, Removes}
use Rattle.store_io.specs.Crashes.{Elapses, MayTear}
use Rattle.store_io.specs.Changes.{after_steps, after_outcome, LeftAfter, LeftDuring, left_after, Adds, IsHeldAfter, MayBeTornAfter, unremoved_bytes, takes_away}
use Rattle.store_io.proofs.History.{during_after, added_files, added_now, added_now_all, added_time, added_tears, keeps_file, wider}

-- ---- after Ok

made_files : {step less : Files → Files → Type 0} {old new : Files} → step old new → Makes {T = Unit {0}} step less (Some old) (Some new) (Ok tt)
made_files {new = new} is = record { ok = (new, refl, is); failed = λ e. cc; memory = λ e. cc }

made_crash : {step less : Files → Files → Type 0} {old new : Files → Type 0} → ((c : Files) → new c → AfterSome old step c) → Leaves {T = Unit {0}} step less old new (Ok tt)
made_crash each = record { ok = each; failed = λ e c h. cc; memory = λ e c h. cc }

made_torn : {less : Files → Files → Type 0} {before now : ℕ} {past since : ℕ → Files → Type 0} → ((t : ℕ) (c : Files) → t ≤ before → AfterSome (past before) less c → since t c) → MayTear {T = Unit {0}} less before now past since (Ok tt)
made_torn during = record { during = λ e. during; failed = λ e c h. cc }

pub written_files : {old new : List Step} {name bytes : List ℕ} {v : Vec ℕ} → contents v ≡ bytes → Adds old new name (Written v) → Writes {T = Unit {0}} name bytes (Some (after_steps old no_files)) (Some (after_steps new no_files)) (Ok tt)
written_files {old} {name = name} is more = made_files (added_files more ∙ ap (λ b. with_file name (Some b) (after_steps old no_files)) is)

pub written_crash : {old new : List Step} {name bytes : List ℕ} {v : Vec ℕ} → contents v ≡ bytes → Adds old new name (Written v) → Leaves {T = Unit {0}} (Holds name (Some bytes)) (Torn name) (left_after old (length old)) (left_after new (length new)) (Ok tt)
written_crash {old} {name = name} is more = made_crash (λ c h. let (d, was, made) = added_now more c h in (d, was, made ∙ ap (λ b. with_file name (Some b) d) is))

pub written_torn : {old new : List Step} {name : List ℕ} {v : Vec ℕ} → Adds old new name (Written v) → MayTear {T = Unit {0}} (Torn name) (length old) (length new) (left_after old) (left_after new) (Ok tt)
written_torn more = made_torn (added_tears more)

pub removed_files : {old new : List Step} {name : List ℕ} → Adds old new name Removed → Removes {T = Unit {0}} name (Some (after_steps old no_files)) (Some (after_steps new no_files)) (Ok tt)
removed_files more = made_files (added_files more)

pub removed_crash : {old new : List Step} {name : List ℕ} → Adds old new name Removed → Leaves {T = Unit {0}} (Holds name None) (MaybeRemoved name) (left_after old (length old)) (left_after new (length new)) (Ok tt)
removed_crash more = made_crash (added_now more)

pub removed_torn : {old new : List Step} {name : List ℕ} → Adds old new name Removed → MayTear {T = Unit {0}} (MaybeRemoved name) (length old) (length new) (left_after old) (left_after new) (Ok tt)
removed_torn more = made_torn (added_tears more)

-- ---- after Failed

failed_files : {step less : Files → Files → Type 0} {old new : Files} → less old new → Makes {T = Unit {0}} step less (Some old) (Some new) (Err Failed)
failed_files {new = new} is = record { ok = tt; failed = λ e. (new, refl, is); memory = λ e. cc }

failed_crash : {step less : Files → Files → Type 0} {old new : Files → Type 0} → ((c : Files) → new c → AfterSome old less c) → Leaves {T = Unit {0}} step less old new (Err Failed)
failed_crash each = record { ok = tt; failed = λ e. each; memory = λ e c h. cc }

failed_torn : {less : Files → Files → Type 0} {before now : ℕ} {past since : ℕ → Files → Type 0} → ((t : ℕ) (c : Files) → t ≤ before → AfterSome (past before) less c → since t c) → ((c : Files) → AfterSome (past before) less c → since now c) → MayTear {T = Unit {0}} less before now past since (Err Failed)
failed_torn during now = record { during = λ e. during; failed = λ e. now }

-- whatever a change leaves, it leaves at most its name torn
all_torn : (o : Outcome) (name : List ℕ) (old new : Files) → LeftAfter o name old new → Torn name old new
all_torn (Written bytes) name old new made = (Some (contents bytes), made)
all_torn (HalfWritten left) name old new made = made
all_torn Removed name old new made = (None, made)
all_torn (HalfRemoved gone) name old new (inl absent) = (None, absent)
all_torn (HalfRemoved gone) name old new (inr same) = (old name, same ∙ sym (keeps_file name old))

torn_during : (o : Outcome) (name : List ℕ) (old new : Files) → LeftDuring o name old new → Torn name old new
torn_during (Written bytes) name old new made = made
torn_during (HalfWritten left) name old new made = made
torn_during Removed name old new (inl absent) = (None, absent)
torn_during Removed name old new (inr same) = (old name, same ∙ sym (keeps_file name old))
torn_during (HalfRemoved gone) name old new (inl absent) = (None, absent)
torn_during (HalfRemoved gone) name old new (inr same) = (old name, same ∙ sym (keeps_file name old))

pub unwritten_is : {old new : List Step} {name : List ℕ} {o : Outcome} (left : Option (List ℕ)) → IsHeldAfter left o → Adds old new name o → after_steps new no_files ≡ with_file name left (after_steps old no_files)
unwritten_is {old} {name = name} left held more = added_files more ∙ held name (after_steps old no_files)

pub unwritten_files : {old new : List Step} {name : List ℕ} {o : Outcome} (bytes : List ℕ) (left : Option (List ℕ)) → IsHeldAfter left o → Adds old new name o → Writes {T = Unit {0}} name bytes (Some (after_steps old no_files)) (Some (after_steps new no_files)) (Err Failed)
unwritten_files bytes left held more = failed_files (left, unwritten_is left held more)

pub unwritten_crash : {old new : List Step} {name : List ℕ} {o : Outcome} (bytes : List ℕ) → Adds old new name o → Leaves {T = Unit {0}} (Holds name (Some bytes)) (Torn name) (left_after old (length old)) (left_after new (length new)) (Err Failed)
unwritten_crash {name = name} {o = o} bytes more = failed_crash (λ c h. let (d, was, made) = added_now more c h in (d, was, all_torn o name d c made))

pub unwritten_time : {old new : List Step} {name : List ℕ} {o : Outcome} → Adds old new name o → Elapses (length old) (length new) (left_after old) (left_after new) (AfterSome (left_after old (length old)) (Torn name))
unwritten_time {name = name} {o = o} more = wider _ _ _ _ _ _ (λ c (d, was, torn). (d, was, torn_during o name d c torn)) (added_time more)

pub unwritten_torn : {old new : List Step} {name : List ℕ} {o : Outcome} → MayBeTornAfter o → Adds old new name o → MayTear {T = Unit {0}} (Torn name) (length old) (length new) (left_after old) (left_after new) (Err Failed)
unwritten_torn {name = name} {o = o} torn more =
    failed_torn
    (λ t c below (d, was, may). added_tears more t c below (d, was, during_after o name d c (torn name d c may)))
    (λ c (d, was, may). added_now_all more c (d, was, torn name d c may))

-- whether it was taken or kept, a removal that failed left what it may leave
half_removed : (gone : Bool) (name : List ℕ) (files : Files) → MaybeRemoved name files (after_outcome (HalfRemoved gone) name files)
half_removed true name files = inl refl
half_removed false name files = inr refl

pub unremoved_files : {old new : List Step} {name : List ℕ} {gone : Bool} → Adds old new name (HalfRemoved gone) → Removes {T = Unit {0}} name (Some (after_steps old no_files)) (Some (after_steps new no_files)) (Err Failed)
unremoved_files {old} {name = name} {gone = gone} more = failed_files (subst (λ f. MaybeRemoved name (after_steps old no_files) f) (sym (added_files more)) (half_removed gone name (after_steps old no_files)))

pub unremoved_crash : {old new : List Step} {name : List ℕ} {gone : Bool} → Adds old new name (HalfRemoved gone) → Leaves {T = Unit {0}} (Holds name None) (MaybeRemoved name) (left_after old (length old)) (left_after new (length new)) (Err Failed)
unremoved_crash more = failed_crash (added_now more)

pub unremoved_torn : {old new : List Step} {name : List ℕ} {gone : Bool} → Adds old new name (HalfRemoved gone) → MayTear {T = Unit {0}} (MaybeRemoved name) (length old) (length new) (left_after old) (left_after new) (Err Failed)
unremoved_torn more = failed_torn (added_tears more) (added_now_all more)

-- what a failed removal left is what was listed for it
half_removed_is : (left : Left) (name : List ℕ) (files : Files) → after_outcome (HalfRemoved (takes_away left)) name files ≡ with_file name (unremoved_bytes left (files name)) files
half_removed_is Absent name files = refl
half_removed_is AsBefore name files = sym (keeps_file name files)
half_removed_is (Bytes v) name files = sym (keeps_file name files)

pub unremoved_left : {old new : List Step} {name : List ℕ} (left : Left) → Adds old new name (HalfRemoved (takes_away left)) → after_steps new no_files ≡ with_file name (unremoved_bytes left (after_steps old no_files name)) (after_steps old no_files)
unremoved_left {old} {name = name} left more = added_files more ∙ half_removed_is left name (after_steps old no_files)
