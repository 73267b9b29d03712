-- A tidying, whole or cut short, leaves what the files stand for.
use Rattle.std.proofs.Common.{◌≡◌, ℕ, inl, inr, List, None, Some, Ok, Err, Option, length, refl, sym, ap, ◌∙◌, subst}
use Rattle.std.specs.Prelude.{filter, IfOk, OnErr}
use Rattle.std.specs.declared.result.Result.{Result}
use Rattle.store_io.specs.Files.{Files}
use Rattle.store_io.specs.Listing.{IsInByteOrder, Lists}
use Rattle.store_io.specs.Outcomes.{AfterSome, Told}
use Rattle.store_io.specs.Crashes.{Elapses, LeavesOnly}
use Rattle.store_io.proofs.Chains.{chain, wider, leaves_from}
use Rattle.database_state.specs.Database.{Database}
use Rattle.database_state.specs.Heads.{Head}
use Rattle.database_state.specs.Standing.{CrashesSay, SaysWhereTold}
use Rattle.database_state.specs.declared.faults.DbFault.{DbFault}
use Rattle.store_tidy.specs.Removals.{without, AllRemoved, FirstRemoved, AreNamesOf, Tidied, LeftUntidy}
use Rattle.store_tidy.specs.Unused.{is_unused, without_unused, LosesUnused, Says}
use Rattle.store_tidy.proofs.Gone.{loses, loses_none, loses_all, all_removed}
use Rattle.store_tidy.proofs.Keeping.{says_still}

-- ---- what a tidying leaves

-- what was left untidy has lost nothing else
untidy_loses : (h : Head) (d c : Files) → LeftUntidy h d c → LosesUnused h d c
untidy_loses h d c (inl same) = loses_none h d c same
untidy_loses h d c (inr part) = loses h part.names d c part.first

says_told : (S : Files → Files → Type 0) (h : Head) (old new : Option Files) → ((d c : Files) → S d c → LosesUnused h d c) → Told S old new → (said : Database) → SaysWhereTold old h said → SaysWhereTold new h said
says_told S h None new loses told said says = λ f is. let none : None ≡ Some f = sym told ∙ is in absurd cc
says_told S h (Some d) new loses (c, there, made) said says = λ f is.
    let whole : Some c ≡ Some f = sym there ∙ is in
    let same : c ≡ f = cc in
    subst (λ (x : Files). Says h said x) same (says_still h said d c (loses d c made) (says d refl))

-- the files say what they said where they are told
pub says_where_told : (h : Head) (old new : Option Files) (result : Result ℕ DbFault) → IfOk result (λ n. Told (Tidied h n) old new) → OnErr result (Told (LeftUntidy h) old new) → (said : Database) → SaysWhereTold old h said → SaysWhereTold new h said
says_where_told h old new (Ok n) files part = says_told (Tidied h n) h old new (λ d c made. loses_all h d c made.files) files
says_where_told h old new (Err fault) files part = says_told (LeftUntidy h) h old new (untidy_loses h) part

-- what a crash since then leaves
pub any_moment : {D : Type 0} (moment : D → ℕ) (left_since : D → ℕ → Files → Type 0) (old new : D) (h : Head) → Elapses (moment old) (moment new) (left_since old) (left_since new) (AfterSome (left_since old (moment old)) (LosesUnused h)) → (said : Database) → CrashesSay (left_since old (moment old)) h said → LeavesOnly moment left_since old new (Says h said)
any_moment moment left_since old new h time said says = leaves_from (Says h said) says within time
  where
    within : (c : Files) → AfterSome (left_since old (moment old)) (LosesUnused h) c → Says h said c
    within c (d, was, gone) = says_still h said d c gone (says d was)

-- ---- the steps of a tidying

-- the names were listed, and those that the head does not use taken away, or some of them
pub passes : {m n o : ℕ} {l k j : ℕ → Files → Type 0} (h : Head) (names : List (List ℕ)) → Elapses m n l k (l m) → ((c : Files) → k n c → l m c) → Elapses n o k j (AfterSome (k n) (FirstRemoved (filter (is_unused h) names))) → Elapses m o l j (AfterSome (l m) (LosesUnused h))
passes {m} {l} h names listing now removing = chain (AfterSome (l m) (LosesUnused h))
    (λ c was. (c, was, loses_none h c c refl))
    (λ c (d, was, first). (d, now d was, loses h names d c first))
    listing removing

-- no name was taken away
pub passes_none : {m n : ℕ} {l k : ℕ → Files → Type 0} (h : Head) → Elapses m n l k (l m) → Elapses m n l k (AfterSome (l m) (LosesUnused h))
passes_none {m} {l} h listing = wider m _ l _ (l m) (AfterSome (l m) (LosesUnused h)) (λ c was. (c, was, loses_none h c c refl)) listing

-- the names that a store tells
names_of : (f : Files) (names : List (List ℕ)) → IsInByteOrder names → Lists (Some f) names → AreNamesOf f names
names_of f names order all = record { order = order; all = all }

-- all were taken away
pub whole : (h : Head) (names : List (List ℕ)) (n : ℕ) (old mid new : Option Files) → mid ≡ old → IsInByteOrder names → Lists old names → n ≡ length (filter (is_unused h) names) → Told (AllRemoved (filter (is_unused h) names)) mid new → Told (Tidied h n) old new
whole h names n None mid new same order all count told = subst (λ m. Told (AllRemoved (filter (is_unused h) names)) m new) same told
whole h names n (Some f) mid new same order all count told =
    let (c, there, made) = subst (λ m. Told (AllRemoved (filter (is_unused h) names)) m new) same told in
    let of = names_of f names order all in
    (c, there, record { files = made ∙ all_removed h f names of; names = names; of = of; count = count })

-- some were taken away
pub in_part : (h : Head) (names : List (List ℕ)) (old mid new : Option Files) → mid ≡ old → IsInByteOrder names → Lists old names → Told (FirstRemoved (filter (is_unused h) names)) mid new → Told (LeftUntidy h) old new
in_part h names None mid new same order all told = subst (λ m. Told (FirstRemoved (filter (is_unused h) names)) m new) same told
in_part h names (Some f) mid new same order all told =
    let (c, there, first) = subst (λ m. Told (FirstRemoved (filter (is_unused h) names)) m new) same told in
    (c, there, inr (record { names = names; of = names_of f names order all; first = first }))

-- none was taken away
pub untouched : (h : Head) (old new : Option Files) → new ≡ old → Told (LeftUntidy h) old new
untouched h None new same = same
untouched h (Some f) new same = (f, same, inl refl)

-- what a crash leaves in the end, where at the start it left the present files alone
pub settled : (h : Head) (names : List (List ℕ)) (old : Option Files) (before mid after : Files → Type 0) → IsInByteOrder names → Lists old names → ((c : Files) → mid c → before c) → ((c : Files) → after c → AfterSome mid (AllRemoved (filter (is_unused h) names)) c) → (f : Files) → old ≡ Some f → ((c : Files) → before c → c ≡ f) → (c : Files) → after c → c ≡ without_unused h f
settled h names old before mid after order all now crash f is alone c here =
    let (d, was, made) = crash c here in
    let of = names_of f names order (subst (λ o. Lists o names) is all) in
    made ∙ ap (without (filter (is_unused h) names)) (alone d (now d was)) ∙ all_removed h f names of
