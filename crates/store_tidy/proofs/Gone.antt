-- Removals one after the other: what they make of the files, and what a crash in their midst leaves.
use Rattle.std.proofs.Common.{◌≡◌, ℕ, suc, ◌+◌, ◌<◌, inl, inr, Bool, true, false, ◌&&◌, if◌then◌else◌, ◌||◌, List, [], ◌∷◌, ◌++◌, None, Some, Ok, Err, Option, length, take, drop, get_or, refl, sym, ap, ◌∙◌, subst, take-append-drop, drop-cons, add-one}
use Rattle.std.specs.declared.result.Result.{Result}
use Rattle.std.specs.Prelude.{filter, is_some, OnErr}
use Rattle.std.specs.List.{AllByRecursion}
use Rattle.std.specs.Str.{bytes_eq}
use Rattle.std.proofs.lemmas.Slice.Eq.{bytes_eq-Decides}
use Rattle.std.proofs.lemmas.Map.Views.{any-filter_same}
use Rattle.store_io.specs.Files.{Files, with_file}
use Rattle.store_io.specs.Listing.{is_listed}
use Rattle.store_io.specs.Outcomes.{MaybeRemoved, Holds, AfterSome, Told, Removes}
use Rattle.store_io.specs.declared.errors.StoreError.{StoreError}
use Rattle.store_io.specs.declared.errors.StoreError.TheVariants.{Failed, Memory}
use Rattle.store_io.specs.Crashes.{Elapses}
use Rattle.store_io.proofs.Chains.{chain, stands_still}
use Rattle.database_state.specs.Heads.{Head}
use Rattle.epoch_store.proofs.Order.{cases}
use Rattle.epoch_store.proofs.Phases.{told_then}
use Rattle.store_tidy.specs.Removals.{without, AllRemoved, FirstRemoved, AreNamesOf}
use Rattle.store_tidy.specs.Unused.{is_unused, without_unused, LosesUnused}

-- removals in two parts
without-append : (xs ys : List (List ℕ)) (f : Files) → without (xs ++ ys) f ≡ without ys (without xs f)
without-append [] ys f = refl
without-append (x ∷ xs) ys f = without-append xs ys (with_file x None f)

-- before the first removal
pub none_yet : (ns : List (List ℕ)) (d c : Files) → c ≡ d → FirstRemoved ns d c
none_yet [] d c is = is
none_yet (n ∷ ns) d c is = inl (inr is)

-- with more removals to come
some_more : (xs ys : List (List ℕ)) (d c : Files) → FirstRemoved xs d c → FirstRemoved (xs ++ ys) d c
some_more [] ys d c is = none_yet ys d c is
some_more (x ∷ xs) ys d c (inl is) = inl is
some_more (x ∷ xs) ys d c (inr some) = inr (some_more xs ys (with_file x None d) c some)

-- in the midst of a removal, after others
maybe_after : (xs : List (List ℕ)) (n : List ℕ) (ys : List (List ℕ)) (d c : Files) → MaybeRemoved n (without xs d) c → FirstRemoved (xs ++ n ∷ ys) d c
maybe_after [] n ys d c maybe = inl maybe
maybe_after (x ∷ xs) n ys d c maybe = inr (maybe_after xs n ys (with_file x None d) c maybe)

-- these removals were made
pub record Made (ns : List (List ℕ)) (old new : Option Files) (before now : ℕ) (past since : ℕ → Files → Type 0) : Type 0 where
  pub files : Told (AllRemoved ns) old new
  pub crash : (c : Files) → since now c → AfterSome (past before) (AllRemoved ns) c
  pub time : Elapses before now past since (AfterSome (past before) (FirstRemoved ns))

told_same : (files : Option Files) → Told (AllRemoved []) files files
told_same None = refl
told_same (Some f) = (f, refl, refl)

pub none_made : (files : Option Files) (moment : ℕ) (past : ℕ → Files → Type 0) → Made [] files files moment moment past past
none_made files moment past = record { files = told_same files; crash = λ c here. (c, here, refl); time = stands_still moment past _ }

all_more : (ns : List (List ℕ)) (n : List ℕ) (d e f : Files) → AllRemoved ns d e → Holds n None e f → AllRemoved (ns ++ n ∷ []) d f
all_more ns n d e f all holds = holds ∙ ap (with_file n None) all ∙ sym (without-append ns (n ∷ []) d)

-- one removal more was made
pub one_more : {ns : List (List ℕ)} {old mid new : Option Files} {before here now : ℕ} {past amid since : ℕ → Files → Type 0} (n : List ℕ) → Made ns old mid before here past amid → Told (Holds n None) mid new → ((c : Files) → since now c → AfterSome (amid here) (Holds n None) c) → Elapses here now amid since (AfterSome (amid here) (MaybeRemoved n)) → Made (ns ++ n ∷ []) old new before now past since
one_more {ns} {old} {mid} {new} {before} {here} {now} {past} n made told crash time = record {
  files = told_then old mid new (all_more ns n) made.files told;
  crash = λ c here.
      let (e, was, holds) = crash c here in
      let (d, past, all) = made.crash e was in
      (d, past, all_more ns n d e c all holds);
  time = chain (AfterSome (past before) (FirstRemoved (ns ++ n ∷ [])))
      (λ c (d, was, some). (d, was, some_more ns (n ∷ []) d c some))
      (λ c (e, was, maybe). let (d, past, all) = made.crash e was in (d, past, maybe_after ns n [] d c (subst (λ f. MaybeRemoved n f c) all maybe)))
      made.time time;
}

-- the next removal failed: what a crash since the start leaves
pub cut_short : {ns : List (List ℕ)} {old mid : Option Files} {before here now : ℕ} {past amid since : ℕ → Files → Type 0} (n : List ℕ) (more : List (List ℕ)) → Made ns old mid before here past amid → Elapses here now amid since (AfterSome (amid here) (MaybeRemoved n)) → Elapses before now past since (AfterSome (past before) (FirstRemoved (ns ++ n ∷ more)))
cut_short {ns} {old} {mid} {before} {here} {now} {past} n more made time = chain (AfterSome (past before) (FirstRemoved (ns ++ n ∷ more)))
    (λ c (d, was, some). (d, was, some_more ns (n ∷ more) d c some))
    (λ c (e, was, maybe). let (d, past, all) = made.crash e was in (d, past, maybe_after ns n more d c (subst (λ f. MaybeRemoved n f c) all maybe)))
    made.time time

-- and the files
pub left_short : {ns : List (List ℕ)} {old mid : Option Files} {before here : ℕ} {past amid : ℕ → Files → Type 0} (new : Option Files) (n : List ℕ) (more : List (List ℕ)) → Made ns old mid before here past amid → Told (MaybeRemoved n) mid new → Told (FirstRemoved (ns ++ n ∷ more)) old new
left_short {ns} {old} {mid} new n more made told = told_then old mid new (λ d e f all maybe. maybe_after ns n more d f (subst (λ x. MaybeRemoved n x f) all maybe)) made.files told

-- a removal that failed, in either way
pub maybe_told : (old new : Option Files) (n : List ℕ) (e : StoreError) → Removes {T = Unit {0}} n old new (Err e) → Told (MaybeRemoved n) old new
maybe_told old new n Failed is = is.failed refl
maybe_told None new n Memory is = is.memory refl
maybe_told (Some f) new n Memory is = (f, is.memory refl, inr refl)

-- what holds in any case
pub on_err : {T E : Type 0} (result : Result T E) (P : Type 0) → P → OnErr result P
on_err (Ok value) P p = tt
on_err (Err e) P p = p

-- the names around the i-th
pub around : (ns : List (List ℕ)) (i : ℕ) (n : List ℕ) → i < length ns → n ≡ get_or ns i n → take i ns ++ n ∷ drop (i + 1) ns ≡ ns
around ns i n within is =
    let rest : drop i ns ≡ n ∷ drop (i + 1) ns = rw add-one (drop-cons ns i n within ∙ ap (λ x. x ∷ drop (suc i) ns) (sym is)) in
    ap (λ l. take i ns ++ l) (sym rest) ∙ take-append-drop i ns

-- ---- removals of what a head does not use

filter_passes : (p : List ℕ → Bool) (ns : List (List ℕ)) → AllByRecursion (λ n. p n ≡ true) (filter p ns)
filter_passes p [] = tt
filter_passes p (n ∷ ns) = elim (cases (p n)) [
  | inl holds ↦ rw holds (holds, filter_passes p ns)
  | inr fails ↦ rw fails (filter_passes p ns)
]

pub loses_none : (h : Head) (d c : Files) → c ≡ d → LosesUnused h d c
loses_none h d c is = λ n. inl (ap (λ (f : Files). f n) is)

loses_one : (h : Head) (name : List ℕ) (d e : Files) → is_unused h name ≡ true → LosesUnused h (with_file name None d) e → LosesUnused h d e
loses_one h name d e unused rest = λ n. elim (cases (bytes_eq name n)) [
  | inl holds ↦
      let same : name ≡ n = (bytes_eq-Decides name n).0 holds in
      let here : is_unused h n ≡ true = subst (λ m. is_unused h m ≡ true) same unused in
      elim (rest n) [ inl is ↦ inr (here, is ∙ rw holds refl) | inr gone ↦ inr gone ]
  | inr fails ↦ elim (rest n) [ inl is ↦ inl (is ∙ rw fails refl) | inr gone ↦ inr gone ]
]

loses_first : (h : Head) (ns : List (List ℕ)) (d c : Files) → AllByRecursion (λ n. is_unused h n ≡ true) ns → FirstRemoved ns d c → LosesUnused h d c
loses_first h [] d c all is = loses_none h d c is
loses_first h (n ∷ ns) d c all (inl (inl gone)) = loses_one h n d c all.0 (loses_none h (with_file n None d) c gone)
loses_first h (n ∷ ns) d c all (inl (inr is)) = loses_none h d c is
loses_first h (n ∷ ns) d c all (inr rest) = loses_one h n d c all.0 (loses_first h ns (with_file n None d) c all.1 rest)

-- the first of them are gone
pub loses : (h : Head) (names : List (List ℕ)) (d c : Files) → FirstRemoved (filter (is_unused h) names) d c → LosesUnused h d c
loses h names d c first = loses_first h (filter (is_unused h) names) d c (filter_passes (is_unused h) names) first

-- all of them are gone
pub loses_all : (h : Head) (d c : Files) → c ≡ without_unused h d → LosesUnused h d c
loses_all h d c is = λ n. elim (cases (is_unused h n)) [
  | inl holds ↦ inr (holds, ap (λ (f : Files). f n) is ∙ rw holds refl)
  | inr fails ↦ inl (ap (λ (f : Files). f n) is ∙ rw fails refl)
]

-- what stands under a name then
without_at : (ns : List (List ℕ)) (f : Files) (n : List ℕ) → without ns f n ≡ (if is_listed n ns then None else f n)
without_at [] f n = refl
without_at (x ∷ xs) f n = without_at xs (with_file x None f) n ∙ either (is_listed n xs) (bytes_eq x n) (f n)
  where
    either : (later first : Bool) (o : Option (List ℕ)) → (if later then None else (if first then None else o)) ≡ (if (first || later) then None else o)
    either true true o = refl
    either true false o = refl
    either false true o = refl
    either false false o = refl

-- all that are there and that a head does not use
pub all_removed : (h : Head) (f : Files) (names : List (List ℕ)) → AreNamesOf f names → without (filter (is_unused h) names) f ≡ without_unused h f
all_removed h f names of = λ t n. at n t
  where
    there : (b : Bool) (o : Option (List ℕ)) → (if (b && is_some o) then None else o) ≡ (if b then None else o)
    there true None = refl
    there true (Some bytes) = refl
    there false o = refl

    at : (n : List ℕ) → without (filter (is_unused h) names) f n ≡ without_unused h f n
    at n =
        let listed : is_listed n (filter (is_unused h) names) ≡ (is_unused h n && is_listed n names)
        = any-filter_same (λ m. bytes_eq m n) (is_unused h) (is_unused h n) (λ k same. ap (is_unused h) ((bytes_eq-Decides k n).0 same)) names in
        without_at (filter (is_unused h) names) f n ∙ ap (λ b. if b then None else f n) listed ∙ ap (λ b. if (is_unused h n && b) then None else f n) (of.all n) ∙ there (is_unused h n) (f n)
