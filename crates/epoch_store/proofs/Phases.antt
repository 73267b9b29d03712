-- Writes one after the other: what they make of the files, and what a crash in their midst leaves.
use Rattle.std.proofs.Common.{◌≡◌, ℕ, suc, ◌+◌, ◌<◌, inl, inr, List, [], ◌∷◌, ◌++◌, None, Some, Option, length, take, drop, get_or, refl, sym, ap, ◌∙◌, subst, take-append-drop, drop-cons, add-one}
use Rattle.store_io.specs.Files.{Files, with_file}
use Rattle.store_io.specs.Outcomes.{Torn, Holds, AfterSome, Told}
use Rattle.store_io.specs.Crashes.{Elapses}
use Rattle.store_io.proofs.Chains.{chain, stands_still}
use Rattle.epoch_store.specs.Puts.{Put, put, puts, PutAll, PutSome}

-- writes in two parts
pub puts-append : (xs ys : List Put) (f : Files) → puts (xs ++ ys) f ≡ puts ys (puts xs f)
puts-append [] ys f = refl
puts-append (x ∷ xs) ys f = puts-append xs ys (put x f)

-- a crash before the first write
none_yet : (ws : List Put) (d c : Files) → c ≡ d → PutSome ws d c
none_yet [] d c is = is
none_yet (w ∷ ws) d c is = inl is

-- with more writes to come
some_more : (xs ys : List Put) (d c : Files) → PutSome xs d c → PutSome (xs ++ ys) d c
some_more [] ys d c is = none_yet ys d c is
some_more (x ∷ xs) ys d c (inl is) = inl is
some_more (x ∷ xs) ys d c (inr (inl torn)) = inr (inl torn)
some_more (x ∷ xs) ys d c (inr (inr some)) = inr (inr (some_more xs ys (put x d) c some))

-- a crash in the midst of a write, after others
torn_after : (xs : List Put) (w : Put) (ys : List Put) (d c : Files) → Torn w.name (puts xs d) c → PutSome (xs ++ w ∷ ys) d c
torn_after [] w ys d c torn = inr (inl torn)
torn_after (x ∷ xs) w ys d c torn = inr (inr (torn_after xs w ys (put x d) c torn))

-- these writes were made
pub record Made (ws : List Put) (old new : Option Files) (before now : ℕ) (past since : ℕ → Files → Type 0) : Type 0 where
  pub files : Told (PutAll ws) old new
  pub crash : (c : Files) → since now c → AfterSome (past before) (PutAll ws) c
  pub time : Elapses before now past since (AfterSome (past before) (PutSome ws))

told_same : (files : Option Files) → Told (PutAll []) files files
told_same None = refl
told_same (Some f) = (f, refl, refl)

pub none_made : (files : Option Files) (moment : ℕ) (past : ℕ → Files → Type 0) → Made [] files files moment moment past past
none_made files moment past = record { files = told_same files; crash = λ c here. (c, here, refl); time = stands_still moment past _ }

-- a step of the same kind
pub told_then : {S T U : Files → Files → Type 0} (old mid new : Option Files) → ((d e f : Files) → S d e → T e f → U d f) → Told S old mid → Told T mid new → Told U old new
told_then {T} None mid new join one two = subst (λ m. Told T m new) one two
told_then {T} (Some d) mid new join (e, is, s) two =
    let (f, there, t) = subst (λ m. Told T m new) is two in (f, there, join d e f s t)

all_more : (ws : List Put) (w : Put) (d e f : Files) → PutAll ws d e → Holds w.name (Some w.bytes) e f → PutAll (ws ++ w ∷ []) d f
all_more ws w d e f all holds = holds ∙ ap (with_file w.name (Some w.bytes)) all ∙ sym (puts-append ws (w ∷ []) d)

-- one write more was made
pub one_more : {ws : List Put} {old mid new : Option Files} {before here now : ℕ} {past then since : ℕ → Files → Type 0} (w : Put) → Made ws old mid before here past then → Told (Holds w.name (Some w.bytes)) mid new → ((c : Files) → since now c → AfterSome (then here) (Holds w.name (Some w.bytes)) c) → Elapses here now then since (AfterSome (then here) (Torn w.name)) → Made (ws ++ w ∷ []) old new before now past since
one_more {ws} {old} {mid} {new} {before} {here} {now} {past} w made told crash time = record {
  files = told_then old mid new (all_more ws w) made.files told;
  crash = λ c here.
      let (e, was, holds) = crash c here in
      let (d, past, all) = made.crash e was in
      (d, past, all_more ws w d e c all holds);
  time = chain (AfterSome (past before) (PutSome (ws ++ w ∷ [])))
      (λ c (d, was, some). (d, was, some_more ws (w ∷ []) d c some))
      (λ c (e, was, torn). let (d, past, all) = made.crash e was in (d, past, torn_after ws w [] d c (subst (λ f. Torn w.name f c) all torn)))
      made.time time;
}

-- the next write failed
pub cut_short : {ws : List Put} {old mid : Option Files} {before here now : ℕ} {past then since : ℕ → Files → Type 0} (w : Put) (more : List Put) → Made ws old mid before here past then → Elapses here now then since (AfterSome (then here) (Torn w.name)) → Elapses before now past since (AfterSome (past before) (PutSome (ws ++ w ∷ more)))
cut_short {ws} {old} {mid} {before} {here} {now} {past} w more made time = chain (AfterSome (past before) (PutSome (ws ++ w ∷ more)))
    (λ c (d, was, some). (d, was, some_more ws (w ∷ more) d c some))
    (λ c (e, was, torn). let (d, past, all) = made.crash e was in (d, past, torn_after ws w more d c (subst (λ f. Torn w.name f c) all torn)))
    made.time time

-- the writes around the i-th
pub around : (ws : List Put) (i : ℕ) (w : Put) → i < length ws → w ≡ get_or ws i w → take i ws ++ w ∷ drop (i + 1) ws ≡ ws
around ws i w within is =
    let rest : drop i ws ≡ w ∷ drop (i + 1) ws = rw add-one (drop-cons ws i w within ∙ ap (λ x. x ∷ drop (suc i) ws) (sym is)) in
    ap (λ l. take i ws ++ l) (sym rest) ∙ take-append-drop i ws
