-- What a commit, whole or cut short, leaves.
use Rattle.std.proofs.Common.{arith, ◌≡◌, ℕ, ◌+◌, ◌<◌, ◌≤◌, ◌⊎◌, inl, inr, true, List, [], None, Some, Option, refl, sym, ap, ◌∙◌, subst}
use Rattle.std.specs.Prelude.{IsSome}
use Rattle.std.specs.List.{list_all}
use Rattle.std.specs.Bool.{Decides}
use Rattle.std.specs.Str.{bytes_eq}
use Rattle.std.proofs.lemmas.Slice.Eq.{bytes_eq-Decides}
use Rattle.text_num.specs.Names.{is_name}
use Rattle.store_io.specs.Files.{Files, with_file}
use Rattle.store_io.specs.Outcomes.{Torn, Holds, AfterSome, Told}
use Rattle.store_io.specs.Crashes.{Elapses, LeavesOnly}
use Rattle.store_io.specs.FileNames.{file_name}
use Rattle.store_io.specs.declared.file_refs.FileRef.{FileRef}
use Rattle.store_io.proofs.Chains.{chain, wider, leaves_from}
use Rattle.database_state.specs.Database.{Database}
use Rattle.database_state.specs.Heads.{Head, IsHead, is_in_range, row_count}
use Rattle.database_state.specs.Updates.{Update, Fits, updated, head_after, rows_added}
use Rattle.database_state.specs.Standing.{seal_file, HaveHead, database_of, CrashesSay, SaysWhereTold}
use Rattle.epoch_store.specs.Puts.{Put, puts, PutAll, PutSome}
use Rattle.epoch_store.specs.Commits.{AreWritesOf, InCommit, AfterCommit, FilesChanged, BeforeOrAfter}
use Rattle.epoch_store.proofs.Order.{cases}
use Rattle.database_state.specs.Generations.{IsComing, OthersStay}
use Rattle.database_state.proofs.Names.{no_seal, one_seal}
use Rattle.epoch_store.proofs.NextHead.{next_is_head, rows_after}
use Rattle.epoch_store.proofs.Phases.{told_then}
use Rattle.epoch_store.proofs.Stays.{with_same, with_other, Agree, held, puts_agree, some_agree, seal_held, same_head, same_said}
use Rattle.epoch_store.proofs.Sealed.{GoesOn, goes_bounded, goes_most, all_coming, all_stand, said_after}

-- the files are as they were, but for files of the coming generation
stays : (h : Head) (u : Update) (d c : Files) → GoesOn h u → HaveHead d h → Agree (h.generation + 1) d c → BeforeOrAfter u (database_of h d) c
stays h u d c on have agree = inl (h, same_head h d c agree have, same_said h d c (goes_bounded h u on) (held agree))

-- a seal that is absent leaves them so
unsealed : (h : Head) (u : Update) (d p : Files) → GoesOn h u → HaveHead d h → Agree (h.generation + 1) d p → Agree (h.generation + 1) d (with_file (seal_file (h.generation + 1)) None p)
unsealed h u d p on have agree = λ n other. by_name n other (bytes_eq-Decides (seal_file (h.generation + 1)) n)
  where
    by_name : (n : List ℕ) → (IsComing (h.generation + 1) n → ⊥) → Decides (bytes_eq (seal_file (h.generation + 1)) n) (seal_file (h.generation + 1) ≡ n) → with_file (seal_file (h.generation + 1)) None p n ≡ d n
    by_name n other decides = elim (cases (bytes_eq (seal_file (h.generation + 1)) n)) [
      | inl holds ↦
          let same : seal_file (h.generation + 1) ≡ n = decides.0 holds in
          let none : d (seal_file (h.generation + 1)) ≡ None = have.latest.above (h.generation + 1) (omega arith) (goes_most h u on).0 in
          with_same (seal_file (h.generation + 1)) n None p same ∙ sym none ∙ ap d same
      | inr fails ↦ rw fails (agree n other)
    ]

-- once the seal stands, the files are those of the next head
pub sealed : (h : Head) (u : Update) (ws : List Put) (d : Files) (bytes : List ℕ) → GoesOn h u → HaveHead d h → AreWritesOf (head_after u h) u ws → HaveHead (with_file (seal_file (h.generation + 1)) (Some bytes) (puts ws d)) (head_after u h) × (database_of (head_after u h) (with_file (seal_file (h.generation + 1)) (Some bytes) (puts ws d)) ≡ updated u (database_of h d))
sealed h u ws d bytes on have of =
    let g = h.generation + 1 in
    let p = puts ws d in
    let c = with_file (seal_file g) (Some bytes) p in
    let most = goes_most h u on in
    let agree : Agree g d p = puts_agree g ws d d (all_coming h u ws on of) (λ n other. refl) in
    let same : (file : FileRef) → c (file_name file) ≡ p (file_name file) = λ file. with_other (seal_file g) (file_name file) (Some bytes) p (no_seal g file) in
    let stand = all_stand h u ws d c on of same in
    let here : c (seal_file g) ≡ Some bytes = with_same (seal_file g) (seal_file g) (Some bytes) p refl in
    let others : (k : ℕ) → g < k → k ≤ 65536 → c (seal_file k) ≡ None = λ k above le.
    with_other (seal_file g) (seal_file k) (Some bytes) p (λ e. absurd (omega (arith, one_seal g k (omega (arith, most.0)) (omega arith) e)))
    ∙ seal_held agree k ∙ have.latest.above k (omega arith) le in (
      record {
        latest = record { most = most.0; here = λ some. subst (λ o. IsSome o) (sym here) refl; above = others };
        fresh = λ none. absurd (omega (arith, none));
        sealed = λ some. (stand.head, on.head);
      },
      said_after h u d c on (λ file fits other. same file ∙ held agree file fits other) stand,
    )

-- a crash during a commit leaves the database before it or the one after it
pub in_commit : (h : Head) (u : Update) (d c : Files) → is_in_range h ≡ true → Fits h.epoch h.runs h.names u → HaveHead d h → InCommit (head_after u h) u d c → BeforeOrAfter u (database_of h d) c
in_commit h u d c range fits have here = by_write here.some
  where
    on : GoesOn h u
    on = record { range = range; fits = fits; head = here.head }

    agrees : Agree (h.generation + 1) d (puts here.writes d)
    agrees = puts_agree (h.generation + 1) here.writes d d (all_coming h u here.writes on here.of) (λ n other. refl)

    by_bytes : (bytes : Option (List ℕ)) → c ≡ with_file (seal_file (h.generation + 1)) bytes (puts here.writes d) → BeforeOrAfter u (database_of h d) c
    by_bytes None is = subst (BeforeOrAfter u (database_of h d)) (sym is) (stays h u d _ on have (unsealed h u d (puts here.writes d) on have agrees))
    by_bytes (Some bytes) is =
        let after = sealed h u here.writes d bytes on have here.of in
        subst (BeforeOrAfter u (database_of h d)) (sym is) (inr (head_after u h, after.0, after.1))

    by_write : PutSome here.writes d c ⊎ Torn (seal_file (h.generation + 1)) (puts here.writes d) c → BeforeOrAfter u (database_of h d) c
    by_write (inl some) = stays h u d c on have (some_agree (h.generation + 1) here.writes d d c (all_coming h u here.writes on here.of) (λ n other. refl) some)
    by_write (inr torn) = by_bytes torn.0 torn.1

-- a commit makes the database after it
pub after_commit : (h : Head) (u : Update) (d c : Files) → is_in_range h ≡ true → Fits h.epoch h.runs h.names u → HaveHead d h → AfterCommit (head_after u h) u d c → HaveHead c (head_after u h) × (database_of (head_after u h) c ≡ updated u (database_of h d))
after_commit h u d c range fits have here =
    let on : GoesOn h u = record { range = range; fits = fits; head = here.head } in
    subst (λ f. HaveHead f (head_after u h) × (database_of (head_after u h) f ≡ updated u (database_of h d))) (sym here.all) (sealed h u here.writes d [] on have here.of)

-- ---- the clauses of a commit

pub files_changed : (h : Head) (u : Update) (old new : Option Files) → is_in_range h ≡ true → Fits h.epoch h.runs h.names u → Told (AfterCommit (head_after u h) u) old new → FilesChanged u h (head_after u h) old new
files_changed h u None new range fits told = λ f none have. absurd cc
files_changed h u (Some d) new range fits (c, is, made) = λ f here have.
    let same : d ≡ f = cc in
    let after = after_commit h u d c range fits (subst (λ x. HaveHead x h) (sym same) have) made in
    (c, is, after.0, after.1 ∙ ap (λ x. updated u (database_of h x)) same)

-- what a crash since then leaves
pub any_moment : {D : Type 0} (moment : D → ℕ) (left_since : D → ℕ → Files → Type 0) (old new : D) (h : Head) (u : Update) → is_in_range h ≡ true → Fits h.epoch h.runs h.names u → Elapses (moment old) (moment new) (left_since old) (left_since new) (AfterSome (left_since old (moment old)) (InCommit (head_after u h) u)) → (said : Database) → CrashesSay (left_since old (moment old)) h said → LeavesOnly moment left_since old new (BeforeOrAfter u said)
any_moment moment left_since old new h u range fits time said says = leaves_from (BeforeOrAfter u said) before within time
  where
    before : (c : Files) → left_since old (moment old) c → BeforeOrAfter u said c
    before c was = let now = says c was in inl (h, now.0, now.1)

    within : (c : Files) → AfterSome (left_since old (moment old)) (InCommit (head_after u h) u) c → BeforeOrAfter u said c
    within c (d, was, here) =
        let now = says d was in
        subst (λ x. BeforeOrAfter u x c) now.1 (in_commit h u d c range fits now.0 here)

pub after_end : (before after : Files → Type 0) (h : Head) (u : Update) → is_in_range h ≡ true → Fits h.epoch h.runs h.names u → ((c : Files) → after c → AfterSome before (AfterCommit (head_after u h) u) c) → (said : Database) → CrashesSay before h said → CrashesSay after (head_after u h) (updated u said)
after_end before after h u range fits crash said says = λ c here.
    let (d, was, made) = crash c here in
    let now = says d was in
    let changed = after_commit h u d c range fits now.0 made in
    (changed.0, changed.1 ∙ ap (updated u) now.1)

-- ---- the steps of a commit

-- what is known where the writes begin
pub record Begins (next : Head) (u : Update) (ws : List Put) : Type 0 where
  pub head : IsHead next
  pub of : AreWritesOf next u ws

pub begins : (h next : Head) (u : Update) (ws : List Put) → is_in_range h ≡ true → Fits h.epoch h.runs h.names u → next ≡ head_after u h → row_count h + rows_added u h ≤ 65536 → list_all is_name next.names ≡ true → AreWritesOf next u ws → Begins (head_after u h) u ws
begins h next u ws range fits is room names of = record {
  head = next_is_head h u range fits (omega (arith, rows_after h u range fits, room)) (subst (λ (n : Head). list_all is_name n.names ≡ true) is names);
  of = subst (λ n. AreWritesOf n u ws) is of;
}

-- the writes were made, or some of them
pub midst : {m n : ℕ} {l k : ℕ → Files → Type 0} (next : Head) (u : Update) (ws : List Put) → Begins next u ws → Elapses m n l k (AfterSome (l m) (PutSome ws)) → Elapses m n l k (AfterSome (l m) (InCommit next u))
midst {m} {n} {l} {k} next u ws is time = wider m n l k _ _ (λ c (d, was, some). (d, was, record { head = is.head; writes = ws; of = is.of; some = inl some })) time

-- and then the seal, or not
pub sealing : {m n o : ℕ} {l k j : ℕ → Files → Type 0} (next : Head) (u : Update) (ws : List Put) → Begins next u ws → Elapses m n l k (AfterSome (l m) (PutSome ws)) → ((c : Files) → k n c → AfterSome (l m) (PutAll ws) c) → Elapses n o k j (AfterSome (k n) (Torn (seal_file next.generation))) → Elapses m o l j (AfterSome (l m) (InCommit next u))
sealing {m} {n} {o} {l} next u ws is time crash seal = chain (AfterSome (l m) (InCommit next u))
    (λ c (d, was, some). (d, was, record { head = is.head; writes = ws; of = is.of; some = inl some }))
    (λ c (e, was, torn). let (d, past, all) = crash e was in (d, past, record { head = is.head; writes = ws; of = is.of; some = inr (subst (λ f. Torn (seal_file next.generation) f c) all torn) }))
    time seal

whole : (next : Head) (u : Update) (ws : List Put) → Begins next u ws → (d e f : Files) → PutAll ws d e → Holds (seal_file next.generation) (Some []) e f → AfterCommit next u d f
whole next u ws is d e f all holds = record { head = is.head; writes = ws; of = is.of; all = holds ∙ ap (with_file (seal_file next.generation) (Some [])) all }

pub all_files : (next : Head) (u : Update) (ws : List Put) (old mid new : Option Files) → Begins next u ws → Told (PutAll ws) old mid → Told (Holds (seal_file next.generation) (Some [])) mid new → Told (AfterCommit next u) old new
all_files next u ws old mid new is one two = told_then old mid new (whole next u ws is) one two

pub all_crash : (next : Head) (u : Update) (ws : List Put) (before mid after : Files → Type 0) → Begins next u ws → ((c : Files) → mid c → AfterSome before (PutAll ws) c) → ((c : Files) → after c → AfterSome mid (Holds (seal_file next.generation) (Some [])) c) → (c : Files) → after c → AfterSome before (AfterCommit next u) c
all_crash next u ws before mid after is one two = λ c here.
    let (e, was, holds) = two c here in
    let (d, past, all) = one e was in
    (d, past, whole next u ws is d e c all holds)

-- ---- the files that a commit leaves alone

-- the names of other generations stand for what they stood for
pub others_stay : (h : Head) (u : Update) (d c : Files) → is_in_range h ≡ true → Fits h.epoch h.runs h.names u → AfterCommit (head_after u h) u d c → OthersStay (h.generation + 1) d c
others_stay h u d c range fits made = λ n other.
    let on : GoesOn h u = record { range = range; fits = fits; head = made.head } in
    let agree = puts_agree (h.generation + 1) made.writes d d (all_coming h u made.writes on made.of) (λ m o. refl) in
    ap (λ (f : Files). f n) made.all
    ∙ with_other (seal_file (h.generation + 1)) n (Some []) (puts made.writes d) (λ e. other (inr (sym e)))
    ∙ agree n (λ coming. other (inl coming))

pub told_weaker : {S T : Files → Files → Type 0} (old new : Option Files) → ((d c : Files) → S d c → T d c) → Told S old new → Told T old new
told_weaker None new weaker told = told
told_weaker (Some d) new weaker told = (told.0, told.1, weaker d told.0 told.2)

-- ---- from commit to commit

-- what the files say where they are told goes on
pub says_on : (S : Files → Files → Type 0) (h next : Head) (u : Update) (old new : Option Files) → Told S old new → FilesChanged u h next old new → (said : Database) → SaysWhereTold old h said → SaysWhereTold new next (updated u said)
says_on S h next u None new told changed said says = λ f is. let none : None ≡ Some f = sym told ∙ is in absurd cc
says_on S h next u (Some d) new told changed said says = λ f is.
    let was = says d refl in
    let (c, there, have, eq) = changed d refl was.0 in
    let whole : Some c ≡ Some f = sym there ∙ is in
    let same : c ≡ f = cc in
    subst (λ (x : Files). HaveHead x next × (database_of next x ≡ updated u said)) same (have, eq ∙ ap (updated u) was.1)
