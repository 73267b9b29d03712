-- Files that lose what a head does not use say what they said.
use Rattle.std.proofs.Common.{arith, ◌≡◌, ℕ, zero, suc, ◌<◌, ◌≤◌, ◌⊎◌, inl, inr, Bool, true, false, ◌&&◌, ◌||◌, List, [], ◌∷◌, ◌++◌, map, None, Some, Option, refl, sym, ap, ◌∙◌, subst}
use Rattle.std.specs.Prelude.{not, find, nat_lt, IsSome}
use Rattle.std.specs.Str.{bytes_eq}
use Rattle.std.proofs.lemmas.Slice.Eq.{bytes_eq-Decides}
use Rattle.std.proofs.lemmas.List.Folds.{list_any-append}
use Rattle.store_io.specs.Files.{Files}
use Rattle.store_io.specs.Listing.{is_listed}
use Rattle.database_model.specs.ProfileForm.{format1}
use Rattle.database_model.specs.SegmentForm.{segment}
use Rattle.database_state.specs.Database.{Database}
use Rattle.database_state.specs.declared.rows.KnownRow.{KnownRow}
use Rattle.database_state.specs.declared.rows.UnknownRow.{UnknownRow}
use Rattle.database_state.specs.Rows.{known_row, unknown_row, known_same, unknown_same, known_place, unknown_place, known_file, unknown_file}
use Rattle.database_state.specs.Heads as heads
use Rattle.database_state.specs.Standing.{seal_file, head_file, segment_file, value_in, known_at, unknown_at, segments_to, HaveHead, database_of}
use Rattle.head_file.proofs.Limits.{lt_of}
use Rattle.epoch_store.proofs.Order.{cases}
use Rattle.epoch_store.proofs.Stays.{same_parts}
use Rattle.store_tidy.specs.FileForms.{is_file_name}
use Rattle.store_tidy.specs.Unused.{segment_names, used_names, LosesUnused, Says}

-- ---- names that a head uses

or_first : (a b : Bool) → a ≡ true → (a || b) ≡ true
or_first true b is = refl
or_first false b is = absurd cc

or_second : (a b : Bool) → b ≡ true → (a || b) ≡ true
or_second true b is = refl
or_second false b is = is

itself : (n : List ℕ) → bytes_eq n n ≡ true
itself n = (bytes_eq-Decides n n).1 refl

listed_front : (n : List ℕ) (a b : List (List ℕ)) → is_listed n a ≡ true → is_listed n (a ++ b) ≡ true
listed_front n a b is = list_any-append (λ m. bytes_eq m n) a b ∙ or_first (is_listed n a) (is_listed n b) is

listed_back : (n : List ℕ) (a b : List (List ℕ)) → is_listed n b ≡ true → is_listed n (a ++ b) ≡ true
listed_back n a b is = list_any-append (λ m. bytes_eq m n) a b ∙ or_second (is_listed n a) (is_listed n b) is

uses_seal : (h : heads.Head) → is_listed (seal_file h.generation) (used_names h) ≡ true
uses_seal h = or_first _ _ (itself (seal_file h.generation))

uses_head : (h : heads.Head) → is_listed (head_file h.generation) (used_names h) ≡ true
uses_head h = or_second (bytes_eq (seal_file h.generation) (head_file h.generation)) _ (or_first _ _ (itself (head_file h.generation)))

behind_head : (h : heads.Head) (n : List ℕ) → is_listed n (segment_names h.generation ++ (map known_file h.known ++ map unknown_file h.unknown)) ≡ true → is_listed n (used_names h) ≡ true
behind_head h n is = or_second (bytes_eq (seal_file h.generation) n) _ (or_second (bytes_eq (head_file h.generation) n) _ is)

segment_listed : (g k : ℕ) → k < g → is_listed (segment_file (suc k)) (segment_names g) ≡ true
segment_listed zero k below = absurd (omega arith)
segment_listed (suc g) k below = elim (at_last g k below) [
  | inl same ↦ or_first _ _ (ap (λ j. bytes_eq (segment_file (suc j)) (segment_file (suc k))) (sym same) ∙ itself (segment_file (suc k)))
  | inr earlier ↦ or_second (bytes_eq (segment_file (suc g)) (segment_file (suc k))) _ (segment_listed g k earlier)
]
  where
    at_last : (g k : ℕ) → k < suc g → (k ≡ g) ⊎ (k < g)
    at_last g k below = elim (cases (nat_lt k g)) [ inl holds ↦ inr (lt_of k g holds) | inr fails ↦ inl (grind (arith, fails)) ]

uses_segment : (h : heads.Head) (k : ℕ) → k < h.generation → is_listed (segment_file (suc k)) (used_names h) ≡ true
uses_segment h k below = behind_head h _ (listed_front _ (segment_names h.generation) _ (segment_listed h.generation k below))

-- the file of a row that is found
found_listed : {R : Type 0} (name : R → List ℕ) (p : R → Bool) (rows : List R) (r : R) → find p rows ≡ Some r → is_listed (name r) (map name rows) ≡ true
found_listed name p [] r found = absurd cc
found_listed name p (x ∷ rows) r found = elim (cases (p x)) [
  | inl holds ↦
      let same : Some x ≡ Some r = rw holds at found in
      let is : x ≡ r = cc in
      or_first _ _ (ap (λ y. bytes_eq (name y) (name r)) is ∙ itself (name r))
  | inr fails ↦
      let later : find p rows ≡ Some r = rw fails at found in
      or_second (bytes_eq (name x) (name r)) _ (found_listed name p rows r later)
]

-- ---- what it uses stays

never : (a b : Bool) → b ≡ true → (a && not b) ≡ true → ⊥
never true true is both = cc
never false true is both = cc
never a false is both = cc

kept : (h : heads.Head) {d c : Files} → LosesUnused h d c → (n : List ℕ) → is_listed n (used_names h) ≡ true → c n ≡ d n
kept h loses n used = elim (loses n) [
  | inl same ↦ same
  | inr gone ↦ absurd (never (is_file_name n) (is_listed n (used_names h)) used gone.0)
]

-- ---- the same head, and the same under it

same_head : (h : heads.Head) (d c : Files) → LosesUnused h d c → HaveHead d h → HaveHead c h
same_head h d c loses have = record {
  latest = record {
    most = have.latest.most;
    here = λ some. subst (λ o. IsSome o) (sym (kept h loses (seal_file h.generation) (uses_seal h))) (have.latest.here some);
    above = λ k above le. elim (loses (seal_file k)) [ inl same ↦ same ∙ have.latest.above k above le | inr gone ↦ gone.1 ];
  };
  fresh = have.fresh;
  sealed = λ some. let was = have.sealed some in (kept h loses (head_file h.generation) (uses_head h) ∙ was.0, was.1);
}

known_kept : (h : heads.Head) (d c : Files) → LosesUnused h d c → (epoch image event : ℕ) → known_at c (known_row h.known epoch image event) ≡ known_at d (known_row h.known epoch image event)
known_kept h d c loses epoch image event = by_row (known_row h.known epoch image event) refl
  where
    by_row : (o : Option KnownRow) → known_row h.known epoch image event ≡ o → known_at c o ≡ known_at d o
    by_row None found = refl
    by_row (Some r) found =
        let here : is_listed (known_file r) (map known_file h.known) ≡ true = found_listed known_file (known_same (known_place epoch image event)) h.known r found in
        ap (value_in format1) (kept h loses (known_file r) (behind_head h (known_file r) (listed_back (known_file r) (segment_names h.generation) (map known_file h.known ++ map unknown_file h.unknown) (listed_front (known_file r) (map known_file h.known) (map unknown_file h.unknown) here))))

unknown_kept : (h : heads.Head) (d c : Files) → LosesUnused h d c → (epoch event : ℕ) → unknown_at c (unknown_row h.unknown epoch event) ≡ unknown_at d (unknown_row h.unknown epoch event)
unknown_kept h d c loses epoch event = by_row (unknown_row h.unknown epoch event) refl
  where
    by_row : (o : Option UnknownRow) → unknown_row h.unknown epoch event ≡ o → unknown_at c o ≡ unknown_at d o
    by_row None found = refl
    by_row (Some r) found =
        let here : is_listed (unknown_file r) (map unknown_file h.unknown) ≡ true = found_listed unknown_file (unknown_same (unknown_place epoch event)) h.unknown r found in
        ap (value_in format1) (kept h loses (unknown_file r) (behind_head h (unknown_file r) (listed_back (unknown_file r) (segment_names h.generation) (map known_file h.known ++ map unknown_file h.unknown) (listed_back (unknown_file r) (map known_file h.known) (map unknown_file h.unknown) here))))

segments_kept : (h : heads.Head) (d c : Files) → LosesUnused h d c → (k : ℕ) → k ≤ h.generation → segments_to k c ≡ segments_to k d
segments_kept h d c loses zero le = refl
segments_kept h d c loses (suc k) le =
    ap (λ l. l ++ value_in segment (c (segment_file (suc k))) ∷ []) (segments_kept h d c loses k (omega arith))
    ∙ ap (λ o. segments_to k d ++ value_in segment o ∷ []) (kept h loses (segment_file (suc k)) (uses_segment h k (omega arith)))

same_said : (h : heads.Head) (d c : Files) → LosesUnused h d c → database_of h c ≡ database_of h d
same_said h d c loses = same_parts h d c (known_kept h d c loses) (unknown_kept h d c loses) (segments_kept h d c loses h.generation (omega arith))

-- files that lose what the head does not use say what they said
pub says_still : (h : heads.Head) (said : Database) (d c : Files) → LosesUnused h d c → Says h said d → Says h said c
says_still h said d c loses says = (same_head h d c loses says.0, same_said h d c loses ∙ says.1)
