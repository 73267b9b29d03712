-- Writes of files of the coming generation change nothing of what the files say.
use Rattle.std.proofs.Common.{arith, ◌≡◌, ℕ, zero, suc, ◌+◌, ◌<◌, ◌≤◌, inl, inr, Bool, true, ◌&&◌, List, [], ◌∷◌, ◌++◌, None, Some, Option, length, refl, sym, ap, ◌∙◌, subst}
use Rattle.std.specs.Prelude.{find, nat_le, nat_lt, IsSome}
use Rattle.std.specs.List.{AllByRecursion, list_all}
use Rattle.std.specs.Str.{bytes_eq}
use Rattle.std.proofs.lemmas.Slice.Eq.{bytes_eq-Decides}
use Rattle.store_io.specs.Files.{Files, with_file}
use Rattle.store_io.specs.Outcomes.{Torn}
use Rattle.store_io.specs.declared.file_refs.FileRef.{FileRef}
use Rattle.store_io.specs.declared.file_refs.FileRef.TheVariants.{Head, Known, Unknown, Segment}
use Rattle.store_io.specs.FileNames.{file_name}
use Rattle.image_catalog.specs.Images.{place_of}
use Rattle.database_model.specs.ProfileForm.{format1}
use Rattle.database_model.specs.SegmentForm.{segment}
use Rattle.database_state.specs.declared.rows.KnownRow.{KnownRow}
use Rattle.database_state.specs.declared.rows.UnknownRow.{UnknownRow}
use Rattle.database_state.specs.Rows.{known_row, unknown_row, is_known_row, is_unknown_row}
use Rattle.database_state.specs.Heads as heads
use Rattle.database_state.specs.Heads.{is_in_range}
use Rattle.database_state.specs.Updates.{at_image}
use Rattle.database_state.specs.Standing.{seal_file, segment_file, value_in, known_at, unknown_at, segments_to, HaveHead, database_of}
use Rattle.head_file.proofs.Limits.{AreRanges, ranges_of, le_of, lt_of}
use Rattle.epoch_store.specs.Puts.{Put, put, puts, PutSome}
use Rattle.epoch_store.proofs.Order.{and_first, and_second, cases}
use Rattle.database_state.specs.Generations.{FileFits, generation_of, IsComing}
use Rattle.database_state.proofs.Names.{one_file, no_seal}

-- ---- one name

pub with_same : (name n : List ℕ) (x : Option (List ℕ)) (f : Files) → name ≡ n → with_file name x f n ≡ x
with_same name n x f same = rw ((bytes_eq-Decides name n).1 same) refl

pub with_other : (name n : List ℕ) (x : Option (List ℕ)) (f : Files) → (name ≡ n → ⊥) → with_file name x f n ≡ f n
with_other name n x f apart = elim (cases (bytes_eq name n)) [
  | inl same ↦ absurd (apart ((bytes_eq-Decides name n).0 same))
  | inr other ↦ rw other refl
]

-- ---- files of the coming generation

-- c has what d has, but for files of generation g
abbrev pub Agree : ℕ → Files → Files → Type 0
Agree g d c = (n : List ℕ) → (IsComing g n → ⊥) → c n ≡ d n

put_agrees : (g : ℕ) (name : List ℕ) (x : Option (List ℕ)) (d c : Files) → IsComing g name → Agree g d c → Agree g d (with_file name x c)
put_agrees g name x d c coming agree = λ n other. with_other name n x c (λ same. other (subst (IsComing g) same coming)) ∙ agree n other

torn_agrees : (g : ℕ) (name : List ℕ) (d c e : Files) → IsComing g name → Agree g d c → Torn name c e → Agree g d e
torn_agrees g name d c e coming agree torn = subst (Agree g d) (sym torn.1) (put_agrees g name torn.0 d c coming agree)

-- all of the writes are of files of generation g
abbrev pub AllComing : ℕ → List Put → Type 0
AllComing g ws = AllByRecursion (λ w. IsComing g w.name) ws

pub puts_agree : (g : ℕ) (ws : List Put) (d c : Files) → AllComing g ws → Agree g d c → Agree g d (puts ws c)
puts_agree g [] d c coming agree = agree
puts_agree g (w ∷ ws) d c coming agree = puts_agree g ws d (put w c) coming.1 (put_agrees g w.name (Some w.bytes) d c coming.0 agree)

pub some_agree : (g : ℕ) (ws : List Put) (d c e : Files) → AllComing g ws → Agree g d c → PutSome ws c e → Agree g d e
some_agree g [] d c e coming agree is = subst (Agree g d) (sym is) agree
some_agree g (w ∷ ws) d c e coming agree (inl is) = subst (Agree g d) (sym is) agree
some_agree g (w ∷ ws) d c e coming agree (inr (inl torn)) = torn_agrees g w.name d c e coming.0 agree torn
some_agree g (w ∷ ws) d c e coming agree (inr (inr some)) = some_agree g ws d (put w c) e coming.1 (put_agrees g w.name (Some w.bytes) d c coming.0 agree) some

-- c has the files that d has, but for those of generation g
abbrev pub Keeps : ℕ → Files → Files → Type 0
Keeps g d c = (file : FileRef) → FileFits file → (generation_of file ≡ g → ⊥) → c (file_name file) ≡ d (file_name file)

-- a file of another generation
pub held : {g : ℕ} {d c : Files} → Agree g d c → (file : FileRef) → FileFits file → (generation_of file ≡ g → ⊥) → c (file_name file) ≡ d (file_name file)
held agree file fits other = agree (file_name file) (λ coming. other (ap generation_of (one_file file coming.file fits coming.fits coming.is) ∙ coming.of))

-- a seal
pub seal_held : {g : ℕ} {d c : Files} → Agree g d c → (k : ℕ) → c (seal_file k) ≡ d (seal_file k)
seal_held agree k = agree (seal_file k) (λ coming. no_seal k coming.file coming.is)

-- ---- what a head's numbers are

pub record Bounded (h : heads.Head) : Type 0 where
  pub ranges : AreRanges h
  pub few : length h.names ≤ 4096
  pub most : h.generation ≤ 65536

pub bounded : (h : heads.Head) → is_in_range h ≡ true → length h.names ≤ 4096 → Bounded h
bounded h range few =
    let ranges = ranges_of h range in
    record { ranges = ranges; few = few; most = omega (arith, ranges.count) }

-- a row that is found passes what all rows pass
pub found_passes : {R : Type 0} (test p : R → Bool) (rows : List R) (r : R) → list_all test rows ≡ true → find p rows ≡ Some r → test r ≡ true
found_passes test p [] r all found = absurd cc
found_passes test p (x ∷ rows) r all found = elim (cases (p x)) [
  | inl holds ↦
      let same : Some x ≡ Some r = rw holds at found in
      let is : x ≡ r = cc in
      subst (λ y. test y ≡ true) is (and_first (test x) (list_all test rows) all)
  | inr fails ↦
      let later : find p rows ≡ Some r = rw fails at found in
      found_passes test p rows r (and_second (test x) (list_all test rows) all) later
]

pub record KnownIs (images generation : ℕ) (r : KnownRow) : Type 0 where
  pub fits : FileFits (Known r.epoch r.image r.event r.g)
  pub image : r.image < images
  pub g : r.g ≤ generation

pub known_is : (epoch images generation : ℕ) (r : KnownRow) → epoch ≤ 65536 → images ≤ 4096 → generation ≤ 65536 → is_known_row epoch images generation r ≡ true → KnownIs images generation r
known_is epoch images generation r e i g is =
    let a = nat_le r.epoch epoch in
    let b = nat_lt r.image images in
    let d = nat_le r.event 3 in
    let p = nat_le 1 r.g in
    let q = nat_le r.g generation in
    let s4 = and_first (a && b && d && p) q is in
    let s3 = and_first (a && b && d) p s4 in
    let s2 = and_first (a && b) d s3 in
    let epoch_le = le_of r.epoch epoch (and_first a b s2) in
    let image_lt = lt_of r.image images (and_second a b s2) in
    let event_le = le_of r.event 3 (and_second (a && b) d s3) in
    let g_le = le_of r.g generation (and_second (a && b && d && p) q is) in
    record { fits = (omega arith, omega arith, omega arith, omega arith); image = image_lt; g = g_le }

pub record UnknownIs (generation : ℕ) (r : UnknownRow) : Type 0 where
  pub fits : FileFits (Unknown r.epoch r.event r.g)
  pub g : r.g ≤ generation

pub unknown_is : (epoch generation : ℕ) (r : UnknownRow) → epoch ≤ 65536 → generation ≤ 65536 → is_unknown_row epoch generation r ≡ true → UnknownIs generation r
unknown_is epoch generation r e g is =
    let a = nat_le r.epoch epoch in
    let d = nat_le r.event 3 in
    let p = nat_le 1 r.g in
    let q = nat_le r.g generation in
    let s3 = and_first (a && d && p) q is in
    let s2 = and_first (a && d) p s3 in
    let epoch_le = le_of r.epoch epoch (and_first a d s2) in
    let event_le = le_of r.event 3 (and_second a d s2) in
    let g_le = le_of r.g generation (and_second (a && d && p) q is) in
    record { fits = (omega arith, omega arith, omega arith); g = g_le }

-- ---- the same head, and the same under it

pub same_head : (h : heads.Head) (d c : Files) → Agree (h.generation + 1) d c → HaveHead d h → HaveHead c h
same_head h d c agree have =
    let most = have.latest.most in
    record {
      latest = record {
        most = most;
        here = λ some. subst (λ o. IsSome o) (sym (seal_held agree h.generation)) (have.latest.here some);
        above = λ k above le. seal_held agree k ∙ have.latest.above k above le;
      };
      fresh = have.fresh;
      sealed = λ some.
          let was = have.sealed some in
          (held agree (Head h.generation) (omega (arith, most)) (λ e. absurd (omega (arith, e))) ∙ was.0, was.1);
    }

-- the profile of a row of the head
pub known_held : (h : heads.Head) (d c : Files) → Bounded h → Keeps (h.generation + 1) d c → (epoch image event : ℕ) → known_at c (known_row h.known epoch image event) ≡ known_at d (known_row h.known epoch image event)
known_held h d c is keeps epoch image event = by_row (known_row h.known epoch image event) refl
  where
    by_row : (o : Option KnownRow) → known_row h.known epoch image event ≡ o → known_at c o ≡ known_at d o
    by_row None found = refl
    by_row (Some r) found =
        let passes = found_passes (is_known_row h.epoch (length h.names) h.generation) _ h.known r is.ranges.known found in
        let row = known_is h.epoch (length h.names) h.generation r (omega (arith, is.ranges.epoch, is.most)) is.few is.most passes in
        ap (value_in format1) (keeps (Known r.epoch r.image r.event r.g) row.fits (λ e. absurd (omega (arith, e, row.g))))

pub unknown_held : (h : heads.Head) (d c : Files) → Bounded h → Keeps (h.generation + 1) d c → (epoch event : ℕ) → unknown_at c (unknown_row h.unknown epoch event) ≡ unknown_at d (unknown_row h.unknown epoch event)
unknown_held h d c is keeps epoch event = by_row (unknown_row h.unknown epoch event) refl
  where
    by_row : (o : Option UnknownRow) → unknown_row h.unknown epoch event ≡ o → unknown_at c o ≡ unknown_at d o
    by_row None found = refl
    by_row (Some r) found =
        let passes = found_passes (is_unknown_row h.epoch h.generation) _ h.unknown r is.ranges.unknown found in
        let row = unknown_is h.epoch h.generation r (omega (arith, is.ranges.epoch, is.most)) is.most passes in
        ap (value_in format1) (keeps (Unknown r.epoch r.event r.g) row.fits (λ e. absurd (omega (arith, e, row.g))))

pub segments_held : (g : ℕ) (d c : Files) → Keeps g d c → (k : ℕ) → k < g → g ≤ 65537 → segments_to k c ≡ segments_to k d
segments_held g d c keeps zero below most = refl
segments_held g d c keeps (suc k) below most =
    let this = keeps (Segment (suc k)) (omega arith) (λ e. absurd (omega (arith, e))) in
    ap (λ l. l ++ value_in segment (c (segment_file (suc k))) ∷ []) (segments_held g d c keeps k (omega arith) most)
    ∙ ap (λ o. segments_to k d ++ value_in segment o ∷ []) this

-- where the rows of a head have the same profiles, and its generations the same segments, the files say the same
pub same_parts : (h : heads.Head) (d c : Files) → ((epoch image event : ℕ) → known_at c (known_row h.known epoch image event) ≡ known_at d (known_row h.known epoch image event))
    → ((epoch event : ℕ) → unknown_at c (unknown_row h.unknown epoch event) ≡ unknown_at d (unknown_row h.unknown epoch event))
    → segments_to h.generation c ≡ segments_to h.generation d → database_of h c ≡ database_of h d
same_parts h d c known unknown segments = λ t. record {
  last_epoch = h.epoch;
  runs = h.runs;
  names = h.names;
  known = λ epoch name event. at_image (place_of name h.names) (λ image. known epoch image event t);
  unknown = λ epoch event. unknown epoch event t;
  segments = segments t;
}

pub same_said : (h : heads.Head) (d c : Files) → Bounded h → Keeps (h.generation + 1) d c → database_of h c ≡ database_of h d
same_said h d c is keeps = same_parts h d c (known_held h d c is keeps) (unknown_held h d c is keeps) (segments_held (h.generation + 1) d c keeps h.generation (omega arith) (omega (arith, is.most)))
