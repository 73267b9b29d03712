-- A head has one text, and so files have one head.
use Rattle.std.proofs.Common.{arith, ◌≡◌, ℕ, ◌^◌, ◌<◌, ◌≤◌, true, List, [], ◌∷◌, ◌++◌, None, Some, Option, length, refl, sym, ap, ◌∙◌, append_assoc, lit≤, lit<, inl, inr}
use Rattle.std.proofs.lemmas.List.{append_cancel_left}
use Rattle.std.specs.Prelude.{codes, IsSome}
use Rattle.std.specs.List.{flat_map, list_all, AllByRecursion}
use Rattle.std.specs.Fmt.{decimal}
use Rattle.std.proofs.lemmas.Fmt.{decimal_injective}
use Rattle.std.proofs.lemmas.Bool.{cases_lt}
use Rattle.text_num.specs.Names.{is_name}
use Rattle.store_io.specs.Files.{Files}
use Rattle.database_state.specs.declared.rows.KnownRow.{KnownRow}
use Rattle.database_state.specs.declared.rows.UnknownRow.{UnknownRow}
use Rattle.database_state.specs.Database.{Database}
use Rattle.database_state.specs.Heads.{Head, IsHead, head_text, name_line, known_line, unknown_line}
use Rattle.database_state.specs.Standing.{seal_file, head_file, IsLatest, HaveHead, database_of, StandsFor}
use Rattle.head_file.specs.Words.{is_word, KnownFits, UnknownFits}
use Rattle.head_file.proofs.Front.{word_ends, word_before, rest_behind, decimal_word}
use Rattle.head_file.proofs.Lines.{name_word}
use Rattle.head_file.proofs.Limits.{ranges_of, all_known_fit, all_unknown_fit}
use Rattle.head_file.proofs.Shape.{shape, line_before, from_generation, from_epoch, from_runs, from_images, names_part, from_profiles, known_part, from_unknowns, unknown_part}
use Rattle.epoch_store.proofs.Order.{and_first, and_second}

some_is : (m n : ℕ) → Some m ≡ Some n → m ≡ n
some_is m n e = cc

text_is : (x y : List ℕ) → Some x ≡ Some y → x ≡ y
text_is x y e = cc

tail_of : (a : ℕ) (x y : List ℕ) → a ∷ x ≡ a ∷ y → x ≡ y
tail_of a x y e = cc

-- a text has one first word
one_word : (a b x y : List ℕ) (end : ℕ) → is_word a ≡ true → is_word b ≡ true → end ≤ 32 → a ++ end ∷ x ≡ b ++ end ∷ y → (a ≡ b) × (x ≡ y)
one_word a b x y end is_a is_b low e =
    let text = a ++ end ∷ x in
    let same : length a ≡ length b = some_is (length a) (length b) (sym (word_ends text a x end is_a low refl) ∙ word_ends text b y end is_b low e) in (
      sym (word_before text a x end (length a) refl refl) ∙ word_before text b y end (length a) e same,
      sym (rest_behind text a x end (length a) refl refl) ∙ rest_behind text b y end (length a) e same,
    )

-- a text has one first number
one_number : (m n : ℕ) (x y : List ℕ) (end : ℕ) → m < 2 ^ 64 → n < 2 ^ 64 → end ≤ 32 → decimal m ++ end ∷ x ≡ decimal n ++ end ∷ y → (m ≡ n) × (x ≡ y)
one_number m n x y end small_m small_n low e =
    let parts = one_word (decimal m) (decimal n) x y end (decimal_word m small_m) (decimal_word n small_n) low e in
    (decimal_injective m n small_m small_n parts.0, parts.1)

-- a line of a word and a number
one_line : (word : List ℕ) (m n : ℕ) (x y : List ℕ) → m < 2 ^ 64 → n < 2 ^ 64 → line_before word m x ≡ line_before word n y → (m ≡ n) × (x ≡ y)
one_line word m n x y small_m small_n e =
    one_number m n x y 10 small_m small_n (lit≤ tt) (tail_of 32 _ _ (append_cancel_left word (32 ∷ (decimal m ++ 10 ∷ x)) (32 ∷ (decimal n ++ 10 ∷ y)) e))

-- the lines of names
one_list : (ns ms : List (List ℕ)) (x y : List ℕ) → length ns ≡ length ms → list_all is_name ns ≡ true → list_all is_name ms ≡ true → flat_map name_line ns ++ x ≡ flat_map name_line ms ++ y → (ns ≡ ms) × (x ≡ y)
one_list [] [] x y size are_n are_m e = (refl, e)
one_list [] (m ∷ ms) x y size are_n are_m e = absurd (omega (arith, size))
one_list (n ∷ ns) [] x y size are_n are_m e = absurd (omega (arith, size))
one_list (n ∷ ns) (m ∷ ms) x y size are_n are_m e =
    let front : n ++ 10 ∷ (flat_map name_line ns ++ x) ≡ m ++ 10 ∷ (flat_map name_line ms ++ y) = sym (spread n ns x) ∙ e ∙ spread m ms y in
    let parts = one_word n m (flat_map name_line ns ++ x) (flat_map name_line ms ++ y) 10 (name_word n (and_first (is_name n) (list_all is_name ns) are_n)) (name_word m (and_first (is_name m) (list_all is_name ms) are_m)) (lit≤ tt) front in
    let later = one_list ns ms x y (omega (arith, size)) (and_second (is_name n) (list_all is_name ns) are_n) (and_second (is_name m) (list_all is_name ms) are_m) parts.1 in
    (ap (λ (l : List ℕ). l ∷ ns) parts.0 ∙ ap (λ (l : List (List ℕ)). m ∷ l) later.0, later.1)
  where
    spread : (n : List ℕ) (ns : List (List ℕ)) (x : List ℕ) → flat_map name_line (n ∷ ns) ++ x ≡ n ++ 10 ∷ (flat_map name_line ns ++ x)
    spread n ns x = append_assoc (name_line n) (flat_map name_line ns) x ∙ append_assoc n (10 ∷ []) (flat_map name_line ns ++ x)

-- the line of a row, before a text
abbrev known_before_text : KnownRow → List ℕ → List ℕ
known_before_text r rest = decimal r.epoch ++ 32 ∷ (decimal r.image ++ 32 ∷ (decimal r.event ++ 32 ∷ (decimal r.g ++ 10 ∷ rest)))

known_spread : (r : KnownRow) (rest : List ℕ) → known_line r ++ rest ≡ known_before_text r rest
known_spread r rest = simp append_assoc

one_known : (r s : KnownRow) (x y : List ℕ) → KnownFits r → KnownFits s → known_line r ++ x ≡ known_line s ++ y → (r ≡ s) × (x ≡ y)
one_known r s x y is_r is_s e =
    let front : known_before_text r x ≡ known_before_text s y = sym (known_spread r x) ∙ e ∙ known_spread s y in
    let a = one_number r.epoch s.epoch _ _ 32 (omega (arith, is_r.epoch)) (omega (arith, is_s.epoch)) (lit≤ tt) front in
    let b = one_number r.image s.image _ _ 32 (omega (arith, is_r.image)) (omega (arith, is_s.image)) (lit≤ tt) a.1 in
    let d = one_number r.event s.event _ _ 32 (omega (arith, is_r.event)) (omega (arith, is_s.event)) (lit≤ tt) b.1 in
    let f = one_number r.g s.g x y 10 (omega (arith, is_r.g)) (omega (arith, is_s.g)) (lit≤ tt) d.1 in
    ((λ t. record { epoch = a.0 t; image = b.0 t; event = d.0 t; g = f.0 t }), f.1)

-- the line of an unknown row, before a text
abbrev unknown_before_text : UnknownRow → List ℕ → List ℕ
unknown_before_text r rest = decimal r.epoch ++ 32 ∷ (decimal r.event ++ 32 ∷ (decimal r.g ++ 10 ∷ rest))

unknown_spread : (r : UnknownRow) (rest : List ℕ) → unknown_line r ++ rest ≡ unknown_before_text r rest
unknown_spread r rest = simp append_assoc

one_unknown : (r s : UnknownRow) (x y : List ℕ) → UnknownFits r → UnknownFits s → unknown_line r ++ x ≡ unknown_line s ++ y → (r ≡ s) × (x ≡ y)
one_unknown r s x y is_r is_s e =
    let front : unknown_before_text r x ≡ unknown_before_text s y = sym (unknown_spread r x) ∙ e ∙ unknown_spread s y in
    let a = one_number r.epoch s.epoch _ _ 32 (omega (arith, is_r.epoch)) (omega (arith, is_s.epoch)) (lit≤ tt) front in
    let d = one_number r.event s.event _ _ 32 (omega (arith, is_r.event)) (omega (arith, is_s.event)) (lit≤ tt) a.1 in
    let f = one_number r.g s.g x y 10 (omega (arith, is_r.g)) (omega (arith, is_s.g)) (lit≤ tt) d.1 in
    ((λ t. record { epoch = a.0 t; event = d.0 t; g = f.0 t }), f.1)

-- the lines of rows
one_rows : {R : Type 0} (line : R → List ℕ) (Fits : R → Type 0) → ((r s : R) (x y : List ℕ) → Fits r → Fits s → line r ++ x ≡ line s ++ y → (r ≡ s) × (x ≡ y)) → (rs ss : List R) (x y : List ℕ) → length rs ≡ length ss → AllByRecursion Fits rs → AllByRecursion Fits ss → flat_map line rs ++ x ≡ flat_map line ss ++ y → (rs ≡ ss) × (x ≡ y)
one_rows line Fits one [] [] x y size are_r are_s e = (refl, e)
one_rows line Fits one [] (s ∷ ss) x y size are_r are_s e = absurd (omega (arith, size))
one_rows line Fits one (r ∷ rs) [] x y size are_r are_s e = absurd (omega (arith, size))
one_rows {R} line Fits one (r ∷ rs) (s ∷ ss) x y size are_r are_s e =
    let front : line r ++ (flat_map line rs ++ x) ≡ line s ++ (flat_map line ss ++ y) = sym (append_assoc (line r) (flat_map line rs) x) ∙ e ∙ append_assoc (line s) (flat_map line ss) y in
    let parts = one r s (flat_map line rs ++ x) (flat_map line ss ++ y) are_r.0 are_s.0 front in
    let later = one_rows line Fits one rs ss x y (omega (arith, size)) are_r.1 are_s.1 parts.1 in
    (ap (λ (l : R). l ∷ rs) parts.0 ∙ ap (λ (l : List R). s ∷ l) later.0, later.1)

-- the numbers of a head
pub record IsSmall (h : Head) : Type 0 where
  pub generation : h.generation ≤ 65536
  pub epoch : h.epoch ≤ 65536
  pub runs : h.runs ≤ 65536
  pub images : length h.names ≤ 4096
  pub known : length h.known ≤ 65536
  pub unknown : length h.unknown ≤ 65536
  pub known_fit : AllByRecursion KnownFits h.known
  pub unknown_fit : AllByRecursion UnknownFits h.unknown

small_of : (h : Head) → IsHead h → IsSmall h
small_of h is =
    let ranges = ranges_of h is.range in
    let generation : h.generation ≤ 65536 = omega (arith, ranges.count) in
    let epoch : h.epoch ≤ 65536 = omega (arith, ranges.epoch) in
    let images : length h.names ≤ 4096 = is.images.few in
    record {
      generation = generation;
      epoch = epoch;
      runs = omega (arith, ranges.runs);
      images = images;
      known = omega (arith, ranges.count);
      unknown = omega (arith, ranges.count);
      known_fit = all_known_fit h.epoch (length h.names) h.generation h.known epoch images generation ranges.known;
      unknown_fit = all_unknown_fit h.epoch h.generation h.unknown epoch generation ranges.unknown;
    }

-- a head has one text
pub one_text : (h k : Head) → IsHead h → IsHead k → head_text h ≡ head_text k → h ≡ k
one_text h k is_h is_k e =
    let p = small_of h is_h in
    let q = small_of k is_k in
    let f0 = one_line (codes "dcpi-head") 1 1 (from_generation h) (from_generation k) (lit< tt) (lit< tt) (sym (shape h) ∙ e ∙ shape k) in
    let f1 = one_line (codes "generation") h.generation k.generation (from_epoch h) (from_epoch k) (omega (arith, p.generation)) (omega (arith, q.generation)) f0.1 in
    let f2 = one_line (codes "epoch") h.epoch k.epoch (from_runs h) (from_runs k) (omega (arith, p.epoch)) (omega (arith, q.epoch)) f1.1 in
    let f3 = one_line (codes "runs") h.runs k.runs (from_images h) (from_images k) (omega (arith, p.runs)) (omega (arith, q.runs)) f2.1 in
    let f4 = one_line (codes "images") (length h.names) (length k.names) (names_part h) (names_part k) (omega (arith, p.images)) (omega (arith, q.images)) f3.1 in
    let n = one_list h.names k.names (from_profiles h) (from_profiles k) f4.0 is_h.names is_k.names f4.1 in
    let f5 = one_line (codes "profiles") (length h.known) (length k.known) (known_part h) (known_part k) (omega (arith, p.known)) (omega (arith, q.known)) n.1 in
    let r = one_rows known_line KnownFits one_known h.known k.known (from_unknowns h) (from_unknowns k) f5.0 p.known_fit q.known_fit f5.1 in
    let f6 = one_line (codes "unknowns") (length h.unknown) (length k.unknown) (unknown_part h) (unknown_part k) (omega (arith, p.unknown)) (omega (arith, q.unknown)) r.1 in
    let u = one_rows unknown_line UnknownFits one_unknown h.unknown k.unknown [] [] f6.0 p.unknown_fit q.unknown_fit f6.1 in
    λ t. record { generation = f1.0 t; epoch = f2.0 t; runs = f3.0 t; names = n.0 t; known = r.0 t; unknown = u.0 t }

-- files have one latest generation
not_later : (files : Files) (g k : ℕ) → IsLatest files g → IsLatest files k → g < k → ⊥
not_later files g k is_g is_k below =
    let none : files (seal_file k) ≡ None = is_g.above k below is_k.most in
    let some : IsSome (files (seal_file k)) = is_k.here (omega (arith, below)) in
    no_value (files (seal_file k)) none some
  where
    no_value : (o : Option (List ℕ)) → o ≡ None → IsSome o → ⊥
    no_value None none some = cc
    no_value (Some v) none some = cc

one_latest : (files : Files) (g k : ℕ) → IsLatest files g → IsLatest files k → g ≡ k
one_latest files g k is_g is_k = elim (cases_lt g k) [
  | inl below ↦ absurd (not_later files g k is_g is_k below)
  | inr above ↦ elim (cases_lt k g) [
    | inl below ↦ absurd (not_later files k g is_k is_g below)
    | inr below ↦ omega (arith, above, below)
  ]
]

-- files have one head
pub one_head : (files : Files) (h k : Head) → HaveHead files h → HaveHead files k → h ≡ k
one_head files h k have_h have_k =
    let same : h.generation ≡ k.generation = one_latest files h.generation k.generation have_h.latest have_k.latest in
    elim (cases_lt 0 h.generation) [
      | inl some ↦
          let a = have_h.sealed some in
          let b = have_k.sealed (omega (arith, same, some)) in
          let file : files (head_file h.generation) ≡ files (head_file k.generation) = ap (λ g. files (head_file g)) same in
          one_text h k a.1 b.1 (text_is (head_text h) (head_text k) (sym a.0 ∙ file ∙ b.0))
      | inr none ↦ have_h.fresh (omega (arith, none)) ∙ sym (have_k.fresh (omega (arith, none, same)))
    ]

-- files stand for one database
pub one_database : (files : Files) (a b : Database) → StandsFor files a → StandsFor files b → a ≡ b
one_database files a b (h, have_h, is_h) (k, have_k, is_k) =
    sym is_h ∙ ap (λ (x : Head). database_of x files) (one_head files h k have_h have_k) ∙ is_k
