-- Lists that agree key by key agree on every test that does not tell equal keys apart.
use Rattle.std.proofs.Common.{◌≡◌, ℕ, zero, suc, ◌+◌, ◌≤◌, List, [], ◌∷◌, ◌++◌, length, refl, sym, ◌∙◌, ap, arith, Bool, true, false, if◌then◌else◌}
use Rattle.std.proofs.lemmas.Bool.{cond_both, cond-true, cond-false}
use Rattle.sample_key.specs.Bags.{same_key, counted, weight}
use Rattle.sample_key.specs.Counted.{Counted}
use Rattle.sample_key.specs.declared.keys.Key.{Key}
use Rattle.driver_laws.proofs.Adds.{same_from, same_as, differ_sym}
use Rattle.run_exact.specs.Exact.{counted_where}

-- a test that gives equal keys the same answer
abbrev pub Respects : (Key → Bool) → Type 0
Respects test = (a b : Key) → same_key a b ≡ true → test a ≡ test b

-- a key is itself
pub same_self : (key : Key) → same_key key key ≡ true
same_self key = same_from key key refl refl refl

-- the entries of other keys
abbrev pub without : Key → List Counted → List Counted
without key [] = []
without key (e ∷ es) = if same_key key e.key then without key es else e ∷ without key es

without_shorter : (key : Key) (es : List Counted) → length (without key es) ≤ length es
without_shorter key [] = omega arith
without_shorter key (e ∷ es) =
    cond_both (same_key key e.key) (without key es) (e ∷ without key es) (λ (z : List Counted). length z ≤ length (e ∷ es))
    (λ t. omega (arith, without_shorter key es)) (λ t. omega (arith, without_shorter key es))

cond_sum : (b : Bool) (x y : ℕ) → (if b then x + y else 0) ≡ (if b then x else 0) + (if b then y else 0)
cond_sum true x y = refl
cond_sum false x y = omega arith

cond_none : (b : Bool) → ◌≡◌ {A = ℕ} (if b then 0 else 0) 0
cond_none true = refl
cond_none false = refl

-- the entries of one key and those of others
split : (test : Key → Bool) → Respects test → (key : Key) (es : List Counted)
    → counted_where test es ≡ (if test key then weight key es else 0) + counted_where test (without key es)
split test same key [] = omega (arith, cond_none (test key))
split test same key (e ∷ es) = by_key (same_key key e.key) refl (split test same key es)
  where
    by_key : (t : Bool) → same_key key e.key ≡ t → counted_where test es ≡ (if test key then weight key es else 0) + counted_where test (without key es)
        → counted_where test (e ∷ es) ≡ (if test key then weight key (e ∷ es) else 0) + counted_where test (without key (e ∷ es))
    by_key true t rest =
        let a : counted key e ≡ e.count = cond-true {A = ℕ} (same_key key e.key) e.count 0 t in
        let b : without key (e ∷ es) ≡ without key es = cond-true (same_key key e.key) (without key es) (e ∷ without key es) t in
        let p : (if test e.key then e.count else 0) ≡ (if test key then e.count else 0) = ap {B = ℕ} (λ (z : Bool). if z then e.count else 0) (sym (same key e.key t)) in
        let q : (if test key then weight key (e ∷ es) else 0) ≡ (if test key then e.count else 0) + (if test key then weight key es else 0) =
        ap {B = ℕ} (λ (n : ℕ). if test key then n + weight key es else 0) a ∙ cond_sum (test key) e.count (weight key es) in
        omega (arith, rest, p, q, ap (λ (z : List Counted). counted_where test z) b)
    by_key false t rest =
        let a : counted key e ≡ 0 = cond-false {A = ℕ} (same_key key e.key) e.count 0 t in
        let b : without key (e ∷ es) ≡ e ∷ without key es = cond-false (same_key key e.key) (without key es) (e ∷ without key es) t in
        let q : (if test key then weight key (e ∷ es) else 0) ≡ (if test key then 0 else 0) + (if test key then weight key es else 0) =
        ap {B = ℕ} (λ (n : ℕ). if test key then n + weight key es else 0) a ∙ cond_sum (test key) 0 (weight key es) in
        omega (arith, rest, q, cond_none (test key), ap (λ (z : List Counted). counted_where test z) b)

-- how often the entries of other keys count a key
without_same : (key k : Key) (es : List Counted) → same_key key k ≡ true → weight k (without key es) ≡ 0
without_same key k [] h = refl
without_same key k (e ∷ es) h = by_key (same_key key e.key) refl (without_same key k es h)
  where
    by_key : (t : Bool) → same_key key e.key ≡ t → weight k (without key es) ≡ 0 → weight k (without key (e ∷ es)) ≡ 0
    by_key true t rest = ap (λ (z : List Counted). weight k z) (cond-true (same_key key e.key) (without key es) (e ∷ without key es) t) ∙ rest
    by_key false t rest =
        let n : same_key k e.key ≡ false = differ_sym e.key k (sym (same_as e.key key k h) ∙ differ_sym key e.key t) in
        let c : counted k e ≡ 0 = cond-false {A = ℕ} (same_key k e.key) e.count 0 n in
        ap (λ (z : List Counted). weight k z) (cond-false (same_key key e.key) (without key es) (e ∷ without key es) t) ∙ omega (arith, c, rest)

without_other : (key k : Key) (es : List Counted) → same_key key k ≡ false → weight k (without key es) ≡ weight k es
without_other key k [] h = refl
without_other key k (e ∷ es) h = by_key (same_key key e.key) refl (without_other key k es h)
  where
    by_key : (t : Bool) → same_key key e.key ≡ t → weight k (without key es) ≡ weight k es → weight k (without key (e ∷ es)) ≡ weight k (e ∷ es)
    by_key true t rest =
        let n : same_key k e.key ≡ false = sym (same_as k key e.key t) ∙ differ_sym key k h in
        let c : counted k e ≡ 0 = cond-false {A = ℕ} (same_key k e.key) e.count 0 n in
        ap (λ (z : List Counted). weight k z) (cond-true (same_key key e.key) (without key es) (e ∷ without key es) t) ∙ omega (arith, c, rest)
    by_key false t rest =
        ap (λ (z : List Counted). weight k z) (cond-false (same_key key e.key) (without key es) (e ∷ without key es) t) ∙ omega (arith, rest)

-- where no key is counted, nothing passes
nothing_counted : (test : Key → Bool) (es : List Counted) → ((k : Key) → weight k es ≡ 0) → counted_where test es ≡ 0
nothing_counted test [] none = refl
nothing_counted test (e ∷ es) none =
    let c : counted e.key e ≡ e.count = cond-true {A = ℕ} (same_key e.key e.key) e.count 0 (same_self e.key) in
    let z : e.count ≡ 0 = omega (arith, none e.key) in
    let w : (if test e.key then e.count else 0) ≡ 0 = ap {B = ℕ} (λ (n : ℕ). if test e.key then n else 0) z ∙ cond_none (test e.key) in
    omega (arith, w, nothing_counted test es (λ k. omega (arith, none k)))

agree_by : (test : Key → Bool) → Respects test → (fuel : ℕ) (xs ys : List Counted) → length xs ≤ fuel → ((k : Key) → weight k xs ≡ weight k ys)
    → counted_where test xs ≡ counted_where test ys
agree_by test same fuel [] ys few agree = sym (nothing_counted test ys (λ k. sym (agree k)))
agree_by test same zero (e ∷ es) ys few agree = absurd (omega arith)
agree_by test same (suc fuel) (e ∷ es) ys few agree =
    let key = e.key in
    let b : without key (e ∷ es) ≡ without key es = cond-true (same_key key e.key) (without key es) (e ∷ without key es) (same_self key) in
    let l : length (without key (e ∷ es)) ≡ length (without key es) = ap length b in
    let w : (if test key then weight key (e ∷ es) else 0) ≡ (if test key then weight key ys else 0) = ap {B = ℕ} (λ (n : ℕ). if test key then n else 0) (agree key) in
    let rest : counted_where test (without key (e ∷ es)) ≡ counted_where test (without key ys) =
    agree_by test same fuel (without key (e ∷ es)) (without key ys) (omega (arith, without_shorter key es))
    (λ k. cond_both (same_key key k) tt tt (λ (z : Unit {0}). weight k (without key (e ∷ es)) ≡ weight k (without key ys))
    (λ t. without_same key k (e ∷ es) t ∙ sym (without_same key k ys t))
    (λ t. without_other key k (e ∷ es) t ∙ agree k ∙ sym (without_other key k ys t))) in
    omega (arith, split test same key (e ∷ es), split test same key ys, w, rest)

pub sums_agree : (test : Key → Bool) → Respects test → (xs ys : List Counted) → ((k : Key) → weight k xs ≡ weight k ys) → counted_where test xs ≡ counted_where test ys
sums_agree test same xs ys agree = agree_by test same (length xs) xs ys (omega arith) agree

-- the entries of two lists
pub counted-append : (test : Key → Bool) (xs ys : List Counted) → counted_where test (xs ++ ys) ≡ counted_where test xs + counted_where test ys
counted-append test [] ys = omega arith
counted-append test (x ∷ xs) ys = omega (arith, counted-append test xs ys)
