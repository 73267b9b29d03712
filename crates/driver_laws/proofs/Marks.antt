use Rattle.std.proofs.Common.{◌≡◌, ℕ, zero, suc, ◌+◌, ◌<◌, ◌≤◌, List, [], ◌∷◌, length, drop, refl, ap, subst, arith, leb, le-leb, leb-true}
use Rattle.std.proofs.lemmas.Bool.{lt-leb, cond_both, cond-true, cond-false}
use Rattle.sample_key.specs.Marks.{due, MarksUpTo, RisesFrom}
use Rattle.sample_key.specs.declared.keys.Marked.{Marked}

-- no more samples are due than there are
pub due_most : (ss : List Marked) (m : ℕ) → due ss m ≤ length ss
due_most [] m = omega arith
due_most (s ∷ ss) m =
    cond_both (leb s.mark m) 1 0 (λ w. w + due ss m ≤ length (s ∷ ss)) (λ e. omega (arith, due_most ss m)) (λ e. omega (arith, due_most ss m))

-- a later position has no fewer
pub due_later : (ss : List Marked) (m n : ℕ) → m ≤ n → due ss m ≤ due ss n
due_later [] m n h = omega arith
due_later (s ∷ ss) m n h =
    cond_both (leb s.mark m) 1 0 (λ w. w + due ss m ≤ due (s ∷ ss) n)
    (λ e. rw (cond-true {A = ℕ} (leb s.mark n) 1 0 (le-leb s.mark n (omega (arith, leb-true s.mark m e)))) (omega (arith, due_later ss m n h)))
    (λ e. omega (arith, due_later ss m n h))

-- all are due at the greatest mark
pub due_all : (ss : List Marked) (m : ℕ) → MarksUpTo m ss → due ss m ≡ length ss
due_all [] m h = refl
due_all (s ∷ ss) m h = rw (cond-true {A = ℕ} (leb s.mark m) 1 0 (le-leb s.mark m h.0)) (omega (arith, due_all ss m h.1))

-- marks that rise from here are no lower
pub rises_later : (a b : ℕ) (ss : List Marked) → a ≤ b → RisesFrom b ss → RisesFrom a ss
rises_later a b [] l h = tt
rises_later a b (s ∷ ss) l h = (omega (arith, h.0), h.1)

-- nothing is due below the first mark
pub due_none : (ss : List Marked) (least m : ℕ) → RisesFrom least ss → m < least → due ss m ≡ 0
due_none [] least m h l = refl
due_none (s ∷ ss) least m h l =
    rw (cond-false {A = ℕ} (leb s.mark m) 1 0 (lt-leb s.mark m (omega (arith, h.0)))) (omega (arith, due_none ss s.mark m h.1 (omega (arith, h.0))))

-- marks rise from each sample on
pub rises_from : (ss : List Marked) (least n : ℕ) (s : Marked) (rest : List Marked) → RisesFrom least ss → drop n ss ≡ s ∷ rest → RisesFrom s.mark (s ∷ rest)
rises_from [] least zero s rest h e = cc
rises_from [] least (suc n) s rest h e = cc
rises_from (x ∷ ss) least zero s rest h e =
    let P : List Marked → Type 0 = λ (z : List Marked). RisesFrom (first_mark z) z in subst P e (omega arith, h.1)
  where
    first_mark : List Marked → ℕ
    first_mark [] = 0
    first_mark (y ∷ ys) = y.mark
rises_from (x ∷ ss) least (suc n) s rest h e = rises_from ss x.mark n s rest h.1 e

-- where the next sample is due, one more is due than were taken
pub due_next : (ss : List Marked) (least n m : ℕ) (s : Marked) (rest : List Marked) → RisesFrom least ss → drop n ss ≡ s ∷ rest → s.mark ≤ m → n + 1 ≤ due ss m
due_next [] least zero m s rest h e l = cc
due_next [] least (suc n) m s rest h e l = cc
due_next (x ∷ ss) least zero m s rest h e l =
    let same : x.mark ≡ s.mark = mark_same x s ss rest e in
    rw (cond-true {A = ℕ} (leb x.mark m) 1 0 (le-leb x.mark m (omega (arith, same)))) (omega arith)
  where
    mark_same : (x s : Marked) (ss rest : List Marked) → x ∷ ss ≡ s ∷ rest → x.mark ≡ s.mark
    mark_same x s ss rest e = let f : x ≡ s = cc in ap (λ (z : Marked). z.mark) f
due_next (x ∷ ss) least (suc n) m s rest h e l =
    let later : x.mark ≤ s.mark = mark_later ss x.mark n s rest h.1 e in
    rw (cond-true {A = ℕ} (leb x.mark m) 1 0 (le-leb x.mark m (omega arith))) (omega (arith, due_next ss x.mark n m s rest h.1 e l))
  where
    mark_later : (ss : List Marked) (least n : ℕ) (s : Marked) (rest : List Marked) → RisesFrom least ss → drop n ss ≡ s ∷ rest → least ≤ s.mark
    mark_later [] least zero s rest h e = cc
    mark_later [] least (suc n) s rest h e = cc
    mark_later (x ∷ ss) least zero s rest h e = let f : x ≡ s = cc in omega (arith, h.0, ap (λ (z : Marked). z.mark) f)
    mark_later (x ∷ ss) least (suc n) s rest h e = omega (arith, h.0, mark_later ss x.mark n s rest h.1 e)

-- where nothing that is left is due, no more is due than was taken
pub due_within : (ss : List Marked) (n m : ℕ) → due (drop n ss) m ≡ 0 → due ss m ≤ n
due_within [] zero m h = omega arith
due_within [] (suc n) m h = omega arith
due_within (x ∷ ss) zero m h = omega (arith, h)
due_within (x ∷ ss) (suc n) m h =
    cond_both (leb x.mark m) 1 0 (λ w. w + due ss m ≤ suc n) (λ e. omega (arith, due_within ss n m h)) (λ e. omega (arith, due_within ss n m h))
