use Rattle.std.proofs.Common.{◌≡◌, ℕ, zero, suc, ◌+◌, ◌<◌, ◌≤◌, List, [], ◌∷◌, ◌++◌, take, drop, refl, ap, arith, leb, ltb, lt-ltb, le-ltb}
use Rattle.std.specs.Prelude.{slice_get}
use Rattle.std.proofs.lemmas.Bool.{lt-leb, cond_both, cond-true, cond-false}
use Rattle.sample_key.specs.Bags.{once, weight, times, batched, batched_upto, once_at, lost, lost_below}
use Rattle.sample_key.specs.Counted.{Counted}
use Rattle.sample_key.specs.Sent.{Sent}
use Rattle.sample_key.specs.declared.keys.Key.{Key}
use Rattle.sample_key.specs.declared.keys.Marked.{Marked}
use Rattle.sample_key.specs.declared.losses.Loss.{Loss}
use Rattle.driver_model.specs.Lists.{AllOf}

pub weight-append : (k : Key) (xs ys : List Counted) → weight k (xs ++ ys) ≡ weight k xs + weight k ys
weight-append k [] ys = omega arith
weight-append k (x ∷ xs) ys = omega (arith, weight-append k xs ys)

pub batched-push : (k : Key) (bs : List Sent) (b : Sent) → batched k (bs ++ b ∷ []) ≡ batched k bs + weight k b.entries
batched-push k [] b = omega arith
batched-push k (c ∷ bs) b = omega (arith, batched-push k bs b)

-- batches up to a number of samples count no more than all
pub upto_le : (k : Key) (n : ℕ) (bs : List Sent) → batched_upto k n bs ≤ batched k bs
upto_le k n [] = omega arith
upto_le k n (b ∷ bs) =
    cond_both (leb b.note.upto n) (weight k b.entries) 0 (λ w. w + batched_upto k n bs ≤ weight k b.entries + batched k bs)
    (λ e. omega (arith, upto_le k n bs)) (λ e. omega (arith, upto_le k n bs))

-- a batch that goes further does not count
pub upto_push : (k : Key) (n : ℕ) (bs : List Sent) (b : Sent) → n < b.note.upto → batched_upto k n (bs ++ b ∷ []) ≡ batched_upto k n bs
upto_push k n [] b h = rw (cond-false (leb b.note.upto n) (weight k b.entries) 0 (lt-leb b.note.upto n h)) refl
upto_push k n (c ∷ bs) b h = omega (arith, upto_push k n bs b h)

pub lost-push : (k : Key) (ss : List Marked) (ls : List Loss) (l : Loss)
    → lost k ss (ls ++ l ∷ []) ≡ lost k ss ls + once_at k (slice_get ss l.index)
lost-push k ss [] l = omega arith
lost-push k ss (m ∷ ls) l = omega (arith, lost-push k ss ls l)

-- losses below an index are no more than all
pub below_le : (k : Key) (n : ℕ) (ss : List Marked) (ls : List Loss) → lost_below k n ss ls ≤ lost k ss ls
below_le k n ss [] = omega arith
below_le k n ss (l ∷ ls) =
    cond_both (ltb l.index n) (once_at k (slice_get ss l.index)) 0 (λ w. w + lost_below k n ss ls ≤ once_at k (slice_get ss l.index) + lost k ss ls)
    (λ e. omega (arith, below_le k n ss ls)) (λ e. omega (arith, below_le k n ss ls))

-- a loss that is not below does not count
pub below_push : (k : Key) (n : ℕ) (ss : List Marked) (ls : List Loss) (l : Loss) → n ≤ l.index
    → lost_below k n ss (ls ++ l ∷ []) ≡ lost_below k n ss ls
below_push k n ss [] l h = rw (cond-false (ltb l.index n) (once_at k (slice_get ss l.index)) 0 (le-ltb l.index n h)) refl
below_push k n ss (m ∷ ls) l h = omega (arith, below_push k n ss ls l h)

-- where all losses are below, they all count
pub below_all : (k : Key) (n : ℕ) (ss : List Marked) (ls : List Loss) → AllOf (λ l. l.index < n) ls → lost_below k n ss ls ≡ lost k ss ls
below_all k n ss [] h = refl
below_all k n ss (l ∷ ls) h =
    rw (cond-true (ltb l.index n) (once_at k (slice_get ss l.index)) 0 (lt-ltb l.index n h.0)) (omega (arith, below_all k n ss ls h.1))

-- one sample more
pub times_next : (k : Key) (n : ℕ) (ss : List Marked) (s : Marked) (rest : List Marked) → drop n ss ≡ s ∷ rest
    → times k (take (n + 1) ss) ≡ times k (take n ss) + once k s.key
times_next k zero [] s rest h = cc
times_next k (suc n) [] s rest h = cc
times_next k zero (x ∷ ss) s rest h = let e : x ≡ s = cc in omega (arith, ap (λ (z : Marked). once k z.key) e)
times_next k (suc n) (x ∷ ss) s rest h = let e : suc n + 1 ≡ suc (n + 1) = omega arith in rw e (omega (arith, times_next k n ss s rest h))
