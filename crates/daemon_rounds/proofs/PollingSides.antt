-- The tries of a side's cells through the polls of a round.
use Rattle.std.proofs.Common.{arith, ◌≡◌, refl, sym, ◌∙◌, ap, subst, ℕ, zero, suc, ◌+◌, ◌<◌, ◌≤◌, List, [], ◌∷◌, length, true, Option, Some}
use Rattle.std.specs.Prelude.{slice_get, slice_set}
use Rattle.std.specs.List.{AllByRecursion}
use Rattle.lane_side.specs.Fixed.{Fixed}
use Rattle.lane_side.specs.Plain.{Plain}
use Rattle.dcpid_core.specs.Collection.{MayRing}
use Rattle.replay_drive.proofs.Among.{set_got}
use Rattle.daemon_rounds.specs.Sides.{AreIdle, IsIdle, IsIdleAt, IsReadyAt, IsTried, IsTriedAt, MayPollAt}

one_side : (o : Option Plain) (a b : Plain) → o ≡ Some a → o ≡ Some b → a ≡ b
one_side o a b e f = cc

set_again : (sides : List Plain) (k : ℕ) (x y : Plain) → slice_set (slice_set sides k x) k y ≡ slice_set sides k y
set_again [] k x y = refl
set_again (s ∷ sides) zero x y = refl
set_again (s ∷ sides) (suc k) x y = ap {B = List Plain} (λ z. s ∷ z) (set_again sides k x y)

-- the side that was polled stands at its place
tried_there : (cell place : ℕ) (before after : List Plain) (tried : IsTriedAt cell place before after) → slice_get after place ≡ Some tried.side
tried_there cell place before after tried =
    subst (λ (z : List Plain). slice_get z place ≡ Some tried.side) (sym tried.set) (set_got before place tried.was tried.side tried.at)

-- an idle side after a poll of its buffer 0
record IsTriedOnce (side : Plain) : Type 0 where
  second : side.fixed.even ≡ true → side.seen.second.tries + 1 ≡ side.seen.first.tries
  third : side.fixed.even ≡ true → side.seen.third.tries + 1 ≡ side.seen.first.tries
  rung : side.fixed.even ≡ true → side.far.rung_at < side.seen.first.tries

-- and of buffer 1
record IsTriedTwice (side : Plain) : Type 0 where
  second : side.fixed.even ≡ true → side.seen.second.tries ≡ side.seen.first.tries
  third : side.fixed.even ≡ true → side.seen.third.tries + 1 ≡ side.seen.first.tries
  rung : side.fixed.even ≡ true → side.far.rung_at < side.seen.first.tries

even_before : (cell : ℕ) (s n : Plain) → IsTried cell s n → n.fixed.even ≡ true → s.fixed.even ≡ true
even_before cell s n tried e = ap (λ (f : Fixed). f.even) (sym tried.fixed) ∙ e

tried_once : (s n : Plain) → IsIdle s → IsTried 0 s n → IsTriedOnce n
tried_once s n idle tried = record {
  second = λ e. let was = idle (even_before 0 s n tried e) in omega (arith, was.0, tried.tries0, tried.tries1);
  third = λ e. let was = idle (even_before 0 s n tried e) in omega (arith, was.1, tried.tries0, tried.tries2);
  rung = λ e. let was = idle (even_before 0 s n tried e) in omega (arith, was.2, tried.tries0, tried.rung_at);
}

tried_twice : (s n : Plain) → IsTriedOnce s → IsTried 1 s n → IsTriedTwice n
tried_twice s n once tried = record {
  second = λ e. let was = once.second (even_before 1 s n tried e) in omega (arith, was, tried.tries0, tried.tries1);
  third = λ e. let was = once.third (even_before 1 s n tried e) in omega (arith, was, tried.tries0, tried.tries2);
  rung = λ e. let was = once.rung (even_before 1 s n tried e) in omega (arith, was, tried.tries0, tried.rung_at);
}

tried_thrice : (s n : Plain) → IsTriedTwice s → IsTried 2 s n → MayRing n
tried_thrice s n twice tried = λ e. (
  (let was = twice.second (even_before 2 s n tried e) in omega (arith, was, tried.tries0, tried.tries1)),
  (let was = twice.second (even_before 2 s n tried e) in let other = twice.third (even_before 2 s n tried e) in omega (arith, was, other, tried.tries0, tried.tries1, tried.tries2)),
  (let was = twice.rung (even_before 2 s n tried e) in omega (arith, was, tried.tries0, tried.rung_at)),
)

-- ---- at a place

once_at : (place : ℕ) (xs ys : List Plain) → IsIdleAt place xs → (one : IsTriedAt 0 place xs ys) → IsTriedOnce one.side
once_at place xs ys (side, there, idle) one =
    let same : side ≡ one.was = one_side (slice_get xs place) side one.was there one.at in
    tried_once one.was one.side (subst (λ (z : Plain). IsIdle z) same idle) one.tried

twice_at : (place : ℕ) (xs ys zs : List Plain) → IsIdleAt place xs → IsTriedAt 0 place xs ys → (two : IsTriedAt 1 place ys zs) → IsTriedTwice two.side
twice_at place xs ys zs idle one two =
    let same : one.side ≡ two.was = one_side (slice_get ys place) one.side two.was (tried_there 0 place xs ys one) two.at in
    tried_twice two.was two.side (subst (λ (z : Plain). IsTriedOnce z) same (once_at place xs ys idle one)) two.tried

-- buffer 1 may be polled after buffer 0
pub may_second : (place : ℕ) (xs ys : List Plain) → IsIdleAt place xs → IsTriedAt 0 place xs ys → MayPollAt 1 place ys
may_second place xs ys idle one =
    let once = once_at place xs ys idle one in (
      one.side,
      tried_there 0 place xs ys one,
      λ e.
          ((let a = once.second e in omega (arith, a)), omega arith, (let a = once.second e in let b = once.third e in omega (arith, a, b))),
    )

-- and the table after it
pub may_third : (place : ℕ) (xs ys zs : List Plain) → IsIdleAt place xs → IsTriedAt 0 place xs ys → IsTriedAt 1 place ys zs → MayPollAt 2 place zs
may_third place xs ys zs idle one two =
    let twice = twice_at place xs ys zs idle one two in (
      two.side,
      tried_there 1 place ys zs two,
      λ e.
          ((let a = twice.third e in omega (arith, a)), (let a = twice.second e in let b = twice.third e in omega (arith, a, b)), omega arith),
    )

-- after all three the side may be rung
pub ready_at : (place : ℕ) (ws xs ys zs : List Plain) → IsIdleAt place ws → IsTriedAt 0 place ws xs → IsTriedAt 1 place xs ys → IsTriedAt 2 place ys zs → IsReadyAt place ws zs
ready_at place ws xs ys zs idle one two three =
    let same : two.side ≡ three.was = one_side (slice_get ys place) two.side three.was (tried_there 1 place xs ys two) three.at in
    record {
      side = three.side;
      set = three.set ∙ ap (λ (z : List Plain). slice_set z place three.side) (two.set ∙ ap (λ (z : List Plain). slice_set z place two.side) one.set)
          ∙ ap (λ (z : List Plain). slice_set z place three.side) (set_again ws place one.side two.side)
          ∙ set_again ws place two.side three.side;
      ready = tried_thrice three.was three.side (subst (λ (z : Plain). IsTriedTwice z) same (twice_at place ws xs ys idle one two)) three.tried;
    }

-- ---- all of them

-- the first of them may be rung, the others are idle
abbrev pub AreReadyTo : ℕ → List Plain → Type 0
AreReadyTo count [] = Unit {0}
AreReadyTo zero (side ∷ sides) = IsIdle side × AreReadyTo zero sides
AreReadyTo (suc count) (side ∷ sides) = MayRing side × AreReadyTo count sides

pub none_ready : (sides : List Plain) → AreIdle sides → AreReadyTo 0 sides
none_ready [] all = tt
none_ready (side ∷ sides) all = (all.0, none_ready sides all.1)

pub all_ready : (count : ℕ) (sides : List Plain) → length sides ≤ count → AreReadyTo count sides → AllByRecursion MayRing sides
all_ready count [] le all = tt
all_ready zero (side ∷ sides) le all = absurd (omega (arith, le))
all_ready (suc count) (side ∷ sides) le all = (all.0, all_ready count sides (omega (arith, le)) all.1)

pub idle_next : (count : ℕ) (sides : List Plain) → count < length sides → AreReadyTo count sides → IsIdleAt count sides
idle_next count [] lt all = absurd (omega (arith, lt))
idle_next zero (side ∷ sides) lt all = (side, refl, all.0)
idle_next (suc count) (side ∷ sides) lt all = idle_next count sides (omega (arith, lt)) all.1

ready_set : (count : ℕ) (sides : List Plain) (side : Plain) → MayRing side → AreReadyTo count sides → AreReadyTo (suc count) (slice_set sides count side)
ready_set count [] side ready all = tt
ready_set zero (s ∷ sides) side ready all = (ready, all.1)
ready_set (suc count) (s ∷ sides) side ready all = (all.0, ready_set count sides side ready all.1)

pub ready_more : (count next : ℕ) (before after : List Plain) → next ≡ suc count → IsReadyAt count before after → AreReadyTo count before → AreReadyTo next after
ready_more count next before after is ready all =
    subst (λ (n : ℕ). AreReadyTo n after) (sym is) (subst (λ (z : List Plain). AreReadyTo (suc count) z) (sym ready.set) (ready_set count before ready.side ready.ready all))
