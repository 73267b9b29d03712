-- Losses whose indices rise.
use Rattle.std.proofs.Common.{◌≡◌, ℕ, zero, suc, ◌+◌, ◌<◌, ◌≤◌, Bool, true, false, List, [], ◌∷◌, ◌++◌, length, get_or, take, arith}
use Rattle.std.specs.Prelude.{All}
use Rattle.std.specs.List.{fold}
use Rattle.std.proofs.lemmas.List.Elements.{All-nil}
use Rattle.std.proofs.lemmas.List.Sums.{fold_push}
use Rattle.sample_key.specs.declared.losses.Loss.{Loss}
use Rattle.database_model.specs.Ranges.{LossesRiseFrom, AreLosses, EndsWith}
use Rattle.database_model.specs.SegmentForm.{least_index}

-- the least index of the next loss, behind one that wants `start`
abbrev least_from : ℕ → List Loss → ℕ
least_from start losses = fold (λ before loss. loss.index + 1) start losses

pub least_index-push : (losses : List Loss) (loss : Loss) → least_index (losses ++ loss ∷ []) ≡ loss.index + 1
least_index-push losses loss = fold_push (λ before l. l.index + 1) 0 losses loss

pub record IsAtPlace (least : ℕ) (loss : Loss) : Type 0 where
  pub above : least ≤ loss.index
  pub small : loss.index < 2000000

at_place_from : (start least : ℕ) (losses : List Loss) (i : ℕ) (d : Loss) → start ≤ least → LossesRiseFrom least losses → i < length losses → IsAtPlace (least_from start (take i losses)) (get_or losses i d)
at_place_from start least [] i d low rise lt = absurd (omega arith)
at_place_from start least (loss ∷ losses) zero d low rise lt = let above : least ≤ loss.index = rise.0 in record { above = omega arith; small = rise.1 }
at_place_from start least (loss ∷ losses) (suc i) d low rise lt = at_place_from (loss.index + 1) (loss.index + 1) losses i d (omega arith) rise.2 (omega arith)

-- each loss is behind those before it
pub at_place : (losses : List Loss) (i : ℕ) (d : Loss) → AreLosses losses → i < length losses → IsAtPlace (least_index (take i losses)) (get_or losses i d)
at_place losses i d rise lt = at_place_from 0 0 losses i d (omega arith) rise lt

few_from : (least : ℕ) (losses : List Loss) → least ≤ 2000000 → LossesRiseFrom least losses → least + length losses ≤ 2000000
few_from least [] low rise = omega arith
few_from least (loss ∷ losses) low rise =
    let above : least ≤ loss.index = rise.0 in
    let small : loss.index < 2000000 = rise.1 in
    let later = few_from (loss.index + 1) losses (omega arith) rise.2 in
    omega (arith, later)

-- there are not more losses than indices
pub few_losses : (losses : List Loss) → AreLosses losses → length losses ≤ 2000000
few_losses losses rise = let few = few_from 0 losses (omega arith) rise in omega (arith, few)

-- the losses of a segment are losses of a run
pub ends_recorded : (last : Bool) (lists : List (List Loss)) → EndsWith last lists → (length lists ≤ 16) × All AreLosses lists
ends_recorded false lists none = (rw none (omega arith), rw none (All-nil AreLosses))
ends_recorded true lists some = (some.1, some.2)
