-- Pieces of a line, taken from the front of the bytes that were read.
use Rattle.std.proofs.Common.{◌≡◌, ◌≢◌, ℕ, zero, suc, ◌+◌, ◌-◌, ◌<◌, true, false, List, [], ◌∷◌, ◌++◌, length, length-append, get_or, take, drop, ap, refl, subst, sym, ◌∙◌, arith, min}
use Rattle.std.proofs.lemmas.List.{take-append-drop, drop-drop, length-take, get_or-take}
use Rattle.std.proofs.lemmas.List.Elements.{recursion_from_All}
use Rattle.std.proofs.lemmas.Slice.{between_is}
use Rattle.std.proofs.Math.Seq.{drop-cons}
use Rattle.std.proofs.lemmas.Bool.{eq-eqb, eqb-true}
use Rattle.std.proofs.lemmas.Grind.{get_or_default_zero}
use Rattle.memchr.specs.Find.{NoneBefore, Nowhere, Passes, is_byte}
use Rattle.text_num.specs.Lines.{HasNoLineFeed}
use Rattle.line_reader.specs.Pieces.{IsPiece}
use Rattle.line_reader.specs.Reading.{NoneStandsWhole, StandsWhole, TakesPiece}

-- what is left after some bytes more
pub advance : (bytes : List ℕ) (at end k : ℕ) → take (end - (at + k)) (drop (at + k) bytes) ≡ drop k (take (end - at) (drop at bytes))
advance bytes at end k = between_is bytes (at + k) end ∙ sym (drop-drop k at (take end bytes)) ∙ ap (λ (l : List ℕ). drop k l) (sym (between_is bytes at end))

-- the bytes are the piece, its line feed and what follows
pub ended : (n room : ℕ) (bytes : List ℕ) → IsPiece true room n bytes → TakesPiece true room (take n bytes) bytes (drop (n + 1) bytes)
ended n room bytes p = (
  p.0,
  omega (arith, length-take n bytes, p.1),
  sym (take-append-drop n bytes) ∙ ap (λ (l : List ℕ). take n bytes ++ l) (drop-cons bytes n 0 p.2
      ∙ ap (λ (b : ℕ). b ∷ drop (suc n) bytes) p.3 ∙ ap (λ (k : ℕ). 10 ∷ drop k bytes) {x = suc n} {y = n + 1} (omega arith)),
)

-- the bytes are the piece and what follows
pub unended : (n room : ℕ) (bytes : List ℕ) → IsPiece false room n bytes → TakesPiece false room (take n bytes) bytes (drop n bytes)
unended n room bytes p = (p.0, omega (arith, length-take n bytes, p.1, p.2), omega (arith, length-take n bytes, p.2), sym (take-append-drop n bytes))

-- no line feed stands before the first one
pub none_before : (n : ℕ) (bytes : List ℕ) → ((k : ℕ) → k < n → get_or bytes k 0 ≢ 10) → HasNoLineFeed (take n bytes)
none_before n bytes h = recursion_from_All (λ (b : ℕ). b ≢ 10) (take n bytes)
    (λ k d below e. h k (omega (arith, length-take n bytes, below))
    (sym (get_or_default_zero bytes k d (omega (arith, length-take n bytes, below))) ∙ sym (get_or-take n bytes k d (omega (arith, length-take n bytes, below))) ∙ e))

-- a window of the bytes, in which a line feed was sought
module _ (room : ℕ) (bytes : List ℕ) where
  abbrev window : List ℕ
  window = take (min room (length bytes)) bytes

  at_window : (k : ℕ) → k < length window → get_or window k 0 ≡ get_or bytes k 0
  at_window k h = get_or-take (min room (length bytes)) bytes k 0 (omega (arith, length-take (min room (length bytes)) bytes, h))

  pub found_piece : (n : ℕ) → NoneBefore (Passes (is_byte 10) window) 0 (length window) n × Passes (is_byte 10) window n → IsPiece true room n bytes
  found_piece n h = let size = length-take (min room (length bytes)) bytes in let high = h.0.high in (
    none_before n bytes (λ k below e. h.0.before k (omega arith) below (eq-eqb (get_or window k 0) 10 (at_window k (omega (arith, high, below)) ∙ e))),
    omega (arith, size, high),
    omega (arith, size, high),
    sym (at_window n high) ∙ eqb-true (get_or window n 0) 10 h.1,
  )

  pub none_piece : 0 < length bytes → 0 < room → Nowhere (Passes (is_byte 10) window) 0 (length window) → IsPiece false room (length window) bytes
  none_piece some least h = let size = length-take (min room (length bytes)) bytes in (
    none_before (length window) bytes (λ k below e. h k (omega arith) below (eq-eqb (get_or window k 0) 10 (at_window k below ∙ e))),
    omega (arith, size),
    omega (arith, size),
  )

-- the reader after a piece
module _ (bytes slice : List ℕ) (at end n room : ℕ) (now old new : List ℕ) where
  pub goes_ended : slice ≡ bytes → now ≡ take (end - at) (drop at bytes) → IsPiece true room n (take (end - at) (drop at slice)) → new ≡ old ++ take n (take (end - at) (drop at slice))
      → (piece : List ℕ) × (new ≡ old ++ piece) × TakesPiece true room piece now (take (end - (at + (n + 1))) (drop (at + (n + 1)) bytes))
  goes_ended same is p grown = (
    take n (take (end - at) (drop at slice)),
    grown,
    rw (is, advance bytes at end (n + 1), ← same) (ended n room (take (end - at) (drop at slice)) p),
  )

  pub goes_on : slice ≡ bytes → now ≡ take (end - at) (drop at bytes) → IsPiece false room n (take (end - at) (drop at slice)) → new ≡ old ++ take n (take (end - at) (drop at slice))
      → (piece : List ℕ) × (new ≡ old ++ piece) × TakesPiece false room piece now (take (end - (at + n)) (drop (at + n) bytes))
  goes_on same is p grown = (
    take n (take (end - at) (drop at slice)),
    grown,
    rw (is, advance bytes at end n, ← same) (unended n room (take (end - at) (drop at slice)) p),
  )

-- a line that stands in the buffer with its line feed
pub stands : (bytes slice : List ℕ) (at end n limit : ℕ) (now : List ℕ) → slice ≡ bytes → now ≡ take (end - at) (drop at bytes) → IsPiece true (limit + 1) n (take (end - at) (drop at slice))
    → StandsWhole limit (take n (take (end - at) (drop at slice))) now
stands bytes slice at end n limit now same is p =
    let t = ended n (limit + 1) (take (end - at) (drop at slice)) p in
    (t.0, omega (arith, t.1), (drop (n + 1) (take (end - at) (drop at slice)), is ∙ ap (λ (l : List ℕ). take (end - at) (drop at l)) (sym same) ∙ t.2))

-- a line with its line feed is no front without one
feed_in_front : (n : ℕ) (line left : List ℕ) → length line < n → HasNoLineFeed (take n (line ++ 10 ∷ left)) → ⊥
feed_in_front zero line left few none = omega (arith, few)
feed_in_front (suc n) [] left few none = none.0 refl
feed_in_front (suc n) (b ∷ line) left few none = feed_in_front n line left (omega (arith, few)) none.1

-- where the next piece has no line feed behind it, no line stands in the buffer with its line feed
pub none_stands : (bytes slice : List ℕ) (at end n limit : ℕ) (now : List ℕ) → slice ≡ bytes → now ≡ take (end - at) (drop at bytes) → IsPiece false (limit + 1) n (take (end - at) (drop at slice))
    → NoneStandsWhole limit now
none_stands bytes slice at end n limit now same is p line (none, short, (left, whole)) =
    let front : take (end - at) (drop at slice) ≡ line ++ 10 ∷ left = ap (λ (l : List ℕ). take (end - at) (drop at l)) same ∙ sym is ∙ whole in
    feed_in_front n line left
    (omega (arith, short, p.2, ap (λ (l : List ℕ). length l) front, length-append line (10 ∷ left)))
    (subst (λ (l : List ℕ). HasNoLineFeed (take n l)) front p.0)

-- nor does one in no bytes
pub none_in_none : (limit : ℕ) (now : List ℕ) → now ≡ [] → NoneStandsWhole limit now
none_in_none limit now empty line (none, short, (left, whole)) =
    omega (arith, ap (λ (l : List ℕ). length l) (sym empty ∙ whole), length-append line (10 ∷ left))
