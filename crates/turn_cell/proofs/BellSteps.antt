-- Each step on a bell keeps its rule.
use Rattle.std.proofs.Common.{◌≡◌, ◌≢◌, ℕ, zero, suc, ◌-◌, ◌^◌, ◌<◌, ◌≤◌, List, [], ◌∷◌, ◌++◌, length, get_or, set, true, false, true≢false, refl, sym, ap, ◌∙◌, subst, inl, inr, ⊎_elim, arith, length-append}
use Rattle.std.specs.List.Sorted.{IsNonDecreasing}
use Rattle.std.proofs.Math.Seq.{get_or-append_seam}
use Rattle.std.proofs.lemmas.List.{get_or_default}
use Rattle.std.proofs.lemmas.List.Elements.{Contains-append_left}
use Rattle.std.proofs.lemmas.List.Sorted.{IsNonDecreasingBy-push}
use mathlib.Core.Option.{some, some-injective, some-ne-none}
use lib.ListN.{get_elem?}
use Rattle.atomic_table.specs.Table.{Me, keeps, opening, Allows, Splits, Joins}
use Rattle.atomic_table.proofs.Lists.{at_set, at_snoc, set_again}
use Rattle.turn_cell.specs.declared.bell_view.BellView.{BellView}
use Rattle.turn_cell.specs.Doorbell.{last_rung, IsRungOrZero, ringer, hearer, with_noted, after_ring, after_hear, after_meet, FitsBell, RisesOnly, rang, heard, met}

last_rung-push : (rungs : List ℕ) (value : ℕ) → last_rung (rungs ++ value ∷ []) ≡ value
last_rung-push rungs value =
    let size : length (rungs ++ value ∷ []) - 1 ≡ length rungs = omega (arith, length-append rungs (value ∷ [])) in
    ap (λ i. get_or (rungs ++ value ∷ []) i 0) size ∙ get_or-append_seam rungs value [] 0

-- the value rung last is 0, or one of those rung
last_rung-is_rung : (rungs : List ℕ) → IsRungOrZero rungs (last_rung rungs)
last_rung-is_rung [] = inl refl
last_rung-is_rung (x ∷ xs) =
    let last : ℕ = length (x ∷ xs) - 1 in
    let within : last < length (x ∷ xs) = omega arith in
    inr (last, within, get_or_default (x ∷ xs) last (last_rung (x ∷ xs)) 0 within)

-- what was 0 or rung is so after another ring
rung_still : (rungs : List ℕ) (value x : ℕ) → IsRungOrZero rungs x → IsRungOrZero (rungs ++ value ∷ []) x
rung_still rungs value x = ⊎_elim (λ none. inl none) (λ here. inr (Contains-append_left rungs (value ∷ []) x here))

rising_still : (rungs : List ℕ) (value : ℕ) → IsNonDecreasing rungs → last_rung rungs ≤ value → IsNonDecreasing (rungs ++ value ∷ [])
rising_still rungs value rising above =
    IsNonDecreasingBy-push (λ x. x) rungs value rising
    (λ d some_rung. let same = get_or_default rungs (length rungs - 1) d 0 (omega arith) in omega (arith, same, above))

off : false ≡ true → ⊥
off e = true≢false (sym e)

-- the views after one seat has another
fits_set : (rungs : List ℕ) (bearer : ℕ) (views : List BellView) (by : ℕ) (w : BellView)
    → ((j : ℕ) (u : BellView) → j ≢ by → get_elem? views j ≡ some u → FitsBell rungs bearer j u)
    → FitsBell rungs bearer by w
    → (j : ℕ) (u : BellView) → get_elem? (set views by w) j ≡ some u → FitsBell rungs bearer j u
fits_set rungs bearer views by w others mine j u e =
    ⊎_elim
    (λ (x : (j ≡ by) × (w ≡ u)). subst (λ (y : ℕ × BellView). FitsBell rungs bearer y.0 y.1) (λ i. (sym x.0 i, x.1 i)) mine)
    (λ (x : (j ≢ by) × (get_elem? views j ≡ some u)). others j u x.0 x.1)
    (at_set views by j w u e)

module _ {S : Type 0} where
  pub opens : RisesOnly {S = S} (opening (0 ∷ []) [] ringer)
  opens = record {
    rungs = [];
    bearer = 0;
    words = refl;
    rising = λ i j d order within. absurd (omega arith);
    bound = omega arith;
    fits = λ seat v e. first seat v e;
  }
    where
      first : (seat : ℕ) (v : BellView) → get_elem? (ringer ∷ []) seat ≡ some v → FitsBell [] 0 seat v
      first zero v e = subst (FitsBell [] 0 0) (some-injective ringer v e) (omega arith, inl refl, λ _. (refl, refl))
      first (suc seat) v e = absurd (some-ne-none v (sym e))

  pub hears : (slots id : ℕ) (m : Me S BellView) → Allows RisesOnly slots id m 0 (λ n. n) (heard m)
  hears slots id m s r _ at _ =
      let n : ℕ = get_or s.words 0 0 in
      let found : n ≡ last_rung r.rungs = ap (λ (ws : List ℕ). get_or ws 0 0) r.words in
      let mine = r.fits id m.0 at in (
        after_hear m.0 n,
        keeps,
        tt,
        record {
          rungs = r.rungs;
          bearer = r.bearer;
          words = ap (λ (ws : List ℕ). set ws 0 (get_or ws 0 0)) r.words;
          rising = r.rising;
          bound = r.bound;
          fits = fits_set r.rungs r.bearer s.views id (after_hear m.0 n) (λ j u _ e. r.fits j u e)
              (omega (arith, found), subst (IsRungOrZero r.rungs) (sym found) (last_rung-is_rung r.rungs), mine.2);
        },
        (refl, refl, omega (arith, found, mine.0), omega (arith, found, r.bound)),
      )

  pub meets : (slots id : ℕ) (m : Me S BellView) → m.0.rings ≡ true → Allows RisesOnly slots id m 0 (λ n. n) (met m)
  meets slots id m rings s r _ at _ =
      let n : ℕ = get_or s.words 0 0 in
      let found : n ≡ last_rung r.rungs = ap (λ (ws : List ℕ). get_or ws 0 0) r.words in
      let mine = r.fits id m.0 at in
      let same : r.rungs ≡ m.0.rungs = sym (mine.2 rings).1 in
      let told = subst (λ (rungs : List ℕ). (n ≡ last_rung rungs) × (m.0.heard ≤ last_rung rungs) × IsRungOrZero rungs m.0.heard) same (found, mine.0, mine.1) in (
        after_meet m.0 n,
        keeps,
        tt,
        record {
          rungs = r.rungs;
          bearer = r.bearer;
          words = ap (λ (ws : List ℕ). set ws 0 (get_or ws 0 0)) r.words;
          rising = r.rising;
          bound = r.bound;
          fits = fits_set r.rungs r.bearer s.views id (after_meet m.0 n) (λ j u _ e. r.fits j u e) mine;
        },
        (refl, refl, told.0, told.1, told.2),
      )

  pub rings : (slots id : ℕ) (m : Me S BellView) (value : ℕ) → m.0.rings ≡ true → last_rung m.0.rungs ≤ value → value ≤ 2 ^ 32
      → Allows RisesOnly slots id m 0 (λ _. value) (λ _. rang m value)
  rings slots id m value bears above small s r _ at _ =
      let mine = r.fits id m.0 at in
      let known = mine.2 bears in
      let higher : last_rung r.rungs ≤ value = subst (λ (rungs : List ℕ). last_rung rungs ≤ value) known.1 above in
      let last : last_rung (r.rungs ++ value ∷ []) ≡ value = last_rung-push r.rungs value in (
        after_ring m.0 value,
        keeps,
        tt,
        record {
          rungs = r.rungs ++ value ∷ [];
          bearer = r.bearer;
          words = ap (λ (ws : List ℕ). set ws 0 value) r.words ∙ ap (λ (n : ℕ). n ∷ []) (sym last);
          rising = rising_still r.rungs value r.rising higher;
          bound = omega (arith, last, small);
          fits = fits_set (r.rungs ++ value ∷ []) r.bearer s.views id (after_ring m.0 value)
              (λ j u apart e. let fit = r.fits j u e in (omega (arith, last, higher, fit.0), rung_still r.rungs value u.heard fit.1, λ other. absurd (apart ((fit.2 other).0 ∙ sym known.0))))
              (omega (arith, last, higher, mine.0), rung_still r.rungs value m.0.heard mine.1, λ _. (known.0, ap (λ (rungs : List ℕ). rungs ++ value ∷ []) known.1));
        },
        (refl, refl),
      )

  pub notes : (id : ℕ) (v : BellView) → Splits (RisesOnly {S = S}) id v v (hearer v.heard)
  notes id v s r at =
      let mine = r.fits id v at in
      let fresh : (j : ℕ) → FitsBell r.rungs r.bearer j (hearer v.heard) = λ j. (mine.0, mine.1, λ e. absurd (off e)) in record {
        rungs = r.rungs;
        bearer = r.bearer;
        words = r.words;
        rising = r.rising;
        bound = r.bound;
        fits = λ j u e.
            ⊎_elim
            (λ was. r.fits j u (subst (λ (l : List BellView). get_elem? l j ≡ some u) (set_again s.views id v at) was))
            (λ same. subst (FitsBell r.rungs r.bearer j) same (fresh j))
            (at_snoc (set s.views id v) (hearer v.heard) u j e);
      }

  pub takes_in : (id : ℕ) (v : BellView) (other : ℕ) (w : BellView) → Joins (RisesOnly {S = S}) id v other w (with_noted v w) (hearer 0)
  takes_in id v other w s r at apart there =
      let mine = r.fits id v at in
      let both = with_noted v w in
      let theirs : FitsBell r.rungs r.bearer other w =
      ⊎_elim
      (λ (x : (other ≡ id) × (both ≡ w)). absurd (apart x.0))
      (λ (x : (other ≢ id) × (get_elem? s.views other ≡ some w)). r.fits other w x.1)
      (at_set s.views id other both w there) in record {
        rungs = r.rungs;
        bearer = r.bearer;
        words = r.words;
        rising = r.rising;
        bound = r.bound;
        fits = fits_set r.rungs r.bearer (set s.views id both) other (hearer 0)
            (λ j u _ e. fits_set r.rungs r.bearer s.views id both (λ i y _ e'. r.fits i y e') (theirs.0, theirs.1, mine.2) j u e)
            (omega arith, inl refl, λ e. absurd (off e));
      }
