-- A cell that keeps its rule is sound.
use Rattle.std.proofs.Common.{◌≡◌, ◌⊎◌, ℕ, zero, suc, ◌+◌, List, [], ◌∷◌, ◌++◌, length, Option, true, false, refl, sym, ap, ◌∙◌, subst, inl, inr, ⊎_elim, arith}
use mathlib.Core.Option.{some, none, some-injective, some-ne-none}
use lib.ListN.{get_elem?}
use Rattle.atomic_table.specs.Table.{State}
use Rattle.turn_cell.specs.declared.passing.Parcel.{Parcel}
use Rattle.turn_cell.specs.declared.cell_view.InSlot.{InSlot}
use Rattle.turn_cell.specs.declared.cell_view.InSlot.TheVariants.{Resting, Sent}
use Rattle.turn_cell.specs.declared.cell_view.Role.{Role}
use Rattle.turn_cell.specs.declared.cell_view.Role.TheVariants.{Daemon, SetDown, Joined, Spent}
use Rattle.turn_cell.specs.declared.cell_view.View.{View}
use Rattle.turn_cell.specs.Parcels.{last_of, IsEven, IsOdd}
use Rattle.turn_cell.specs.Handoff.{Whereabouts, resting, with_lane, sent, with_daemon, with_closer, homes_of, is_with_lane, is_with_daemon, IsInReach, IsDaemonRole, Seats, whole, apart, joined, views_of, WholeKnows, Know, Agree, TakesTurns, IsKnown, IsSoundCell}
use Rattle.turn_cell.proofs.CellSteps.{handoff_of}

daemon_role_of : {V : Type 0} (place : Whereabouts V) (role : Role) → IsDaemonRole place role → (role ≡ Daemon) ⊎ (role ≡ SetDown)
daemon_role_of (resting x) role is = is
daemon_role_of with_lane role is = is
daemon_role_of (sent p) role is = is
daemon_role_of with_daemon role is = inl is
daemon_role_of with_closer role is = inr is

module _ {V : Type 0} where
  -- the value is in the slot or with an end
  one_place_of : (place : Whereabouts V) (homes : List (mathlib.Core.Option.Option (InSlot V))) → homes ≡ homes_of place
      → (((x : V) × (homes ≡ some (Resting x) ∷ [])) ⊎ ((p : Parcel V) × (homes ≡ some (Sent p) ∷ []))) ⊎ ((is_with_lane place ≡ true) ⊎ (is_with_daemon place ≡ true))
  one_place_of (resting x) homes is = inl (inl (x, is))
  one_place_of with_lane homes is = inr (inl refl)
  one_place_of (sent p) homes is = inl (inr (p, is))
  one_place_of with_daemon homes is = inr (inr refl)
  one_place_of with_closer homes is = inr (inr refl)

module _ {K V : Type 0} (keeps : K → Parcel V → Type 0) (returns : K → Option (Parcel V) → V → Type 0) where
  at_home_of : (k : K) (handed taken : List (Parcel V)) (backs : ℕ) (place : Whereabouts V) (x : V) → Agree keeps returns k handed taken backs place → homes_of place ≡ some (Resting x) ∷ []
      → IsEven (length handed + backs) × (is_with_lane place ≡ false) × returns k (last_of handed) x
  at_home_of k handed taken backs (resting y) x agree e = let same : y ≡ x = cc in (omega (arith, agree.0), refl, subst (λ (z : V). returns k (last_of handed) z) same agree.2)
  at_home_of k handed taken backs with_lane x agree e = absurd (cc)
  at_home_of k handed taken backs (sent p) x agree e = absurd (cc)
  at_home_of k handed taken backs with_daemon x agree e = absurd (cc)
  at_home_of k handed taken backs with_closer x agree e = absurd (cc)

  on_its_way_of : (k : K) (handed taken : List (Parcel V)) (backs : ℕ) (place : Whereabouts V) (p : Parcel V) → Agree keeps returns k handed taken backs place → homes_of place ≡ some (Sent p) ∷ []
      → IsOdd (length handed + backs) × (is_with_daemon place ≡ false) × (handed ≡ taken ++ p ∷ []) × keeps k p
  on_its_way_of k handed taken backs (resting y) p agree e = absurd (cc)
  on_its_way_of k handed taken backs with_lane p agree e = absurd (cc)
  on_its_way_of k handed taken backs (sent q) p agree e =
      let same : q ≡ p = cc in (omega (arith, agree.0), refl, subst (λ (z : Parcel V). handed ≡ taken ++ z ∷ []) same agree.1, subst (λ (z : Parcel V). keeps k z) same agree.2)
  on_its_way_of k handed taken backs with_daemon p agree e = absurd (cc)
  on_its_way_of k handed taken backs with_closer p agree e = absurd (cc)

  known_of : (k : K) (handed taken : List (Parcel V)) (backs : ℕ) (place : Whereabouts V) (seats : Seats K V) (seat : ℕ) (v : View K V) → Know k handed taken backs place seats → get_elem? (views_of seats) seat ≡ some v
      → IsKnown keeps returns k handed taken backs (is_with_lane place) (is_with_daemon place) v v.role
  known_of k handed taken backs place seats seat v know e = found seats seat know e
    where
      found : (seats : Seats K V) (seat : ℕ) → Know k handed taken backs place seats → get_elem? (views_of seats) seat ≡ some v → IsKnown keeps returns k handed taken backs (is_with_lane place) (is_with_daemon place) v v.role
      found (whole u) zero know e =
          subst (λ (z : View K V). IsKnown keeps returns k handed taken backs (is_with_lane place) (is_with_daemon place) z z.role) (some-injective u v e)
          (subst (λ (role : Role). IsKnown keeps returns k handed taken backs (is_with_lane place) (is_with_daemon place) u role) (sym know.0.0) (know.0.1, know.0.2, know.0.3, know.0.4, know.0.5, know.0.6))
      found (whole u) (suc i) know e = absurd (some-ne-none v (sym e))
      found (apart l d) zero know e =
          subst (λ (z : View K V). IsKnown keeps returns k handed taken backs (is_with_lane place) (is_with_daemon place) z z.role) (some-injective l v e)
          (subst (λ (role : Role). IsKnown keeps returns k handed taken backs (is_with_lane place) (is_with_daemon place) l role) (sym know.0.0) (know.0.1, know.0.2, know.0.3))
      found (apart l d) (suc zero) know e =
          subst (λ (z : View K V). IsKnown keeps returns k handed taken backs (is_with_lane place) (is_with_daemon place) z z.role) (some-injective d v e)
          (⊎_elim
          (λ (is : d.role ≡ Daemon). subst (λ (role : Role). IsKnown keeps returns k handed taken backs (is_with_lane place) (is_with_daemon place) d role) (sym is) (know.1.1, know.1.2, know.1.3, know.1.4))
          (λ (is : d.role ≡ SetDown). subst (λ (role : Role). IsKnown keeps returns k handed taken backs (is_with_lane place) (is_with_daemon place) d role) (sym is) (know.1.1, know.1.2, know.1.3, know.1.4))
          (daemon_role_of place d.role know.1.0))
      found (apart l d) (suc (suc i)) know e = absurd (some-ne-none v (sym e))
      found (joined u w) zero know e =
          subst (λ (z : View K V). IsKnown keeps returns k handed taken backs (is_with_lane place) (is_with_daemon place) z z.role) (some-injective u v e)
          (⊎_elim
          (λ (x : WholeKnows Joined k handed taken backs place u × IsInReach place). subst (λ (role : Role). IsKnown keeps returns k handed taken backs (is_with_lane place) (is_with_daemon place) u role) (sym x.0.0) (x.0.1, x.0.2, x.0.3, x.0.4, x.0.5, x.0.6))
          (λ (is : u.role ≡ Spent). subst (λ (role : Role). IsKnown keeps returns k handed taken backs (is_with_lane place) (is_with_daemon place) u role) (sym is) tt)
          know.1)
      found (joined u w) (suc zero) know e =
          subst (λ (z : View K V). IsKnown keeps returns k handed taken backs (is_with_lane place) (is_with_daemon place) z z.role) (some-injective w v e)
          (subst (λ (role : Role). IsKnown keeps returns k handed taken backs (is_with_lane place) (is_with_daemon place) w role) (sym know.0) tt)
      found (joined u w) (suc (suc i)) know e = absurd (some-ne-none v (sym e))

  pub sound : (k : K) (s : State (InSlot V) (View K V)) → TakesTurns keeps returns k s → IsSoundCell keeps returns k s
  sound k s r =
      let homes = ap (λ (x : State (InSlot V) (View K V)). x.homes) r.is in record {
        handed = r.handed;
        taken = r.taken;
        backs = r.backs;
        word = length r.handed + r.backs;
        lane_holds = is_with_lane r.place;
        daemon_holds = is_with_daemon r.place;
        words = ap (λ (x : State (InSlot V) (View K V)). x.words) r.is;
        handoff = handoff_of keeps returns k r.handed r.taken r.backs r.place r.agree;
        bound = r.bound;
        at_home = λ x e. at_home_of k r.handed r.taken r.backs r.place x r.agree (sym homes ∙ e);
        on_its_way = λ p e. on_its_way_of k r.handed r.taken r.backs r.place p r.agree (sym homes ∙ e);
        one_place = one_place_of r.place s.homes homes;
        known = λ seat v e. known_of k r.handed r.taken r.backs r.place r.seats seat v r.know (sym (ap (λ (x : State (InSlot V) (View K V)). get_elem? x.views seat) r.is) ∙ e);
      }
