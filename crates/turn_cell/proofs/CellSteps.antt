-- Each step on a cell keeps its rule.
use Rattle.std.proofs.Common.{◌≡◌, ℕ, zero, suc, ◌+◌, ◌%◌, ◌^◌, ◌<◌, ◌≤◌, Bool, List, [], ◌∷◌, ◌++◌, length, get_or, set, Option, Some, None, true, false, true≢false, refl, sym, ap, ◌∙◌, subst, inl, inr, ⊎_elim, arith, length-append, mod-eq_of_lt}
use Rattle.std.specs.Prelude.{IfSome}
use Rattle.std.proofs.lemmas.List.{append-nil}
use mathlib.Core.Option.{some, some-injective, some-ne-none}
use lib.ListN.{get_elem?}
use Rattle.atomic_table.specs.Table.{State, Me, Act, keeps as leaves, takes, gives, chain, Valid, carried_after, rest, stepped, opening, Allows, Splits, Joins}
use Rattle.turn_cell.specs.declared.passing.Parcel.{Parcel}
use Rattle.turn_cell.specs.declared.cell_view.InSlot.{InSlot}
use Rattle.turn_cell.specs.declared.cell_view.InSlot.TheVariants.{Empty, Resting, Sent}
use Rattle.turn_cell.specs.declared.cell_view.Role.{Role}
use Rattle.turn_cell.specs.declared.cell_view.Role.TheVariants.{Whole, Lane, Daemon, SetDown, Joined, Spent}
use Rattle.turn_cell.specs.declared.cell_view.View.{View}
use Rattle.turn_cell.specs.Parcels.{last_of, IsUpToLast}
use Rattle.turn_cell.specs.Handoff.{IsHandoff, Whereabouts, resting, with_lane, sent, with_daemon, with_closer, homes_of, is_with_lane, is_with_daemon, IsAtRest, IsInReach, IsDaemonRole, out_with, Seats, whole, apart, joined, views_of, first_view, spent_view, lane_part, daemon_part, both_parts, after_look, after_poll, after_hand, after_back, WholeKnows, LaneKnows, DaemonKnows, Know, state_of, Agree, TakesTurns, looked, gave_over, polled, gave_back, set_down, IsFound, ended, IsLeft, value_in}

off : false ≡ true → ⊥
off e = true≢false (sym e)

same_Some : {A : Type 0} (x y : A) → Some x ≡ Some y → x ≡ y
same_Some x y e = cc

same_head : {A : Type 0} (x y : A) (xs ys : List A) → x ∷ xs ≡ y ∷ ys → x ≡ y
same_head x y xs ys e = cc

-- one seat has one role
clash : {K V : Type 0} (v w : View K V) (a b : Role) → v ≡ w → v.role ≡ a → w.role ≡ b → (a ≡ b → ⊥) → ⊥
clash v w a b same is it differ = differ (sym is ∙ (ap (λ u. u.role) same ∙ it))

whole-ne-lane : Whole ≡ Lane → ⊥
whole-ne-lane e = cc

whole-ne-daemon : Whole ≡ Daemon → ⊥
whole-ne-daemon e = cc

lane-ne-daemon : Lane ≡ Daemon → ⊥
lane-ne-daemon e = cc

lane-ne-whole : Lane ≡ Whole → ⊥
lane-ne-whole e = cc

lane-ne-joined : Lane ≡ Joined → ⊥
lane-ne-joined e = cc

daemon-ne-lane : Daemon ≡ Lane → ⊥
daemon-ne-lane e = cc

daemon-ne-whole : Daemon ≡ Whole → ⊥
daemon-ne-whole e = cc

daemon-ne-joined : Daemon ≡ Joined → ⊥
daemon-ne-joined e = cc

set_down-ne-lane : SetDown ≡ Lane → ⊥
set_down-ne-lane e = cc

set_down-ne-whole : SetDown ≡ Whole → ⊥
set_down-ne-whole e = cc

set_down-ne-joined : SetDown ≡ Joined → ⊥
set_down-ne-joined e = cc

set_down-ne-daemon : SetDown ≡ Daemon → ⊥
set_down-ne-daemon e = cc

joined-ne-lane : Joined ≡ Lane → ⊥
joined-ne-lane e = cc

joined-ne-daemon : Joined ≡ Daemon → ⊥
joined-ne-daemon e = cc

joined-ne-whole : Joined ≡ Whole → ⊥
joined-ne-whole e = cc

whole-ne-joined : Whole ≡ Joined → ⊥
whole-ne-joined e = cc

spent-ne-lane : Spent ≡ Lane → ⊥
spent-ne-lane e = cc

spent-ne-daemon : Spent ≡ Daemon → ⊥
spent-ne-daemon e = cc

spent-ne-whole : Spent ≡ Whole → ⊥
spent-ne-whole e = cc

spent-ne-joined : Spent ≡ Joined → ⊥
spent-ne-joined e = cc

-- the lane's seat is not the daemon's
daemon_role-ne-lane : {V : Type 0} (place : Whereabouts V) (role : Role) → IsDaemonRole place role → role ≡ Lane → ⊥
daemon_role-ne-lane (resting x) role is it = ⊎_elim (λ e. daemon-ne-lane (sym e ∙ it)) (λ e. set_down-ne-lane (sym e ∙ it)) is
daemon_role-ne-lane with_lane role is it = ⊎_elim (λ e. daemon-ne-lane (sym e ∙ it)) (λ e. set_down-ne-lane (sym e ∙ it)) is
daemon_role-ne-lane (sent p) role is it = ⊎_elim (λ e. daemon-ne-lane (sym e ∙ it)) (λ e. set_down-ne-lane (sym e ∙ it)) is
daemon_role-ne-lane with_daemon role is it = daemon-ne-lane (sym is ∙ it)
daemon_role-ne-lane with_closer role is it = set_down-ne-lane (sym is ∙ it)

daemon_role-ne-whole : {V : Type 0} (place : Whereabouts V) (role : Role) → IsDaemonRole place role → role ≡ Whole → ⊥
daemon_role-ne-whole (resting x) role is it = ⊎_elim (λ e. daemon-ne-whole (sym e ∙ it)) (λ e. set_down-ne-whole (sym e ∙ it)) is
daemon_role-ne-whole with_lane role is it = ⊎_elim (λ e. daemon-ne-whole (sym e ∙ it)) (λ e. set_down-ne-whole (sym e ∙ it)) is
daemon_role-ne-whole (sent p) role is it = ⊎_elim (λ e. daemon-ne-whole (sym e ∙ it)) (λ e. set_down-ne-whole (sym e ∙ it)) is
daemon_role-ne-whole with_daemon role is it = daemon-ne-whole (sym is ∙ it)
daemon_role-ne-whole with_closer role is it = set_down-ne-whole (sym is ∙ it)

daemon_role-ne-joined : {V : Type 0} (place : Whereabouts V) (role : Role) → IsDaemonRole place role → role ≡ Joined → ⊥
daemon_role-ne-joined (resting x) role is it = ⊎_elim (λ e. daemon-ne-joined (sym e ∙ it)) (λ e. set_down-ne-joined (sym e ∙ it)) is
daemon_role-ne-joined with_lane role is it = ⊎_elim (λ e. daemon-ne-joined (sym e ∙ it)) (λ e. set_down-ne-joined (sym e ∙ it)) is
daemon_role-ne-joined (sent p) role is it = ⊎_elim (λ e. daemon-ne-joined (sym e ∙ it)) (λ e. set_down-ne-joined (sym e ∙ it)) is
daemon_role-ne-joined with_daemon role is it = daemon-ne-joined (sym is ∙ it)
daemon_role-ne-joined with_closer role is it = set_down-ne-joined (sym is ∙ it)

-- where the daemon's end is set down, the slot is not out with it
reached : {V : Type 0} (place : Whereabouts V) (role : Role) → IsDaemonRole place role → role ≡ SetDown → IsInReach place
reached (resting x) role is it = tt
reached with_lane role is it = tt
reached (sent p) role is it = tt
reached with_daemon role is it = set_down-ne-daemon (sym it ∙ is)
reached with_closer role is it = tt

-- the word after a raise by one, and a list one longer
raised : {A : Type 0} (handed : List A) (backs : ℕ) (p : A) → length handed < 2 ^ 62 → backs ≤ 2 ^ 62
    → (length handed + backs + 1) % 2 ^ 64 ≡ length (handed ++ p ∷ []) + backs
raised handed backs p few some_back =
    let fits : length handed + backs + 1 < 2 ^ 64 = omega arith in
    mod-eq_of_lt fits ∙ omega (arith, length-append handed (p ∷ []))

raised_back : {A : Type 0} (handed : List A) (backs : ℕ) → length handed ≤ 2 ^ 62 → backs ≤ 2 ^ 62
    → (length handed + backs + 1) % 2 ^ 64 ≡ length handed + (backs + 1)
raised_back handed backs few some_back =
    let fits : length handed + backs + 1 < 2 ^ 64 = omega arith in
    mod-eq_of_lt fits ∙ omega arith

module _ {V : Type 0} where
  even_handoff : (handed taken : List (Parcel V)) (backs : ℕ) (holds : Bool) → backs ≡ length handed → taken ≡ handed → IsHandoff handed taken backs (length handed + backs) holds false
  even_handoff handed taken backs holds as_many all = record {
    word_is = refl;
    even = λ _. (as_many, all);
    odd = λ is. absurd (omega (arith, as_many, is));
    prefix = inl all;
    lane = λ _. omega (arith, as_many);
    daemon = λ e. absurd (off e);
  }

  odd_handoff : (handed taken : List (Parcel V)) (backs : ℕ) (holds : Bool) → backs + 1 ≡ length handed → IsUpToLast taken handed → (holds ≡ true → taken ≡ handed) → IsHandoff handed taken backs (length handed + backs) false holds
  odd_handoff handed taken backs holds one_fewer up all = record {
    word_is = refl;
    even = λ is. absurd (omega (arith, one_fewer, is));
    odd = λ _. (one_fewer, up);
    prefix = up;
    lane = λ e. absurd (off e);
    daemon = λ e. (omega (arith, one_fewer), all e);
  }

module _ {K V : Type 0} (keeps : K → Parcel V → Type 0) (returns : K → Option (Parcel V) → V → Type 0) where
  abbrev Rule : K → State (InSlot V) (View K V) → Type 0
  Rule = TakesTurns keeps returns

  -- what a step of a seat owes at one state
  abbrev Owes : K → ℕ → List (ℕ × InSlot V) → (ℕ → ℕ) → (ℕ → Me (InSlot V) (View K V) → Type 0) → State (InSlot V) (View K V) → Type 0
  Owes k id c f then s =
      (w : View K V) × (a : Act (InSlot V)) × Valid s.homes c a × Rule k (stepped s 0 (f (get_or s.words 0 0)) id c w a) × then (get_or s.words 0 0) (w, carried_after c a)

  -- the handover, wherever the value is
  pub handoff_of : (k : K) (handed taken : List (Parcel V)) (backs : ℕ) (place : Whereabouts V) → Agree keeps returns k handed taken backs place
      → IsHandoff handed taken backs (length handed + backs) (is_with_lane place) (is_with_daemon place)
  handoff_of k handed taken backs (resting x) agree = even_handoff handed taken backs false agree.0 agree.1
  handoff_of k handed taken backs with_lane agree = even_handoff handed taken backs true agree.0 agree.1
  handoff_of k handed taken backs (sent p) agree = odd_handoff handed taken backs false agree.0 (inr (p, agree.1)) (λ e. absurd (off e))
  handoff_of k handed taken backs with_daemon agree = odd_handoff handed taken backs true agree.0 (inl agree.1) (λ _. agree.1)
  handoff_of k handed taken backs with_closer agree = odd_handoff handed taken backs true agree.0 (inl agree.1) (λ _. agree.1)

  pub opens : (k : K) (value : V) → returns k None value → Rule k (opening (0 ∷ []) (Resting value ∷ []) (first_view k))
  opens k value fit = record {
    handed = [];
    taken = [];
    backs = 0;
    place = resting value;
    seats = whole (first_view k);
    is = refl;
    bound = omega arith;
    agree = (refl, refl, fit);
    know = ((refl, refl, refl, refl, refl, refl, refl), tt);
  }

  -- the first seat is cut into the two ends
  pub parts : (k : K) (id : ℕ) (v : View K V) → v.role ≡ Whole → Splits (Rule k) id v (lane_part v) (daemon_part v)
  parts k id v role s r at =
      subst (λ (x : State (InSlot V) (View K V)). get_elem? x.views id ≡ some v → Rule k record { words = x.words; homes = x.homes; views = set x.views id (lane_part v) ++ daemon_part v ∷ [] })
      (sym r.is) (cut r.handed r.taken r.backs r.place r.seats id r.bound r.agree r.know) at
    where
      rests : (handed taken : List (Parcel V)) (backs : ℕ) (place : Whereabouts V) → length handed ≤ 2 ^ 62 → Agree keeps returns k handed taken backs place
          → WholeKnows Whole k handed taken backs place v → IsAtRest place
          → Rule k record { words = (length handed + backs) ∷ []; homes = homes_of place; views = lane_part v ∷ daemon_part v ∷ [] }
      rests handed taken backs (resting x) bound agree know rest = record {
        handed = handed;
        taken = taken;
        backs = backs;
        place = resting x;
        seats = apart (lane_part v) (daemon_part v);
        is = refl;
        bound = bound;
        agree = agree;
        know = ((refl, know.1, know.2, know.5), (inl refl, know.1, know.3, know.4, know.6));
      }
      rests handed taken backs with_lane bound agree know rest = absurd rest
      rests handed taken backs (sent p) bound agree know rest = absurd rest
      rests handed taken backs with_daemon bound agree know rest = absurd rest
      rests handed taken backs with_closer bound agree know rest = absurd rest

      cut : (handed taken : List (Parcel V)) (backs : ℕ) (place : Whereabouts V) (seats : Seats K V) (id : ℕ) → length handed ≤ 2 ^ 62 → Agree keeps returns k handed taken backs place
          → Know k handed taken backs place seats → get_elem? (views_of seats) id ≡ some v
          → Rule k record { words = (length handed + backs) ∷ []; homes = homes_of place; views = set (views_of seats) id (lane_part v) ++ daemon_part v ∷ [] }
      cut handed taken backs place (whole u) zero bound agree know e =
          rests handed taken backs place bound agree (subst (λ (x : View K V). WholeKnows Whole k handed taken backs place x) (some-injective u v e) know.0) know.1
      cut handed taken backs place (whole u) (suc i) bound agree know e = absurd (some-ne-none v (sym e))
      cut handed taken backs place (apart l d) zero bound agree know e = absurd (clash l v Lane Whole (some-injective l v e) know.0.0 role lane-ne-whole)
      cut handed taken backs place (apart l d) (suc zero) bound agree know e = absurd (daemon_role-ne-whole place d.role know.1.0 (ap (λ (u : View K V). u.role) (some-injective d v e) ∙ role))
      cut handed taken backs place (apart l d) (suc (suc i)) bound agree know e = absurd (some-ne-none v (sym e))
      cut handed taken backs place (joined u w) zero bound agree know e =
          absurd (⊎_elim (λ (x : WholeKnows Joined k handed taken backs place u × IsInReach place). clash u v Joined Whole (some-injective u v e) x.0.0 role joined-ne-whole) (λ (x : u.role ≡ Spent). clash u v Spent Whole (some-injective u v e) x role spent-ne-whole) know.1)
      cut handed taken backs place (joined u w) (suc zero) bound agree know e = absurd (clash w v Spent Whole (some-injective w v e) know.0 role spent-ne-whole)
      cut handed taken backs place (joined u w) (suc (suc i)) bound agree know e = absurd (some-ne-none v (sym e))

  -- a step of the lane's end is allowed, where it keeps the rule wherever the value is
  lane_allows : (k : K) (slots id : ℕ) (v : View K V) (c : List (ℕ × InSlot V)) (f : ℕ → ℕ) (then : ℕ → Me (InSlot V) (View K V) → Type 0) → v.role ≡ Lane
      → ((handed taken : List (Parcel V)) (backs : ℕ) (place : Whereabouts V) (d : View K V) → length handed ≤ 2 ^ 62 → Agree keeps returns k handed taken backs place
      → LaneKnows k handed place v → DaemonKnows k taken backs place d → Owes k 0 c f then (state_of handed backs place (apart v d)))
      → Allows (Rule k) slots id (v, c) 0 f then
  lane_allows k slots id v c f then role each s r wide at range =
      subst (λ (x : State (InSlot V) (View K V)). get_elem? x.views id ≡ some v → Owes k id c f then x)
      (sym r.is) (found r.handed r.taken r.backs r.place r.seats id r.bound r.agree r.know) at
    where
      found : (handed taken : List (Parcel V)) (backs : ℕ) (place : Whereabouts V) (seats : Seats K V) (id : ℕ) → length handed ≤ 2 ^ 62 → Agree keeps returns k handed taken backs place
          → Know k handed taken backs place seats → get_elem? (views_of seats) id ≡ some v → Owes k id c f then (state_of handed backs place seats)
      found handed taken backs place (whole u) zero bound agree know e = absurd (clash u v Whole Lane (some-injective u v e) know.0.0 role whole-ne-lane)
      found handed taken backs place (whole u) (suc i) bound agree know e = absurd (some-ne-none v (sym e))
      found handed taken backs place (apart l d) zero bound agree know e =
          subst (λ (x : View K V). LaneKnows k handed place x → Owes k 0 c f then (state_of handed backs place (apart x d))) (sym (some-injective l v e))
          (λ lane. each handed taken backs place d bound agree lane know.1) know.0
      found handed taken backs place (apart l d) (suc zero) bound agree know e = absurd (daemon_role-ne-lane place d.role know.1.0 (ap (λ (u : View K V). u.role) (some-injective d v e) ∙ role))
      found handed taken backs place (apart l d) (suc (suc i)) bound agree know e = absurd (some-ne-none v (sym e))
      found handed taken backs place (joined u w) zero bound agree know e =
          absurd (⊎_elim (λ (x : WholeKnows Joined k handed taken backs place u × IsInReach place). clash u v Joined Lane (some-injective u v e) x.0.0 role joined-ne-lane) (λ (x : u.role ≡ Spent). clash u v Spent Lane (some-injective u v e) x role spent-ne-lane) know.1)
      found handed taken backs place (joined u w) (suc zero) bound agree know e = absurd (clash w v Spent Lane (some-injective w v e) know.0 role spent-ne-lane)
      found handed taken backs place (joined u w) (suc (suc i)) bound agree know e = absurd (some-ne-none v (sym e))

  -- the same of the daemon's end
  daemon_allows : (k : K) (slots id : ℕ) (v : View K V) (c : List (ℕ × InSlot V)) (f : ℕ → ℕ) (then : ℕ → Me (InSlot V) (View K V) → Type 0) → v.role ≡ Daemon
      → ((handed taken : List (Parcel V)) (backs : ℕ) (place : Whereabouts V) (l : View K V) → length handed ≤ 2 ^ 62 → Agree keeps returns k handed taken backs place
      → LaneKnows k handed place l → DaemonKnows k taken backs place v → Owes k 1 c f then (state_of handed backs place (apart l v)))
      → Allows (Rule k) slots id (v, c) 0 f then
  daemon_allows k slots id v c f then role each s r wide at range =
      subst (λ (x : State (InSlot V) (View K V)). get_elem? x.views id ≡ some v → Owes k id c f then x)
      (sym r.is) (found r.handed r.taken r.backs r.place r.seats id r.bound r.agree r.know) at
    where
      found : (handed taken : List (Parcel V)) (backs : ℕ) (place : Whereabouts V) (seats : Seats K V) (id : ℕ) → length handed ≤ 2 ^ 62 → Agree keeps returns k handed taken backs place
          → Know k handed taken backs place seats → get_elem? (views_of seats) id ≡ some v → Owes k id c f then (state_of handed backs place seats)
      found handed taken backs place (whole u) zero bound agree know e = absurd (clash u v Whole Daemon (some-injective u v e) know.0.0 role whole-ne-daemon)
      found handed taken backs place (whole u) (suc i) bound agree know e = absurd (some-ne-none v (sym e))
      found handed taken backs place (apart l d) zero bound agree know e = absurd (clash l v Lane Daemon (some-injective l v e) know.0.0 role lane-ne-daemon)
      found handed taken backs place (apart l d) (suc zero) bound agree know e =
          subst (λ (x : View K V). DaemonKnows k taken backs place x → Owes k 1 c f then (state_of handed backs place (apart l x))) (sym (some-injective d v e))
          (λ daemon. each handed taken backs place l bound agree know.0 daemon) know.1
      found handed taken backs place (apart l d) (suc (suc i)) bound agree know e = absurd (some-ne-none v (sym e))
      found handed taken backs place (joined u w) zero bound agree know e =
          absurd (⊎_elim (λ (x : WholeKnows Joined k handed taken backs place u × IsInReach place). clash u v Joined Daemon (some-injective u v e) x.0.0 role joined-ne-daemon) (λ (x : u.role ≡ Spent). clash u v Spent Daemon (some-injective u v e) x role spent-ne-daemon) know.1)
      found handed taken backs place (joined u w) (suc zero) bound agree know e = absurd (clash w v Spent Daemon (some-injective w v e) know.0 role spent-ne-daemon)
      found handed taken backs place (joined u w) (suc (suc i)) bound agree know e = absurd (some-ne-none v (sym e))

  -- what an end tells of the key is so
  returned : (k j : K) (v : View K V) (handed : List (Parcel V)) (x : V) → v.key ≡ Some k → v.handed ≡ handed → v.key ≡ Some j → returns k (last_of handed) x → returns j (last_of v.handed) x
  returned k j v handed x key same other fit =
      let one : k ≡ j = same_Some k j (sym key ∙ other) in
      subst (λ (z : K × List (Parcel V)). returns z.0 (last_of z.1) x) (λ i. (one i, sym same i)) fit

  kept : (k j : K) (v : View K V) (p : Parcel V) → v.key ≡ Some k → v.key ≡ Some j → keeps k p → keeps j p
  kept k j v p key other fit = subst (λ (z : K). keeps z p) (same_Some k j (sym key ∙ other)) fit

  look_out : (k : K) (handed taken : List (Parcel V)) (backs : ℕ) (place : Whereabouts V) (v d : View K V) → length handed ≤ 2 ^ 62 → Agree keeps returns k handed taken backs place
      → LaneKnows k handed place v → DaemonKnows k taken backs place d → is_with_lane place ≡ false → backs + 1 ≡ length handed
      → Owes k 0 [] (λ n. n) (looked returns (v, [])) (state_of handed backs place (apart v d))
  look_out k handed taken backs place v d bound agree lane daemon away one_fewer =
      let size : length v.handed ≡ length handed = ap length lane.2 in
      let w = after_look v (length handed + backs) false in (
        w,
        leaves,
        tt,
        record { handed = handed; taken = taken; backs = backs; place = place; seats = apart w d; is = refl; bound = bound; agree = agree; know = ((lane.0, lane.1, lane.2, sym away), daemon) },
        inr (omega (arith, size, one_fewer), refl, refl),
      )

  look_at : (k : K) (handed taken : List (Parcel V)) (backs : ℕ) (place : Whereabouts V) (v d : View K V) → length handed ≤ 2 ^ 62 → Agree keeps returns k handed taken backs place
      → LaneKnows k handed place v → DaemonKnows k taken backs place d → v.lane_holds ≡ false
      → Owes k 0 [] (λ n. n) (looked returns (v, [])) (state_of handed backs place (apart v d))
  look_at k handed taken backs (resting x) v d bound agree lane daemon free =
      let size : length v.handed ≡ length handed = ap length lane.2 in
      let w = after_look v (length handed + backs) true in (
        w,
        takes 0 (Resting x),
        refl,
        record { handed = handed; taken = taken; backs = backs; place = with_lane; seats = apart w d; is = refl; bound = bound; agree = (agree.0, agree.1); know = ((lane.0, lane.1, lane.2, refl), daemon) },
        inl (omega (arith, size, agree.0), refl, (x, refl, λ j e. returned k j v handed x lane.1 lane.2 e agree.2)),
      )
  look_at k handed taken backs with_lane v d bound agree lane daemon free = absurd (true≢false (sym lane.3 ∙ free))
  look_at k handed taken backs (sent p) v d bound agree lane daemon free = look_out k handed taken backs (sent p) v d bound agree lane daemon refl agree.0
  look_at k handed taken backs with_daemon v d bound agree lane daemon free = look_out k handed taken backs with_daemon v d bound agree lane daemon refl agree.0
  look_at k handed taken backs with_closer v d bound agree lane daemon free = look_out k handed taken backs with_closer v d bound agree lane daemon refl agree.0

  pub looks : (k : K) (slots id : ℕ) (v : View K V) (c : List (ℕ × InSlot V)) → v.role ≡ Lane → v.lane_holds ≡ false → c ≡ []
      → Allows (Rule k) slots id (v, c) 0 (λ n. n) (looked returns (v, c))
  looks k slots id v c role free none_out =
      subst (λ (x : List (ℕ × InSlot V)). Allows (Rule k) slots id (v, x) 0 (λ n. n) (looked returns (v, x))) (sym none_out)
      (lane_allows k slots id v [] (λ n. n) (looked returns (v, [])) role (λ handed taken backs place d bound agree lane daemon. look_at k handed taken backs place v d bound agree lane daemon free))

  hand_at : (k : K) (handed taken : List (Parcel V)) (backs : ℕ) (place : Whereabouts V) (v d : View K V) (p : Parcel V) (more : List (ℕ × InSlot V)) → length handed ≤ 2 ^ 62 → Agree keeps returns k handed taken backs place
      → LaneKnows k handed place v → DaemonKnows k taken backs place d → v.lane_holds ≡ true → length v.handed < 2 ^ 62 → keeps k p
      → Owes k 0 ((0, Sent p) ∷ more) (λ n. (n + 1) % 2 ^ 64) (λ _. gave_over (v, (0, Sent p) ∷ more)) (state_of handed backs place (apart v d))
  hand_at k handed taken backs (resting x) v d p more bound agree lane daemon holds room fit = absurd (true≢false (sym holds ∙ lane.3))
  hand_at k handed taken backs with_lane v d p more bound agree lane daemon holds room fit =
      let few : length handed < 2 ^ 62 = omega (arith, ap length lane.2, room) in
      let word = raised handed backs p few (omega (arith, agree.0, few)) in
      let w = after_hand v (p ∷ []) in (
        w,
        gives,
        tt,
        record {
          handed = handed ++ p ∷ [];
          taken = taken;
          backs = backs;
          place = sent p;
          seats = apart w d;
          is = λ i. record { words = word i ∷ []; homes = some (Sent p) ∷ []; views = w ∷ d ∷ [] };
          bound = omega (arith, length-append handed (p ∷ []), few);
          agree = (omega (arith, length-append handed (p ∷ []), agree.0), ap (λ (l : List (Parcel V)). l ++ p ∷ []) (sym agree.1), fit);
          know = ((lane.0, lane.1, ap (λ (l : List (Parcel V)). l ++ p ∷ []) lane.2, refl), daemon);
        },
        (refl, refl),
      )
  hand_at k handed taken backs (sent q) v d p more bound agree lane daemon holds room fit = absurd (true≢false (sym holds ∙ lane.3))
  hand_at k handed taken backs with_daemon v d p more bound agree lane daemon holds room fit = absurd (true≢false (sym holds ∙ lane.3))
  hand_at k handed taken backs with_closer v d p more bound agree lane daemon holds room fit = absurd (true≢false (sym holds ∙ lane.3))

  -- a hand, where the parcel was put into the slot of the seat m
  pub hands : (k : K) (slots id : ℕ) (m m' : Me (InSlot V) (View K V)) (p : Parcel V) → m.0.role ≡ Lane → m.0.lane_holds ≡ true → length m.0.handed < 2 ^ 62 → keeps k p → m' ≡ (m.0, (0, Sent p) ∷ rest m.1)
      → Allows (Rule k) slots id m' 0 (λ n. (n + 1) % 2 ^ 64) (λ _. gave_over m')
  hands k slots id m m' p role holds room fit put =
      let c : List (ℕ × InSlot V) = (0, Sent p) ∷ rest m.1 in
      subst (λ (x : Me (InSlot V) (View K V)). Allows (Rule k) slots id x 0 (λ n. (n + 1) % 2 ^ 64) (λ _. gave_over x)) (sym put)
      (lane_allows k slots id m.0 c (λ n. (n + 1) % 2 ^ 64) (λ _. gave_over (m.0, c)) role (λ handed taken backs place d bound agree lane daemon. hand_at k handed taken backs place m.0 d p (rest m.1) bound agree lane daemon holds room fit))

  poll_home : (k : K) (handed taken : List (Parcel V)) (backs : ℕ) (place : Whereabouts V) (l v : View K V) → length handed ≤ 2 ^ 62 → Agree keeps returns k handed taken backs place
      → LaneKnows k handed place l → DaemonKnows k taken backs place v → is_with_daemon place ≡ false → backs ≡ length handed
      → Owes k 1 [] (λ n. n) (polled keeps (v, [])) (state_of handed backs place (apart l v))
  poll_home k handed taken backs place l v bound agree lane daemon away as_many =
      let w = after_poll v (length handed + backs) [] false in (
        w,
        leaves,
        tt,
        record { handed = handed; taken = taken; backs = backs; place = place; seats = apart l w; is = refl; bound = bound; agree = agree; know = (lane, (daemon.0, daemon.1, append-nil v.taken ∙ daemon.2, daemon.3, sym away)) },
        inr (omega (arith, daemon.3, as_many), refl, refl),
      )

  poll_at : (k : K) (handed taken : List (Parcel V)) (backs : ℕ) (place : Whereabouts V) (l v : View K V) → length handed ≤ 2 ^ 62 → Agree keeps returns k handed taken backs place
      → LaneKnows k handed place l → DaemonKnows k taken backs place v → v.role ≡ Daemon → v.daemon_holds ≡ false
      → Owes k 1 [] (λ n. n) (polled keeps (v, [])) (state_of handed backs place (apart l v))
  poll_at k handed taken backs (resting x) l v bound agree lane daemon role free = poll_home k handed taken backs (resting x) l v bound agree lane daemon refl agree.0
  poll_at k handed taken backs with_lane l v bound agree lane daemon role free = poll_home k handed taken backs with_lane l v bound agree lane daemon refl agree.0
  poll_at k handed taken backs (sent p) l v bound agree lane daemon role free =
      let w = after_poll v (length handed + backs) (p ∷ []) true in (
        w,
        takes 0 (Sent p),
        refl,
        record {
          handed = handed;
          taken = taken ++ p ∷ [];
          backs = backs;
          place = with_daemon;
          seats = apart l w;
          is = refl;
          bound = bound;
          agree = (agree.0, sym agree.1);
          know = (lane, (role, daemon.1, ap (λ (t : List (Parcel V)). t ++ p ∷ []) daemon.2, daemon.3, refl));
        },
        inl (omega (arith, daemon.3, agree.0), (p, refl, refl, λ j e. kept k j v p daemon.1 e agree.2)),
      )
  poll_at k handed taken backs with_daemon l v bound agree lane daemon role free = absurd (true≢false (sym daemon.4 ∙ free))
  poll_at k handed taken backs with_closer l v bound agree lane daemon role free = absurd (true≢false (sym daemon.4 ∙ free))

  pub polls : (k : K) (slots id : ℕ) (v : View K V) (c : List (ℕ × InSlot V)) → v.role ≡ Daemon → v.daemon_holds ≡ false → c ≡ []
      → Allows (Rule k) slots id (v, c) 0 (λ n. n) (polled keeps (v, c))
  polls k slots id v c role free none_out =
      subst (λ (x : List (ℕ × InSlot V)). Allows (Rule k) slots id (v, x) 0 (λ n. n) (polled keeps (v, x))) (sym none_out)
      (daemon_allows k slots id v [] (λ n. n) (polled keeps (v, [])) role (λ handed taken backs place l bound agree lane daemon. poll_at k handed taken backs place l v bound agree lane daemon role free))

  back_at : (k : K) (handed taken : List (Parcel V)) (backs : ℕ) (place : Whereabouts V) (l v : View K V) (x : V) (more : List (ℕ × InSlot V)) → length handed ≤ 2 ^ 62 → Agree keeps returns k handed taken backs place
      → LaneKnows k handed place l → DaemonKnows k taken backs place v → v.role ≡ Daemon → v.daemon_holds ≡ true → returns k (last_of v.taken) x
      → Owes k 1 ((0, Resting x) ∷ more) (λ n. (n + 1) % 2 ^ 64) (λ _. gave_back (v, (0, Resting x) ∷ more)) (state_of handed backs place (apart l v))
  back_at k handed taken backs (resting y) l v x more bound agree lane daemon role holds fit = absurd (true≢false (sym holds ∙ daemon.4))
  back_at k handed taken backs with_lane l v x more bound agree lane daemon role holds fit = absurd (true≢false (sym holds ∙ daemon.4))
  back_at k handed taken backs (sent q) l v x more bound agree lane daemon role holds fit = absurd (true≢false (sym holds ∙ daemon.4))
  back_at k handed taken backs with_daemon l v x more bound agree lane daemon role holds fit =
      let word = raised_back handed backs bound (omega (arith, agree.0, bound)) in
      let all : v.taken ≡ handed = daemon.2 ∙ agree.1 in
      let w = after_back v in (
        w,
        gives,
        tt,
        record {
          handed = handed;
          taken = taken;
          backs = backs + 1;
          place = resting x;
          seats = apart l w;
          is = λ i. record { words = word i ∷ []; homes = some (Resting x) ∷ []; views = l ∷ w ∷ [] };
          bound = bound;
          agree = (agree.0, agree.1, subst (λ (h : List (Parcel V)). returns k (last_of h) x) all fit);
          know = (lane, (inl role, daemon.1, daemon.2, ap (λ (n : ℕ). n + 1) daemon.3, refl));
        },
        (refl, refl),
      )
  back_at k handed taken backs with_closer l v x more bound agree lane daemon role holds fit = absurd (set_down-ne-daemon (sym daemon.0 ∙ role))

  -- a give-back, where the value was put into the slot of the seat m
  pub gives_back : (k : K) (slots id : ℕ) (m m' : Me (InSlot V) (View K V)) (x : V) → m.0.role ≡ Daemon → m.0.daemon_holds ≡ true → returns k (last_of m.0.taken) x → m' ≡ (m.0, (0, Resting x) ∷ rest m.1)
      → Allows (Rule k) slots id m' 0 (λ n. (n + 1) % 2 ^ 64) (λ _. gave_back m')
  gives_back k slots id m m' x role holds fit put =
      let c : List (ℕ × InSlot V) = (0, Resting x) ∷ rest m.1 in
      subst (λ (y : Me (InSlot V) (View K V)). Allows (Rule k) slots id y 0 (λ n. (n + 1) % 2 ^ 64) (λ _. gave_back y)) (sym put)
      (daemon_allows k slots id m.0 c (λ n. (n + 1) % 2 ^ 64) (λ _. gave_back (m.0, c)) role (λ handed taken backs place l bound agree lane daemon. back_at k handed taken backs place l m.0 x (rest m.1) bound agree lane daemon role holds fit))

  -- setting down where the slot is not out with the daemon's end
  down_free : (k : K) (handed taken : List (Parcel V)) (backs : ℕ) (place : Whereabouts V) (l v : View K V) (c : List (ℕ × InSlot V)) → length handed ≤ 2 ^ 62 → Agree keeps returns k handed taken backs place
      → LaneKnows k handed place l → DaemonKnows k taken backs place v → IsDaemonRole place SetDown → c ≡ []
      → Owes k 1 c (λ n. n) (λ _. set_down (v, c)) (state_of handed backs place (apart l v))
  down_free k handed taken backs place l v c bound agree lane daemon down none_out =
      let w = record v { role = SetDown } in
      subst (λ (x : List (ℕ × InSlot V)). Owes k 1 x (λ n. n) (λ _. set_down (v, x)) (state_of handed backs place (apart l v))) (sym none_out) (
        w,
        gives,
        tt,
        record { handed = handed; taken = taken; backs = backs; place = place; seats = apart l w; is = refl; bound = bound; agree = agree; know = (lane, (down, daemon.1, daemon.2, daemon.3, daemon.4)) },
        (refl, refl),
      )

  down_at : (k : K) (handed taken : List (Parcel V)) (backs : ℕ) (place : Whereabouts V) (l v : View K V) (c : List (ℕ × InSlot V)) → length handed ≤ 2 ^ 62 → Agree keeps returns k handed taken backs place
      → LaneKnows k handed place l → DaemonKnows k taken backs place v → v.role ≡ Daemon → c ≡ out_with v.daemon_holds
      → Owes k 1 c (λ n. n) (λ _. set_down (v, c)) (state_of handed backs place (apart l v))
  down_at k handed taken backs (resting x) l v c bound agree lane daemon role out = down_free k handed taken backs (resting x) l v c bound agree lane daemon (inr refl) (out ∙ ap (λ (b : Bool). out_with b) daemon.4)
  down_at k handed taken backs with_lane l v c bound agree lane daemon role out = down_free k handed taken backs with_lane l v c bound agree lane daemon (inr refl) (out ∙ ap (λ (b : Bool). out_with b) daemon.4)
  down_at k handed taken backs (sent p) l v c bound agree lane daemon role out = down_free k handed taken backs (sent p) l v c bound agree lane daemon (inr refl) (out ∙ ap (λ (b : Bool). out_with b) daemon.4)
  down_at k handed taken backs with_daemon l v c bound agree lane daemon role out =
      let w = record v { role = SetDown } in
      let held : c ≡ (0, Empty) ∷ [] = out ∙ ap (λ (b : Bool). out_with b) daemon.4 in
      subst (λ (x : List (ℕ × InSlot V)). Owes k 1 x (λ n. n) (λ _. set_down (v, x)) (state_of handed backs with_daemon (apart l v))) (sym held) (
        w,
        gives,
        tt,
        record { handed = handed; taken = taken; backs = backs; place = with_closer; seats = apart l w; is = refl; bound = bound; agree = agree; know = (lane, (refl, daemon.1, daemon.2, daemon.3, daemon.4)) },
        (refl, refl),
      )
  down_at k handed taken backs with_closer l v c bound agree lane daemon role out = absurd (set_down-ne-daemon (sym daemon.0 ∙ role))

  pub sets_down : (k : K) (slots id : ℕ) (v : View K V) (c : List (ℕ × InSlot V)) → v.role ≡ Daemon → c ≡ out_with v.daemon_holds
      → Allows (Rule k) slots id (v, c) 0 (λ n. n) (λ _. set_down (v, c))
  sets_down k slots id v c role out =
      daemon_allows k slots id v c (λ n. n) (λ _. set_down (v, c)) role (λ handed taken backs place l bound agree lane daemon. down_at k handed taken backs place l v c bound agree lane daemon role out)

  -- the two ends are joined
  pub joins : (k : K) (id : ℕ) (v : View K V) (other : ℕ) (w : View K V) → v.role ≡ Lane → w.role ≡ SetDown → Joins (Rule k) id v other w (both_parts v w) spent_view
  joins k id v other w lane_role down_role s r at differ there =
      subst (λ (x : State (InSlot V) (View K V)). get_elem? x.views id ≡ some v → get_elem? (set x.views id (both_parts v w)) other ≡ some w
      → Rule k record { words = x.words; homes = x.homes; views = set (set x.views id (both_parts v w)) other spent_view })
      (sym r.is) (found r.handed r.taken r.backs r.place r.seats id other differ r.bound r.agree r.know) at there
    where
      both : View K V
      both = both_parts v w

      one : (handed taken : List (Parcel V)) (backs : ℕ) (place : Whereabouts V) → length handed ≤ 2 ^ 62 → Agree keeps returns k handed taken backs place
          → LaneKnows k handed place v → DaemonKnows k taken backs place w
          → Rule k record { words = (length handed + backs) ∷ []; homes = homes_of place; views = both_parts v w ∷ spent_view ∷ [] }
      one handed taken backs place bound agree lane daemon = record {
        handed = handed;
        taken = taken;
        backs = backs;
        place = place;
        seats = joined (both_parts v w) spent_view;
        is = refl;
        bound = bound;
        agree = agree;
        know = (refl, inl ((refl, lane.1, lane.2, daemon.2, daemon.3, lane.3, daemon.4), reached place w.role daemon.0 down_role));
      }

      found : (handed taken : List (Parcel V)) (backs : ℕ) (place : Whereabouts V) (seats : Seats K V) (id other : ℕ) → (other ≡ id → ⊥) → length handed ≤ 2 ^ 62 → Agree keeps returns k handed taken backs place
          → Know k handed taken backs place seats → get_elem? (views_of seats) id ≡ some v → get_elem? (set (views_of seats) id (both_parts v w)) other ≡ some w
          → Rule k record { words = (length handed + backs) ∷ []; homes = homes_of place; views = set (set (views_of seats) id (both_parts v w)) other spent_view }
      found handed taken backs place (whole u) zero other differ bound agree know e there = absurd (clash u v Whole Lane (some-injective u v e) know.0.0 lane_role whole-ne-lane)
      found handed taken backs place (whole u) (suc i) other differ bound agree know e there = absurd (some-ne-none v (sym e))
      found handed taken backs place (apart l d) zero zero differ bound agree know e there = absurd (differ refl)
      found handed taken backs place (apart l d) zero (suc zero) differ bound agree know e there =
          one handed taken backs place bound agree (subst (λ (x : View K V). LaneKnows k handed place x) (some-injective l v e) know.0) (subst (λ (x : View K V). DaemonKnows k taken backs place x) (some-injective d w there) know.1)
      found handed taken backs place (apart l d) zero (suc (suc i)) differ bound agree know e there = absurd (some-ne-none w (sym there))
      found handed taken backs place (apart l d) (suc zero) other differ bound agree know e there = absurd (daemon_role-ne-lane place d.role know.1.0 (ap (λ (u : View K V). u.role) (some-injective d v e) ∙ lane_role))
      found handed taken backs place (apart l d) (suc (suc i)) other differ bound agree know e there = absurd (some-ne-none v (sym e))
      found handed taken backs place (joined u x) zero other differ bound agree know e there =
          absurd (⊎_elim (λ (y : WholeKnows Joined k handed taken backs place u × IsInReach place). clash u v Joined Lane (some-injective u v e) y.0.0 lane_role joined-ne-lane) (λ (y : u.role ≡ Spent). clash u v Spent Lane (some-injective u v e) y lane_role spent-ne-lane) know.1)
      found handed taken backs place (joined u x) (suc zero) other differ bound agree know e there = absurd (clash x v Spent Lane (some-injective x v e) know.0 lane_role spent-ne-lane)
      found handed taken backs place (joined u x) (suc (suc i)) other differ bound agree know e there = absurd (some-ne-none v (sym e))

  -- the handover, in the words of the joined end
  told : (v : View K V) (handed taken : List (Parcel V)) (backs word : ℕ) (lane_holds daemon_holds : Bool) → v.handed ≡ handed → v.taken ≡ taken → v.backs ≡ backs → v.lane_holds ≡ lane_holds → v.daemon_holds ≡ daemon_holds
      → IsHandoff handed taken backs word lane_holds daemon_holds → IsHandoff v.handed v.taken v.backs word v.lane_holds v.daemon_holds
  told v handed taken backs word lane_holds daemon_holds a b c d e is =
      subst (λ (z : List (Parcel V) × List (Parcel V) × ℕ × Bool × Bool). IsHandoff z.0 z.1 z.2 word z.3 z.4) (λ i. (sym a i, sym b i, sym c i, sym d i, sym e i)) is

  end_at : (k : K) (handed taken : List (Parcel V)) (backs : ℕ) (place : Whereabouts V) (v x : View K V) (c : List (ℕ × InSlot V)) → length handed ≤ 2 ^ 62 → Agree keeps returns k handed taken backs place
      → x.role ≡ Spent → WholeKnows Joined k handed taken backs place v → IsInReach place → c ≡ out_with v.lane_holds
      → Owes k 0 c (λ n. n) (ended keeps returns (v, c)) (state_of handed backs place (joined v x))
  end_at k handed taken backs (resting y) v x c bound agree spent know reach out =
      let is = told v handed taken backs (length handed + backs) false false know.2 know.3 know.4 know.5 know.6 (handoff_of k handed taken backs (resting y) agree) in
      subst (λ (z : List (ℕ × InSlot V)). Owes k 0 z (λ n. n) (ended keeps returns (v, z)) (state_of handed backs (resting y) (joined v x))) (sym (out ∙ ap (λ (b : Bool). out_with b) know.5)) (
        spent_view,
        chain gives (takes 0 (Resting y)),
        (tt, refl),
        record { handed = handed; taken = taken; backs = backs; place = with_lane; seats = joined spent_view x; is = refl; bound = bound; agree = (agree.0, agree.1); know = (spent, inr refl) },
        (is, (Resting y, refl, (know.5, know.6, omega (arith, agree.0), λ j e. returned k j v handed y know.1 know.2 e agree.2))),
      )
  end_at k handed taken backs with_lane v x c bound agree spent know reach out =
      let is = told v handed taken backs (length handed + backs) true false know.2 know.3 know.4 know.5 know.6 (handoff_of k handed taken backs with_lane agree) in
      subst (λ (z : List (ℕ × InSlot V)). Owes k 0 z (λ n. n) (ended keeps returns (v, z)) (state_of handed backs with_lane (joined v x))) (sym (out ∙ ap (λ (b : Bool). out_with b) know.5)) (
        spent_view,
        chain gives (takes 0 Empty),
        (tt, refl),
        record { handed = handed; taken = taken; backs = backs; place = with_lane; seats = joined spent_view x; is = refl; bound = bound; agree = agree; know = (spent, inr refl) },
        (is, (Empty, refl, inl know.5)),
      )
  end_at k handed taken backs (sent p) v x c bound agree spent know reach out =
      let is = told v handed taken backs (length handed + backs) false false know.2 know.3 know.4 know.5 know.6 (handoff_of k handed taken backs (sent p) agree) in
      let last : v.handed ≡ v.taken ++ p ∷ [] = know.2 ∙ (agree.1 ∙ ap (λ (t : List (Parcel V)). t ++ p ∷ []) (sym know.3)) in
      subst (λ (z : List (ℕ × InSlot V)). Owes k 0 z (λ n. n) (ended keeps returns (v, z)) (state_of handed backs (sent p) (joined v x))) (sym (out ∙ ap (λ (b : Bool). out_with b) know.5)) (
        spent_view,
        chain gives (takes 0 (Sent p)),
        (tt, refl),
        record { handed = handed; taken = handed; backs = backs; place = with_daemon; seats = joined spent_view x; is = refl; bound = bound; agree = (agree.0, refl); know = (spent, inr refl) },
        (is, (Sent p, refl, (know.5, know.6, omega (arith, agree.0), last, λ j e. kept k j v p know.1 e agree.2))),
      )
  end_at k handed taken backs with_daemon v x c bound agree spent know reach out = absurd reach
  end_at k handed taken backs with_closer v x c bound agree spent know reach out =
      let is = told v handed taken backs (length handed + backs) false true know.2 know.3 know.4 know.5 know.6 (handoff_of k handed taken backs with_closer agree) in
      subst (λ (z : List (ℕ × InSlot V)). Owes k 0 z (λ n. n) (ended keeps returns (v, z)) (state_of handed backs with_closer (joined v x))) (sym (out ∙ ap (λ (b : Bool). out_with b) know.5)) (
        spent_view,
        chain gives (takes 0 Empty),
        (tt, refl),
        record { handed = handed; taken = taken; backs = backs; place = with_daemon; seats = joined spent_view x; is = refl; bound = bound; agree = agree; know = (spent, inr refl) },
        (is, (Empty, refl, inr know.6)),
      )

  ends_joined : (k : K) (slots id : ℕ) (v : View K V) (c : List (ℕ × InSlot V)) → v.role ≡ Joined → c ≡ out_with v.lane_holds
      → Allows (Rule k) slots id (v, c) 0 (λ n. n) (ended keeps returns (v, c))
  ends_joined k slots id v c role out s r wide at range =
      subst (λ (x : State (InSlot V) (View K V)). get_elem? x.views id ≡ some v → Owes k id c (λ n. n) (ended keeps returns (v, c)) x)
      (sym r.is) (found r.handed r.taken r.backs r.place r.seats id r.bound r.agree r.know) at
    where
      found : (handed taken : List (Parcel V)) (backs : ℕ) (place : Whereabouts V) (seats : Seats K V) (id : ℕ) → length handed ≤ 2 ^ 62 → Agree keeps returns k handed taken backs place
          → Know k handed taken backs place seats → get_elem? (views_of seats) id ≡ some v → Owes k id c (λ n. n) (ended keeps returns (v, c)) (state_of handed backs place seats)
      found handed taken backs place (whole u) zero bound agree know e = absurd (clash u v Whole Joined (some-injective u v e) know.0.0 role whole-ne-joined)
      found handed taken backs place (whole u) (suc i) bound agree know e = absurd (some-ne-none v (sym e))
      found handed taken backs place (apart l d) zero bound agree know e = absurd (clash l v Lane Joined (some-injective l v e) know.0.0 role lane-ne-joined)
      found handed taken backs place (apart l d) (suc zero) bound agree know e = absurd (daemon_role-ne-joined place d.role know.1.0 (ap (λ (u : View K V). u.role) (some-injective d v e) ∙ role))
      found handed taken backs place (apart l d) (suc (suc i)) bound agree know e = absurd (some-ne-none v (sym e))
      found handed taken backs place (joined u x) zero bound agree know e =
          ⊎_elim
          (λ (y : WholeKnows Joined k handed taken backs place u × IsInReach place).
          subst (λ (z : View K V). WholeKnows Joined k handed taken backs place z → Owes k 0 c (λ n. n) (ended keeps returns (v, c)) (state_of handed backs place (joined z x))) (sym (some-injective u v e))
          (λ knows. end_at k handed taken backs place v x c bound agree know.0 knows y.1 out) y.0)
          (λ (y : u.role ≡ Spent). absurd (clash u v Spent Joined (some-injective u v e) y role spent-ne-joined))
          know.1
      found handed taken backs place (joined u x) (suc zero) bound agree know e = absurd (clash x v Spent Joined (some-injective x v e) know.0 role spent-ne-joined)
      found handed taken backs place (joined u x) (suc (suc i)) bound agree know e = absurd (some-ne-none v (sym e))

  -- the last load, by the end in which both were joined
  pub ends : (k : K) (slots id : ℕ) (v w : View K V) (m : Me (InSlot V) (View K V)) (c : List (ℕ × InSlot V)) → m ≡ (both_parts v w, c) → c ≡ out_with v.lane_holds
      → Allows (Rule k) slots id m 0 (λ n. n) (ended keeps returns m)
  ends k slots id v w m c is out =
      subst (λ (x : Me (InSlot V) (View K V)). Allows (Rule k) slots id x 0 (λ n. n) (ended keeps returns x)) (sym is) (ends_joined k slots id (both_parts v w) c refl out)

  left_at : (k : K) (v : View K V) (n : ℕ) (x : InSlot V) → v.key ≡ Some k → IsFound keeps returns v n x → IfSome (value_in x) (λ value. IsLeft keeps returns k v.handed v.taken n value)
  left_at k v n Empty key found = tt
  left_at k v n (Resting x) key found = inl (found.2, found.3 k key)
  left_at k v n (Sent p) key found = inr (found.2, (p, refl, found.3, found.4 k key))

  -- what the closing end found is what is left of the cell
  pub left : (k : K) (v w d : View K V) (m m' : Me (InSlot V) (View K V)) (c : List (ℕ × InSlot V)) (n : ℕ) (x : InSlot V) → m ≡ (both_parts v w, c) → w ≡ record d { role = SetDown } → v.key ≡ Some k
      → ended keeps returns m n m' → m'.1 ≡ (0, x) ∷ rest m'.1 → IfSome (value_in x) (λ value. IsLeft keeps returns k v.handed d.taken n value)
  left k v w d m m' c n x one down key told out =
      let both : m.0 ≡ both_parts v (record d { role = SetDown }) = ap (λ (y : Me (InSlot V) (View K V)). y.0) one ∙ ap (λ (y : View K V). both_parts v y) down in
      let same : (0, told.1.0) ≡ (0, x) = same_head _ _ _ _ (sym told.1.1 ∙ out) in
      let found : IsFound keeps returns m.0 n x = subst (λ (y : InSlot V). IsFound keeps returns m.0 n y) (ap (λ (y : ℕ × InSlot V). y.1) same) told.1.2 in
      left_at k (both_parts v (record d { role = SetDown })) n x key (subst (λ (y : View K V). IsFound keeps returns y n x) both found)

  -- after a look at an even word, the slot is out with a value that was given back
  pub taken_out : (m m' : Me (InSlot V) (View K V)) (n : ℕ) → looked returns m n m' → (n % 2 ≡ 1 → ⊥) → (x : InSlot V) × (m'.1 ≡ (0, x) ∷ rest m'.1)
  taken_out m m' n told even =
      ⊎_elim (λ t. (Resting t.2.0, t.2.1 ∙ ap (λ (l : List (ℕ × InSlot V)). (0, Resting t.2.0) ∷ rest l) (sym t.2.1))) (λ t. absurd (even (omega (arith, t.0)))) told

  -- after a poll at an odd word, the slot is out with a parcel
  pub polled_out : (m m' : Me (InSlot V) (View K V)) (n : ℕ) → polled keeps m n m' → (n % 2 ≡ 0 → ⊥) → (x : InSlot V) × (m'.1 ≡ (0, x) ∷ rest m'.1)
  polled_out m m' n told odd =
      ⊎_elim (λ t. (Sent t.1.0, t.1.2 ∙ ap (λ (l : List (ℕ × InSlot V)). (0, Sent t.1.0) ∷ rest l) (sym t.1.2))) (λ t. absurd (odd (omega (arith, t.0)))) told

-- what an end has out is one slot at most
pub rest_out : {V : Type 0} (c : List (ℕ × InSlot V)) (holds : Bool) → c ≡ out_with holds → rest c ≡ []
rest_out {V} c true e = ap (λ (l : List (ℕ × InSlot V)). rest l) e
rest_out {V} c false e = ap (λ (l : List (ℕ × InSlot V)). rest l) e
