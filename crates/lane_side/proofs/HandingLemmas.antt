-- Every call of the two traits keeps the handover of the cells and the soundness of the bell.
use Rattle.std.proofs.Common.{◌≡◌, ℕ, zero, suc, ◌+◌, ◌%◌, ◌^◌, ◌≤◌, List, [], ◌∷◌, ◌++◌, length, refl, sym, ◌∙◌, ap, subst, arith, inl, inr, true, false, Some, None, Option, length-append, eqb-true}
use Rattle.std.specs.Prelude.{IfSome}
use Rattle.sample_key.specs.Sent.{Sent}
use Rattle.sample_key.specs.declared.batches.Parcel.{Parcel}
use Rattle.driver_model.specs.Table.{Table}
use Rattle.driver_model.specs.Sides.{Slot, Room, Side, slot_of, slot_looked, slot_handed, new_side, new_slot, side_hear, side_look_buffer, side_look_table, side_hand_buffer, side_hand_table}
use Rattle.driver_model.specs.Handover.{FarSlot, Given, FarSide, far_slot_of, far_slot_took, far_slot_gave, far_took_buffer, far_took_table, far_gave_buffer, far_gave_table, far_rang, given_buffer, given_table, WasRung, new_far, new_far_slot, none_given, rung_of, side_called, side_poll_buffer, side_poll_table, slot_polled}
use Rattle.driver_model.specs.Runs.{word_of}
use Rattle.overflow_pair.specs.Contents.{Contents}
use Rattle.lane_side.specs.Fixed.{Fixed}
use Rattle.lane_side.specs.Calls.{LooksAtBuffer, LooksAtTable, MayHandBuffer, MayHandTable, PollsBuffer, PollsTable, TakesBuffer, TakesTable, IsHome, buffer_sent, table_sent}
use Rattle.lane_side.specs.Handing.{CellHandsOver, CellsHandOver, HandsOver}
use Rattle.turn_cell.specs.declared.passing.Look.{Look}
use Rattle.turn_cell.specs.declared.passing.PollOf.{PollOf}
use Rattle.turn_cell.specs.declared.passing.PollOf.TheVariants.{Parcel as Got, Home}
use Rattle.lane_side.proofs.Bells.{last-push, was_rung, still_rung, rises_push}

-- two lists with one element more at the end are the same only with the same element
same_last : (xs ys : List Sent) (x y : Sent) → xs ++ x ∷ [] ≡ ys ++ y ∷ [] → x ≡ y
same_last [] [] x y e = cc
same_last [] (b ∷ []) x y e = cc
same_last [] (b ∷ c ∷ ys) x y e = cc
same_last (a ∷ []) [] x y e = cc
same_last (a ∷ c ∷ xs) [] x y e = cc
same_last (a ∷ xs) (b ∷ ys) x y e = let f : xs ++ x ∷ [] ≡ ys ++ y ∷ [] = cc in same_last xs ys x y f

-- a look that reads the word takes the value at an even one
looked_cell : (c : Slot) (f : FarSlot) (g word : ℕ) → word ≡ word_of c g → CellHandsOver c f g → CellHandsOver (slot_looked c word) f g
looked_cell c f g word e i = record {
  handover = record {
    counted = refl;
    home = i.handover.home;
    out = i.handover.out;
    driver = λ holds. sym (ap (λ (n : ℕ). n % 2) e) ∙ eqb-true (word % 2) 0 holds;
    daemon = i.handover.daemon;
  };
  waits = i.waits;
}

-- a hand
handed_cell : (c : Slot) (f : FarSlot) (g : ℕ) (b : Sent) → c.holds ≡ true → CellHandsOver c f g → CellHandsOver (slot_handed c b) f g
handed_cell c f g b holds i =
    let even : word_of c g % 2 ≡ 0 = i.handover.driver holds in
    let home = i.handover.home even in
    let more : length (c.handed ++ b ∷ []) ≡ length c.handed + 1 = length-append c.handed (b ∷ []) in
    let waiting : c.handed ++ b ∷ [] ≡ f.taken ++ b ∷ [] = ap (λ (z : List Sent). z ++ b ∷ []) (sym home.1) in
    record {
      handover = record {
        counted = refl;
        home = λ e. absurd (omega (arith, e, even, more));
        out = λ e. (omega (arith, more, home.0), inr (b, waiting));
        driver = λ e. cc;
        daemon = λ e. absurd (omega (arith, even, (i.handover.daemon e).0));
      };
      waits = λ e h. (b, waiting);
    }

-- a poll that found nothing
polled_cell : (c : Slot) (f : FarSlot) (g word : ℕ) → CellHandsOver c f g → CellHandsOver (slot_polled c word) f g
polled_cell c f g word i = record {
  handover = record { counted = refl; home = i.handover.home; out = i.handover.out; driver = i.handover.driver; daemon = i.handover.daemon };
  waits = i.waits;
}

-- a poll that took the batch handed last
took_cell : (c : Slot) (f : FarSlot) (g word : ℕ) (b : Sent) → f.holds ≡ false → word ≡ word_of c g → word % 2 ≡ 1 → (front : List Sent) × (c.handed ≡ front ++ b ∷ [])
    → CellHandsOver c f g → CellHandsOver (slot_polled c word) (far_slot_took f b) g
took_cell c f g word b free e odd last i =
    let now : word_of c g % 2 ≡ 1 = sym (ap (λ (n : ℕ). n % 2) e) ∙ odd in
    let w = i.waits now free in
    let same : w.0 ≡ b = same_last f.taken last.0 w.0 b (sym w.1 ∙ last.1) in
    let all : f.taken ++ b ∷ [] ≡ c.handed = sym (w.1 ∙ ap (λ (z : Sent). f.taken ++ z ∷ []) same) in
    record {
      handover = record {
        counted = refl;
        home = λ h. absurd (omega (arith, h, now));
        out = λ h. ((i.handover.out now).0, inl all);
        driver = i.handover.driver;
        daemon = λ h. (now, all);
      };
      waits = λ h j. cc;
    }

-- a give-back
gave_cell : (c : Slot) (f : FarSlot) (g : ℕ) → f.holds ≡ true → CellHandsOver c f g → CellHandsOver c (far_slot_gave f) (g + 1)
gave_cell c f g holds i =
    let d = i.handover.daemon holds in
    let out = (i.handover.out d.0).0 in
    record {
      handover = record {
        counted = refl;
        home = λ e. (out, d.1);
        out = λ e. absurd (omega (arith, e, d.0));
        driver = λ e. absurd (omega (arith, d.0, i.handover.driver e));
        daemon = λ e. cc;
      };
      waits = λ e h. absurd (omega (arith, e, d.0));
    }

-- what a side tells of its words
told_at : (P : Given → Type 0) (o : Option Given) (g : Given) → o ≡ Some g → IfSome o P → P g
told_at P o g s h = subst (λ (z : Option Given). IfSome z P) s h

-- the cells, where the side tells its words
over_map : (o : Option Given) (v w : Side) (f e : FarSide) → ((g : Given) → o ≡ Some g → CellsHandOver g v f → CellsHandOver g w e)
    → IfSome o (λ g. CellsHandOver g v f) → IfSome o (λ g. CellsHandOver g w e)
over_map None v w f e m i = tt
over_map (Some g) v w f e m i = m g refl i

-- a cell that nothing was done with
new_cell : (s : Slot) (f : FarSlot) → s.handed ≡ [] → f.taken ≡ [] → s.holds ≡ false → f.holds ≡ false → CellHandsOver s f 0
new_cell s f e h a b =
    let none : length s.handed ≡ 0 = ap (λ (z : List Sent). length z) e in
    record {
      handover = record {
        counted = refl;
        home = λ z. (omega (arith, none), h ∙ sym e);
        out = λ z. absurd (omega (arith, z, none));
        driver = λ z. let y : true ≡ false = sym z ∙ a in cc;
        daemon = λ z. let y : true ≡ false = sym z ∙ b in cc;
      };
      waits = λ z y. absurd (omega (arith, z, none));
    }

-- a new side
pub new_over : (room : Option Room) (buckets buffer : ℕ) → HandsOver (new_side room buckets buffer) (new_far (Some none_given))
new_over room buckets buffer = record {
  cells = record {
    first = new_cell new_slot new_far_slot refl refl refl refl;
    second = new_cell new_slot new_far_slot refl refl refl refl;
    third = new_cell new_slot new_far_slot refl refl refl refl;
  };
  bell = record { last = refl; rising = tt; bound = omega arith; behind = omega arith; known = inl refl };
}

-- the bell was heard
pub heard_over : (v : Side) (f : FarSide) (w : ℕ) → w ≡ rung_of f.rungs → HandsOver v f → HandsOver (side_hear v w) f
heard_over v f w e i = record {
  cells = over_map f.given v (side_hear v w) f f (λ g s c. record { first = c.first; second = c.second; third = c.third }) i.cells;
  bell = record {
    last = refl;
    rising = i.bell.rising;
    bound = i.bell.bound;
    behind = omega (arith, e);
    known = subst (λ (n : ℕ). WasRung n f.rungs) (sym e) (was_rung f.rungs);
  };
}

-- a buffer was looked at
pub looked_over : (n : ℕ) (v : Side) (f : FarSide) (look : Look Contents) (after : Side) → n ≤ 1 → (slot_of v n).holds ≡ false → LooksAtBuffer n v f look after → HandsOver v f → HandsOver after f
looked_over zero v f look after l free k i =
    let r = after.first.read in
    subst (λ (z : Side). HandsOver z f) (sym k.side) (record {
      cells = over_map f.given v (side_look_buffer v 0 r) f f (λ g s c. record { first = looked_cell v.first f.first g.first r (told_at (λ (j : Given). r ≡ word_of v.first j.first) f.given g s k.told) c.first; second = c.second; third = c.third }) i.cells;
      bell = i.bell;
    })
looked_over (suc zero) v f look after l free k i =
    let r = after.second.read in
    subst (λ (z : Side). HandsOver z f) (sym k.side) (record {
      cells = over_map f.given v (side_look_buffer v 1 r) f f (λ g s c. record { first = c.first; second = looked_cell v.second f.second g.second r (told_at (λ (j : Given). r ≡ word_of v.second j.second) f.given g s k.told) c.second; third = c.third }) i.cells;
      bell = i.bell;
    })
looked_over (suc (suc n)) v f look after l free k i = absurd (omega arith)

-- a buffer was handed
pub handed_over : (n : ℕ) (fixed : Fixed) (v : Side) (f : FarSide) (p : Parcel Contents) → n ≤ 1 → MayHandBuffer n fixed v p.note p.body → HandsOver v f → HandsOver (side_hand_buffer v n (buffer_sent p)) f
handed_over zero fixed v f p l may i = record {
  cells = over_map f.given v (side_hand_buffer v 0 (buffer_sent p)) f f (λ g s c. record { first = handed_cell v.first f.first g.first (buffer_sent p) may.hand.holds c.first; second = c.second; third = c.third }) i.cells;
  bell = i.bell;
}
handed_over (suc zero) fixed v f p l may i = record {
  cells = over_map f.given v (side_hand_buffer v 1 (buffer_sent p)) f f (λ g s c. record { first = c.first; second = handed_cell v.second f.second g.second (buffer_sent p) may.hand.holds c.second; third = c.third }) i.cells;
  bell = i.bell;
}
handed_over (suc (suc n)) fixed v f p l may i = absurd (omega arith)

-- the table was looked for
pub looked_table_over : (v : Side) (f : FarSide) (look : Look Table) (after : Side) → v.third.holds ≡ false → LooksAtTable v f look after → HandsOver v f → HandsOver after f
looked_table_over v f look after free k i =
    let r = after.third.read in
    subst (λ (z : Side). HandsOver z f) (sym k.side) (record {
      cells = over_map f.given v (side_look_table v r) f f (λ g s c. record { first = c.first; second = c.second; third = looked_cell v.third f.third g.third r (told_at (λ (j : Given). r ≡ word_of v.third j.third) f.given g s k.told) c.third }) i.cells;
      bell = i.bell;
    })

-- the table was handed
pub handed_table_over : (fixed : Fixed) (v : Side) (f : FarSide) (p : Parcel Table) → MayHandTable fixed v p.note p.body → HandsOver v f → HandsOver (side_hand_table v (table_sent p) p.body.turn) f
handed_table_over fixed v f p may i = record {
  cells = over_map f.given v (side_hand_table v (table_sent p) p.body.turn) f f (λ g s c. record { first = c.first; second = c.second; third = handed_cell v.third f.third g.third (table_sent p) may.hand.holds c.third }) i.cells;
  bell = i.bell;
}

-- the bell was rung
pub rang_over : (v : Side) (f : FarSide) (value tries : ℕ) → rung_of f.rungs ≤ value → value ≤ 2 ^ 32 → HandsOver v f → HandsOver (side_called v) (far_rang f value tries)
rang_over v f value tries later bound i = record {
  cells = over_map f.given v (side_called v) f (far_rang f value tries) (λ g s c. record { first = c.first; second = c.second; third = c.third }) i.cells;
  bell = record {
    last = refl;
    rising = rises_push 0 f.rungs value i.bell.rising later;
    bound = omega (arith, bound, last-push 0 f.rungs value);
    behind = omega (arith, i.bell.behind, later, last-push 0 f.rungs value);
    known = still_rung v.heard value f.rungs i.bell.known;
  };
}

-- a buffer was polled
pub polled_over : (n : ℕ) (fixed : Fixed) (v : Side) (f : FarSide) (poll : PollOf (Parcel Contents)) (after : Side) (left : FarSide) → n ≤ 1 → (far_slot_of f n).holds ≡ false
    → PollsBuffer n fixed v f poll after left → HandsOver v f → HandsOver after left
polled_over zero fixed v f (Got p) after left l free k i =
    let r = after.first.read in let c : TakesBuffer 0 fixed v f r left p = k.cause in
    subst (λ (z : Side). HandsOver z left) (sym k.side) (subst (λ (e : FarSide). HandsOver (side_poll_buffer v 0 r) e) (sym c.far) (record {
      cells = over_map f.given v (side_poll_buffer v 0 r) f (far_took_buffer f 0 (buffer_sent p)) (λ g s j. record { first = took_cell v.first f.first g.first r (buffer_sent p) free (told_at (λ (j : Given). r ≡ word_of v.first j.first) f.given g s k.told) c.odd (told_at (λ (j : Given). (front : List Sent) × (v.first.handed ≡ front ++ buffer_sent p ∷ [])) f.given g s c.last) j.first; second = j.second; third = j.third }) i.cells;
      bell = i.bell;
    }))
polled_over zero fixed v f (Home w) after left l free k i =
    let r = after.first.read in let c : IsHome f r left w = k.cause in
    subst (λ (z : Side). HandsOver z left) (sym k.side) (subst (λ (e : FarSide). HandsOver (side_poll_buffer v 0 r) e) (sym c.far) (record {
      cells = over_map f.given v (side_poll_buffer v 0 r) f f (λ g s j. record { first = polled_cell v.first f.first g.first r j.first; second = j.second; third = j.third }) i.cells;
      bell = i.bell;
    }))
polled_over (suc zero) fixed v f (Got p) after left l free k i =
    let r = after.second.read in let c : TakesBuffer 1 fixed v f r left p = k.cause in
    subst (λ (z : Side). HandsOver z left) (sym k.side) (subst (λ (e : FarSide). HandsOver (side_poll_buffer v 1 r) e) (sym c.far) (record {
      cells = over_map f.given v (side_poll_buffer v 1 r) f (far_took_buffer f 1 (buffer_sent p)) (λ g s j. record { first = j.first; second = took_cell v.second f.second g.second r (buffer_sent p) free (told_at (λ (j : Given). r ≡ word_of v.second j.second) f.given g s k.told) c.odd (told_at (λ (j : Given). (front : List Sent) × (v.second.handed ≡ front ++ buffer_sent p ∷ [])) f.given g s c.last) j.second; third = j.third }) i.cells;
      bell = i.bell;
    }))
polled_over (suc zero) fixed v f (Home w) after left l free k i =
    let r = after.second.read in let c : IsHome f r left w = k.cause in
    subst (λ (z : Side). HandsOver z left) (sym k.side) (subst (λ (e : FarSide). HandsOver (side_poll_buffer v 1 r) e) (sym c.far) (record {
      cells = over_map f.given v (side_poll_buffer v 1 r) f f (λ g s j. record { first = j.first; second = polled_cell v.second f.second g.second r j.second; third = j.third }) i.cells;
      bell = i.bell;
    }))
polled_over (suc (suc n)) fixed v f poll after left l free k i = absurd (omega arith)

-- the table was polled
pub polled_table_over : (fixed : Fixed) (v : Side) (f : FarSide) (poll : PollOf (Parcel Table)) (after : Side) (left : FarSide) → f.third.holds ≡ false
    → PollsTable fixed v f poll after left → HandsOver v f → HandsOver after left
polled_table_over fixed v f (Got p) after left free k i =
    let r = after.third.read in let c : TakesTable fixed v f r left p = k.cause in
    subst (λ (z : Side). HandsOver z left) (sym k.side) (subst (λ (e : FarSide). HandsOver (side_poll_table v r) e) (sym c.far) (record {
      cells = over_map f.given v (side_poll_table v r) f (far_took_table f (table_sent p) p.body.turn) (λ g s j. record { first = j.first; second = j.second; third = took_cell v.third f.third g.third r (table_sent p) free (told_at (λ (j : Given). r ≡ word_of v.third j.third) f.given g s k.told) c.odd (told_at (λ (j : Given). (front : List Sent) × (v.third.handed ≡ front ++ table_sent p ∷ [])) f.given g s c.last) j.third }) i.cells;
      bell = i.bell;
    }))
polled_table_over fixed v f (Home w) after left free k i =
    let r = after.third.read in let c : IsHome f r left w = k.cause in
    subst (λ (z : Side). HandsOver z left) (sym k.side) (subst (λ (e : FarSide). HandsOver (side_poll_table v r) e) (sym c.far) (record {
      cells = over_map f.given v (side_poll_table v r) f f (λ g s j. record { first = j.first; second = j.second; third = polled_cell v.third f.third g.third r j.third }) i.cells;
      bell = i.bell;
    }))

-- a buffer was given back
gave_cells0 : (v : Side) (f : FarSide) (o : Option Given) → f.first.holds ≡ true → IfSome o (λ g. CellsHandOver g v f) → IfSome (given_buffer o 0) (λ g. CellsHandOver g (side_called v) (far_gave_buffer f 0))
gave_cells0 v f None holds i = tt
gave_cells0 v f (Some g) holds i = record { first = gave_cell v.first f.first g.first holds i.first; second = i.second; third = i.third }

gave_cells1 : (v : Side) (f : FarSide) (o : Option Given) → f.second.holds ≡ true → IfSome o (λ g. CellsHandOver g v f) → IfSome (given_buffer o 1) (λ g. CellsHandOver g (side_called v) (far_gave_buffer f 1))
gave_cells1 v f None holds i = tt
gave_cells1 v f (Some g) holds i = record { first = i.first; second = gave_cell v.second f.second g.second holds i.second; third = i.third }

gave_cells2 : (v : Side) (f : FarSide) (o : Option Given) → f.third.holds ≡ true → IfSome o (λ g. CellsHandOver g v f) → IfSome (given_table o) (λ g. CellsHandOver g (side_called v) (far_gave_table f))
gave_cells2 v f None holds i = tt
gave_cells2 v f (Some g) holds i = record { first = i.first; second = i.second; third = gave_cell v.third f.third g.third holds i.third }

pub gave_over : (n : ℕ) (v : Side) (f : FarSide) → n ≤ 1 → (far_slot_of f n).holds ≡ true → HandsOver v f → HandsOver (side_called v) (far_gave_buffer f n)
gave_over zero v f l holds i = record { cells = gave_cells0 v f f.given holds i.cells; bell = i.bell }
gave_over (suc zero) v f l holds i = record { cells = gave_cells1 v f f.given holds i.cells; bell = i.bell }
gave_over (suc (suc n)) v f l holds i = absurd (omega arith)

pub gave_table_over : (v : Side) (f : FarSide) → f.third.holds ≡ true → HandsOver v f → HandsOver (side_called v) (far_gave_table f)
gave_table_over v f holds i = record { cells = gave_cells2 v f f.given holds i.cells; bell = i.bell }
