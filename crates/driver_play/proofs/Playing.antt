-- The daemon's calls leave a lane running.
use Rattle.std.proofs.Common.{◌≡◌, ℕ, zero, suc, ◌+◌, ◌*◌, ◌≤◌, List, [], ◌∷◌, ◌++◌, length, refl, sym, ◌∙◌, ap, subst, arith, false, Some, None, Option, eqb}
use Rattle.std.specs.Prelude.{IfSome}
use Rattle.std.proofs.lemmas.Bool.{cond_both}
use Rattle.driver_model.specs.Sides.{Room, Side}
use Rattle.sample_key.specs.Sent.{Sent}
use Rattle.driver_model.specs.Handover.{FarSide, slot_polled, last_from, rung_of, side_poll_buffer, side_poll_table, side_called, far_took_buffer, far_gave_buffer, far_took_table, far_gave_table, far_rang}
use Rattle.driver_model.specs.Invariant.{DriverInvariant}
use Rattle.driver_laws.specs.Turns.{hands_in, entries_handed, PollsKeep}
use Rattle.driver_laws.proofs.Lists.{by_number}
use Rattle.lane_side.specs.Fixed.{Fixed}
use Rattle.lane_side.specs.Plain.{Plain}
use Rattle.lane_side.proofs.Bells.{last-push}
use Rattle.cpu_lane.specs.Seen.{Seen}
use Rattle.cpu_lane.specs.Runs.{Runs}
use Rattle.driver_play.specs.Plays.{Plays}

-- what the daemon's calls leave of the driver's half
pub record Leaves (v w : Side) : Type 0 where
  pub room : w.room ≡ v.room
  pub hands : hands_in w ≡ hands_in v
  pub entries : entries_handed w ≡ entries_handed v
  pub buffer : w.buffer ≡ v.buffer
  pub heard : w.heard ≡ v.heard

-- a lane runs on where the invariant and this are kept
pub runs_on : (requests : ℕ) (l : Seen) (v w : Side) (far near : FarSide) (f g : Fixed) → Runs requests l v far f → DriverInvariant l.setup l.driver w → Leaves v w
    → rung_of near.rungs ≤ 2 * requests → g ≡ f → Runs requests l w near g
runs_on requests l v w far near f g r i leaves rung same =
    subst (λ (x : Fixed). Runs requests l w near x) (sym same)
    (record {
      side = record { cpu = r.side.cpu; samples = r.side.samples; size = r.side.size ∙ sym leaves.buffer };
      invariant = i;
      left = subst (λ (o : Option Room). IfSome o (λ q. (q.hands + hands_in w ≡ length l.setup.samples + 2 * requests + 2) × (q.entries + entries_handed w ≡ length l.setup.samples + 1))) (sym leaves.room) (at v.room r.left);
      told = r.told;
      rung = rung;
      heard = omega (arith, r.heard, leaves.heard);
    })
  where
    at : (o : Option Room) → IfSome o (λ q. (q.hands + hands_in v ≡ length l.setup.samples + 2 * requests + 2) × (q.entries + entries_handed v ≡ length l.setup.samples + 1))
        → IfSome o (λ q. (q.hands + hands_in w ≡ length l.setup.samples + 2 * requests + 2) × (q.entries + entries_handed w ≡ length l.setup.samples + 1))
    at None h = tt
    at (Some q) h = (omega (arith, h.0, leaves.hands), omega (arith, h.1, leaves.entries))

polled_leaves : (v : Side) (b w : ℕ) → Leaves v (side_poll_buffer v b w)
polled_leaves v b w =
    cond_both (eqb b 0) (record v { steps = v.steps + 1; first = slot_polled v.first w }) (record v { steps = v.steps + 1; second = slot_polled v.second w }) (Leaves v)
    (λ e. record { room = refl; hands = refl; entries = refl; buffer = refl; heard = refl }) (λ e. record { room = refl; hands = refl; entries = refl; buffer = refl; heard = refl })

-- a call that leaves the cells
pub called : PollsKeep → (requests : ℕ) (l : Seen) (v w : Side) (far near : FarSide) (f g : Fixed) → Runs requests l v far f → w ≡ side_called v → rung_of near.rungs ≤ 2 * requests → g ≡ f → Runs requests l w near g
called keep requests l v w far near f g r is rung same =
    subst (λ (x : Side). Runs requests l x near g) (sym is)
    (runs_on requests l v (side_called v) far near f g r (keep.called l.setup l.driver v r.invariant)
    (record { room = refl; hands = refl; entries = refl; buffer = refl; heard = refl }) rung same)

-- a poll of a buffer
pub polled : PollsKeep → (requests : ℕ) (l : Seen) (v w : Side) (b word : ℕ) (far near : FarSide) (f g : Fixed) → Runs requests l v far f → w ≡ side_poll_buffer v b word → near.rungs ≡ far.rungs → g ≡ f → Runs requests l w near g
polled keep requests l v w b word far near f g r is rungs same =
    subst (λ (x : Side). Runs requests l x near g) (sym is)
    (runs_on requests l v (side_poll_buffer v b word) far near f g r (keep.buffer l.setup l.driver v b word r.invariant) (polled_leaves v b word)
    (subst (λ (rs : List ℕ). rung_of rs ≤ 2 * requests) (sym rungs) r.rung) same)

-- a poll of the table
pub polled_table : PollsKeep → (requests : ℕ) (l : Seen) (v w : Side) (word : ℕ) (far near : FarSide) (f g : Fixed) → Runs requests l v far f → w ≡ side_poll_table v word → near.rungs ≡ far.rungs → g ≡ f → Runs requests l w near g
polled_table keep requests l v w word far near f g r is rungs same =
    subst (λ (x : Side). Runs requests l x near g) (sym is)
    (runs_on requests l v (side_poll_table v word) far near f g r (keep.table l.setup l.driver v word r.invariant)
    (record { room = refl; hands = refl; entries = refl; buffer = refl; heard = refl })
    (subst (λ (rs : List ℕ). rung_of rs ≤ 2 * requests) (sym rungs) r.rung) same)

-- the daemon holds nothing, and the rungs are these
abbrev Idle : List ℕ → FarSide → Type 0
Idle rungs f = (f.rungs ≡ rungs) × (f.first.holds ≡ false) × (f.second.holds ≡ false) × (f.third.holds ≡ false)

-- from what the daemon holds
plays_with : (requests : ℕ) (l : Seen) (s n : Plain) → Plays requests l s → Runs requests l n.seen n.far n.fixed → n.fixed ≡ s.fixed → Idle n.far.rungs n.far → Plays requests l n
plays_with requests l s n p runs same idle = record {
  few = p.few;
  runs = runs;
  even = ap (λ (f : Fixed). f.even) same ∙ p.even;
  free0 = idle.1;
  free1 = idle.2;
  free2 = idle.3;
}

-- a poll found nothing
pub plays_home : PollsKeep → (requests : ℕ) (l : Seen) (s n : Plain) (b word : ℕ) → Plays requests l s → n.seen ≡ side_poll_buffer s.seen b word → n.far ≡ s.far → n.fixed ≡ s.fixed → Plays requests l n
plays_home keep requests l s n b word p seen far same =
    plays_with requests l s n p
    (polled keep requests l s.seen n.seen b word s.far n.far s.fixed n.fixed p.runs seen (ap (λ (f : FarSide). f.rungs) far) same) same
    (refl, ap (λ (f : FarSide). f.first.holds) far ∙ p.free0, ap (λ (f : FarSide). f.second.holds) far ∙ p.free1, ap (λ (f : FarSide). f.third.holds) far ∙ p.free2)

-- a buffer was taken and given back
pub plays_drained : PollsKeep → (requests : ℕ) (l : Seen) (s m n : Plain) (b word : ℕ) (x : Sent) → b ≤ 1 → Plays requests l s → m.seen ≡ side_poll_buffer s.seen b word → m.far ≡ far_took_buffer s.far b x → m.fixed ≡ s.fixed
    → n.seen ≡ side_called m.seen → n.far ≡ far_gave_buffer m.far b → n.fixed ≡ m.fixed → Plays requests l n
plays_drained keep requests l s m n b word x number p seen took same called_seen gave again =
    let far : n.far ≡ far_gave_buffer (far_took_buffer s.far b x) b = gave ∙ ap (λ (f : FarSide). far_gave_buffer f b) took in
    let idle : Idle s.far.rungs (far_gave_buffer (far_took_buffer s.far b x) b) =
    by_number (λ (k : ℕ). Idle s.far.rungs (far_gave_buffer (far_took_buffer s.far k x) k)) b number (refl, refl, p.free1, p.free2) (refl, p.free0, refl, p.free2) in
    let here : Idle s.far.rungs n.far = subst (λ (f : FarSide). Idle s.far.rungs f) (sym far) idle in
    let rungs : m.far.rungs ≡ s.far.rungs = ap (λ (f : FarSide). f.rungs) took ∙ by_number (λ (k : ℕ). (far_took_buffer s.far k x).rungs ≡ s.far.rungs) b number refl refl in
    plays_with requests l s n p
    (called keep requests l m.seen n.seen m.far n.far m.fixed n.fixed (polled keep requests l s.seen m.seen b word s.far m.far s.fixed m.fixed p.runs seen rungs same) called_seen
    (subst (λ (rs : List ℕ). rung_of rs ≤ 2 * requests) (sym here.0) p.runs.rung) again) (again ∙ same) (refl, here.1, here.2, here.3)

-- the table was taken and given back
pub plays_flushed : PollsKeep → (requests : ℕ) (l : Seen) (s m n : Plain) (word turn : ℕ) (x : Sent) → Plays requests l s → m.seen ≡ side_poll_table s.seen word → m.far ≡ far_took_table s.far x turn → m.fixed ≡ s.fixed
    → n.seen ≡ side_called m.seen → n.far ≡ far_gave_table m.far → n.fixed ≡ m.fixed → Plays requests l n
plays_flushed keep requests l s m n word turn x p seen took same called_seen gave again =
    let far : n.far ≡ far_gave_table (far_took_table s.far x turn) = gave ∙ ap (λ (f : FarSide). far_gave_table f) took in
    let here : Idle s.far.rungs n.far = subst (λ (f : FarSide). Idle s.far.rungs f) (sym far) (refl, p.free0, p.free1, refl) in
    plays_with requests l s n p
    (called keep requests l m.seen n.seen m.far n.far m.fixed n.fixed (polled_table keep requests l s.seen m.seen word s.far m.far s.fixed m.fixed p.runs seen (ap (λ (f : FarSide). f.rungs) took) same) called_seen
    (subst (λ (rs : List ℕ). rung_of rs ≤ 2 * requests) (sym here.0) p.runs.rung) again) (again ∙ same) (refl, here.1, here.2, here.3)

-- a poll of the table found nothing
pub plays_home_table : PollsKeep → (requests : ℕ) (l : Seen) (s n : Plain) (word : ℕ) → Plays requests l s → n.seen ≡ side_poll_table s.seen word → n.far ≡ s.far → n.fixed ≡ s.fixed → Plays requests l n
plays_home_table keep requests l s n word p seen far same =
    plays_with requests l s n p
    (polled_table keep requests l s.seen n.seen word s.far n.far s.fixed n.fixed p.runs seen (ap (λ (f : FarSide). f.rungs) far) same) same
    (refl, ap (λ (f : FarSide). f.first.holds) far ∙ p.free0, ap (λ (f : FarSide). f.second.holds) far ∙ p.free1, ap (λ (f : FarSide). f.third.holds) far ∙ p.free2)

-- the bell was rung
pub plays_rung : PollsKeep → (requests : ℕ) (l : Seen) (s n : Plain) (value tries : ℕ) → Plays requests l s → value ≤ 2 * requests → n.seen ≡ side_called s.seen → n.far ≡ far_rang s.far value tries → n.fixed ≡ s.fixed → Plays requests l n
plays_rung keep requests l s n value tries p few seen far same =
    let rung : rung_of n.far.rungs ≡ value = ap (λ (f : FarSide). rung_of f.rungs) far ∙ last-push 0 s.far.rungs value in
    plays_with requests l s n p (called keep requests l s.seen n.seen s.far n.far s.fixed n.fixed p.runs seen (omega (arith, rung)) same) same
    (refl, ap (λ (f : FarSide). f.first.holds) far ∙ p.free0, ap (λ (f : FarSide). f.second.holds) far ∙ p.free1, ap (λ (f : FarSide). f.third.holds) far ∙ p.free2)
