-- The laws of the definitions, said of what a turn gave.
use Rattle.std.proofs.Common.{◌≡◌, ℕ, ◌+◌, ◌≤◌, refl, sym, subst, arith, Bool, true, false}
use Rattle.std.proofs.lemmas.Bool.{cond-true}
use Rattle.driver_model.specs.Sides.{Side, side_hear}
use Rattle.driver_model.specs.Handover.{FarSide}
use Rattle.driver_model.specs.Driver.{Setup, Driver, Turned, Words, ends_with, regain, after_regain, turn_of}
use Rattle.driver_model.specs.Invariant.{IsSetup, DriverInvariant}
use Rattle.driver_model.specs.declared.answers.Turn.{Turn}
use Rattle.driver_model.specs.declared.answers.Turn.TheVariants.{Done}
use Rattle.driver_laws.specs.Turns.{AreFairWords, RoomLowered, TurnKeeps, FewCalls, RoomFalls, BellIsHeard}
use Rattle.driver_laws.specs.Causes.{CauseOf, AnswersHaveCauses}
use Rattle.driver_laws.specs.Doings.{DoneIsClosed}
use Rattle.lane_side.specs.Fixed.{Fixed}
use Rattle.cpu_lane.specs.Seen.{Seen}
use Rattle.cpu_lane.specs.Steps.{Gives}
use Rattle.cpu_lane.specs.Ready.{IsSideOf, HasRoom, HeardBy}

-- the laws that a turn cites
pub record Laws : Type 0 where
  pub keeps : TurnKeeps
  pub few : FewCalls
  pub falls : RoomFalls
  pub hears : BellIsHeard
  pub causes : AnswersHaveCauses
  pub closes : DoneIsClosed

-- what a turn keeps and tells
pub record Kept (u : Setup) (f : Fixed) (far : FarSide) (d : Driver) (v : Side) (e : Driver) (w : Side) (said : Turn) : Type 0 where
  pub invariant : DriverInvariant u e w
  pub cause : CauseOf u d v w said
  pub few : w.steps ≤ v.steps + 5
  pub hears : d.done ≡ false → w.hears ≡ v.hears + 1
  pub heard : d.done ≡ false → HeardBy f far w.heard
  pub later : v.heard ≤ w.heard
  pub room : RoomLowered v w
  pub buckets : w.buckets ≡ v.buckets
  pub buffer : w.buffer ≡ v.buffer
  pub closed : said ≡ Done → e.done ≡ true

-- what the close leaves, or the bell
record Leaves (v w : Side) : Type 0 where
  pub later : v.heard ≤ w.heard
  pub buckets : w.buckets ≡ v.buckets
  pub buffer : w.buffer ≡ v.buffer

by_test : (P : Type 0) (b : Bool) → (b ≡ true → P) → (b ≡ false → P) → P
by_test P true f g = f refl
by_test P false f g = g refl

done_is : (u : Setup) (h : Words) (d : Driver) (v : Side) → d.done ≡ true → turn_of u h (record { driver = d; side = v }) ≡ ends_with (record { driver = d; side = v }) Done
done_is u h d v e = cond-true d.done (ends_with (record { driver = d; side = v }) Done) (after_regain u h (regain d (side_hear v h.bell) h.third d.table)) e

leaves : Laws → (u : Setup) (h : Words) (d : Driver) (v : Side) → v.heard ≤ h.bell → Leaves v (turn_of u h (record { driver = d; side = v })).side
leaves laws u h d v later =
    by_test (Leaves v (turn_of u h (record { driver = d; side = v })).side) d.done
    (λ e. subst (λ (t : Turned). Leaves v t.side) (sym (done_is u h d v e)) (record { later = omega arith; buckets = refl; buffer = refl }))
    (λ e. let l = laws.hears u h d v e in record { later = omega (arith, l.heard, later); buckets = l.buckets; buffer = l.buffer })

-- what the code gave, over the words that it read
abbrev pub Gave : Setup → Fixed → FarSide → Driver → Side → Turn → Driver → Side → Type 0
Gave u f far d v said e w =
    (h : Words) × Gives (turn_of u h (record { driver = d; side = v })) said e w × AreFairWords v h.two × (v.heard ≤ h.bell) × (d.done ≡ false → HeardBy f far h.bell)

-- at the definition's turn
kept_at : Laws → (u : Setup) (f : Fixed) (far : FarSide) (h : Words) (d : Driver) (v : Side) → IsSetup u → IsSideOf u f v → HasRoom d v → DriverInvariant u d v → AreFairWords v h.two → v.heard ≤ h.bell
    → (d.done ≡ false → HeardBy f far h.bell)
    → Kept u f far d v (turn_of u h (record { driver = d; side = v })).driver (turn_of u h (record { driver = d; side = v })).side (turn_of u h (record { driver = d; side = v })).answer
kept_at laws u f far h d v setup side room i fair later heard =
    let l = leaves laws u h d v later in
    record {
      invariant = laws.keeps u h d v setup side.size fair later i;
      cause = laws.causes u h d v i.in_step.next;
      few = laws.few u h (record { driver = d; side = v });
      hears = λ e. (laws.hears u h d v e).hears;
      heard = λ e. subst (λ (n : ℕ). HeardBy f far n) (sym (laws.hears u h d v e).heard) (heard e);
      later = l.later;
      room = laws.falls u h d v room;
      buckets = l.buckets;
      buffer = l.buffer;
      closed = laws.closes u h (record { driver = d; side = v });
    }

-- at what the code gave
kept_given : Laws → (u : Setup) (f : Fixed) (far : FarSide) (d : Driver) (v : Side) (said : Turn) (e : Driver) (w : Side) → IsSetup u → IsSideOf u f v → HasRoom d v → DriverInvariant u d v
    → Gave u f far d v said e w → Kept u f far d v e w said
kept_given laws u f far d v said e w setup side room i given =
    let t = turn_of u given.0 (record { driver = d; side = v }) in
    subst (λ (a : Turn). Kept u f far d v e w a) (sym given.1.0) (subst (λ (z : Driver). Kept u f far d v z w t.answer) (sym given.1.1) (subst (λ (z : Side). Kept u f far d v t.driver z t.answer) (sym given.1.2)
    (kept_at laws u f far given.0 d v setup side room i given.2 given.3 given.4)))

-- the same, where the lane's fields stand for what is seen before (r) and after (q)
pub kept_lane : Laws → (r s q : Seen) (f : Fixed) (far : FarSide) (v : Side) (said : Turn) (w : Side) → r ≡ s → q.setup ≡ r.setup → IsSetup r.setup → IsSideOf s.setup f v → HasRoom s.driver v → DriverInvariant s.setup s.driver v
    → Gave r.setup f far r.driver v said q.driver w → Kept s.setup f far s.driver v q.driver w said × DriverInvariant q.setup q.driver w
kept_lane laws r s q f far v said w is same setup side room i given =
    let k = kept_given laws s.setup f far s.driver v said q.driver w (subst (λ (z : Seen). IsSetup z.setup) is setup) side room i
    (subst (λ (z : Seen). Gave z.setup f far z.driver v said q.driver w) is given) in
    (k, subst (λ (z : Setup). DriverInvariant z q.driver w) (sym same) (subst (λ (z : Seen). DriverInvariant z.setup q.driver w) (sym is) k.invariant))
