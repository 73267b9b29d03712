-- One cell of a plain side, for values of any type: what a look, a poll, a hand and a give-back make of it.
use Rattle.std.proofs.Common.{◌≡◌, ℕ, ◌+◌, ◌%◌, ◌*◌, ◌^◌, ◌<◌, ◌≤◌, List, [], ◌∷◌, ◌++◌, length, refl, sym, ◌∙◌, ap, subst, arith, Bool, true, false, cond, eqb, eq-eqb, ne_eqb, length-append}
use Rattle.std.proofs.lemmas.Bool.{cond-true, cond-false}
use Rattle.sample_key.specs.Sent.{Sent}
use Rattle.sample_key.specs.declared.batches.Parcel.{Parcel}
use Rattle.driver_model.specs.Sides.{is_even}
use Rattle.turn_cell.specs.Parcels.{MatchLook, MatchPoll}
use Rattle.lane_side.specs.Cells.{is_drivers, is_daemons, after_look, look_of, poll_of, cell_of}
use Rattle.lane_side.specs.Plain.{handed_in, without_last, taken_in, StateIs, IsCell}
use Rattle.lane_side.specs.declared.cells.Holder.{Holder}
use Rattle.lane_side.specs.declared.cells.Holder.TheVariants.{AtHome, WithDriver, Posted, WithDaemon}
use Rattle.lane_side.specs.declared.cells.Cell.{Cell}

-- the word of a value at home is even
even_word : (h g : ℕ) → g ≡ h → is_even (h + g) ≡ true
even_word h g e = eq-eqb ((h + g) % 2) 0 (omega (arith, e))

home_word : (h g : ℕ) → g ≡ h → (h + g) % 2 ≡ 0
home_word h g e = omega (arith, e)

-- that of one that is out is odd
odd_word : (h g : ℕ) → g + 1 ≡ h → is_even (h + g) ≡ false
odd_word h g e = ne_eqb ((h + g) % 2) 0 (λ z. omega (arith, e, z))

out_word : (h g : ℕ) → g + 1 ≡ h → (h + g) % 2 ≡ 1
out_word h g e = omega (arith, e)

-- the batches of a cell, after one more
pub own_push : (n : ℕ) (bs : List Sent) (b : Sent) → b.note.cell ≡ n → handed_in n (bs ++ b ∷ []) ≡ handed_in n bs ++ b ∷ []
own_push n [] b h = cond-true (eqb b.note.cell n) (b ∷ []) [] (eq-eqb b.note.cell n h)
own_push n (c ∷ bs) b h = kept_both (eqb c.note.cell n) c (handed_in n (bs ++ b ∷ [])) (handed_in n bs) b (own_push n bs b h)
  where
    kept_both : (t : Bool) (c : Sent) (x y : List Sent) (b : Sent) → x ≡ y ++ b ∷ [] → cond t (c ∷ x) x ≡ cond t (c ∷ y) y ++ b ∷ []
    kept_both true c x y b e = ap {B = List Sent} (λ (z : List Sent). c ∷ z) e
    kept_both false c x y b e = e

pub other_push : (n : ℕ) (bs : List Sent) (b : Sent) → (b.note.cell ≡ n → ⊥) → handed_in n (bs ++ b ∷ []) ≡ handed_in n bs
other_push n [] b h = cond-false (eqb b.note.cell n) (b ∷ []) [] (ne_eqb b.note.cell n h)
other_push n (c ∷ bs) b h = ap (λ (z : List Sent). cond (eqb c.note.cell n) (c ∷ z) z) (other_push n bs b h)

-- all but the last of a list
pub without-push : (bs : List Sent) (b : Sent) → without_last (bs ++ b ∷ []) ≡ bs
without-push [] b = refl
without-push (c ∷ []) b = refl
without-push (c ∷ d ∷ bs) b = ap {B = List Sent} (λ (z : List Sent). c ∷ z) (without-push (d ∷ bs) b)

-- what the last batch of a list leaves
pub all_but : (hs front : List Sent) (b : Sent) → hs ≡ front ++ b ∷ [] → hs ≡ without_last hs ++ b ∷ []
all_but hs front b e = e ∙ ap (λ (z : List Sent). z ++ b ∷ []) (sym (ap without_last e ∙ without-push front b))

-- what a look finds at a cell
pub record LookFinds {B : Type 0} (hs : List Sent) (home : B → Type 0) (h g : ℕ) (s : Holder B) : Type 0 where
  pub holds : is_drivers (after_look s) ≡ is_even (h + g)
  pub taken : taken_in hs (after_look s) ≡ taken_in hs s
  pub far : is_daemons (after_look s) ≡ is_daemons s
  pub told : h + g ≡ length hs + g
  pub cause : MatchLook (look_of (h + g) s) (λ x. ((h + g) % 2 ≡ 0) × home x) (λ w. (w ≡ h + g) × ((h + g) % 2 ≡ 1) × (h + g + 1 ≡ 2 * length hs))

-- a cell was looked at
pub look_cell : {B : Type 0} (hs : List Sent) (sent : Parcel B → Sent) (home : B → Type 0) (posted : Parcel B → Type 0) (gone : Type 0) (h g : ℕ) (s : Holder B)
    → is_drivers s ≡ false → IsCell hs sent home posted gone (cell_of h g s) → IsCell hs sent home posted gone (cell_of h g (after_look s)) × LookFinds hs home h g s
look_cell hs sent home posted gone h g (AtHome x) free i = (
  record { hands = i.hands; bound = i.bound; state = i.state.0 },
  record { holds = sym (even_word h g i.state.0); taken = refl; far = refl; told = omega (arith, i.hands); cause = (home_word h g i.state.0, i.state.1) },
)
look_cell hs sent home posted gone h g WithDriver free i = cc
look_cell hs sent home posted gone h g s free i = (
  i,
  record {
    holds = sym (odd_word h g i.state.0);
    taken = refl;
    far = refl;
    told = omega (arith, i.hands);
    cause = (refl, out_word h g i.state.0, omega (arith, i.state.0, i.hands));
  },
)

-- what a poll finds at a cell
pub record PollFinds {B : Type 0} (hs : List Sent) (sent : Parcel B → Sent) (posted : Parcel B → Type 0) (h g : ℕ) (s : Holder B) : Type 0 where
  pub told : h + g ≡ length hs + g
  pub cause : MatchPoll (poll_of (h + g) s)
      (λ q. ((h + g) % 2 ≡ 1) × posted q × ((front : List Sent) × (hs ≡ front ++ sent q ∷ [])) × (hs ≡ taken_in hs s ++ sent q ∷ []))
      (λ w. (w ≡ h + g) × ((h + g) % 2 ≡ 0))

-- a cell was polled
pub poll_cell : {B : Type 0} (hs : List Sent) (sent : Parcel B → Sent) (home : B → Type 0) (posted : Parcel B → Type 0) (gone : Type 0) (h g : ℕ) (s : Holder B)
    → is_daemons s ≡ false → IsCell hs sent home posted gone (cell_of h g s) → PollFinds hs sent posted h g s
poll_cell hs sent home posted gone h g (AtHome x) free i = record { told = omega (arith, i.hands); cause = (refl, home_word h g i.state.0) }
poll_cell hs sent home posted gone h g WithDriver free i = record { told = omega (arith, i.hands); cause = (refl, home_word h g i.state) }
poll_cell hs sent home posted gone h g (Posted q) free i = record {
  told = omega (arith, i.hands);
  cause = (out_word h g i.state.0, i.state.1, i.state.2, all_but hs i.state.2.0 (sent q) i.state.2.1);
}
poll_cell hs sent home posted gone h g WithDaemon free i = cc

-- a cell was handed: the facts of its values may change with it
pub hand_cell : {B : Type 0} (hs new : List Sent) (sent : Parcel B → Sent) (home home2 : B → Type 0) (posted posted2 : Parcel B → Type 0) (gone gone2 : Type 0) (c : Cell B) (q : Parcel B)
    → is_drivers c.holder ≡ true → length hs < 2 ^ 62 → posted2 q → new ≡ hs ++ sent q ∷ [] → IsCell hs sent home posted gone c
    → IsCell new sent home2 posted2 gone2 (cell_of (c.hands + 1) c.given (Posted q))
hand_cell {B = B} hs new sent home home2 posted posted2 gone gone2 c q holds few keeps e i = record {
  hands = omega (arith, i.hands, ap (λ (z : List Sent). length z) e, length-append hs (sent q ∷ []));
  bound = omega (arith, few, i.hands);
  state = (omega (arith, given_home c.hands c.given c.holder holds i.state), keeps, (hs, e));
}
  where
    given_home : (h g : ℕ) (s : Holder B) → is_drivers s ≡ true → StateIs hs sent home posted gone h g s → g ≡ h
    given_home h g (AtHome x) holds i = cc
    given_home h g WithDriver holds i = i
    given_home h g (Posted p) holds i = cc
    given_home h g WithDaemon holds i = cc

-- a cell that was handed, as the daemon sees it
pub hand_far : {B : Type 0} (hs new : List Sent) (s : Holder B) (b : Sent) → is_drivers s ≡ true → new ≡ hs ++ b ∷ [] → (without_last new ≡ taken_in hs s) × (false ≡ is_daemons s)
hand_far hs new (AtHome x) b holds e = cc
hand_far hs new WithDriver b holds e = (ap without_last e ∙ without-push hs b, refl)
hand_far hs new (Posted q) b holds e = cc
hand_far hs new WithDaemon b holds e = cc

-- a value was given back
pub give_cell : {B : Type 0} (hs : List Sent) (sent : Parcel B → Sent) (home : B → Type 0) (posted : Parcel B → Type 0) (gone : Type 0) (h g : ℕ) (x : B)
    → home x → IsCell hs sent home posted gone (cell_of h g WithDaemon) → IsCell hs sent home posted gone (cell_of h (g + 1) (AtHome x))
give_cell hs sent home posted gone h g x keeps i = record { hands = i.hands; bound = i.bound; state = (omega (arith, i.state.0), keeps) }

-- a cell of which the batches are written otherwise
pub along_cell : {B : Type 0} (hs new : List Sent) (sent : Parcel B → Sent) (home : B → Type 0) (posted : Parcel B → Type 0) (gone : Type 0) (c : Cell B)
    → new ≡ hs → IsCell hs sent home posted gone c → IsCell new sent home posted gone c
along_cell hs new sent home posted gone c e i = subst (λ (z : List Sent). IsCell z sent home posted gone c) (sym e) i

-- a cell of which the facts of the parcels that wait change
pub later_cell : {B : Type 0} (hs : List Sent) (sent : Parcel B → Sent) (home : B → Type 0) (posted posted2 : Parcel B → Type 0) (gone : Type 0) (c : Cell B)
    → ((q : Parcel B) → posted q → posted2 q) → IsCell hs sent home posted gone c → IsCell hs sent home posted2 gone c
later_cell {B = B} hs sent home posted posted2 gone c f i = record { hands = i.hands; bound = i.bound; state = state_map c.hands c.given c.holder i.state }
  where
    state_map : (h g : ℕ) (s : Holder B) → StateIs hs sent home posted gone h g s → StateIs hs sent home posted2 gone h g s
    state_map h g (AtHome x) i = i
    state_map h g WithDriver i = i
    state_map h g (Posted q) i = (i.0, f q i.1, i.2)
    state_map h g WithDaemon i = i

-- whose value it is
pub daemons_state : {B : Type 0} (s : Holder B) → is_daemons s ≡ true → s ≡ WithDaemon
daemons_state (AtHome x) h = cc
daemons_state WithDriver h = cc
daemons_state (Posted q) h = cc
daemons_state WithDaemon h = refl

-- the word of a cell fits
pub word_fits : {B : Type 0} (hs : List Sent) (sent : Parcel B → Sent) (home : B → Type 0) (posted : Parcel B → Type 0) (gone : Type 0) (h g : ℕ) (s : Holder B)
    → h ≤ 2 ^ 62 → StateIs hs sent home posted gone h g s → (h + g ≤ 2 ^ 63) × (g ≤ 2 ^ 62)
word_fits hs sent home posted gone h g (AtHome x) l i = (omega (arith, i.0), omega (arith, i.0))
word_fits hs sent home posted gone h g WithDriver l i = (omega (arith, i), omega (arith, i))
word_fits hs sent home posted gone h g (Posted q) l i = (omega (arith, i.0), omega (arith, i.0))
word_fits hs sent home posted gone h g WithDaemon l i = (omega (arith, i.0), omega (arith, i.0))
