-- A plain side hands its values over as its words say, between any two calls.
use Rattle.std.proofs.Common.{◌≡◌, ℕ, List, length, refl, arith, inl, inr}
use Rattle.sample_key.specs.Sent.{Sent}
use Rattle.sample_key.specs.declared.batches.Parcel.{Parcel}
use Rattle.lane_side.specs.Handing.{CellHandsOver, HandsOver}
use Rattle.lane_side.specs.Plain.{PlainParts, handed_in, slot_in, far_slot_in, seen_of, far_of, BufferHome, TableHome, StateIs, IsPlain}
use Rattle.lane_side.specs.Calls.{buffer_sent, table_sent}
use Rattle.lane_side.specs.declared.cells.Holder.{Holder}
use Rattle.lane_side.specs.declared.cells.Holder.TheVariants.{AtHome, WithDriver, Posted, WithDaemon}
use Rattle.lane_side.proofs.CellLemmas.{all_but}
use Rattle.lane_side.proofs.PlainLemmas.{Posted0, Posted2, Gone2}

-- where the value of a cell is says how it is handed over
state_over : {B : Type 0} (hs : List Sent) (sent : Parcel B → Sent) (home : B → Type 0) (posted : Parcel B → Type 0) (gone : Type 0) (h g tries read : ℕ) (s : Holder B)
    → h ≡ length hs → StateIs hs sent home posted gone h g s → CellHandsOver (slot_in hs s tries read) (far_slot_in hs s) g
state_over hs sent home posted gone h g tries read (AtHome x) e i = record {
  handover = record { counted = refl; home = λ z. (omega (arith, e, i.0), refl); out = λ z. absurd (omega (arith, e, i.0, z)); driver = λ z. cc; daemon = λ z. cc };
  waits = λ z y. absurd (omega (arith, e, i.0, z));
}
state_over hs sent home posted gone h g tries read WithDriver e i = record {
  handover = record { counted = refl; home = λ z. (omega (arith, e, i), refl); out = λ z. absurd (omega (arith, e, i, z)); driver = λ z. omega (arith, e, i); daemon = λ z. cc };
  waits = λ z y. absurd (omega (arith, e, i, z));
}
state_over hs sent home posted gone h g tries read (Posted q) e i =
    let all = all_but hs i.2.0 (sent q) i.2.1 in
    record {
      handover = record { counted = refl; home = λ z. absurd (omega (arith, e, i.0, z)); out = λ z. (omega (arith, e, i.0), inr (sent q, all)); driver = λ z. cc; daemon = λ z. cc };
      waits = λ z y. (sent q, all);
    }
state_over hs sent home posted gone h g tries read WithDaemon e i = record {
  handover = record { counted = refl; home = λ z. absurd (omega (arith, e, i.0, z)); out = λ z. (omega (arith, e, i.0), inl refl); driver = λ z. cc; daemon = λ z. (omega (arith, e, i.0), refl) };
  waits = λ z y. cc;
}

-- a plain side hands over
pub plain_over : (p : PlainParts) → IsPlain p → HandsOver (seen_of p) (far_of p)
plain_over p i = record {
  cells = record {
    first = state_over (handed_in 0 p.history.sent) buffer_sent (BufferHome p.buffer) (Posted0 0 p) (Unit {0}) p.first.hands p.first.given p.tallies.tries0 p.tallies.read0 p.first.holder i.first.hands i.first.state;
    second = state_over (handed_in 1 p.history.sent) buffer_sent (BufferHome p.buffer) (Posted0 1 p) (Unit {0}) p.second.hands p.second.given p.tallies.tries1 p.tallies.read1 p.second.holder i.second.hands i.second.state;
    third = state_over (handed_in 2 p.history.sent) table_sent (TableHome p.buckets p.tallies.turn) (Posted2 p) (Gone2 p) p.third.hands p.third.given p.tallies.tries2 p.tallies.read2 p.third.holder i.third.hands i.third.state;
  };
  bell = record {
    last = refl;
    rising = i.rising;
    bound = omega (arith, i.bound, i.bell);
    behind = omega (arith, i.heard, i.bell);
    known = i.known;
  };
}
