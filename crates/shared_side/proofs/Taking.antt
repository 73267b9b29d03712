-- What a parcel that was taken keeps, once what its driver had heard was met.
use Rattle.std.proofs.Common.{◌≡◌, ℕ, ◌/◌, ◌≤◌, List, length, sym, ◌∙◌, subst, arith}
use Rattle.std.specs.Prelude.{Option, Some, None, IsSomeAnd}
use Rattle.sample_key.specs.Headers.{Header}
use Rattle.sample_key.specs.Marks.{due}
use Rattle.sample_key.specs.declared.keys.Marked.{Marked}
use Rattle.driver_model.specs.Table.{Table, entries_in}
use Rattle.driver_model.specs.Handover.{rung_of, WasRung}
use Rattle.driver_laws.proofs.Marks.{due_later}
use Rattle.overflow_pair.specs.Contents.{Contents}
use Rattle.lane_side.specs.Fixed.{Fixed}
use Rattle.lane_side.specs.Calls.{KeepsNote}
use Rattle.turn_cell.specs.Doorbell.{last_rung}
use Rattle.turn_cell.specs.Ends.{NoteSeen}
use Rattle.turn_cell.specs.declared.passing.Parcel.{Parcel}
use Rattle.shared_side.specs.Carrying.{IsHeardNote, IsKeptBuffer, IsKeptTable, header_in}
use Rattle.shared_side.specs.Passing.{WasHeard}
use Rattle.shared_side.specs.declared.carried.Carried.{Carried}
use Rattle.shared_side.specs.declared.carried.CellKey.{CellKey}
use Rattle.shared_side.proofs.Rung.{same_last, same_rung}

-- both options are filled, so what holds of their contents holds of the note
filled : (note : Option Header) (heard : Option NoteSeen) (F : Header → NoteSeen → Type 0) (G : NoteSeen → Type 0) (R : Header → Type 0)
    → IsSomeAnd note (λ n. IsSomeAnd heard (λ h. F n h)) → IsSomeAnd heard G → ((n : Header) (h : NoteSeen) → F n h → G h → R n) → R (header_in note)
filled None heard F G R f g k = absurd f
filled (Some n) None F G R f g k = absurd f
filled (Some n) (Some h) F G R f g k = k n h f g

-- the note of a cell that belongs to this side
keeps_note : (key : CellKey) (number count : ℕ) (fixed : Fixed) (rungs : List ℕ) (n : Header) (h : NoteSeen) → key.cpu ≡ fixed.cpu → key.cell ≡ number → key.samples.value.items ≡ fixed.samples
    → IsHeardNote key count n h → h.value ≤ last_rung rungs → KeepsNote number count fixed rungs n
keeps_note key number count fixed rungs n h cpu cell samples f below =
    let due_then : n.upto ≤ due fixed.samples (h.value / 2) = subst (λ (s : List Marked). n.upto ≤ due s (h.value / 2)) samples f.upto in
    record {
      cpu = f.cpu ∙ cpu;
      cell = f.cell ∙ cell;
      entries = f.entries;
      upto = omega (arith, due_then, due_later fixed.samples (h.value / 2) (rung_of rungs / 2) (omega (arith, below, same_last rungs)));
    }

-- a buffer that was taken
pub taken_buffer : (key : CellKey) (number : ℕ) (fixed : Fixed) (rungs : List ℕ) (p : Parcel (Carried Contents)) → key.cpu ≡ fixed.cpu → key.cell ≡ number → key.samples.value.items ≡ fixed.samples
    → IsKeptBuffer key p → WasHeard rungs p
    → KeepsNote number (length p.value.body.entries) fixed rungs (header_in p.value.note) × ((header_in p.value.note).answers ≡ 0) × (p.value.body.size ≡ key.made)
taken_buffer key number fixed rungs p cpu cell samples kept met =
    filled p.value.note p.value.heard _ _ (λ n. KeepsNote number (length p.value.body.entries) fixed rungs n × (n.answers ≡ 0) × (p.value.body.size ≡ key.made)) kept met
    (λ n h f g. (keeps_note key number (length p.value.body.entries) fixed rungs n h cpu cell samples f.0 g.1, f.1, f.2))

-- a table that was taken
pub taken_table : (key : CellKey) (number : ℕ) (fixed : Fixed) (rungs : List ℕ) (p : Parcel (Carried Table)) → key.cpu ≡ fixed.cpu → key.cell ≡ number → key.samples.value.items ≡ fixed.samples
    → IsKeptTable key p → WasHeard rungs p
    → KeepsNote number (length (entries_in p.value.body)) fixed rungs (header_in p.value.note) × WasRung (header_in p.value.note).answers rungs × (length p.value.body.rows ≡ key.made)
taken_table key number fixed rungs p cpu cell samples kept met =
    filled p.value.note p.value.heard _ _ (λ n. KeepsNote number (length (entries_in p.value.body)) fixed rungs n × WasRung n.answers rungs × (length p.value.body.rows ≡ key.made)) kept met
    (λ n h f g. (keeps_note key number (length (entries_in p.value.body)) fixed rungs n h cpu cell samples f.0 g.1, subst (λ (w : ℕ). WasRung w rungs) (sym f.1) (same_rung rungs h.value g.0), f.2))
