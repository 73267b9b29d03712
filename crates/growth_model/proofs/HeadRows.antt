-- The head to which a head grows is determined.
use Rattle.std.proofs.Common.{◌≡◌, inl, inr, ℕ, zero, suc, List, ◌++◌, sym, ◌∙◌, ap, subst, Some, Option}
use Rattle.trace_model.specs.declared.notices.Record.{Record}
use Rattle.database_model.specs.Runs.{Segment, Recorded}
use Rattle.run_model.specs.Shares.{segment_of}
use Rattle.database_state.specs.Heads.{Head}
use Rattle.database_state.specs.Rows.{known_before, known_same, unknown_before, unknown_same, known_row, unknown_row}
use Rattle.growth_model.specs.Additions.{Additions, additions_of}
use Rattle.growth_model.specs.Growth.{IsNewName, IsCounted}
use Rattle.growth_model.specs.Grown.{epoch_after_parts}
use Rattle.growth_model.specs.Fitting.{IsCountedAt, RowGrows, known_written, unknown_written, HeadGrows, HeadGrowsTo}
use Rattle.growth_model.proofs.Determined.{selected_once}
use Rattle.database_state.proofs.RowOrders.{known_order, unknown_order}
use Rattle.growth_model.proofs.Places.{rows_are_found}

row_once : {R : Type 0} (Is Was : Type 0) (written again : R) (before after other : Option R) → (Is → Was) → (Was → Is)
    → written ≡ again → RowGrows Is written before after → RowGrows Was again before other → after ≡ other
row_once {R} Is Was written again before after other on back same (inl a) (inl b) =
    a.1 ∙ ap {B = Option R} (λ (z : R). Some z) same ∙ sym b.1
row_once Is Was written again before after other on back same (inl a) (inr b) = absurd (b.0 (on a.0))
row_once Is Was written again before after other on back same (inr a) (inl b) = absurd (a.0 (back b.0))
row_once Is Was written again before after other on back same (inr a) (inr b) = a.1 ∙ sym b.1

pub one_head : (images : List (List ℕ)) (added : Additions) (epoch : ℕ) (segment : Segment) (head new other : Head)
    → HeadGrows images added epoch segment head new → HeadGrows images added epoch segment head other → new ≡ other
one_head images added epoch segment head new other a b =
    let more : a.more ≡ b.more = selected_once (IsNewName head.names added) images a.more b.more a.chosen b.chosen in
    let generation : new.generation ≡ other.generation = a.generation ∙ sym b.generation in
    let last : new.epoch ≡ other.epoch = a.last_epoch ∙ sym b.last_epoch in
    let runs : new.runs ≡ other.runs = a.runs ∙ sym b.runs in
    let names : new.names ≡ other.names = a.names ∙ ap {B = List (List ℕ)} (λ (z : List (List ℕ)). head.names ++ z) more ∙ sym b.names in
    let found : (e image event : ℕ) → known_row new.known e image event ≡ known_row other.known e image event = λ e image event.
    row_once (IsCountedAt added new.names e image event) (IsCountedAt added other.names e image event)
    (known_written e image event new.generation) (known_written e image event other.generation)
    (known_row head.known e image event) (known_row new.known e image event) (known_row other.known e image event)
    (λ is. subst (λ (z : List (List ℕ)). IsCountedAt added z e image event) names is)
    (λ is. subst (λ (z : List (List ℕ)). IsCountedAt added z e image event) (sym names) is)
    (λ i. known_written e image event (generation i)) (a.known e image event) (b.known e image event) in
    let found_unknown : (e event : ℕ) → unknown_row new.unknown e event ≡ unknown_row other.unknown e event = λ e event.
    row_once (IsCounted (added.unknown e event)) (IsCounted (added.unknown e event))
    (unknown_written e event new.generation) (unknown_written e event other.generation)
    (unknown_row head.unknown e event) (unknown_row new.unknown e event) (unknown_row other.unknown e event)
    (λ is. is) (λ is. is) (λ i. unknown_written e event (generation i)) (a.unknown e event) (b.unknown e event) in
    let known : new.known ≡ other.known = rows_are_found known_before known_same known_order new.known other.known
    a.known_order b.known_order (λ p. found p.epoch p.image p.event) in
    let unknown : new.unknown ≡ other.unknown = rows_are_found unknown_before unknown_same unknown_order new.unknown other.unknown
    a.unknown_order b.unknown_order (λ p. found_unknown p.epoch p.event) in
    λ i. record {
      generation = generation i;
      epoch = last i;
      runs = runs i;
      names = names i;
      known = known i;
      unknown = unknown i;
    }

pub first_heads : (images : List (List ℕ)) (records : List Record) (kept : Recorded) (parts : ℕ) (head new other : Head)
    → HeadGrowsTo images records kept parts head new → HeadGrowsTo images records kept parts head other → new ≡ other
first_heads images records kept zero head new other a b = a ∙ sym b
first_heads images records kept (suc part) head new other a b =
    let added = additions_of images records (segment_of records kept part).drains in
    let epoch = epoch_after_parts kept.first_epoch records (suc part) in
    let segment = segment_of records kept part in
    let same : a.0 ≡ b.0 = first_heads images records kept part head a.0 b.0 a.1 b.1 in
    let by : HeadGrows images added epoch segment a.0 other =
    subst (λ (h : Head). HeadGrows images added epoch segment h other) (sym same) b.2 in
    one_head images added epoch segment a.0 new other a.2 by
