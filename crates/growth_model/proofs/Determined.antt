-- What a database grows to is determined.
use Rattle.std.proofs.Common.{◌≡◌, ℕ, zero, suc, List, ◌++◌, refl, sym, ◌∙◌, ap, subst, Bool, true, false, Some, None, Option}
use Rattle.std.specs.Prelude.{filter}
use Rattle.trace_model.specs.declared.notices.Record.{Record}
use Rattle.database_model.specs.declared.profiles.ProfileRow.{ProfileRow}
use Rattle.database_model.specs.Runs.{Segment, Recorded}
use Rattle.run_model.specs.Shares.{segment_of}
use Rattle.database_state.specs.Database.{Database}
use Rattle.growth_model.specs.Additions.{Additions}
use Rattle.growth_model.specs.Growth.{IsGrown, Selects, Grows, GrowsByPart, IsNewName}
use Rattle.growth_model.specs.Grown.{GrowsTo, Grown, epoch_after_parts}
use Rattle.growth_model.proofs.Rises.{rows_are_one}

same_test : {Q : Type 0} (a b : Bool) → (a ≡ true → Q) → (a ≡ false → Q → ⊥) → (b ≡ true → Q) → (b ≡ false → Q → ⊥) → a ≡ b
same_test true true a_holds a_fails b_holds b_fails = refl
same_test false false a_holds a_fails b_holds b_fails = refl
same_test true false a_holds a_fails b_holds b_fails = absurd (b_fails refl (a_holds refl))
same_test false true a_holds a_fails b_holds b_fails = absurd (a_fails refl (b_holds refl))

pub selected_once : {X : Type 0} (P : X → Type 0) (all some other : List X) → Selects P all some → Selects P all other → some ≡ other
selected_once {X} P all some other a b =
    let tests : (x : X) → a.test x ≡ b.test x = λ x. same_test (a.test x) (b.test x) (a.holds x) (a.fails x) (b.holds x) (b.fails x) in
    let same : filter a.test all ≡ filter b.test all = λ i. filter (λ x. tests x i) all in
    a.list ∙ same ∙ sym b.list

grown_once : (added : ℕ → ℕ) (before after other : Option (List ProfileRow)) → IsGrown added before after → IsGrown added before other → after ≡ other
grown_once added None after other a b = a.1 ∙ sym b.1
grown_once added (Some rows) after other a b =
    let same : a.0 ≡ b.0 = rows_are_one a.0 b.0 a.2.are_rows b.2.are_rows (λ offset. a.2.counts offset ∙ sym (b.2.counts offset)) in
    a.1 ∙ ap {B = Option (List ProfileRow)} (λ (z : List ProfileRow). Some z) same ∙ sym b.1

pub one_part : (images : List (List ℕ)) (added : Additions) (epoch : ℕ) (segment : Segment) (db new other : Database)
    → Grows images added epoch segment db new → Grows images added epoch segment db other → new ≡ other
one_part images added epoch segment db new other a b =
    let more : a.more ≡ b.more = selected_once (IsNewName db.names added) images a.more b.more a.chosen b.chosen in
    let last : new.last_epoch ≡ other.last_epoch = a.last_epoch ∙ sym b.last_epoch in
    let runs : new.runs ≡ other.runs = a.runs ∙ sym b.runs in
    let names : new.names ≡ other.names = a.names ∙ ap {B = List (List ℕ)} (λ (z : List (List ℕ)). db.names ++ z) more ∙ sym b.names in
    let known : (e : ℕ) (name : List ℕ) (event : ℕ) → new.known e name event ≡ other.known e name event = λ e name event.
    grown_once (added.known e name event) (db.known e name event) (new.known e name event) (other.known e name event) (a.known e name event) (b.known e name event) in
    let unknown : (e event : ℕ) → new.unknown e event ≡ other.unknown e event = λ e event.
    grown_once (added.unknown e event) (db.unknown e event) (new.unknown e event) (other.unknown e event) (a.unknown e event) (b.unknown e event) in
    let segments : new.segments ≡ other.segments = a.segments ∙ sym b.segments in
    λ i. record {
      last_epoch = last i;
      runs = runs i;
      names = names i;
      known = λ e name event. known e name event i;
      unknown = λ e event. unknown e event i;
      segments = segments i;
    }

first_parts_from : (images : List (List ℕ)) (records : List Record) (kept : Recorded) (parts : ℕ) (db new other : Database)
    → GrowsTo images records kept parts db new → GrowsTo images records kept parts db other → new ≡ other
first_parts_from images records kept zero db new other a b = a ∙ sym b
first_parts_from images records kept (suc part) db new other a b =
    let epoch = epoch_after_parts kept.first_epoch records (suc part) in
    let same : a.0 ≡ b.0 = first_parts_from images records kept part db a.0 b.0 a.1 b.1 in
    let by : GrowsByPart images records epoch (segment_of records kept part) a.0 other =
    subst (λ (d : Database). GrowsByPart images records epoch (segment_of records kept part) d other) (sym same) b.2 in
    one_part images _ epoch (segment_of records kept part) a.0 new other a.2 by

pub first_parts : (images : List (List ℕ)) (records : List Record) (kept : Recorded) (parts : ℕ) (db new other : Database)
    → Grown images records kept parts db new → Grown images records kept parts db other → new ≡ other
first_parts images records kept parts db new other a b = first_parts_from images records kept parts db new other a.steps b.steps
