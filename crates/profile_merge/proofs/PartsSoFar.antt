-- The parts so far, and what reading the file of a profile gives.
use Rattle.std.proofs.Common.{◌≡◌, ℕ, ◌⊎◌, inl, inr, Bool, true, false, cond, List, [], ◌∷◌, Option, None, Some, refl, sym, ap, ◌∙◌, subst}
use Rattle.std.specs.Prelude.{is_some, Ok, Err}
use Rattle.std.specs.declared.result.Result.{Result}
use Rattle.std.specs.Map.{lookup}
use Rattle.std.specs.BTreeMap.{is_at}
use Rattle.store_io.specs.Files.{Files}
use Rattle.sample_key.specs.declared.events.Event.{Event}
use Rattle.sample_key.specs.Events.{code_of}
use Rattle.database_model.specs.declared.profiles.ProfileRow.{ProfileRow}
use Rattle.database_state.specs.Heads.{Head}
use Rattle.database_state.specs.Standing.{known_at, unknown_at}
use Rattle.database_state.specs.Rows.{known_row, unknown_row}
use Rattle.database_state.specs.declared.rows.KnownRow.{KnownRow}
use Rattle.database_state.specs.declared.rows.UnknownRow.{UnknownRow}
use Rattle.database_state.specs.declared.faults.DbFault.{DbFault}
use Rattle.database_state.specs.declared.faults.DbFault.TheVariants.{StoreFault, Bad, Full, Memory}
use Rattle.epoch_store.specs.Reading.{ReadsKnown, ReadsUnknown}
use Rattle.profile_merge.specs.declared.owners.Owner.{Owner}
use Rattle.profile_merge.specs.declared.owners.Owner.TheVariants.{Known, Unknown}
use Rattle.profile_merge.specs.Sums.{Collected, Counts, same_owner}
use Rattle.profile_merge.specs.Numbering.{renumbered}
use Rattle.profile_merge.specs.Renewing.{Parts, IsGathered, ArePartsOf, HoldsAs}
use Rattle.profile_merge.proofs.OwnerOrder.{owner_cmp, at_is_same, same_itself, same_equal}

-- those left have no part yet
pub record PartsSoFar (numbers : List ℕ) (collected left : Collected) (parts : Parts) : Type 0 where
  pub within : (from : Owner) → IsGathered left from → IsGathered collected from
  pub found : (owner from : Owner) → lookup (same_owner owner) parts ≡ Some from → (renumbered numbers from ≡ owner) × IsGathered collected from
  pub has : (from : Owner) → IsGathered collected from → IsGathered left from ⊎ (is_some (lookup (same_owner (renumbered numbers from)) parts) ≡ true)

pub no_parts : (numbers : List ℕ) (collected : Collected) → PartsSoFar numbers collected collected []
no_parts numbers collected = record {
  within = λ from is. is;
  found = λ owner from is. absurd cc;
  has = λ from is. inl is;
}

pub all_parts : (numbers : List ℕ) (collected : Collected) (parts : Parts) → PartsSoFar numbers collected [] parts → ArePartsOf numbers collected parts
all_parts numbers collected parts so = record {
  found = so.found;
  has = λ from is. elim (so.has from is) [ inl none ↦ absurd cc | inr some ↦ some ];
}

either_some : {X : Type 0} (b : Bool) (x : X) (o : Option X) → is_some o ≡ true → is_some (cond b (Some x) o) ≡ true
either_some true x o is = refl
either_some false x o is = is

found_by : (b : Bool) (numbers : List ℕ) (collected : Collected) (q e p : Owner) (o : Option Owner) → (b ≡ true → (renumbered numbers e ≡ q) × IsGathered collected e) → (o ≡ Some p → (renumbered numbers p ≡ q) × IsGathered collected p)
    → cond b (Some e) o ≡ Some p → (renumbered numbers p ≡ q) × IsGathered collected p
found_by true numbers collected q e p o here there is = let same : e ≡ p = cc in subst (λ (x : Owner). (renumbered numbers x ≡ q) × IsGathered collected x) same (here refl)
found_by false numbers collected q e p o here there is = there is

has_by : (b : Bool) (e p : Owner) (s : Counts) (o : Option Counts) (G : Type 0) → (b ≡ true → G) → is_some (cond b (Some s) o) ≡ true → (is_some o ≡ true) ⊎ G
has_by true e p s o G here is = inr (here refl)
has_by false e p s o G here is = inl is

pub one_part : (numbers : List ℕ) (collected left : Collected) (e : Owner × Counts) (parts after : Parts)
    → ((q : Owner) → lookup (is_at (owner_cmp q)) after ≡ cond (is_at (owner_cmp (renumbered numbers e.0)) q) (Some e.0) (lookup (is_at (owner_cmp q)) parts))
    → PartsSoFar numbers collected (e ∷ left) parts → PartsSoFar numbers collected left after
one_part numbers collected left e parts after updates so =
    let own : IsGathered collected e.0 = so.within e.0 (ap (λ (b : Bool). is_some (cond b (Some e.1) (lookup (same_owner e.0) left))) (same_itself e.0)) in
    let now : (q : Owner) → lookup (same_owner q) after ≡ cond (same_owner (renumbered numbers e.0) q) (Some e.0) (lookup (same_owner q) parts) = λ q.
    ap (λ (test : Owner → Bool). lookup test after) (sym (at_is_same q)) ∙ updates q
    ∙ ap (λ (b : Bool). cond b (Some e.0) (lookup (is_at (owner_cmp q)) parts)) (ap (λ (test : Owner → Bool). test q) (at_is_same (renumbered numbers e.0)))
    ∙ ap (λ (test : Owner → Bool). cond (same_owner (renumbered numbers e.0) q) (Some e.0) (lookup test parts)) (at_is_same q) in
    record {
      within = λ from is. so.within from (either_some (same_owner from e.0) e.1 (lookup (same_owner from) left) is);
      found = λ q p is. found_by (same_owner (renumbered numbers e.0) q) numbers collected q e.0 p (lookup (same_owner q) parts) (λ same. (same_equal (renumbered numbers e.0) q same, own)) (so.found q p) (sym (now q) ∙ is);
      has = λ p is. elim (so.has p is) [
        | inl here ↦ has_by (same_owner p e.0) e.0 p e.1 (lookup (same_owner p) left) (is_some (lookup (same_owner (renumbered numbers p)) after) ≡ true)
            (λ same.
            let at : p ≡ e.0 = same_equal p e.0 same in
            let there : same_owner (renumbered numbers e.0) (renumbered numbers p) ≡ true = ap (λ (o : Owner). same_owner (renumbered numbers e.0) (renumbered numbers o)) at ∙ same_itself (renumbered numbers e.0) in
            ap is_some (now (renumbered numbers p)) ∙ ap (λ (b : Bool). is_some (cond b (Some e.0) (lookup (same_owner (renumbered numbers p)) parts))) there)
            here
        | inr some ↦ inr (ap is_some (now (renumbered numbers p)) ∙ either_some (same_owner (renumbered numbers e.0) (renumbered numbers p)) e.0 (lookup (same_owner (renumbered numbers p)) parts) some)
      ];
    }

-- ---- what reading gives

known_by : (h : Head) (files : Files) (e i : ℕ) (v : Event) (o : Option KnownRow) → known_row h.known e i (code_of v) ≡ o → (r : Result (List ProfileRow) DbFault) → ReadsKnown files o r → HoldsAs h files (Known e i v) r
known_by h files e i v None at r reads = subst (HoldsAs h files (Known e i v)) (sym reads) (ap (known_at files) at)
known_by h files e i v (Some row) at (Ok rows) reads = ap (known_at files) at ∙ reads
known_by h files e i v (Some row) at (Err StoreFault) reads = tt
known_by h files e i v (Some row) at (Err (Bad file)) reads = ((row, at, reads.0), ap (known_at files) at ∙ reads.1)
known_by h files e i v (Some row) at (Err (Full what held added)) reads = reads
known_by h files e i v (Some row) at (Err Memory) reads = tt

pub known_holds : (h : Head) (files : Files) (e i : ℕ) (v : Event) (r : Result (List ProfileRow) DbFault) → ReadsKnown files (known_row h.known e i (code_of v)) r → HoldsAs h files (Known e i v) r
known_holds h files e i v r reads = known_by h files e i v (known_row h.known e i (code_of v)) refl r reads

unknown_by : (h : Head) (files : Files) (e : ℕ) (v : Event) (o : Option UnknownRow) → unknown_row h.unknown e (code_of v) ≡ o → (r : Result (List ProfileRow) DbFault) → ReadsUnknown files o r → HoldsAs h files (Unknown e v) r
unknown_by h files e v None at r reads = subst (HoldsAs h files (Unknown e v)) (sym reads) (ap (unknown_at files) at)
unknown_by h files e v (Some row) at (Ok rows) reads = ap (unknown_at files) at ∙ reads
unknown_by h files e v (Some row) at (Err StoreFault) reads = tt
unknown_by h files e v (Some row) at (Err (Bad file)) reads = ((row, at, reads.0), ap (unknown_at files) at ∙ reads.1)
unknown_by h files e v (Some row) at (Err (Full what held added)) reads = reads
unknown_by h files e v (Some row) at (Err Memory) reads = tt

pub unknown_holds : (h : Head) (files : Files) (e : ℕ) (v : Event) (r : Result (List ProfileRow) DbFault) → ReadsUnknown files (unknown_row h.unknown e (code_of v)) r → HoldsAs h files (Unknown e v) r
unknown_holds h files e v r reads = unknown_by h files e v (unknown_row h.unknown e (code_of v)) refl r reads
