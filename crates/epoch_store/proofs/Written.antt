-- What stands under a name after the writes of a commit.
use Rattle.std.proofs.Common.{◌≡◌, ℕ, inl, inr, Bool, true, false, List, [], ◌∷◌, Some, map, refl, sym, ap, ◌∙◌, subst}
use Rattle.std.specs.Prelude.{find}
use Rattle.std.specs.List.{AllByRecursion, list_all}
use Rattle.store_io.specs.Files.{Files}
use Rattle.database_model.specs.declared.profiles.ProfileRow.{ProfileRow}
use Rattle.database_model.specs.ProfileForm.{format1}
use Rattle.database_state.specs.Rows.{is_before_first, is_rising}
use Rattle.database_state.specs.Standing.{value_in}
use Rattle.epoch_store.specs.Puts.{Put, put, puts}
use Rattle.epoch_store.specs.Commits.{AreWritten}
use Rattle.database_state.specs.Orders.{IsOrder}
use Rattle.epoch_store.proofs.Order.{and_first, and_second, cases, Follow, follow_next}
use Rattle.epoch_store.proofs.Stays.{with_same, with_other}
use Rattle.epoch_store.proofs.Values.{tells}

-- none of the writes is of this name
abbrev pub NoneOf : List ℕ → List Put → Type 0
NoneOf name ws = AllByRecursion (λ w. w.name ≡ name → ⊥) ws

pub untouched : (name : List ℕ) (ws : List Put) (d : Files) → NoneOf name ws → puts ws d name ≡ d name
untouched name [] d none = refl
untouched name (w ∷ ws) d none = untouched name ws (put w d) none.1 ∙ with_other w.name name (Some w.bytes) d none.0

-- what holds of the names of all changed profiles holds of those written
pub each_written : {U : Type 0} (P : List ℕ → Type 0) (name : U → List ℕ) (rows : U → List ProfileRow) (us : List U) (ws : List Put) → AreWritten name rows us ws → AllByRecursion (λ u. P (name u)) us → AllByRecursion (λ w. P w.name) ws
each_written P name rows [] ws are all = subst (AllByRecursion (λ (w : Put). P w.name)) (sym are) tt
each_written P name rows (u ∷ us) [] are all = absurd are
each_written P name rows (u ∷ us) (w ∷ ws) are all = (subst P (sym are.0) all.0, each_written P name rows us ws are.2 all.1)

-- names of different places differ
abbrev pub TellsApart : {R U : Type 0} → (R → R → Bool) → (U → R) → (U → List ℕ) → (U → Bool) → Type 0
TellsApart {R} {U} same row name test = (a b : U) → test a ≡ true → test b ≡ true → name a ≡ name b → same (row a) (row b) ≡ true

others_differ : {R U : Type 0} {before same : R → R → Bool} → IsOrder before same → (row : U → R) (name : U → List ℕ) (test : U → Bool) → TellsApart same row name test → (u : U) (us : List U) → test u ≡ true → list_all test us ≡ true → Follow before row (row u) us → AllByRecursion (λ v. name v ≡ name u → ⊥) us
others_differ order row name test apart u [] passes all follow = tt
others_differ {before = before} {same = same} order row name test apart u (v ∷ us) passes all follow =
    let parts = follow_next order row (row u) v us follow in
    ((λ e. same_not (apart u v passes (and_first (test v) (list_all test us) all) (sym e)) (order.apart (row u) (row v) parts.0)), others_differ order row name test apart u us passes (and_second (test v) (list_all test us) all) parts.1)
  where
    same_not : same (row u) (row v) ≡ true → same (row u) (row v) ≡ false → ⊥
    same_not holds fails = let e : true ≡ false = sym holds ∙ fails in cc

-- the file of a changed profile tells its rows
pub tells_changed : {R U : Type 0} {before same : R → R → Bool} → IsOrder before same → (row : U → R) (name : U → List ℕ) (rows : U → List ProfileRow) (test : U → Bool) → TellsApart same row name test → (us : List U) (ws : List Put) (d : Files) (p : R) (u : U) → AreWritten name rows us ws → list_all test us ≡ true → is_rising before (map row us) ≡ true → find (λ v. same p (row v)) us ≡ Some u → value_in format1 (puts ws d (name u)) ≡ Some (rows u)
tells_changed order row name rows test apart [] ws d p u are all rising found = absurd cc
tells_changed order row name rows test apart (v ∷ us) [] d p u are all rising found = absurd are
tells_changed {R} {U} {before} {same} order row name rows test apart (v ∷ us) (w ∷ ws) d p u are all rising found =
    let first = and_first (is_before_first before (row v) (map row us)) (is_rising before (map row us)) rising in
    let others = and_second (is_before_first before (row v) (map row us)) (is_rising before (map row us)) rising in
    let passes = and_first (test v) (list_all test us) all in
    let all_others = and_second (test v) (list_all test us) all in
    elim (cases (same p (row v))) [
      | inl holds ↦
          let is : Some v ≡ Some u = rw holds at found in
          let same_u : v ≡ u = cc in
          let none = each_written (λ n. n ≡ name v → ⊥) name rows us ws are.2 (others_differ order row name test apart v us passes all_others (first, others)) in
          let here : puts ws (put w d) (name v) ≡ Some w.bytes = untouched (name v) ws (put w d) none ∙ with_same w.name (name v) (Some w.bytes) d are.0 in
          let told : value_in format1 (puts ws (put w d) (name v)) ≡ Some (rows v) = ap (value_in format1) here ∙ tells format1 w.bytes (rows v) are.1 in
          subst (λ x. value_in format1 (puts ws (put w d) (name x)) ≡ Some (rows x)) same_u told
      | inr fails ↦
          let later : find (λ x. same p (row x)) us ≡ Some u = rw fails at found in
          tells_changed order row name rows test apart us ws (put w d) p u are.2 all_others others later
    ]
