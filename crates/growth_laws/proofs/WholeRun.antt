-- Part by part, a run adds what all its drains add.
use Rattle.std.proofs.Common.{arith, ◌≡◌, ℕ, zero, suc, ◌+◌, ◌<◌, ◌||◌, Bool, true, false, cond, eqb, List, [], ◌∷◌, ◌++◌, Option, None, Some, take, drop, refl, sym, ap, ◌∙◌, subst, take-append-drop}
use Rattle.std.specs.Prelude.{nat_lt, filter, count_by}
use Rattle.std.proofs.lemmas.List.Sums.{sum_by-append}
use Rattle.std.proofs.lemmas.Bool.Decides.{nat_tests}
use Rattle.trace_model.specs.Parts.{ends_part, part_of}
use Rattle.trace_model.specs.declared.notices.Record.{Record}
use Rattle.database_model.specs.declared.profiles.ProfileRow.{ProfileRow}
use Rattle.database_model.specs.Runs.{Drained, Recorded}
use Rattle.run_model.specs.Shares.{last_part, drains_in_part}
use Rattle.database_state.specs.Database.{Database}
use Rattle.database_state.specs.Limits.{IsProfile}
use Rattle.growth_model.specs.Additions.{known_drained, unknown_drained, additions_of}
use Rattle.growth_model.specs.Growth.{IsGrown}
use Rattle.growth_model.specs.Grown.{part_count, GrowsTo, GrownWhole}
use Rattle.growth_model.proofs.Weights.{total, lt_suc, not_both, none_first, known_weight, known_total, unknown_weight, unknown_total}
use Rattle.growth_laws.specs.Whole.{HasProfiles, CountsGrow}

-- ---- the drains of the first parts

abbrev in_first : List Record → ℕ → Drained → Bool
in_first records parts d = nat_lt (part_of records d.at) parts

abbrev first_drains : List Record → ℕ → List Drained → List Drained
first_drains records parts drains = filter (in_first records parts) drains

step : (t u : Bool) (x a b c : ℕ) → (t ≡ true → u ≡ true → ⊥) → c ≡ a + b → cond (t || u) (x + c) c ≡ cond t (x + a) a + cond u (x + b) b
step true true x a b c apart sum = absurd (apart refl refl)
step true false x a b c apart sum = omega (arith, sum)
step false true x a b c apart sum = omega (arith, sum)
step false false x a b c apart sum = sum

-- any count of drains, each by itself
module _ (weigh : Drained → ℕ) where
  over_cond : (b : Bool) (d : Drained) (l : List Drained) → total weigh (cond b (d ∷ l) l) ≡ cond b (weigh d + total weigh l) (total weigh l)
  unfolding total
  over_cond true d l = refl
  over_cond false d l = refl

  more_parts : (records : List Record) (k : ℕ) (drains : List Drained) → total weigh (first_drains records (suc k) drains) ≡ total weigh (first_drains records k drains) + total weigh (drains_in_part records k drains)
  unfolding total
  more_parts records k [] = refl
  more_parts records k (d ∷ drains) =
      let p = part_of records d.at in
      over_cond (nat_lt p (suc k)) d (first_drains records (suc k) drains)
      ∙ ap (λ (b : Bool). cond b (weigh d + total weigh (first_drains records (suc k) drains)) (total weigh (first_drains records (suc k) drains))) (lt_suc p k)
      ∙ step (nat_lt p k) (eqb p k) (weigh d) (total weigh (first_drains records k drains)) (total weigh (drains_in_part records k drains)) (total weigh (first_drains records (suc k) drains)) (not_both p k) (more_parts records k drains)
      ∙ ap (λ (n : ℕ). n + cond (eqb p k) (weigh d + total weigh (drains_in_part records k drains)) (total weigh (drains_in_part records k drains))) (sym (over_cond (nat_lt p k) d (first_drains records k drains)))
      ∙ ap (λ (n : ℕ). total weigh (first_drains records k (d ∷ drains)) + n) (sym (over_cond (eqb p k) d (drains_in_part records k drains)))

  no_parts : (records : List Record) (drains : List Drained) → total weigh (first_drains records 0 drains) ≡ 0
  unfolding total
  no_parts records [] = refl
  no_parts records (d ∷ drains) = ap (λ (b : Bool). total weigh (cond b (d ∷ first_drains records 0 drains) (first_drains records 0 drains))) (none_first (part_of records d.at)) ∙ no_parts records drains

  all_parts : (records : List Record) (parts : ℕ) (drains : List Drained) → ((d : Drained) → in_first records parts d ≡ true) → total weigh (first_drains records parts drains) ≡ total weigh drains
  unfolding total
  all_parts records parts [] each = refl
  all_parts records parts (d ∷ drains) each =
      over_cond (in_first records parts d) d (first_drains records parts drains)
      ∙ ap (λ (b : Bool). cond b (weigh d + total weigh (first_drains records parts drains)) (total weigh (first_drains records parts drains))) (each d)
      ∙ ap (λ (n : ℕ). weigh d + n) (all_parts records parts drains each)

-- each drain is of one of the parts
part_within : (records : List Record) (at : ℕ) → nat_lt (part_of records at) (part_count records) ≡ true
part_within records at =
    let whole : count_by ends_part (take at records ++ drop at records) ≡ part_of records at + count_by ends_part (drop at records) = sum_by-append (λ (r : Record). cond (ends_part r) 1 0) (take at records) (drop at records) in
    let same : count_by ends_part (take at records ++ drop at records) ≡ last_part records = ap (count_by ends_part) (take-append-drop at records) in
    let below : part_of records at < part_count records = omega (arith, whole, same) in
    lt_true (part_of records at) (part_count records) below
  where
    lt_true : (a b : ℕ) → a < b → nat_lt a b ≡ true
    lt_true a b less = grind (arith, nat_tests)

-- ---- growing again

stays : (added : ℕ → ℕ) (before : Option (List ProfileRow)) → IsProfile before → ((o : ℕ) → added o ≡ 0) → IsGrown added before before
stays added None is none = (none, refl)
stays added (Some rows) is none = (rows, refl, record { are_rows = is; counts = λ o. let zero = none o in omega (arith, zero) })

grown_again : (first second both : ℕ → ℕ) (x y z : Option (List ProfileRow)) → ((o : ℕ) → both o ≡ first o + second o) → IsGrown first x y → IsGrown second y z → IsGrown both x z
grown_again first second both None y z sums one two =
    let later : IsGrown second None z = subst (λ (w : Option (List ProfileRow)). IsGrown second w z) one.1 two in
    (λ o. let a = one.0 o in let b = later.0 o in let c = sums o in omega (arith, a, b, c), later.1)
grown_again first second both (Some rows) y z sums one two =
    let later : IsGrown second (Some one.0) z = subst (λ (w : Option (List ProfileRow)). IsGrown second w z) one.1 two in
    (later.0, later.1, record { are_rows = later.2.are_rows; counts = λ o. let a = one.2.counts o in let b = later.2.counts o in let c = sums o in omega (arith, a, b, c) })

grown_as : (f g : ℕ → ℕ) (x y : Option (List ProfileRow)) → ((o : ℕ) → f o ≡ g o) → IsGrown f x y → IsGrown g x y
grown_as f g None y same grown = (λ o. sym (same o) ∙ grown.0 o, grown.1)
grown_as f g (Some rows) y same grown = (grown.0, grown.1, record { are_rows = grown.2.are_rows; counts = λ o. let a = grown.2.counts o in let b = same o in omega (arith, a, b) })

grows_to : (images : List (List ℕ)) (records : List Record) (kept : Recorded) (parts : ℕ) (db new : Database) → HasProfiles db → GrowsTo images records kept parts db new → CountsGrow (additions_of images records (first_drains records parts kept.drains)) db new
grows_to images records kept zero db new has same = subst (λ (d : Database). CountsGrow (additions_of images records (first_drains records 0 kept.drains)) db d) (sym same) (record {
  known = λ e name v. stays _ (db.known e name v) (has.known e name v) (λ o. known_total images records e name v o (first_drains records 0 kept.drains) ∙ no_parts (known_weight images records e name v o) records kept.drains);
  unknown = λ e v. stays _ (db.unknown e v) (has.unknown e v) (λ o. unknown_total records e v o (first_drains records 0 kept.drains) ∙ no_parts (unknown_weight records e v o) records kept.drains);
})
grows_to images records kept (suc part) db new has steps =
    let before = grows_to images records kept part db steps.0 has steps.1 in
    let now = steps.2 in
    record {
      known = λ e name v. grown_again _ _ _ (db.known e name v) (steps.0.known e name v) (new.known e name v)
          (λ o. known_total images records e name v o (first_drains records (suc part) kept.drains) ∙ more_parts (known_weight images records e name v o) records part kept.drains
          ∙ ap (λ (n : ℕ). n + total (known_weight images records e name v o) (drains_in_part records part kept.drains)) (sym (known_total images records e name v o (first_drains records part kept.drains)))
          ∙ ap (λ (n : ℕ). known_drained images records e name v o (first_drains records part kept.drains) + n) (sym (known_total images records e name v o (drains_in_part records part kept.drains))))
          (before.known e name v) (now.known e name v);
      unknown = λ e v. grown_again _ _ _ (db.unknown e v) (steps.0.unknown e v) (new.unknown e v)
          (λ o. unknown_total records e v o (first_drains records (suc part) kept.drains) ∙ more_parts (unknown_weight records e v o) records part kept.drains
          ∙ ap (λ (n : ℕ). n + total (unknown_weight records e v o) (drains_in_part records part kept.drains)) (sym (unknown_total records e v o (first_drains records part kept.drains)))
          ∙ ap (λ (n : ℕ). unknown_drained records e v o (first_drains records part kept.drains) + n) (sym (unknown_total records e v o (drains_in_part records part kept.drains))))
          (before.unknown e v) (now.unknown e v);
    }

pub whole_run : (images : List (List ℕ)) (records : List Record) (kept : Recorded) (db new : Database) → HasProfiles db → GrownWhole images records kept db new → CountsGrow (additions_of images records kept.drains) db new
whole_run images records kept db new has grown =
    let grows = grows_to images records kept (part_count records) db new has grown.steps in
    record {
      known = λ e name v. grown_as _ _ (db.known e name v) (new.known e name v)
          (λ o. known_total images records e name v o (first_drains records (part_count records) kept.drains) ∙ all_parts (known_weight images records e name v o) records (part_count records) kept.drains (λ d. part_within records d.at) ∙ sym (known_total images records e name v o kept.drains))
          (grows.known e name v);
      unknown = λ e v. grown_as _ _ (db.unknown e v) (new.unknown e v)
          (λ o. unknown_total records e v o (first_drains records (part_count records) kept.drains) ∙ all_parts (unknown_weight records e v o) records (part_count records) kept.drains (λ d. part_within records d.at) ∙ sym (unknown_total records e v o kept.drains))
          (grows.unknown e v);
    }
