-- What the drains of the first parts weigh is at most what all drains weigh.
use Rattle.std.proofs.Common.{◌≡◌, ℕ, zero, suc, ◌+◌, ◌≤◌, ◌||◌, Bool, true, false, cond, eqb, ltb, List, [], ◌∷◌, refl, sym, ◌∙◌, ap, arith}
use Rattle.trace_model.specs.Parts.{part_of}
use Rattle.trace_model.specs.declared.notices.Record.{Record}
use Rattle.database_model.specs.Runs.{Drained}
use Rattle.run_model.specs.Shares.{drains_in_part}
use Rattle.growth_model.proofs.Weights.{total, lt_suc, not_both, none_first}

pub one_of : (t u : Bool) (x : ℕ) → (t ≡ true → u ≡ true → ⊥) → cond (t || u) x 0 ≡ cond t x 0 + cond u x 0
one_of true true x apart = absurd (apart refl refl)
one_of true false x apart = omega arith
one_of false true x apart = omega arith
one_of false false x apart = omega arith

at_most : (t : Bool) (x : ℕ) → cond t x 0 ≤ x
at_most true x = omega arith
at_most false x = omega arith

module _ (records : List Record) (weigh : Drained → ℕ) where
  total_cond : (b : Bool) (d : Drained) (l : List Drained) → total weigh (cond b (d ∷ l) l) ≡ cond b (weigh d) 0 + total weigh l
  unfolding total
  total_cond true d l = refl
  total_cond false d l = omega arith

  -- what the drains of the first parts weigh
  unfoldable pub upto : ℕ → List Drained → ℕ
  upto zero drains = 0
  upto (suc part) drains = upto part drains + total weigh (drains_in_part records part drains)

  one_more : (parts : ℕ) (d : Drained) (drains : List Drained) → upto parts (d ∷ drains) ≡ cond (ltb (part_of records d.at) parts) (weigh d) 0 + upto parts drains
  unfolding upto
  one_more zero d drains = ap (λ (b : Bool). cond b (weigh d) 0 + 0) (sym (none_first (part_of records d.at)))
  one_more (suc part) d drains =
      let p = part_of records d.at in
      let here = total_cond (eqb p part) d (drains_in_part records part drains) in
      let both : cond (ltb p (suc part)) (weigh d) 0 ≡ cond (ltb p part) (weigh d) 0 + cond (eqb p part) (weigh d) 0
      = ap (λ (b : Bool). cond b (weigh d) 0) (lt_suc p part) ∙ one_of (ltb p part) (eqb p part) (weigh d) (not_both p part) in
      omega (arith, one_more part d drains, here, both)

  none_there : (parts : ℕ) → upto parts [] ≡ 0
  unfolding upto total
  none_there zero = refl
  none_there (suc part) = omega (arith, none_there part)

  pub at_most_all : (parts : ℕ) (drains : List Drained) → upto parts drains ≤ total weigh drains
  unfolding total
  at_most_all parts [] = omega (arith, none_there parts)
  at_most_all parts (d ∷ drains) = omega (arith, one_more parts d drains, at_most (ltb (part_of records d.at) parts) (weigh d), at_most_all parts drains)

  -- and so do those of one part
  pub one_part : (part : ℕ) (drains : List Drained) → total weigh (drains_in_part records part drains) ≤ total weigh drains
  unfolding upto
  one_part part drains = omega (arith, at_most_all (suc part) drains)
