-- What drains weigh together, and what they add as such a weight.
use Rattle.std.proofs.Common.{◌≡◌, ℕ, suc, ◌+◌, ◌||◌, true, false, eqb, ltb, List, [], ◌∷◌, refl, ap, arith}
use Rattle.std.specs.Prelude.{if◌then◌else◌, ◌==◌}
use Rattle.std.proofs.lemmas.Bool.Decides.{nat_tests}
use Rattle.trace_model.specs.Attribution.{place_at}
use Rattle.trace_model.specs.declared.notices.Record.{Record}
use Rattle.database_model.specs.Runs.{Drained}
use Rattle.growth_model.specs.Additions.{known_of, unknown_of, known_drained, unknown_drained}

-- numbers below a part, and below the next one
pub lt_suc : (p k : ℕ) → ltb p (suc k) ≡ (ltb p k || eqb p k)
lt_suc p k = grind (arith, nat_tests)

pub not_both : (p k : ℕ) → ltb p k ≡ true → eqb p k ≡ true → ⊥
not_both p k less same = grind (arith, nat_tests)

pub none_first : (p : ℕ) → ltb p 0 ≡ false
none_first p = grind (arith, nat_tests)

-- the weight of drains, each by itself
unfoldable pub total : (Drained → ℕ) → List Drained → ℕ
total weigh [] = 0
total weigh (d ∷ drains) = weigh d + total weigh drains

pub known_weight : List (List ℕ) → List Record → ℕ → List ℕ → ℕ → ℕ → Drained → ℕ
known_weight images records e name v o d = if e == d.epoch then known_of images (place_at records d.at) name v o d.batch.entries else 0

pub known_total : (images : List (List ℕ)) (records : List Record) (e : ℕ) (name : List ℕ) (v o : ℕ) (drains : List Drained)
    → known_drained images records e name v o drains ≡ total (known_weight images records e name v o) drains
unfolding total known_weight
known_total images records e name v o [] = refl
known_total images records e name v o (d ∷ drains) =
    ap (λ (n : ℕ). (if e == d.epoch then known_of images (place_at records d.at) name v o d.batch.entries else 0) + n) (known_total images records e name v o drains)

pub unknown_weight : List Record → ℕ → ℕ → ℕ → Drained → ℕ
unknown_weight records e v pc d = if e == d.epoch then unknown_of (place_at records d.at) v pc d.batch.entries else 0

pub unknown_total : (records : List Record) (e v pc : ℕ) (drains : List Drained)
    → unknown_drained records e v pc drains ≡ total (unknown_weight records e v pc) drains
unfolding total unknown_weight
unknown_total records e v pc [] = refl
unknown_total records e v pc (d ∷ drains) =
    ap (λ (n : ℕ). (if e == d.epoch then unknown_of (place_at records d.at) v pc d.batch.entries else 0) + n) (unknown_total records e v pc drains)
