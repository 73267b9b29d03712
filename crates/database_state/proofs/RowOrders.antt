-- The orders of rows, of both kinds, and what rows that rise in one have of a place.
use Rattle.std.proofs.Common.{arith, ◌≡◌, Bool, true, List, [], ◌∷◌, None, refl}
use Rattle.std.specs.Prelude.{find}
use Rattle.std.proofs.lemmas.Grind.{common_steps}
use Rattle.store_io.proofs.History.{and_first, and_second}
use Rattle.database_state.specs.Rows.{known_before, known_same, unknown_before, unknown_same, is_before_first, is_rising}
use Rattle.database_state.specs.Orders.{IsOrder}

pub unknown_order : IsOrder unknown_before unknown_same
unknown_order = record {
  own = λ a. grind (arith, common_steps);
  apart = λ a b before. grind (arith, common_steps);
  beyond = λ a b c ab bc. grind (arith, common_steps);
  other = λ a b no apart. grind (arith, common_steps);
  as_left = λ a b c same bc. grind (arith, common_steps);
  symm = λ a b. grind (arith, common_steps);
  joins = λ a b c same. grind (arith, common_steps);
}

pub known_order : IsOrder known_before known_same
known_order = record {
  own = λ a. grind (arith, common_steps);
  apart = λ a b before. grind (arith, common_steps);
  beyond = λ a b c ab bc. grind (arith, common_steps);
  other = λ a b no apart. grind (arith, common_steps);
  as_left = λ a b c same bc. grind (arith, common_steps);
  symm = λ a b. grind (arith, common_steps);
  joins = λ a b c same. grind (arith, common_steps);
}

-- no row of a place before the first
pub none_before : {R : Type 0} {before same : R → R → Bool} → IsOrder before same → (r : R) (rows : List R) → is_before_first before r rows ≡ true → is_rising before rows ≡ true → find (same r) rows ≡ None
none_before order r [] first rising = refl
none_before {R} {before} {same} order r (x ∷ rows) first rising =
    rw (order.apart r x first) (none_before order r rows (next rows (and_first (is_before_first before x rows) (is_rising before rows) rising)) (and_second (is_before_first before x rows) (is_rising before rows) rising))
  where
    next : (rows : List R) → is_before_first before x rows ≡ true → is_before_first before r rows ≡ true
    next [] first' = refl
    next (y ∷ rows) first' = order.beyond r x y first first'
