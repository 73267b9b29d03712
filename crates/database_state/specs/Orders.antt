-- Orders of places.
use Rattle.std.specs.Prelude.{◌≡◌, Bool, true, false}

-- before is an order of places, and same says that two places are one
pub record IsOrder {R : Type 0} (before same : R → R → Bool) : Type 0 where
  pub own : (a : R) → same a a ≡ true
  pub apart : (a b : R) → before a b ≡ true → same a b ≡ false
  pub beyond : (a b c : R) → before a b ≡ true → before b c ≡ true → before a c ≡ true
  pub other : (a b : R) → before a b ≡ false → same a b ≡ false → before b a ≡ true
  pub as_left : (a b c : R) → same a b ≡ true → before b c ≡ true → before a c ≡ true
  pub symm : (a b : R) → same a b ≡ same b a
  pub joins : (a b c : R) → same a b ≡ true → same a c ≡ same b c
