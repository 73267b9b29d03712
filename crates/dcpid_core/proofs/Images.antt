-- The images of a trace are apart, in the word that the gathering asks for.
use Rattle.std.proofs.Common.{◌≡◌, ◌≢◌, ℕ, Bool, true, false, List, [], ◌∷◌, refl, sym, subst}
use Rattle.std.specs.List.{AllByRecursion, IsDistinct}
use Rattle.std.specs.Str.{bytes_eq}
use Rattle.trace_laws.proofs.Images.{AreDistinct, images_distinct, same_bytes}
use Rattle.trace_model.specs.Said.{Said}
use Rattle.trace_model.specs.Recording.{images_in_order}

differ : (x y : List ℕ) (b : Bool) → bytes_eq x y ≡ b → x ≢ y → b ≡ false
differ x y true e apart = absurd (apart (same_bytes x y e))
differ x y false e apart = refl

all_differ : (x : List ℕ) (names : List (List ℕ)) → AllByRecursion (λ other. x ≢ other) names → AllByRecursion (λ other. bytes_eq x other ≡ false) names
all_differ x [] all = tt
all_differ x (y ∷ names) all = (differ x y (bytes_eq x y) refl all.0, all_differ x names all.1)

apart_by : (names : List (List ℕ)) → AreDistinct names → IsDistinct bytes_eq names
unfolding IsDistinct
apart_by [] distinct = tt
apart_by (x ∷ names) distinct = (all_differ x names distinct.0, apart_by names distinct.1)

-- the images that a trace names, in order of first use
pub apart : (images : List (List ℕ)) (said : List (Said ℕ)) → images ≡ images_in_order said → IsDistinct bytes_eq images
apart images said is = subst (λ names. IsDistinct bytes_eq names) (sym is) (apart_by (images_in_order said) (images_distinct said))
