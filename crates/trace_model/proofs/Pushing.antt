-- What lines say, and one line more.
use Rattle.std.proofs.Common.{◌≡◌, ℕ, true, List, [], ◌∷◌, ◌++◌, refl, ap, sym, subst, ◌∙◌, Option, None, append_assoc}
use Rattle.std.specs.List.{flat_map, fold}
use Rattle.std.specs.Option.{is_none}
use Rattle.std.proofs.lemmas.Bool.{and_parts, and_from}
use Rattle.std.proofs.lemmas.List.{append-nil}
use Rattle.std.proofs.lemmas.List.Sums.{fold-append}
use Rattle.std.proofs.lemmas.Grind.{flat_map-append}
use Rattle.trace_model.specs.declared.reasons.TraceWhy.{TraceWhy}
use Rattle.trace_model.specs.Said.{Said, images_named}
use Rattle.trace_model.specs.Grammar.{first_that_applies, value_tests}
use Rattle.trace_model.specs.Recording.{are_good, images_in_order, with_name}

is_none_of : (o : Option TraceWhy) → o ≡ None → is_none o ≡ true
is_none_of o e = ap is_none e

-- a good line behind good lines
pub good_push : (before said : List (Said ℕ)) (next : Said ℕ) → are_good before said ≡ true → first_that_applies (value_tests (before ++ said) next) ≡ None → are_good before (said ++ next ∷ []) ≡ true
good_push before [] next g e = and_from _ _ (is_none_of _ (subst (λ (l : List (Said ℕ)). first_that_applies (value_tests l next) ≡ None) (append-nil before) e)) refl
good_push before (s ∷ said) next g e = let h = and_parts _ _ g in
    and_from _ _ h.0 (good_push (before ++ s ∷ []) said next h.1 (subst (λ (l : List (Said ℕ)). first_that_applies (value_tests l next) ≡ None) (sym (append_assoc before (s ∷ []) said)) e))

-- the images that lines name, and those of one line more
pub images_push : (said : List (Said ℕ)) (next : Said ℕ) → images_in_order (said ++ next ∷ []) ≡ fold with_name (images_in_order said) (images_named next)
images_push said next = ap (fold with_name []) (flat_map-append images_named said (next ∷ []) ∙ ap (λ l. flat_map images_named said ++ l) (append-nil (images_named next)))
    ∙ fold-append with_name [] (flat_map images_named said) (images_named next)
