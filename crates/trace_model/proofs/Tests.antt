-- Tests of which none applies.
use Rattle.std.proofs.Common.{◌≡◌, Bool, true, false, List, [], ◌∷◌, refl}
use Rattle.std.specs.List.{AllByRecursion}
use Rattle.std.specs.Option.{is_none}
use Rattle.std.proofs.lemmas.Bool.{false≢true}
use Rattle.trace_model.specs.declared.reasons.TraceWhy.{TraceWhy}
use Rattle.trace_model.specs.Grammar.{first_that_applies}

first_clear : (why : TraceWhy) (b : Bool) (more : List (TraceWhy × Bool)) → is_none (first_that_applies ((why, b) ∷ more)) ≡ true → (b ≡ false) × (is_none (first_that_applies more) ≡ true)
first_clear why true more h = absurd (false≢true h)
first_clear why false more h = (refl, h)

-- where no test is the first that applies, none applies
pub all_clear : (tests : List (TraceWhy × Bool)) → is_none (first_that_applies tests) ≡ true → AllByRecursion (λ test. test.1 ≡ false) tests
all_clear [] h = tt
all_clear (test ∷ tests) h = let p = first_clear test.0 test.1 tests h in (p.0, all_clear tests p.1)
