-- Files have one head, which is good or bad.
use Rattle.std.proofs.Common.{◌≡◌, inl, inr, ℕ, List, sym, subst, ap, arith, ◌∙◌}
use Rattle.std.specs.declared.option.Option.{Option}
use Rattle.std.specs.declared.option.Option.TheVariants.{Some, None}
use Rattle.std.specs.Prelude.{IsSome}
use Rattle.std.proofs.lemmas.Bool.{cases_order}
use Rattle.store_io.specs.Files.{Files}
use Rattle.store_io.specs.declared.file_refs.FileRef.{FileRef}
use Rattle.store_io.specs.declared.file_refs.FileRef.TheVariants as named
use Rattle.database_state.specs.Heads.{Head, head_text}
use Rattle.database_state.specs.Standing.{HaveHead, IsLatest, head_file, seal_file}
use Rattle.dcpi_top.specs.Heads.{IsBadHead}

-- a name that is absent is not there
absent : (o : Option (List ℕ)) → IsSome o → o ≡ None → ⊥
absent None here gone = absurd (cc)
absent (Some bytes) here gone = cc

-- files have one latest generation
pub latest_one : (f : Files) (g k : ℕ) → IsLatest f g → IsLatest f k → g ≡ k
latest_one f g k a b = elim (cases_order g k) [
  | inl same ↦ same
  | inr apart ↦ elim apart [
    | inl below ↦ absurd (absent (f (seal_file k)) (b.here (omega (arith, below))) (a.above k below b.most))
    | inr above ↦ absurd (absent (f (seal_file g)) (a.here (omega (arith, above))) (b.above g above a.most))
  ]
]

-- a head that files have is not bad
pub good_head : (f : Files) (h : Head) (file : FileRef) → HaveHead f h → IsBadHead f file → ⊥
good_head f h file has (g, is, some, latest, none) =
    let same : h.generation ≡ g = latest_one f h.generation g has.latest latest in
    let sealed = has.sealed (omega (arith, same, some)) in
    none h sealed.1 same (subst (λ n. f (head_file n) ≡ Some (head_text h)) same sealed.0)

-- two bad heads are one
pub one_bad_head : (f : Files) (a b : FileRef) → IsBadHead f a → IsBadHead f b → a ≡ b
one_bad_head f a b (g, is, some, latest, none) (k, are, more, last, other) =
    is ∙ (ap named.Head (latest_one f g k latest last) ∙ sym are)
