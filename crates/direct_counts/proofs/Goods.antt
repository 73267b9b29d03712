-- What the lines of a good trace pass.
use Rattle.std.proofs.Common.{◌≡◌, ℕ, ◌<◌, ◌≤◌, Bool, true, false, cond, List, [], ◌∷◌, ◌++◌, leb, refl, ◌∙◌, arith}
use Rattle.std.specs.List.{count_by}
use Rattle.std.specs.Option.{is_none}
use Rattle.std.proofs.lemmas.Bool.{and_parts, and_from, or_parts, not-false, leb-false, false≢true}
use Rattle.trace_model.specs.declared.reasons.TraceWhy.{TraceWhy}
use Rattle.trace_model.specs.declared.notices.Record.{Record}
use Rattle.trace_model.specs.declared.notices.Record.TheVariants.{Scan, Load, Unload, Exec, Exit, Kernel, Drain, Merge, Epoch}
use Rattle.trace_model.specs.Parts.{begins_epoch}
use Rattle.trace_model.specs.Grammar.{first_that_applies, value_tests, is_record_too_many}
use Rattle.trace_model.specs.Recording.{are_good, keeps_ranges, record_said}
use Rattle.trace_model.proofs.Tests.{all_clear}
use Rattle.trace_model.specs.Said.{Said, EpochBegun, every, tested, is_within, is_aligned, is_titled, is_record, is_part_end}

-- what a good line passes
pub record Passes (before : List (Said ℕ)) (said : Said ℕ) : Type 0 where
  pub within : every is_within (tested said) ≡ true
  pub aligned : every is_aligned (tested said) ≡ true
  pub titled : every is_titled (tested said) ≡ true
  pub few : is_record_too_many before said ≡ false

pub good_first : (before : List (Said ℕ)) (said : Said ℕ) (more : List (Said ℕ)) → are_good before (said ∷ more) ≡ true → Passes before said
good_first before said more h =
    let clear = all_clear (value_tests before said) (and_parts (is_none (first_that_applies (value_tests before said))) (are_good (before ++ said ∷ []) more) h).0 in
    record {
      within = not-false (every is_within (tested said)) clear.0;
      aligned = not-false (every is_aligned (tested said)) clear.1.0;
      titled = not-false (every is_titled (tested said)) clear.1.1.0;
      few = clear.1.1.1.1.1.1.0;
    }

pub good_rest : (before : List (Said ℕ)) (said : Said ℕ) (more : List (Said ℕ)) → are_good before (said ∷ more) ≡ true → are_good (before ++ said ∷ []) more ≡ true
good_rest before said more h = (and_parts (is_none (first_that_applies (value_tests before said))) (are_good (before ++ said ∷ []) more) h).1

within_alike : (images : List (List ℕ)) (entry : Record) → every is_within (tested (record_said [] entry)) ≡ every is_within (tested (record_said images entry))
within_alike images (Scan process base size image) = refl
within_alike images (Load process base size image) = refl
within_alike images (Unload process base size) = refl
within_alike images (Exec process base size image) = refl
within_alike images (Exit process) = refl
within_alike images (Kernel base size image) = refl
within_alike images Drain = refl
within_alike images Merge = refl
within_alike images Epoch = refl

aligned_alike : (images : List (List ℕ)) (entry : Record) → every is_aligned (tested (record_said [] entry)) ≡ every is_aligned (tested (record_said images entry))
aligned_alike images (Scan process base size image) = refl
aligned_alike images (Load process base size image) = refl
aligned_alike images (Unload process base size) = refl
aligned_alike images (Exec process base size image) = refl
aligned_alike images (Exit process) = refl
aligned_alike images (Kernel base size image) = refl
aligned_alike images Drain = refl
aligned_alike images Merge = refl
aligned_alike images Epoch = refl

-- a good record may be applied
pub keeps : (before : List (Said ℕ)) (images : List (List ℕ)) (entry : Record) → Passes before (record_said images entry) → keeps_ranges entry ≡ true
keeps before images entry p = and_from (every is_within (tested (record_said [] entry))) (every is_aligned (tested (record_said [] entry))) (within_alike images entry ∙ p.within) (aligned_alike images entry ∙ p.aligned)

few_epochs : (before : List (Said ℕ)) → is_record_too_many before EpochBegun ≡ false → count_by is_part_end before < 1024
few_epochs before h = leb-false 1024 (count_by is_part_end before) (or_parts (leb 65536 (count_by is_record before)) (leb 1024 (count_by is_part_end before)) h).1

-- a good epoch is one of 1,024 at most
pub epoch_fits : (before : List (Said ℕ)) (images : List (List ℕ)) (entry : Record) → Passes before (record_said images entry) → begins_epoch entry ≡ true → count_by is_part_end before < 1024
epoch_fits before images (Scan process base size image) p h = absurd (false≢true h)
epoch_fits before images (Load process base size image) p h = absurd (false≢true h)
epoch_fits before images (Unload process base size) p h = absurd (false≢true h)
epoch_fits before images (Exec process base size image) p h = absurd (false≢true h)
epoch_fits before images (Exit process) p h = absurd (false≢true h)
epoch_fits before images (Kernel base size image) p h = absurd (false≢true h)
epoch_fits before images Drain p h = absurd (false≢true h)
epoch_fits before images Merge p h = absurd (false≢true h)
epoch_fits before images Epoch p h = few_epochs before p.few

-- an epoch ends a part
pub epoch_ends : (images : List (List ℕ)) (entry : Record) → cond (begins_epoch entry) 1 0 ≤ cond (is_part_end (record_said images entry)) 1 0
epoch_ends images (Scan process base size image) = omega arith
epoch_ends images (Load process base size image) = omega arith
epoch_ends images (Unload process base size) = omega arith
epoch_ends images (Exec process base size image) = omega arith
epoch_ends images (Exit process) = omega arith
epoch_ends images (Kernel base size image) = omega arith
epoch_ends images Drain = omega arith
epoch_ends images Merge = omega arith
epoch_ends images Epoch = omega arith
