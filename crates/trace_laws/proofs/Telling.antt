-- What the lines of a trace read as.
use Rattle.std.proofs.Common.{◌≡◌, ℕ, ◌<◌, ◌≤◌, true, false, List, [], ◌∷◌, ◌++◌, length, map, refl, ap, sym, ◌∙◌, arith, Option, Some, None, Ok}
use Rattle.std.specs.List.{AllByRecursion, join_with_byte}
use Rattle.std.specs.Option.{is_none}
use Rattle.std.proofs.lemmas.Bool.{and_parts, not-false, false≢true}
use Rattle.std.proofs.lemmas.List.{append_assoc, append-nil}
use Rattle.text_num.specs.Numbers.{HasSpelling}
use Rattle.trace_model.specs.declared.recordings.Trace.{Trace}
use Rattle.trace_model.specs.Said.{Said, ShortHeader, LongHeader, Sampled, Scanned, Loaded, Unloaded, Executed, Exited, KernelMapped, Drained, Merged, EpochBegun, Ended, Turned, Polled, Advanced, every, tested, is_within, is_titled, spellings_of, fields_of, line_text}
use Rattle.trace_model.specs.Grammar.{verdict, verdict_of_form, where_said, said_by, IsLine, cut_at_spaces, form_at, stage_after, first_that_applies, value_tests}
use Rattle.trace_model.specs.Recording.{Reads, said_in, are_good, trace_text}
use Rattle.trace_model.specs.Traces.{recording_of}
use Rattle.trace_model.proofs.Tests.{all_clear}
use Rattle.trace_laws.proofs.Spelled.{IsField}
use Rattle.trace_laws.proofs.Joined.{cut_joined, joined_line}
use Rattle.trace_laws.proofs.Lines.{IsLineOf, line_of, is_short}
use Rattle.trace_laws.proofs.Staged.{AreStaged, stage_of, form_told, trace_staged, trace_ended}

none_of : {A : Type 0} (found : Option A) → is_none found ≡ true → found ≡ None
none_of None h = refl
none_of (Some x) h = absurd (false≢true h)

a_field : (raw : Said (List ℕ)) → 0 < length (fields_of raw)
a_field (ShortHeader cpus) = omega arith
a_field (LongHeader cpus buckets buffer) = omega arith
a_field (Sampled cpu pid pc event) = omega arith
a_field (Scanned pid base size image) = omega arith
a_field (Loaded pid base size image) = omega arith
a_field (Unloaded pid base size) = omega arith
a_field (Executed pid base size image) = omega arith
a_field (Exited pid) = omega arith
a_field (KernelMapped base size image) = omega arith
a_field Drained = omega arith
a_field Merged = omega arith
a_field EpochBegun = omega arith
a_field Ended = omega arith
a_field (Turned cpu) = omega arith
a_field (Polled cpu cell) = omega arith
a_field Advanced = omega arith

cut_fields : (fields : List (List ℕ)) → 0 < length fields → AllByRecursion IsField fields → cut_at_spaces (join_with_byte 32 fields) ≡ fields
cut_fields [] some h = absurd (omega (arith, some))
cut_fields (first ∷ more) some h = cut_joined first more h

line_fields : (fields : List (List ℕ)) → 0 < length fields → AllByRecursion IsField fields → length (join_with_byte 32 fields) ≤ 400 → IsLine (join_with_byte 32 fields)
line_fields [] some h short = absurd (omega (arith, some))
line_fields (first ∷ more) some h short = (joined_line first more h, short)

-- a written line says what was written
verdict_told : (before : List (Said ℕ)) (said : Said ℕ) → stage_after before ≡ stage_of said → is_short said ≡ false → IsLineOf said → is_none (first_that_applies (value_tests before said)) ≡ true → verdict before (line_text said) ≡ Ok said
verdict_told before said staged long line clear =
    ap (λ (fields : List (List ℕ)). verdict_of_form before (form_at (stage_after before) fields)) (cut_fields (fields_of (spellings_of said)) (a_field (spellings_of said)) line.fields)
    ∙ ap (λ s. verdict_of_form before (form_at s (fields_of (spellings_of said)))) staged
    ∙ ap (verdict_of_form before) (form_told said long)
    ∙ rw (line.values, line.spelled, none_of (first_that_applies (value_tests before said)) clear) refl

-- so do all lines that are good and stand in their places
record Tells (before said : List (Said ℕ)) : Type 0 where
  says : said_by before (map line_text said) ≡ Some (before ++ said)
  are_lines : AllByRecursion IsLine (map line_text said)

module _ (dec : HasSpelling 10) (hex : HasSpelling 16) where
  told : (before said : List (Said ℕ)) → AreStaged before said → are_good before said ≡ true → Tells before said
  told before [] staged good = record { says = ap Some (sym (append-nil before)); are_lines = tt }
  told before (said ∷ more) staged good =
      let p = and_parts (is_none (first_that_applies (value_tests before said))) (are_good (before ++ said ∷ []) more) good in
      let clear = all_clear (value_tests before said) p.0 in
      let line = line_of dec hex said staged.1 (not-false (every is_within (tested said)) clear.0) (not-false (every is_titled (tested said)) clear.1.1.0) in
      let rest = told (before ++ said ∷ []) more staged.2 p.1 in
      record {
        says = ap (λ r. where_said r (λ s. said_by (before ++ s ∷ []) (map line_text more))) (verdict_told before said staged.0 staged.1 line p.0) ∙ rest.says ∙ ap Some (append_assoc before (said ∷ []) more);
        are_lines = (line_fields (fields_of (spellings_of said)) (a_field (spellings_of said)) line.fields line.short, rest.are_lines);
      }

  -- the text of a trace reads as it
  pub reads_again : (t : Trace) → Reads (trace_text (recording_of t)) (recording_of t)
  reads_again t = let all = told [] (said_in (recording_of t)) (trace_staged (recording_of t)) t.good in record {
    says = record {
      lines = map line_text (said_in (recording_of t));
      are_lines = all.are_lines;
      text = refl;
      says = all.says;
      ended = trace_ended (recording_of t);
    };
    images = t.in_order;
  }
