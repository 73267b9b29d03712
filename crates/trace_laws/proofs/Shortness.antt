-- How long a trace is: each line says one thing, and there may not be more of them than the limits of their kinds let be.
use Rattle.std.proofs.Common.{◌≡◌, ℕ, suc, ◌+◌, ◌*◌, ◌≤◌, List, [], ◌∷◌, ◌++◌, length, map, refl, ap, sym, ◌∙◌, arith, Some, None, Result, Ok, Err}
use Rattle.std.specs.List.{AllByRecursion}
use Rattle.std.proofs.lemmas.List.{length-append, length-map}
use Rattle.sample_key.specs.declared.limits.TheConstants.{MOST_SAMPLES}
use Rattle.text_num.specs.Lines.{text_of_lines}
use Rattle.trace_model.specs.declared.limits.TheConstants.{MOST_RECORDS, MOST_STEPS}
use Rattle.trace_model.specs.declared.notices.Line.{Line}
use Rattle.trace_model.specs.declared.notices.Line.TheVariants.{Sample, Rec}
use Rattle.trace_model.specs.declared.reasons.TraceWhy.{TraceWhy}
use Rattle.trace_model.specs.Said.{Said, Ended}
use Rattle.trace_model.specs.Grammar.{verdict, said_by, where_said, IsLine}
use Rattle.trace_model.specs.Recording.{Recording, Reads, line_said, said_in, step_said}
use Rattle.trace_model.specs.Streams.{records_from, samples_from}
use Rattle.trace_laws.specs.Kept.{KeepsLimits}
use Rattle.trace_laws.proofs.Inverse.{says_good}
use Rattle.trace_laws.proofs.Keeping.{limits_of}

some_none : {A : Type 0} (x : A) → None ≡ Some x → ⊥
some_none x e = cc

some_same : (a b : List (Said ℕ)) → Some a ≡ Some b → a ≡ b
some_same a b e = cc

said_length_by : (r : Result (Said ℕ) TraceWhy) (before after : List (Said ℕ)) (xs : List (List ℕ))
    → ((s : Said ℕ) → said_by (before ++ s ∷ []) xs ≡ Some after → length after ≡ length (before ++ s ∷ []) + length xs)
    → where_said r (λ s. said_by (before ++ s ∷ []) xs) ≡ Some after → length after ≡ length before + suc (length xs)
said_length_by (Ok s) before after xs h e = omega (arith, h s e, length-append before (s ∷ []))
said_length_by (Err why) before after xs h e = absurd (some_none after e)

-- each line says one thing
pub said_length : (before after : List (Said ℕ)) (xs : List (List ℕ)) → said_by before xs ≡ Some after → length after ≡ length before + length xs
said_length before after [] e = ap length (sym (some_same before after e)) ∙ omega arith
said_length before after (x ∷ xs) e = said_length_by (verdict before x) before after xs (λ s f. said_length (before ++ s ∷ []) after xs f) e

-- each line of a body is a sample or a record
both_kinds : (lines : List Line) → length lines ≡ length (samples_from lines) + length (records_from lines)
both_kinds [] = refl
both_kinds (Sample cpu key ∷ lines) = omega (arith, both_kinds lines)
both_kinds (Rec notice ∷ lines) = omega (arith, both_kinds lines)

-- the header, the samples and records, the end, and the steps
abbrev pub most : ℕ
most = 1 + MOST_SAMPLES + MOST_RECORDS + 1 + MOST_STEPS

said_few : (r : Recording) → KeepsLimits r → length (said_in r) ≤ most
said_few r k = omega (
  arith,
  length-append (map (line_said r.images) r.lines) (Ended ∷ map step_said r.schedule),
  length-map r.lines (line_said r.images),
  length-map r.schedule step_said,
  both_kinds r.lines,
  k.samples,
  k.records,
  k.steps,
)

-- the lines of a trace are few
pub few_lines : (bytes : List ℕ) (r : Recording) (reads : Reads bytes r) → length reads.says.lines ≤ most
few_lines bytes r reads = let s = reads.says in omega (arith, said_length [] (said_in r) s.lines s.says, said_few r (limits_of r (says_good bytes (said_in r) s)))

text_length : (lines : List (List ℕ)) → AllByRecursion IsLine lines → length (text_of_lines lines) ≤ 401 * length lines
text_length [] all = omega arith
text_length (line ∷ lines) all = omega (arith, length-append line (10 ∷ text_of_lines lines), all.0.1, text_length lines all.1)

-- few lines are few bytes
pub few_bytes : (bytes : List ℕ) (r : Recording) → Reads bytes r → length bytes ≤ 401 * most
few_bytes bytes r reads = let s = reads.says in omega (arith, ap length s.text, text_length s.lines s.are_lines, few_lines bytes r reads)
