-- The line of a refusal was told by a write, whole or in part.
use Rattle.std.proofs.Common.{◌≡◌, ℕ, List, [], ◌++◌, inl, inr, sym, ap, ◌∙◌, append_assoc}
use Rattle.std.proofs.lemmas.List.{append-nil}
use Rattle.std.specs.declared.result.Result.{Result}
use Rattle.std.specs.declared.result.Result.TheVariants.{Ok, Err}
use Rattle.std.specs.Prelude.{OnOk, OnErr}
use Rattle.std.specs.Io.KnownBytes.{Appends}
use Rattle.outside_io.specs.Causes.{HasCause}
use Rattle.outside_io.specs.Prefix.{AppendsPrefix}
use Rattle.dcpi_top.specs.declared.refusals.Refusal.{Refusal}
use Rattle.dcpi_top.specs.Messages.{Tells, first_words, last_words, line_of}
use Rattle.dcpi_top.specs.Streams.{Stream, HasFailed}

-- what a write of these bytes did to the error output
pub record Wrote {T E : Type 0} (text : List ℕ) (errors : Stream) (result : Result T E) : Type 0 where
  pub whole : OnOk result (Appends errors.old errors.new text)
  pub front : OnErr result (AppendsPrefix errors.old errors.new text)
  pub failed : OnErr result (HasFailed errors)

-- a call that failed counted a fault
pub has_failed : {T E : Type 0} (errors : Stream) (result : Result T E) → HasCause errors.faults_before errors.faults_after result
    → OnErr result (HasFailed errors)
has_failed errors (Ok x) cause = tt
has_failed errors (Err e) cause = record { later = cause.later; rose = cause.failed }

-- the whole line was written, or what a failed write left of it
pub told_whole : {T E : Type 0} (refusal : Refusal) (errors : Stream) (result : Result T E) (text : List ℕ) → text ≡ line_of refusal
    → Wrote text errors result → Tells refusal errors
told_whole refusal errors (Ok x) text is w = record {
  prefix = text;
  rest = [];
  line = sym is ∙ sym (append-nil text);
  written = w.whole;
  enough = inl (last_words refusal, is);
}
told_whole refusal errors (Err e) text is w = record {
  prefix = w.front.0;
  rest = w.front.1;
  line = sym is ∙ w.front.2;
  written = w.front.3;
  enough = inr w.failed;
}

-- the first words were written, or what a failed write left of them
pub told_first : {T E : Type 0} (refusal : Refusal) (errors : Stream) (result : Result T E) (text : List ℕ) → text ≡ first_words refusal
    → Wrote text errors result → Tells refusal errors
told_first refusal errors (Ok x) text is w = record {
  prefix = text;
  rest = last_words refusal;
  line = ap (λ words. words ++ last_words refusal) (sym is);
  written = w.whole;
  enough = inl ([], is ∙ sym (append-nil (first_words refusal)));
}
told_first refusal errors (Err e) text is w = record {
  prefix = w.front.0;
  rest = w.front.1 ++ last_words refusal;
  line = ap (λ words. words ++ last_words refusal) (sym is ∙ w.front.2) ∙ append_assoc w.front.0 w.front.1 (last_words refusal);
  written = w.front.3;
  enough = inr w.failed;
}
