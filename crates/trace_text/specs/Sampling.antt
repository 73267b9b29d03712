-- The line of a sample that is read in one pass.
use Rattle.std.specs.Prelude.{◌≡◌, ℕ, ◌<◌, ◌≤◌, ◌^◌, true, List, ◌∷◌, length, take}
use Rattle.std.specs.List.{list_all}
use Rattle.std.specs.declared.option.Option.TheVariants.{Some}
use Rattle.std.specs.declared.result.Result.TheVariants.{Ok}
use Rattle.text_num.specs.Numbers.{is_digit, number, value_of}
use Rattle.trace_model.specs.Grammar.{body_of, cut_at_spaces, verdict}
use Rattle.trace_model.specs.Said.{Said}
use Rattle.trace_text.specs.declared.body.Body.{Body}
use Rattle.trace_text.specs.declared.body_lines.SampleLine.{SampleLine}
use Rattle.trace_text.specs.Forms.{ReadsLine, sample_values}
use Rattle.trace_text.specs.State.{Passes, said_in_body}

-- so many bytes at the front of a text are digits, and they write this number
abbrev pub WritesFront : ℕ → List ℕ → ℕ → ℕ → Type 0
WritesFront base text n count =
    (count ≤ length text) × (list_all (is_digit base) (take count text) ≡ true) × (n ≡ value_of base (take count text)) × (n < 2 ^ 64)

-- the first field of a text spells this number, and a space and the other text stand behind it
abbrev pub LeadsWith : ℕ → List ℕ → ℕ → List ℕ → Type 0
LeadsWith base text n rest = (field : List ℕ) × (cut_at_spaces text ≡ field ∷ cut_at_spaces rest) × (number base field ≡ Some n)

-- a line is that of a sample with these values
abbrev pub ReadsSample : List ℕ → SampleLine ℕ ℕ → Type 0
ReadsSample line sample = (raw : Said (List ℕ)) × (Some raw ≡ body_of (cut_at_spaces line)) × ReadsLine raw (Some (sample_values sample))

-- a line is a good sample behind what a body says
abbrev pub IsGoodSample : Body → List ℕ → SampleLine ℕ ℕ → Type 0
IsGoodSample body line sample = (verdict (said_in_body body) line ≡ Ok (sample_values sample)) × Passes (said_in_body body) (sample_values sample)
