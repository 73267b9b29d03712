-- One sample more, while a trace is made.
use Rattle.std.proofs.Common.{◌≡◌, ℕ, zero, suc, ◌+◌, ◌*◌, List, [], ◌∷◌, ◌++◌, ap, sym, ◌∙◌, arith, append_assoc, add-one}
use Rattle.std.proofs.lemmas.List.{map-append}
use Rattle.trace_model.specs.declared.notices.Line.{Line}
use Rattle.trace_model.specs.Said.{Said}
use Rattle.trace_model.specs.Recording.{line_said}
use Rattle.trace_generator.specs.Draws.{state_after, stepped}
use Rattle.trace_generator.specs.Generator.{image_names, records_after, sample_from, samples_to}
use Rattle.trace_generator.specs.Making.{said_of}

-- draws go on where others ended
pub state_more : (state a b : ℕ) → state_after (state_after state a) b ≡ state_after state (a + b)
state_more state a zero = ap (state_after state) (let e : a ≡ a + 0 = omega arith in e)
state_more state a (suc b) = ap stepped (state_more state a b) ∙ (let e : suc (a + b) ≡ a + suc b = omega arith in ap (state_after state) e)

pub five_more : (seed n state after : ℕ) → state ≡ state_after seed (5 * n) → after ≡ state_after state 5 → after ≡ state_after seed (5 * (n + 1))
five_more seed n state after e f = f ∙ ap (λ (s : ℕ). state_after s 5) e ∙ state_more seed (5 * n) 5 ∙ (let i : 5 * n + 5 ≡ 5 * (n + 1) = omega arith in ap (state_after seed) i)

samples_more : (seed n : ℕ) → samples_to seed (n + 1) ≡ samples_to seed n ++ sample_from (state_after seed (5 * n)) ∷ records_after (n + 1)
samples_more seed n = ap (samples_to seed) (add-one n)
    ∙ ap (λ (k : ℕ). samples_to seed n ++ sample_from (state_after seed (5 * n)) ∷ records_after k) (sym (add-one n))

-- what the lines say with a sample and its records behind them
pub lines_more : (lines more new : List Line) (line : Line) (old : List (Said ℕ)) (seed n state : ℕ)
    → said_of lines ≡ old ++ samples_to seed n → state ≡ state_after seed (5 * n) → line_said image_names line ≡ sample_from state
    → more ≡ lines ++ line ∷ [] → said_of new ≡ said_of more ++ records_after (n + 1)
    → said_of new ≡ old ++ samples_to seed (n + 1)
lines_more lines more new line old seed n state said drawn sampled pushed rest =
    rest
    ∙ ap (λ (l : List Line). said_of l ++ records_after (n + 1)) pushed
    ∙ ap (λ (l : List (Said ℕ)). l ++ records_after (n + 1)) (map-append (line_said image_names) lines (line ∷ []))
    ∙ (λ i. (said i ++ (sampled ∙ ap sample_from drawn) i ∷ []) ++ records_after (n + 1))
    ∙ append_assoc (old ++ samples_to seed n) (sample_from (state_after seed (5 * n)) ∷ []) (records_after (n + 1))
    ∙ append_assoc old (samples_to seed n) (sample_from (state_after seed (5 * n)) ∷ records_after (n + 1))
    ∙ ap (λ (l : List (Said ℕ)). old ++ l) (sym (samples_more seed n))
