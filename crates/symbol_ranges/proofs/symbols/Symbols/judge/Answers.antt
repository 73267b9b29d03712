-- The numbers of a line give no range.
use Rattle.std.proofs.Common.{◌≡◌, Bool, true, false, ◌||◌, List, ◌∷◌, Err, refl, ap, sym, ◌∙◌}
use Rattle.std.specs.Prelude.{not, if◌then◌else◌}
use Rattle.symbol_ranges.specs.declared.symbols.Symbol.{Symbol}
use Rattle.symbol_ranges.specs.declared.refusals.SymbolWhy.{SymbolWhy}
use Rattle.symbol_ranges.specs.declared.refusals.SymbolWhy.TheVariants.{BadNumber, OutOfRange}
use Rattle.symbol_ranges.specs.Lines.{are_spelled, first_that_applies, is_out_of_range, judged, range_tests, start_of, symbol_of}
use Rattle.symbol_ranges.specs.Reads.{texts_of}
use Rattle.text_num.specs.Numbers.{value_of}
use Rattle.symbol_ranges.proofs.symbols.Symbols.judge.Goals as goal

first_two : (a b : Bool) (symbol : Symbol) (more : List (SymbolWhy × Bool)) → (not a || b) ≡ true → judged symbol (first_that_applies ((BadNumber, not a) ∷ (OutOfRange, b) ∷ more)) ≡ Err (if a then OutOfRange else BadNumber)
first_two true true symbol more h = refl
first_two true false symbol more h = cc
first_two false b symbol more h = refl

pub returns-in_default-clause-judged : goal.returns-in_default-clause-judged
returns-in_default-clause-judged c =
    let texts = texts_of c.args.fields.now in
    first_two (are_spelled texts) (is_out_of_range (start_of texts) (value_of 16 texts.size)) (symbol_of texts) (range_tests c.args.self.now texts) c.in_default.ensures ∙ ap (λ w. Err w) (sym c.why_no_range.ensures)
