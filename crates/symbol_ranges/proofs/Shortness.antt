-- How long a symbol list is: each line says one symbol, and is refused where there are too many before it.
use Rattle.std.proofs.Common.{◌≡◌, ℕ, ◌+◌, ◌*◌, ◌<◌, ◌≤◌, Bool, true, false, not, List, [], ◌∷◌, ◌++◌, length, leb, refl, ap, arith, Option, Some, None, Result, Ok, Err, if◌then◌else◌}
use Rattle.std.specs.List.{AllByRecursion}
use Rattle.std.proofs.lemmas.Bool.{leb-false}
use Rattle.std.proofs.lemmas.List.{length-append}
use Rattle.text_num.specs.Lines.{text_of_lines}
use Rattle.text_num.specs.Numbers.{value_of}
use Rattle.symbol_ranges.specs.declared.symbols.Symbol.{Symbol}
use Rattle.symbol_ranges.specs.declared.symbols.TheConstants.{MOST_LINES, MOST_LINE_BYTES}
use Rattle.symbol_ranges.specs.declared.refusals.SymbolWhy.{SymbolWhy}
use Rattle.symbol_ranges.specs.declared.refusals.SymbolWhy.TheVariants.{BadLine, BadNumber, OutOfRange, Unaligned, BadName, Overlap, TooMany}
use Rattle.symbol_ranges.specs.Lines.{IsLine, Reads, Texts, are_aligned, are_spelled, are_titled, cut_at_spaces, end_of, first_that_applies, four_of, is_out_of_range, judged, overlaps, said_by, start_of, symbol_of, tests_of, verdict, verdict_of, where_said}

none_some : {A : Type 0} (x : A) → None ≡ Some x → ⊥
none_some x e = cc

some_none : {A : Type 0} (x : A) → Some x ≡ None → ⊥
some_none x e = cc

some_same : (a b : List Symbol) → Some a ≡ Some b → a ≡ b
some_same a b e = cc

err_ok : (why : SymbolWhy) (symbol : Symbol) → Err why ≡ Ok symbol → ⊥
err_ok why symbol e = cc

passes : (symbol given : Symbol) (found : Option SymbolWhy) → judged given found ≡ Ok symbol → found ≡ None
passes symbol given None e = refl
passes symbol given (Some why) e = absurd (err_ok why symbol e)

-- what passes six tests passes the last
last_test : (a b c d f g : Bool) → first_that_applies ((BadNumber, a) ∷ (OutOfRange, b) ∷ (Unaligned, c) ∷ (BadName, d) ∷ (Overlap, f) ∷ (TooMany, g) ∷ []) ≡ None → g ≡ false
last_test true b c d f g e = absurd (some_none BadNumber e)
last_test false true c d f g e = absurd (some_none OutOfRange e)
last_test false false true d f g e = absurd (some_none Unaligned e)
last_test false false false true f g e = absurd (some_none BadName e)
last_test false false false false true g e = absurd (some_none Overlap e)
last_test false false false false false true e = absurd (some_none TooMany e)
last_test false false false false false false e = refl

-- there is room for what passes each test
room_of : (before : List Symbol) (found : Option Texts) (symbol : Symbol) → verdict_of before found ≡ Ok symbol → length before < MOST_LINES
room_of before None symbol e = absurd (err_ok BadLine symbol e)
room_of before (Some texts) symbol e = leb-false MOST_LINES (length before)
    (last_test (not (are_spelled texts)) (is_out_of_range (start_of texts) (value_of 16 texts.size)) (not (are_aligned (start_of texts) (end_of texts))) (not (are_titled texts))
    (overlaps before texts.image (start_of texts) (end_of texts)) (leb MOST_LINES (length before)) (passes symbol (symbol_of texts) (first_that_applies (tests_of before texts)) e))

room_if : (short : Bool) (before : List Symbol) (found : Option Texts) (symbol : Symbol) → (if short then verdict_of before found else Err BadLine) ≡ Ok symbol → length before < MOST_LINES
room_if true before found symbol e = room_of before found symbol e
room_if false before found symbol e = absurd (err_ok BadLine symbol e)

room : (before : List Symbol) (line : List ℕ) (symbol : Symbol) → verdict before line ≡ Ok symbol → length before < MOST_LINES
room before line symbol e = room_if (leb (length line) MOST_LINE_BYTES) before (four_of (cut_at_spaces line)) symbol e

-- the symbols after some lines are no more than there may be, one for each line
abbrev GrowsTo : List Symbol → List Symbol → List (List ℕ) → Type 0
GrowsTo before after lines = (length after ≤ MOST_LINES) × (length after ≡ length before + length lines)

grows_by : (r : Result Symbol SymbolWhy) (before after : List Symbol) (line : List ℕ) (lines : List (List ℕ)) → verdict before line ≡ r
    → ((symbol : Symbol) → said_by (before ++ symbol ∷ []) lines ≡ Some after → length (before ++ symbol ∷ []) ≤ MOST_LINES → GrowsTo (before ++ symbol ∷ []) after lines)
    → where_said r (λ symbol. said_by (before ++ symbol ∷ []) lines) ≡ Some after → GrowsTo before after (line ∷ lines)
grows_by (Ok symbol) before after line lines v more e =
    let longer : length (before ++ symbol ∷ []) ≡ length before + 1 = length-append before (symbol ∷ []) in
    let g = more symbol e (omega (arith, longer, room before line symbol v)) in (g.0, omega (arith, g.1, longer))
grows_by (Err why) before after line lines v more e = absurd (none_some after e)

grows : (before after : List Symbol) (lines : List (List ℕ)) → said_by before lines ≡ Some after → length before ≤ MOST_LINES → GrowsTo before after lines
grows before after [] e most = let same = ap length (some_same before after e) in (omega (arith, most, same), omega (arith, same))
grows before after (line ∷ lines) e most = grows_by (verdict before line) before after line lines refl (λ symbol f m. grows (before ++ symbol ∷ []) after lines f m) e

-- the lines of a list are few
pub few_lines : (bytes : List ℕ) (symbols : List Symbol) (reads : Reads bytes symbols) → length reads.lines ≤ MOST_LINES
few_lines bytes symbols reads = let g = grows [] symbols reads.lines reads.says (omega arith) in omega (arith, g.0, g.1)

text_length : (lines : List (List ℕ)) → AllByRecursion IsLine lines → length (text_of_lines lines) ≤ 601 * length lines
text_length [] all = omega arith
text_length (line ∷ lines) all = omega (arith, length-append line (10 ∷ text_of_lines lines), all.0.1, text_length lines all.1)

-- few lines are few bytes
pub few_bytes : (bytes : List ℕ) (symbols : List Symbol) → Reads bytes symbols → length bytes ≤ 601 * MOST_LINES
few_bytes bytes symbols reads = omega (arith, ap length reads.text, text_length reads.lines reads.are_lines, few_lines bytes symbols reads)
