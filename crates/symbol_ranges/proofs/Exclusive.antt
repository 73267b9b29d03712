-- A text has one reading: the same lines, and no line is refused in it.
use Rattle.std.proofs.Common.{◌≡◌, ℕ, ◌+◌, List, [], ◌∷◌, ◌++◌, length, refl, ap, sym, subst, ◌∙◌, arith, Option, Some, Result, Ok, Err, append_assoc}
use Rattle.std.specs.List.{AllByRecursion}
use Rattle.std.proofs.lemmas.List.{length-append}
use Rattle.std.proofs.lemmas.Option.{none-some}
use Rattle.text_num.specs.Lines.{text_of_lines}
use Rattle.text_num.proofs.Lines.{nil_line, feed_within, same_line, short_line, same_lines}
use Rattle.symbol_ranges.specs.declared.symbols.Symbol.{Symbol}
use Rattle.symbol_ranges.specs.declared.refusals.SymbolWhy.{SymbolWhy}
use Rattle.symbol_ranges.specs.Lines.{verdict, said_by, where_said, IsLine, Reads, Refuses, Finished, Stopped, Overlong, FirstBad}

some_same : (a b : List Symbol) → Some a ≡ Some b → a ≡ b
some_same a b e = cc

-- the lines that are left behind the good ones
record Left (rest : List ℕ) (said whole : List Symbol) : Type 0 where
  lines : List (List ℕ)
  are_lines : AllByRecursion IsLine lines
  text : text_of_lines lines ≡ rest
  says : said_by said lines ≡ Some whole

left_by : (r : Result Symbol SymbolWhy) (before said whole : List Symbol) (xs ys : List (List ℕ)) (rest : List ℕ)
    → ((s : Symbol) → said_by (before ++ s ∷ []) xs ≡ Some whole → said_by (before ++ s ∷ []) ys ≡ Some said → Left rest said whole)
    → where_said r (λ s. said_by (before ++ s ∷ []) xs) ≡ Some whole → where_said r (λ s. said_by (before ++ s ∷ []) ys) ≡ Some said → Left rest said whole
left_by (Ok s) before said whole xs ys rest h e f = h s e f
left_by (Err why) before said whole xs ys rest h e f = absurd (none-some whole e)

left_of : (before said whole : List Symbol) (lines good : List (List ℕ)) (rest : List ℕ) → AllByRecursion IsLine lines → AllByRecursion IsLine good
    → text_of_lines lines ≡ text_of_lines good ++ rest → said_by before lines ≡ Some whole → said_by before good ≡ Some said → Left rest said whole
left_of before said whole lines [] rest h k e s t = record { lines = lines; are_lines = h; text = e; says = subst (λ (b : List Symbol). said_by b lines ≡ Some whole) (some_same before said t) s }
left_of before said whole [] (g ∷ good) rest h k e s t = absurd (nil_line g (text_of_lines good ++ rest) (e ∙ append_assoc g (10 ∷ text_of_lines good) rest))
left_of before said whole (l ∷ lines) (g ∷ good) rest h k e s t = let p = same_line l g (text_of_lines lines) (text_of_lines good ++ rest) h.0.0 k.0.0 (e ∙ append_assoc g (10 ∷ text_of_lines good) rest) in
    left_by (verdict before l) before said whole lines good rest (λ x a b. left_of (before ++ x ∷ []) said whole lines good rest h.1 k.1 p.1 a b) s
    (subst (λ (z : List ℕ). where_said (verdict before z) (λ x. said_by (before ++ x ∷ []) good) ≡ Some said) (sym p.0) t)

-- what is left of a list is not refused
not_refused_by : (lines : List (List ℕ)) (rest : List ℕ) (said whole : List Symbol) (why : SymbolWhy) → AllByRecursion IsLine lines → text_of_lines lines ≡ rest → said_by said lines ≡ Some whole
    → Refuses said rest why → ⊥
not_refused_by [] rest said whole why h e s (Finished line more is text bad) = nil_line line more (e ∙ text)
not_refused_by (l ∷ lines) rest said whole why h e s (Finished line more is text bad) = let p = same_line l line (text_of_lines lines) more h.0.0 is.0 (e ∙ text) in
    none-some whole (sym (ap (λ r. where_said r (λ x. said_by (said ++ x ∷ []) lines)) (ap (verdict said) p.0 ∙ bad)) ∙ s)
not_refused_by [] rest said whole why h e s (Stopped is some reason) = some (sym e)
not_refused_by (l ∷ lines) rest said whole why h e s (Stopped is none reason) = feed_within l (text_of_lines lines) rest is.0 e
not_refused_by [] rest said whole why h e s (Overlong line more feed long text reason) = absurd (omega (arith, ap length (e ∙ text), length-append line more, long))
not_refused_by (l ∷ lines) rest said whole why h e s (Overlong line more feed long text reason) = short_line l line (text_of_lines lines) more feed (omega (arith, h.0.1, long)) (e ∙ text)

-- a list has no first bad line
pub not_both : (bytes : List ℕ) (number : ℕ) (why : SymbolWhy) (symbols : List Symbol) → FirstBad bytes number why → Reads bytes symbols → ⊥
not_both bytes number why symbols bad good = let left = left_of [] bad.symbols symbols good.lines bad.lines bad.rest good.are_lines bad.are_lines (sym good.text ∙ bad.text) good.says bad.says in
    not_refused_by left.lines bad.rest bad.symbols symbols why left.are_lines left.text left.says bad.refused

-- a text says one thing
pub says_one : (bytes : List ℕ) (said other : List Symbol) → Reads bytes said → Reads bytes other → said ≡ other
says_one bytes said other a b = some_same said other (sym a.says ∙ ap (said_by []) (same_lines IsLine (λ line h. h.0) a.lines b.lines a.are_lines b.are_lines (sym a.text ∙ b.text)) ∙ b.says)

-- a line that says something is not refused
taken_by : (r : Result Symbol SymbolWhy) (why : SymbolWhy) (whole : List Symbol) (next : Symbol → Option (List Symbol)) → r ≡ Err why → where_said r next ≡ Some whole → ⊥
taken_by r why whole next e f = none-some whole (sym (ap (λ (v : Result Symbol SymbolWhy). where_said v next) e) ∙ f)

line_not_refused : (before said : List Symbol) (line : List ℕ) (lines : List (List ℕ)) (rest : List ℕ) (why : SymbolWhy) → IsLine line → said_by before (line ∷ lines) ≡ Some said → Refuses before (line ++ 10 ∷ rest) why → ⊥
line_not_refused before said line lines rest why h s (Finished other more is text bad) = let p = same_line line other rest more h.0 is.0 text in
    taken_by (verdict before line) why said (λ x. said_by (before ++ x ∷ []) lines) (ap (verdict before) p.0 ∙ bad) s
line_not_refused before said line lines rest why h s (Stopped is none reason) = feed_within line rest (line ++ 10 ∷ rest) is.0 refl
line_not_refused before said line lines rest why h s (Overlong other more feed long text reason) = short_line line other rest more feed (omega (arith, h.1, long)) text

err_same : (a b : SymbolWhy) (r : Result Symbol SymbolWhy) → r ≡ Err a → r ≡ Err b → a ≡ b
err_same a b r e f = cc

-- a line or a piece is refused for one reason
one_reason : (before : List Symbol) (rest : List ℕ) (why other : SymbolWhy) → Refuses before rest why → Refuses before rest other → why ≡ other
one_reason before rest why other (Finished a xs is text bad) (Finished b ys js text' bad') = let p = same_line a b xs ys is.0 js.0 (sym text ∙ text') in
    err_same why other (verdict before a) bad (ap (verdict before) p.0 ∙ bad')
one_reason before rest why other (Finished a xs is text bad) (Stopped js none reason) = absurd (feed_within a xs rest js.0 (sym text))
one_reason before rest why other (Finished a xs is text bad) (Overlong b ys feed long text' reason) = absurd (short_line a b xs ys feed (omega (arith, is.1, long)) (sym text ∙ text'))
one_reason before rest why other (Stopped is none reason) (Finished b ys js text' bad') = absurd (feed_within b ys rest is.0 (sym text'))
one_reason before rest why other (Stopped is none reason) (Stopped js none' reason') = reason ∙ sym reason'
one_reason before rest why other (Stopped is none reason) (Overlong b ys feed long text reason') = absurd (omega (arith, is.1, long, ap length text, length-append b ys))
one_reason before rest why other (Overlong a xs feed long text reason) (Finished b ys js text' bad') = absurd (short_line b a ys xs feed (omega (arith, js.1, long)) (sym text' ∙ text))
one_reason before rest why other (Overlong a xs feed long text reason) (Stopped js none reason') = absurd (omega (arith, js.1, long, ap length text, length-append a xs))
one_reason before rest why other (Overlong a xs feed long text reason) (Overlong b ys feed' long' text' reason') = reason ∙ sym reason'

-- where two readings stop at a bad line, they stop at the same
record Agree (lines others : List (List ℕ)) (why other : SymbolWhy) : Type 0 where
  number : length lines ≡ length others
  reason : why ≡ other

after_line : (r : Result Symbol SymbolWhy) (before : List Symbol) (lines others : List (List ℕ)) (why other : SymbolWhy) (said told : List Symbol) (l g : List ℕ)
    → ((x : Symbol) → said_by (before ++ x ∷ []) lines ≡ Some said → said_by (before ++ x ∷ []) others ≡ Some told → Agree lines others why other)
    → where_said r (λ x. said_by (before ++ x ∷ []) lines) ≡ Some said → where_said r (λ x. said_by (before ++ x ∷ []) others) ≡ Some told → Agree (l ∷ lines) (g ∷ others) why other
after_line (Ok x) before lines others why other said told l g h s t = let p = h x s t in record { number = omega (arith, p.number); reason = p.reason }
after_line (Err e) before lines others why other said told l g h s t = absurd (none-some said s)

one_line : (before : List Symbol) (lines others : List (List ℕ)) (rest left : List ℕ) (said told : List Symbol) (why other : SymbolWhy) → AllByRecursion IsLine lines → AllByRecursion IsLine others
    → text_of_lines lines ++ rest ≡ text_of_lines others ++ left → said_by before lines ≡ Some said → said_by before others ≡ Some told → Refuses said rest why → Refuses told left other → Agree lines others why other
one_line before [] [] rest left said told why other h k e s t a b = record {
  number = refl;
  reason = one_reason before rest why other (subst (λ (l : List Symbol). Refuses l rest why) (sym (some_same before said s)) a)
      (subst (λ (l : List ℕ). Refuses before l other) (sym e) (subst (λ (l : List Symbol). Refuses l left other) (sym (some_same before told t)) b));
}
one_line before [] (g ∷ others) rest left said told why other h k e s t a b = absurd (line_not_refused before told g others (text_of_lines others ++ left) why k.0 t
    (subst (λ (l : List ℕ). Refuses before l why) (e ∙ append_assoc g (10 ∷ text_of_lines others) left) (subst (λ (l : List Symbol). Refuses l rest why) (sym (some_same before said s)) a)))
one_line before (l ∷ lines) [] rest left said told why other h k e s t a b = absurd (line_not_refused before said l lines (text_of_lines lines ++ rest) other h.0 s
    (subst (λ (z : List ℕ). Refuses before z other) (sym e ∙ append_assoc l (10 ∷ text_of_lines lines) rest) (subst (λ (z : List Symbol). Refuses z left other) (sym (some_same before told t)) b)))
one_line before (l ∷ lines) (g ∷ others) rest left said told why other h k e s t a b =
    let p = same_line l g (text_of_lines lines ++ rest) (text_of_lines others ++ left) h.0.0 k.0.0 (sym (append_assoc l (10 ∷ text_of_lines lines) rest) ∙ e ∙ append_assoc g (10 ∷ text_of_lines others) left) in
    after_line (verdict before l) before lines others why other said told l g
    (λ x sx tx. one_line (before ++ x ∷ []) lines others rest left said told why other h.1 k.1 p.1 sx tx a b) s
    (subst (λ (z : List ℕ). where_said (verdict before z) (λ x. said_by (before ++ x ∷ []) others) ≡ Some told) (sym p.0) t)

-- an input is refused at one line and for one reason
pub one_refusal : (bytes : List ℕ) (n m : ℕ) (why other : SymbolWhy) → FirstBad bytes n why → FirstBad bytes m other → (n ≡ m) × (why ≡ other)
one_refusal bytes n m why other a b = let p = one_line [] a.lines b.lines a.rest b.rest a.symbols b.symbols why other a.are_lines b.are_lines (sym a.text ∙ b.text) a.says b.says a.refused b.refused in
    (a.number_is ∙ ap (λ (k : ℕ). k + 1) p.number ∙ sym b.number_is, p.reason)
