-- Every input is lines that say something, or is refused.
use Rattle.std.proofs.Common.{◌≡◌, ℕ, zero, suc, ◌+◌, ◌<◌, ◌≤◌, ◌⊎◌, inl, inr, Bool, true, false, List, [], ◌∷◌, ◌++◌, length, refl, ap, sym, subst, ◌∙◌, arith, Some, Result, Ok, Err, ⊎_elim}
use Rattle.std.specs.List.{AllByRecursion, list_any}
use Rattle.std.proofs.lemmas.Bool.{cases_eq, cases_lt}
use Rattle.std.proofs.lemmas.List.{append-nil, append_assoc, length-append}
use Rattle.text_num.specs.Lines.{HasNoLineFeed, text_of_lines}
use Rattle.trace_model.specs.declared.reasons.TraceWhy.{TraceWhy}
use Rattle.trace_model.specs.declared.reasons.TraceWhy.TheVariants.{NoEnd, AfterEnd}
use Rattle.trace_model.specs.Said.{Said, is_end}
use Rattle.trace_model.specs.Grammar.{verdict, said_by, where_said, IsLine, Says, Refuses, Finished, Stopped, Unfinished, Overlong, why_no_form, stage_after}
use Rattle.trace_laws.specs.Readings.{IsRefused}

-- the bytes up to the first line feed
record Piece (bytes : List ℕ) : Type 0 where
  front : List ℕ
  rest : List ℕ
  whole : bytes ≡ front ++ rest
  no_feed : HasNoLineFeed front
  ends : (rest ≡ []) ⊎ ((more : List ℕ) × (rest ≡ 10 ∷ more))

piece : (bytes : List ℕ) → Piece bytes
piece [] = record { front = []; rest = []; whole = refl; no_feed = tt; ends = inl refl }
piece (c ∷ bytes) = let p = piece bytes in ⊎_elim
    (λ e. record { front = []; rest = c ∷ bytes; whole = refl; no_feed = tt; ends = inr (bytes, ap (λ (b : ℕ). b ∷ bytes) e) })
    (λ ne. record { front = c ∷ p.front; rest = p.rest; whole = ap (λ (l : List ℕ). c ∷ l) p.whole; no_feed = (ne, p.no_feed); ends = p.ends })
    (cases_eq c 10)

-- the first so many bytes of a piece
record Front (n : ℕ) (bytes : List ℕ) : Type 0 where
  line : List ℕ
  more : List ℕ
  whole : bytes ≡ line ++ more
  no_feed : HasNoLineFeed line
  size : length line ≡ n

front : (n : ℕ) (bytes : List ℕ) → HasNoLineFeed bytes → n ≤ length bytes → Front n bytes
front zero bytes h k = record { line = []; more = bytes; whole = refl; no_feed = tt; size = refl }
front (suc n) [] h k = absurd (omega (arith, k))
front (suc n) (c ∷ bytes) h k = let f = front n bytes h.1 (omega (arith, k)) in record { line = c ∷ f.line; more = f.more; whole = ap (λ (l : List ℕ). c ∷ l) f.whole; no_feed = (h.0, f.no_feed); size = omega (arith, f.size) }

-- these bytes are lines that say something behind what was said
record Tells (before : List (Said ℕ)) (bytes : List ℕ) : Type 0 where
  lines : List (List ℕ)
  said : List (Said ℕ)
  are_lines : AllByRecursion IsLine lines
  text : bytes ≡ text_of_lines lines
  says : said_by before lines ≡ Some said
  ended : list_any is_end said ≡ true

-- or good lines, behind which one is refused
record Stops (before : List (Said ℕ)) (bytes : List ℕ) : Type 0 where
  lines : List (List ℕ)
  rest : List ℕ
  said : List (Said ℕ)
  why : TraceWhy
  are_lines : AllByRecursion IsLine lines
  text : bytes ≡ text_of_lines lines ++ rest
  says : said_by before lines ≡ Some said
  refused : Refuses said rest why

abbrev Outcome : List (Said ℕ) → List ℕ → Type 0
Outcome before bytes = Tells before bytes ⊎ Stops before bytes

stops_here : (before : List (Said ℕ)) (bytes : List ℕ) (why : TraceWhy) → Refuses before bytes why → Outcome before bytes
stops_here before bytes why r = inr (record { lines = []; rest = bytes; said = before; why = why; are_lines = tt; text = refl; says = refl; refused = r })

cons_nil : {x : ℕ} {xs : List ℕ} → x ∷ xs ≡ [] → ⊥
cons_nil e = cc

-- the input ends in this piece
last_piece : (before : List (Said ℕ)) (bytes : List ℕ) (b : Bool) → list_any is_end before ≡ b → IsLine bytes → Outcome before bytes
last_piece before bytes false e h = stops_here before bytes NoEnd (Stopped h e refl)
last_piece before [] true e h = inl (record { lines = []; said = before; are_lines = tt; text = refl; says = refl; ended = e })
last_piece before (c ∷ bytes) true e h = stops_here before (c ∷ bytes) AfterEnd (Unfinished h (λ n. cons_nil n) e refl)

-- one line more
line_more : (before : List (Said ℕ)) (line more bytes : List ℕ) (said : Said ℕ) → IsLine line → verdict before line ≡ Ok said → bytes ≡ line ++ 10 ∷ more → Outcome (before ++ said ∷ []) more → Outcome before bytes
line_more before line more bytes said h e w (inl t) = inl (record {
  lines = line ∷ t.lines;
  said = t.said;
  are_lines = (h, t.are_lines);
  text = w ∙ ap (λ (l : List ℕ). line ++ 10 ∷ l) t.text;
  says = ap (λ r. where_said r (λ s. said_by (before ++ s ∷ []) t.lines)) e ∙ t.says;
  ended = t.ended;
})
line_more before line more bytes said h e w (inr s) = inr (record {
  lines = line ∷ s.lines;
  rest = s.rest;
  said = s.said;
  why = s.why;
  are_lines = (h, s.are_lines);
  text = w ∙ ap (λ (l : List ℕ). line ++ 10 ∷ l) s.text ∙ sym (append_assoc line (10 ∷ text_of_lines s.lines) s.rest);
  says = ap (λ r. where_said r (λ x. said_by (before ++ x ∷ []) s.lines)) e ∙ s.says;
  refused = s.refused;
})

-- a finished line
finished : (r : Result (Said ℕ) TraceWhy) (before : List (Said ℕ)) (line more bytes : List ℕ) → verdict before line ≡ r → IsLine line → bytes ≡ line ++ 10 ∷ more → ((said : Said ℕ) → Outcome (before ++ said ∷ []) more) → Outcome before bytes
finished (Ok said) before line more bytes e h w next = line_more before line more bytes said h e w (next said)
finished (Err why) before line more bytes e h w next = stops_here before bytes why (Finished line more h w e)

scan : (fuel : ℕ) (before : List (Said ℕ)) (bytes : List ℕ) → length bytes < fuel → Outcome before bytes
scan zero before bytes h = absurd (omega (arith, h))
scan (suc fuel) before bytes h =
    let p = piece bytes in ⊎_elim
    (λ short.
    let line : IsLine p.front = (p.no_feed, omega (arith, short)) in ⊎_elim
    (λ none. let all : bytes ≡ p.front = p.whole ∙ ap (λ (l : List ℕ). p.front ++ l) none ∙ append-nil p.front in
    last_piece before bytes (list_any is_end before) refl (subst IsLine (sym all) line))
    (λ feed. let whole : bytes ≡ p.front ++ 10 ∷ feed.0 = p.whole ∙ ap (λ (l : List ℕ). p.front ++ l) feed.1 in
    finished (verdict before p.front) before p.front feed.0 bytes refl line whole
    (λ said. scan fuel (before ++ said ∷ []) feed.0 (omega (arith, h, ap length whole, length-append p.front (10 ∷ feed.0)))))
    p.ends)
    (λ long. let f = front 401 p.front p.no_feed (omega (arith, long)) in
    stops_here before bytes (why_no_form (stage_after before)) (Overlong f.line (f.more ++ p.rest) f.no_feed f.size (p.whole ∙ ap (λ (l : List ℕ). l ++ p.rest) f.whole ∙ append_assoc f.line f.more p.rest) refl))
    (cases_lt (length p.front) 401)

refused_of : (bytes : List ℕ) → Stops [] bytes → IsRefused bytes
refused_of bytes s = (
  length s.lines + 1,
  s.why,
  record {
    lines = s.lines;
    rest = s.rest;
    said = s.said;
    are_lines = s.are_lines;
    text = s.text;
    says = s.says;
    number_is = refl;
    refused = s.refused;
  },
)

says_of : (bytes : List ℕ) → Tells [] bytes → (said : List (Said ℕ)) × Says bytes said
says_of bytes t = (t.said, record { lines = t.lines; are_lines = t.are_lines; text = t.text; says = t.says; ended = t.ended })

-- an input says something, or is refused
pub scanned : (bytes : List ℕ) → ((said : List (Said ℕ)) × Says bytes said) ⊎ IsRefused bytes
scanned bytes = ⊎_elim (λ t. inl (says_of bytes t)) (λ s. inr (refused_of bytes s)) (scan (suc (length bytes)) [] bytes (omega arith))
