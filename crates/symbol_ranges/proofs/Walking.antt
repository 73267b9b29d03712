-- Lines of a symbol list, read one after another.
use Rattle.std.proofs.Common.{◌≡◌, ◌≢◌, ℕ, ◌+◌, ◌≤◌, true, false, List, [], ◌∷◌, ◌++◌, length, refl, ap, sym, subst, ◌∙◌, arith, Option, Some, None, Result, Ok, Err, append_assoc}
use Rattle.std.specs.Option.{IfSome}
use Rattle.std.specs.Io.KnownBytes.{Consumes, IsAtEnd, prepend_known}
use Rattle.std.proofs.KnownBytes.{Consumes-trans, Consumes-nil, prepend_known-nil}
use Rattle.std.proofs.lemmas.List.{length-append, append-nil}
use Rattle.text_num.specs.Lines.{text_of_lines}
use Rattle.text_num.proofs.Lines.{lines_append}
use Rattle.text_num.proofs.Lists.{all_append}
use Rattle.line_reader.specs.declared.faults.Ending.TheVariants as endings
use Rattle.line_reader.specs.Reading.{ReadsLine}
use Rattle.line_reader.proofs.Fronts.{taken_front, at_end}
use Rattle.symbol_ranges.specs.declared.symbols.Symbol.{Symbol}
use Rattle.symbol_ranges.specs.declared.symbols.TheConstants.{MOST_LINES, MOST_LINE_BYTES}
use Rattle.symbol_ranges.specs.declared.refusals.SymbolWhy.{SymbolWhy}
use Rattle.symbol_ranges.specs.declared.refusals.SymbolWhy.TheVariants.{Unfinished, BadLine}
use Rattle.symbol_ranges.specs.declared.refusals.SymbolLineError.{SymbolLineError}
use Rattle.symbol_ranges.specs.declared.refusals.SymbolLineError.TheVariants as errors
use Rattle.symbol_ranges.specs.declared.refusals.SymbolRefusal.{SymbolRefusal}
use Rattle.symbol_ranges.specs.declared.refusals.SymbolRefusal.TheVariants.{Bad, ReadFault, Memory}
use Rattle.symbol_ranges.specs.Lines.{verdict, said_by, where_said, IsLine, Reads, Refuses, Finished, Stopped, Overlong, FirstBad}
use Rattle.symbol_ranges.specs.Reads.{Adds, IsRefusal}
use Rattle.symbol_ranges.specs.Reading.{IfBad, IsFirstBad, IsOfLineError, Steps, Stops, Went}

some_none : {A : Type 0} (x : A) → None ≡ Some x → ⊥
some_none x e = cc

some_same : (a b : List Symbol) → Some a ≡ Some b → a ≡ b
some_same a b e = cc

said_append_by : (r : Result Symbol SymbolWhy) (before after : List Symbol) (xs ys : List (List ℕ))
    → ((s : Symbol) → said_by (before ++ s ∷ []) xs ≡ Some after → said_by (before ++ s ∷ []) (xs ++ ys) ≡ said_by after ys)
    → where_said r (λ s. said_by (before ++ s ∷ []) xs) ≡ Some after → where_said r (λ s. said_by (before ++ s ∷ []) (xs ++ ys)) ≡ said_by after ys
said_append_by (Ok s) before after xs ys h e = h s e
said_append_by (Err why) before after xs ys h e = absurd (some_none after e)

-- what lines say, one part after another
said_append : (before after : List Symbol) (xs ys : List (List ℕ)) → said_by before xs ≡ Some after → said_by before (xs ++ ys) ≡ said_by after ys
said_append before after [] ys e = ap (λ l. said_by l ys) (some_same before after e)
said_append before after (x ∷ xs) ys e = said_append_by (verdict before x) before after xs ys (λ s f. said_append (before ++ s ∷ []) after xs ys f) e

-- nothing read yet
pub went_nowhere : (front : List ℕ) (left : Option (List ℕ)) (symbols : List Symbol) → front ≡ [] → symbols ≡ [] → Went left (prepend_known front left) [] symbols
went_nowhere front left symbols e f = record {
  lines = [];
  are_lines = tt;
  taken = subst (λ (o : Option (List ℕ)). Consumes left o []) (sym (ap (λ (l : List ℕ). prepend_known l left) e ∙ prepend_known-nil left)) (Consumes-nil left);
  says = ap (λ (l : List Symbol). Some l) (sym f);
  count_is = ap length f;
}

-- a line read
pub stepped : (old new : Option (List ℕ)) (line given : List ℕ) (before after : List Symbol) → given ≡ line → ReadsLine MOST_LINE_BYTES endings.Finished line old new → Adds before given after → Steps true old new before after
stepped old new line given before after e r a =
    let v : verdict before line ≡ Ok a.0 = ap (verdict before) (sym e) ∙ a.1 in
    let n : length after ≡ length before + 1 = ap length a.2 ∙ length-append before (a.0 ∷ []) in (
      record {
        lines = line ∷ [];
        are_lines = ((r.0, r.1), tt);
        taken = r.2;
        says = ap (λ w. where_said w (λ s. Some (before ++ s ∷ []))) v ∙ ap (λ l. Some l) (sym a.2);
        count_is = n;
      },
      n,
    )

-- more lines read
pub went_on : (a b c : Option (List ℕ)) (x y z : List Symbol) → Went a b x y → Went b c y z → Went a c x z
went_on a b c x y z v w = record {
  lines = v.lines ++ w.lines;
  are_lines = all_append IsLine v.lines w.lines v.are_lines w.are_lines;
  taken = subst (λ l. Consumes a c l) (sym (lines_append v.lines w.lines)) (Consumes-trans a b c (text_of_lines v.lines) (text_of_lines w.lines) v.taken w.taken);
  says = said_append x y v.lines w.lines v.says ∙ w.says;
  count_is = omega (arith, length-append v.lines w.lines, v.count_is, w.count_is);
}

whole_text : (bytes taken : List ℕ) (new : Option (List ℕ)) → Consumes (Some bytes) new taken → IsAtEnd new → bytes ≡ taken
whole_text bytes taken new c h = let f = taken_front bytes taken new c in f.2 ∙ ap (λ l. taken ++ l) (at_end new f.0 f.1 h) ∙ append-nil taken

-- ---- the ways in which the next line is refused

refused_line : (old new : Option (List ℕ)) (line : List ℕ) (before : List Symbol) (why : SymbolWhy) → ReadsLine MOST_LINE_BYTES endings.Finished line old new → verdict before line ≡ Err why → IfSome old (λ bytes. Refuses before bytes why)
refused_line None new line before why r v = tt
refused_line (Some bytes) new line before why r v = let f = taken_front bytes (line ++ 10 ∷ []) new r.2 in Finished line f.0 (r.0, r.1) (f.2 ∙ append_assoc line (10 ∷ []) f.0) v

stops_there : (old new : Option (List ℕ)) (line : List ℕ) (before : List Symbol) → ReadsLine MOST_LINE_BYTES endings.Unfinished line old new → line ≢ [] → IfSome old (λ bytes. Refuses before bytes Unfinished)
stops_there None new line before r some = tt
stops_there (Some bytes) new line before r some = let is = whole_text bytes line new r.2 r.3 in Stopped (subst IsLine (sym is) (r.0, r.1)) (λ none. some (sym is ∙ none)) refl

too_long : (old new : Option (List ℕ)) (line : List ℕ) (before : List Symbol) → ReadsLine MOST_LINE_BYTES endings.TooLong line old new → IfSome old (λ bytes. Refuses before bytes BadLine)
too_long None new line before r = tt
too_long (Some bytes) new line before r = let f = taken_front bytes line new r.2 in Overlong line f.0 r.0 r.1 f.2 refl

stopped : (old : Option (List ℕ)) (before : List Symbol) (number : ℕ) (why : SymbolWhy) (refusal : SymbolRefusal) → refusal ≡ Bad number why → number ≡ length before + 1 → IfSome old (λ bytes. Refuses before bytes why) → IfBad (Stops old before) refusal
stopped old before number why refusal e n r = subst (λ (x : SymbolRefusal). IfBad (Stops old before) x) (sym e) (n, r)

pub stops_long : (old new : Option (List ℕ)) (line : List ℕ) (before : List Symbol) (number : ℕ) (refusal : SymbolRefusal) → refusal ≡ Bad number BadLine → number ≡ length before + 1 → ReadsLine MOST_LINE_BYTES endings.TooLong line old new → IfBad (Stops old before) refusal
stops_long old new line before number refusal e n r = stopped old before number BadLine refusal e n (too_long old new line before r)

pub stops_unfinished : (old new : Option (List ℕ)) (line : List ℕ) (before : List Symbol) (number : ℕ) (refusal : SymbolRefusal) → refusal ≡ Bad number Unfinished → number ≡ length before + 1 → line ≢ [] → ReadsLine MOST_LINE_BYTES endings.Unfinished line old new → IfBad (Stops old before) refusal
stops_unfinished old new line before number refusal e n some r = stopped old before number Unfinished refusal e n (stops_there old new line before r some)

pub halted : (old new : Option (List ℕ)) (line given : List ℕ) (before : List Symbol) (number : ℕ) (error : SymbolLineError) (refusal : SymbolRefusal) → given ≡ line → number ≡ length before + 1
    → ReadsLine MOST_LINE_BYTES endings.Finished line old new → IsRefusal (verdict before given) error → IsOfLineError number error refusal → IfBad (Stops old before) refusal
halted old new line given before number (errors.Bad why) refusal e n r v is = stopped old before number why refusal is n (refused_line old new line before why r (ap (verdict before) (sym e) ∙ v))
halted old new line given before number errors.Memory refusal e n r v is = subst (λ (x : SymbolRefusal). IfBad (Stops old before) x) (sym is) tt

-- ---- the list as a whole

first_bad_in : (bytes : List ℕ) (mid : Option (List ℕ)) (symbols : List Symbol) (number : ℕ) (why : SymbolWhy) → (w : Went (Some bytes) mid [] symbols) → (rest : List ℕ) → bytes ≡ text_of_lines w.lines ++ rest → number ≡ length symbols + 1 → Refuses symbols rest why → FirstBad bytes number why
first_bad_in bytes mid symbols number why w rest text n r = record { lines = w.lines; rest = rest; symbols = symbols; are_lines = w.are_lines; text = text; says = w.says; number_is = omega (arith, n, w.count_is); refused = r }

first_bad_at : (left mid : Option (List ℕ)) (symbols : List Symbol) (number : ℕ) (why : SymbolWhy) → Went left mid [] symbols → Stops mid symbols number why → IsFirstBad left number why
first_bad_at None mid symbols number why w s = tt
first_bad_at (Some bytes) mid symbols number why w s = let f = taken_front bytes (text_of_lines w.lines) mid w.taken in
    first_bad_in bytes mid symbols number why w f.0 f.2 s.0 (subst (λ (o : Option (List ℕ)). IfSome o (λ rest. Refuses symbols rest why)) f.1 s.1)

-- a line that is refused behind good ones is the first bad one
pub first_bad : (left mid : Option (List ℕ)) (symbols : List Symbol) (refusal : SymbolRefusal) → Went left mid [] symbols → IfBad (Stops mid symbols) refusal → IfBad (IsFirstBad left) refusal
first_bad left mid symbols (Bad number why) w s = first_bad_at left mid symbols number why w s
first_bad left mid symbols ReadFault w s = tt
first_bad left mid symbols Memory w s = tt

-- at the end of the input the lines are the list
pub reads_all : (left mid new : Option (List ℕ)) (symbols now : List Symbol) → Went left mid [] symbols → Steps false mid new symbols now → IfSome left (λ bytes. Reads bytes now)
reads_all None mid new symbols now w s = tt
reads_all (Some bytes) mid new symbols now w s = record {
  lines = w.lines;
  are_lines = w.are_lines;
  text = whole_text bytes (text_of_lines w.lines ++ []) new (Consumes-trans (Some bytes) mid new (text_of_lines w.lines) [] w.taken s.1) s.2 ∙ append-nil (text_of_lines w.lines);
  says = w.says ∙ ap (λ (l : List Symbol). Some l) (sym s.0);
}

-- a line that is refused is at most the one behind the last that a list may have
pub within : (old : Option (List ℕ)) (symbols : List Symbol) (refusal : SymbolRefusal) → length symbols ≤ MOST_LINES → IfBad (Stops old symbols) refusal → IfBad (λ line why. line ≤ MOST_LINES + 1) refusal
within old symbols (Bad line why) few s = omega (arith, few, s.0)
within old symbols ReadFault few s = tt
within old symbols Memory few s = tt
