-- Lines read one after another.
use Rattle.std.proofs.Common.{◌≡◌, ◌≢◌, ℕ, ◌+◌, true, false, List, [], ◌∷◌, ◌++◌, length, refl, ap, sym, subst, ◌∙◌, arith, Option, Some, None, Result, Ok, Err, append_assoc}
use Rattle.std.specs.List.{list_any}
use Rattle.std.specs.Io.KnownBytes.{Consumes, IsAtEnd}
use Rattle.std.proofs.KnownBytes.{Consumes-trans, Consumes-nil}
use Rattle.std.proofs.lemmas.List.{length-append, append-nil}
use Rattle.text_num.specs.Lines.{text_of_lines}
use Rattle.text_num.proofs.Lines.{lines_append}
use Rattle.text_num.proofs.Lists.{all_append}
use Rattle.line_reader.specs.declared.faults.Ending.TheVariants as endings
use Rattle.line_reader.specs.Reading.{ReadsLine}
use Rattle.line_reader.proofs.Fronts.{taken_front, at_end}
use Rattle.trace_model.specs.declared.reasons.TraceWhy.{TraceWhy}
use Rattle.trace_model.specs.declared.reasons.TraceWhy.TheVariants.{NoEnd, AfterEnd}
use Rattle.trace_model.specs.Said.{Said, is_end}
use Rattle.trace_model.specs.Grammar.{verdict, said_by, where_said, IsLine, Refuses, Finished, Stopped, Unfinished, Overlong, why_no_form, stage_after}
use Rattle.trace_laws.proofs.Shortness.{said_length}
use Rattle.trace_text.specs.Progress.{Went, StopsIn, Stops}

some_none : {A : Type 0} (x : A) → None ≡ Some x → ⊥
some_none x e = cc

some_same : (a b : List (Said ℕ)) → Some a ≡ Some b → a ≡ b
some_same a b e = cc

said_append_by : (r : Result (Said ℕ) TraceWhy) (before after : List (Said ℕ)) (xs ys : List (List ℕ))
    → ((s : Said ℕ) → said_by (before ++ s ∷ []) xs ≡ Some after → said_by (before ++ s ∷ []) (xs ++ ys) ≡ said_by after ys)
    → where_said r (λ s. said_by (before ++ s ∷ []) xs) ≡ Some after → where_said r (λ s. said_by (before ++ s ∷ []) (xs ++ ys)) ≡ said_by after ys
said_append_by (Ok s) before after xs ys h e = h s e
said_append_by (Err why) before after xs ys h e = absurd (some_none after e)

-- what lines say, one part after another
pub said_append : (before after : List (Said ℕ)) (xs ys : List (List ℕ)) → said_by before xs ≡ Some after → said_by before (xs ++ ys) ≡ said_by after ys
said_append before after [] ys e = ap (λ l. said_by l ys) (some_same before after e)
said_append before after (x ∷ xs) ys e = said_append_by (verdict before x) before after xs ys (λ s f. said_append (before ++ s ∷ []) after xs ys f) e

-- nothing read yet
pub went_nowhere : (left : Option (List ℕ)) (said : List (Said ℕ)) → Went left left said said 0
went_nowhere left said = record { lines = []; are_lines = tt; taken = Consumes-nil left; says = refl; count_is = refl }

-- a line read
pub went_line : (old new : Option (List ℕ)) (line : List ℕ) (before after : List (Said ℕ)) (said : Said ℕ) → ReadsLine 400 endings.Finished line old new → verdict before line ≡ Ok said → after ≡ before ++ said ∷ [] → Went old new before after 1
went_line old new line before after said r v e = record {
  lines = line ∷ [];
  are_lines = ((r.0, r.1), tt);
  taken = r.2;
  says = ap (λ w. where_said w (λ s. Some (before ++ s ∷ []))) v ∙ ap (λ l. Some l) (sym e);
  count_is = refl;
}

-- more lines read
pub went_on : (a b c : Option (List ℕ)) (x y z : List (Said ℕ)) (m n k : ℕ) → Went a b x y m → Went b c y z n → k ≡ m + n → Went a c x z k
went_on a b c x y z m n k v w e = record {
  lines = v.lines ++ w.lines;
  are_lines = all_append IsLine v.lines w.lines v.are_lines w.are_lines;
  taken = subst (λ l. Consumes a c l) (sym (lines_append v.lines w.lines)) (Consumes-trans a b c (text_of_lines v.lines) (text_of_lines w.lines) v.taken w.taken);
  says = said_append x y v.lines w.lines v.says ∙ w.says;
  count_is = omega (arith, e, length-append v.lines w.lines, v.count_is, w.count_is);
}

-- a refusal behind lines that were read
stops_in : (bytes : List ℕ) (b : Option (List ℕ)) (x y : List (Said ℕ)) (m k number : ℕ) (why : TraceWhy) (rest : List ℕ) → b ≡ Some rest
    → (w : Went (Some bytes) b x y m) → bytes ≡ text_of_lines w.lines ++ rest → StopsIn rest y (k + m) number why → StopsIn bytes x k number why
stops_in bytes b x y m k number why rest is w front s = record {
  lines = w.lines ++ s.lines;
  rest = s.rest;
  said = s.said;
  are_lines = all_append IsLine w.lines s.lines w.are_lines s.are_lines;
  text = front ∙ ap (λ l. text_of_lines w.lines ++ l) s.text ∙ sym (append_assoc (text_of_lines w.lines) (text_of_lines s.lines) s.rest) ∙ ap (λ l. l ++ s.rest) (sym (lines_append w.lines s.lines));
  says = said_append x y w.lines s.lines w.says ∙ s.says;
  number_is = omega (arith, s.number_is, length-append w.lines s.lines, w.count_is);
  refused = s.refused;
}

pub stops_on : (a b : Option (List ℕ)) (x y : List (Said ℕ)) (m k j number : ℕ) (why : TraceWhy) → Went a b x y m → j ≡ k + m → Stops b y j number why → Stops a x k number why
stops_on None b x y m k j number why w e s = tt
stops_on (Some bytes) b x y m k j number why w e s = let f = taken_front bytes (text_of_lines w.lines) b w.taken in
    stops_in bytes b x y m k number why f.0 f.1 w f.2 (subst (λ (n : ℕ). StopsIn f.0 y n number why) e (subst (λ (o : Option (List ℕ)). Stops o y j number why) f.1 s))

-- the ways in which the next line is refused
refused_now : (bytes : List ℕ) (before : List (Said ℕ)) (k number : ℕ) (why : TraceWhy) → number ≡ k + 1 → Refuses before bytes why → StopsIn bytes before k number why
refused_now bytes before k number why e r = record { lines = []; rest = bytes; said = before; are_lines = tt; text = refl; says = refl; number_is = omega (arith, e); refused = r }

pub stops_finished : (old new : Option (List ℕ)) (line : List ℕ) (before : List (Said ℕ)) (k number : ℕ) (why : TraceWhy) → number ≡ k + 1 → ReadsLine 400 endings.Finished line old new → verdict before line ≡ Err why → Stops old before k number why
stops_finished None new line before k number why e r v = tt
stops_finished (Some bytes) new line before k number why e r v = let f = taken_front bytes (line ++ 10 ∷ []) new r.2 in
    refused_now bytes before k number why e (Finished line f.0 (r.0, r.1) (f.2 ∙ append_assoc line (10 ∷ []) f.0) v)

whole_line : (bytes line : List ℕ) (new : Option (List ℕ)) → Consumes (Some bytes) new line → IsAtEnd new → bytes ≡ line
whole_line bytes line new c h = let f = taken_front bytes line new c in f.2 ∙ ap (λ l. line ++ l) (at_end new f.0 f.1 h) ∙ append-nil line

pub stops_stopped : (old new : Option (List ℕ)) (line : List ℕ) (before : List (Said ℕ)) (k number : ℕ) → number ≡ k + 1 → ReadsLine 400 endings.Unfinished line old new → list_any is_end before ≡ false → Stops old before k number NoEnd
stops_stopped None new line before k number e r v = tt
stops_stopped (Some bytes) new line before k number e r v = let is = whole_line bytes line new r.2 r.3 in
    refused_now bytes before k number NoEnd e (Stopped (subst IsLine (sym is) (r.0, r.1)) v refl)

pub stops_unfinished : (old new : Option (List ℕ)) (line : List ℕ) (before : List (Said ℕ)) (k number : ℕ) → number ≡ k + 1 → ReadsLine 400 endings.Unfinished line old new → line ≢ [] → list_any is_end before ≡ true → Stops old before k number AfterEnd
stops_unfinished None new line before k number e r ne v = tt
stops_unfinished (Some bytes) new line before k number e r ne v = let is = whole_line bytes line new r.2 r.3 in
    refused_now bytes before k number AfterEnd e (Unfinished (subst IsLine (sym is) (r.0, r.1)) (λ none. ne (sym is ∙ none)) v refl)

pub stops_long : (old new : Option (List ℕ)) (line : List ℕ) (before : List (Said ℕ)) (k number : ℕ) (why : TraceWhy) → number ≡ k + 1 → ReadsLine 400 endings.TooLong line old new → why ≡ why_no_form (stage_after before) → Stops old before k number why
stops_long None new line before k number why e r v = tt
stops_long (Some bytes) new line before k number why e r v = let f = taken_front bytes line new r.2 in
    refused_now bytes before k number why e (Overlong line f.0 r.0 r.1 f.2 v)

-- each line says one thing
pub went_length : (a b : Option (List ℕ)) (x y : List (Said ℕ)) (n : ℕ) → Went a b x y n → length y ≡ length x + n
went_length a b x y n w = said_length x y w.lines w.says ∙ ap (λ k. length x + k) (sym w.count_is)
