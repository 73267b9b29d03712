-- What halving finds among symbols in order.
use Rattle.std.proofs.Common.{◌≡◌, ℕ, zero, suc, ◌+◌, ◌<◌, ◌≤◌, Bool, true, false, cond, ◌||◌, List, [], ◌∷◌, ◌++◌, None, Some, Option, length, take, drop, get_or, refl, sym, ap, ◌∙◌, subst, arith, take-append-drop}
use Rattle.std.specs.Prelude.{find}
use Rattle.std.specs.List.{AllByRecursion, list_any}
use Rattle.std.specs.List.Sorted.{IsPartitionedBy}
use Rattle.std.specs.Option.{is_some}
use Rattle.std.proofs.lemmas.List.{map-append}
use Rattle.text_num.proofs.Lists.{rest_at}
use Rattle.symbol_ranges.specs.declared.symbols.Symbol.{Symbol}
use Rattle.symbol_ranges.specs.Lines.{meets}
use Rattle.symbol_ranges.specs.Index.{is_before, symbol_at, shown, Rises, AreWithin, IsIndexed}
use Rattle.symbol_ranges.specs.Reads.{Meeting}
use Rattle.symbol_ranges.proofs.Order.{before_trans, early_meets_none, later_meets_none}

pub at_of : (P : Symbol → Type 0) (lines : List Symbol) (xs : List ℕ) (j d : ℕ) → AllByRecursion P (shown lines xs) → j < length xs → P (symbol_at lines (get_or xs j d))
at_of P lines [] j d all within = absurd (omega arith)
at_of P lines (x ∷ xs) zero d all within = all.0
at_of P lines (x ∷ xs) (suc j) d all within = at_of P lines xs j d all.1 (omega arith)

pub all_shown : (P : Symbol → Type 0) (lines : List Symbol) (xs : List ℕ) → AllByRecursion (λ k. P (symbol_at lines k)) xs → AllByRecursion P (shown lines xs)
all_shown P lines [] all = tt
all_shown P lines (x ∷ xs) all = (all.0, all_shown P lines xs all.1)

some_all : (lines : List Symbol) (xs : List ℕ) → Rises (shown lines xs) → AllByRecursion (λ s. s.start < s.end) (shown lines xs)
some_all lines [] rising = tt
some_all lines (x ∷ xs) rising = (rising.0, some_all lines xs rising.2)

front_half : (lines : List Symbol) (image : List ℕ) (offset x : ℕ) (xs : List ℕ) → AllByRecursion (λ other. is_before other.image other.start (symbol_at lines x) ≡ true) (shown lines xs) → AllByRecursion (λ s. s.start < s.end) (shown lines xs)
    → IsPartitionedBy (λ k. is_before image offset (symbol_at lines k)) xs → IsPartitionedBy (λ k. is_before image offset (symbol_at lines k)) (x ∷ xs)
front_half lines image offset x xs first some rest zero zero d le within holds = holds
front_half lines image offset x xs first some rest zero (suc j) d le within holds =
    let y = symbol_at lines (get_or xs j d) in
    before_trans image offset (symbol_at lines x) y (at_of (λ other. is_before other.image other.start (symbol_at lines x) ≡ true) lines xs j d first (omega arith)) (at_of (λ s. s.start < s.end) lines xs j d some (omega arith)) holds
front_half lines image offset x xs first some rest (suc i) zero d le within holds = absurd (omega arith)
front_half lines image offset x xs first some rest (suc i) (suc j) d le within holds = rest i j d (omega arith) (omega arith) holds

-- places of symbols before an offset come first
pub halves : (lines : List Symbol) (image : List ℕ) (offset : ℕ) (order : List ℕ) → Rises (shown lines order) → IsPartitionedBy (λ k. is_before image offset (symbol_at lines k)) order
halves lines image offset [] rising = λ i j d le within holds. absurd (omega arith)
halves lines image offset (x ∷ xs) rising = front_half lines image offset x xs rising.1 (some_all lines xs rising.2) (halves lines image offset xs rising.2)

-- ---- what is found

passed : (image : List ℕ) (first last : ℕ) (front back : List Symbol) → AllByRecursion (λ s. is_before image first s ≡ true) front → find (meets image first last) (front ++ back) ≡ find (meets image first last) back
passed image first last [] back all = refl
passed image first last (s ∷ front) back all =
    ap (λ (b : Bool). cond b (Some s) (find (meets image first last) (front ++ back))) (early_meets_none image first last s all.0) ∙ passed image first last front back all.1

pub find_none : (p : Symbol → Bool) (xs : List Symbol) → AllByRecursion (λ s. p s ≡ false) xs → find p xs ≡ None
find_none p [] all = refl
find_none p (x ∷ xs) all = ap (λ (b : Bool). cond b (Some x) (find p xs)) all.0 ∙ find_none p xs all.1

none_later : (image : List ℕ) (first last : ℕ) (h : Symbol) (more : List Symbol) → h.start < h.end → is_before image first h ≡ false → meets image first last h ≡ false
    → AllByRecursion (λ other. is_before other.image other.start h ≡ true) more → AllByRecursion (λ s. meets image first last s ≡ false) more
none_later image first last h [] some late none all = tt
none_later image first last h (t ∷ more) some late none all = (later_meets_none image first last h t some late none all.0, none_later image first last h more some late none all.1)

rises_drop : (lines : List Symbol) (i : ℕ) (xs : List ℕ) → Rises (shown lines xs) → Rises (shown lines (drop i xs))
rises_drop lines zero xs rising = rising
rises_drop lines (suc i) [] rising = tt
rises_drop lines (suc i) (x ∷ xs) rising = rises_drop lines i xs rising.2

none_left : (i : ℕ) (xs : List ℕ) → length xs ≤ i → drop i xs ≡ []
none_left zero [] past = refl
none_left zero (x ∷ xs) past = absurd (omega arith)
none_left (suc i) [] past = refl
none_left (suc i) (x ∷ xs) past = none_left i xs (omega arith)

sought : (lines : List Symbol) (order : List ℕ) (image : List ℕ) (first last at : ℕ) → AllByRecursion (λ k. is_before image first (symbol_at lines k) ≡ true) (take at order)
    → find (meets image first last) (shown lines order) ≡ find (meets image first last) (shown lines (drop at order))
sought lines order image first last at before =
    ap (λ (l : List ℕ). find (meets image first last) (shown lines l)) (sym (take-append-drop at order))
    ∙ ap (find (meets image first last)) (map-append (symbol_at lines) (take at order) (drop at order))
    ∙ passed image first last (shown lines (take at order)) (shown lines (drop at order)) (all_shown (λ s. is_before image first s ≡ true) lines (take at order) before)

-- all stand before
pub past_all : (lines : List Symbol) (order : List ℕ) (image : List ℕ) (first last at : ℕ) → length order ≤ at → AllByRecursion (λ k. is_before image first (symbol_at lines k) ≡ true) (take at order) → None ≡ find (meets image first last) (shown lines order)
past_all lines order image first last at past before = sym (sought lines order image first last at before ∙ ap (λ (l : List ℕ). find (meets image first last) (shown lines l)) (none_left at order past))

-- the symbol at the place has such an offset
pub found : (lines : List Symbol) (order : List ℕ) (image : List ℕ) (first last at : ℕ) → at < length order → AllByRecursion (λ k. is_before image first (symbol_at lines k) ≡ true) (take at order)
    → meets image first last (symbol_at lines (get_or order at 0)) ≡ true → Some (symbol_at lines (get_or order at 0)) ≡ find (meets image first last) (shown lines order)
found lines order image first last at within before holds =
    let s = symbol_at lines (get_or order at 0) in
    sym (sought lines order image first last at before ∙ ap (λ (l : List ℕ). find (meets image first last) (shown lines l)) (rest_at order at within)
    ∙ ap (λ (b : Bool). cond b (Some s) (find (meets image first last) (shown lines (drop (at + 1) order)))) holds)

-- or none has one
pub missed : (lines : List Symbol) (order : List ℕ) (image : List ℕ) (first last at : ℕ) → at < length order → Rises (shown lines order) → AllByRecursion (λ k. is_before image first (symbol_at lines k) ≡ true) (take at order)
    → AllByRecursion (λ k. is_before image first (symbol_at lines k) ≡ false) (drop at order) → meets image first last (symbol_at lines (get_or order at 0)) ≡ false → None ≡ find (meets image first last) (shown lines order)
missed lines order image first last at within rising before behind other =
    let s = symbol_at lines (get_or order at 0) in
    let more = shown lines (drop (at + 1) order) in
    let rest = rest_at order at within in
    let late : AllByRecursion (λ k. is_before image first (symbol_at lines k) ≡ false) (get_or order at 0 ∷ drop (at + 1) order) = subst (λ (l : List ℕ). AllByRecursion (λ k. is_before image first (symbol_at lines k) ≡ false) l) rest behind in
    let rises : Rises (shown lines (get_or order at 0 ∷ drop (at + 1) order)) = subst (λ (l : List ℕ). Rises (shown lines l)) rest (rises_drop lines at order rising) in
    sym (sought lines order image first last at before ∙ ap (λ (l : List ℕ). find (meets image first last) (shown lines l)) rest
    ∙ find_none (meets image first last) (s ∷ more) (other, none_later image first last s more rises.0 late.0 other rises.1))

-- whether one is found
some_found : (p : Symbol → Bool) (xs : List Symbol) → is_some (find p xs) ≡ list_any p xs
some_found p [] = refl
some_found p (x ∷ xs) = by_test (p x) x xs (some_found p xs)
  where
    by_test : (b : Bool) (x : Symbol) (xs : List Symbol) → is_some (find p xs) ≡ list_any p xs → is_some (cond b (Some x) (find p xs)) ≡ (b || list_any p xs)
    by_test true x xs h = refl
    by_test false x xs h = h

-- what the index finds is what the lines have
pub meeting_is : (lines : List Symbol) (order : List ℕ) (image : List ℕ) (first last : ℕ) (found : Option Symbol) → IsIndexed lines order → found ≡ find (meets image first last) (shown lines order) → Meeting lines image first last found
meeting_is lines order image first last found index is = record {
  some = ap is_some is ∙ some_found (meets image first last) (shown lines order) ∙ index.meets_some image first last;
  same = λ e. is ∙ ap (λ (n : ℕ). find (meets image first n) (shown lines order)) (sym e) ∙ index.finds image first;
}

-- a place of the index is one of a line
pub place_within : (lines : List Symbol) (order : List ℕ) (j d : ℕ) → AreWithin lines order → j < length order → get_or order j d < length lines
place_within lines [] j d all within = absurd (omega arith)
place_within lines (x ∷ xs) zero d all within = all.0
place_within lines (x ∷ xs) (suc j) d all within = place_within lines xs j d all.1 (omega arith)
