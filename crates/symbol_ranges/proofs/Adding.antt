-- An index with one symbol more.
use Rattle.std.proofs.Common.{◌≡◌, ℕ, ◌+◌, ◌-◌, ◌<◌, ◌≤◌, Bool, true, false, cond, ◌||◌, List, [], ◌∷◌, ◌++◌, None, Some, Option, length, take, drop, refl, sym, ap, ◌∙◌, subst, arith, length-append, take-append-drop, lit≤}
use Rattle.std.specs.Prelude.{find}
use Rattle.std.specs.List.{AllByRecursion, list_any, insert}
use Rattle.std.specs.Option.{option_or}
use Rattle.std.proofs.lemmas.List.{map-append, get_or_append_left}
use Rattle.std.proofs.lemmas.List.Folds.{list_any-append, find-append}
use Rattle.std.proofs.Math.Seq.{get_or-append_seam}
use Rattle.symbol_ranges.specs.declared.symbols.Symbol.{Symbol}
use Rattle.symbol_ranges.specs.Lines.{AreApart, meets, covers, overlaps}
use Rattle.symbol_ranges.specs.Index.{is_before, symbol_at, shown, blank, Rises, IsIndexed}
use Rattle.symbol_ranges.specs.Reads.{Fits}
use Rattle.symbol_ranges.proofs.Order.{stands_behind, covered_twice, met_by}
use Rattle.symbol_ranges.proofs.Halving.{all_shown, find_none}

-- no lines
pub none_held : (lines : List Symbol) (order : List ℕ) → lines ≡ [] → order ≡ [] → IsIndexed lines order
none_held lines order e f = rw (e, f) (record { few = lit≤ tt; apart = tt; within = tt; rising = tt; finds = λ image offset. refl; meets_some = λ image first last. refl })

all_insert : {X : Type 0} (P : X → Type 0) (front back : List X) (n : X) → AllByRecursion P (front ++ back) → P n → AllByRecursion P (front ++ n ∷ back)
all_insert P [] back n all one = (one, all)
all_insert P (k ∷ front) back n all one = (all.0, all_insert P front back n all.1 one)

all_front : {X : Type 0} (P : X → Type 0) (front back : List X) → AllByRecursion P (front ++ back) → AllByRecursion P front
all_front P [] back all = tt
all_front P (k ∷ front) back all = (all.0, all_front P front back all.1)

all_back : {X : Type 0} (P : X → Type 0) (front back : List X) → AllByRecursion P (front ++ back) → AllByRecursion P back
all_back P [] back all = all
all_back P (k ∷ front) back all = all_back P front back all.1

more_within : (xs : List ℕ) (m n : ℕ) → m ≤ n → AllByRecursion (λ k. k < m) xs → AllByRecursion (λ k. k < n) xs
more_within [] m n h all = tt
more_within (x ∷ xs) m n h all = (omega (arith, all.0), more_within xs m n h all.1)

no_any : (p : Symbol → Bool) (xs : List Symbol) → list_any p xs ≡ false → AllByRecursion (λ s. p s ≡ false) xs
no_any p [] h = tt
no_any p (x ∷ xs) h = let t = halves (p x) (list_any p xs) h in (t.0, no_any p xs t.1)
  where
    halves : (a b : Bool) → (a || b) ≡ false → (a ≡ false) × (b ≡ false)
    halves true b h = cc
    halves false b h = (refl, h)

-- ---- the symbols at places among one more

shown_more : (lines : List Symbol) (x : Symbol) (ks : List ℕ) → AllByRecursion (λ k. k < length lines) ks → shown (lines ++ x ∷ []) ks ≡ shown lines ks
shown_more lines x [] all = refl
shown_more lines x (k ∷ ks) all = pair (get_or_append_left lines (x ∷ []) blank k all.0) (shown_more lines x ks all.1)
  where
    pair : {a b : Symbol} {r s : List Symbol} → a ≡ b → r ≡ s → a ∷ r ≡ b ∷ s
    pair e f = cc

shown_new : (lines : List Symbol) (x : Symbol) (front back : List ℕ) → AllByRecursion (λ k. k < length lines) (front ++ back) → shown (lines ++ x ∷ []) (front ++ length lines ∷ back) ≡ shown lines front ++ x ∷ shown lines back
shown_new lines x front back all =
    map-append (symbol_at (lines ++ x ∷ [])) front (length lines ∷ back)
    ∙ ap (λ (l : List Symbol). l ++ shown (lines ++ x ∷ []) (length lines ∷ back)) (shown_more lines x front (all_front (λ k. k < length lines) front back all))
    ∙ ap (λ (s : Symbol). shown lines front ++ s ∷ shown (lines ++ x ∷ []) back) (get_or-append_seam lines x [] blank)
    ∙ ap (λ (l : List Symbol). shown lines front ++ x ∷ l) (shown_more lines x back (all_back (λ k. k < length lines) front back all))

rises_insert : (front back : List Symbol) (x : Symbol) → Rises (front ++ back) → x.start < x.end → AllByRecursion (λ s. is_before x.image x.start s ≡ true) front → AllByRecursion (λ s. is_before s.image s.start x ≡ true) back → Rises (front ++ x ∷ back)
rises_insert [] back x rising some before behind = (some, behind, rising)
rises_insert (s ∷ front) back x rising some before behind =
    (rising.0, all_insert (λ other. is_before other.image other.start s ≡ true) front back x rising.1 before.0, rises_insert front back x rising.2 some before.1 behind)

all_behind : (x : Symbol) (back : List Symbol) → x.start < x.end → AllByRecursion (λ s. is_before x.image x.start s ≡ false) back → AllByRecursion (λ s. meets x.image x.start (x.end - 1) s ≡ false) back → AllByRecursion (λ s. is_before s.image s.start x ≡ true) back
all_behind x [] some late none = tt
all_behind x (b ∷ back) some late none = (stands_behind x b some late.0 none.0, all_behind x back some late.1 none.1)

-- ---- what is found among one more

joined : (b : Bool) (f g l : Option Symbol) (x : Symbol) → option_or f g ≡ l → (b ≡ true → l ≡ None) → option_or f (cond b (Some x) g) ≡ option_or l (cond b (Some x) None)
joined true None g l x h none = ap (λ (o : Option Symbol). option_or o (Some x)) (sym (none refl))
joined false None g None x h none = h
joined false None g (Some y) x h none = h
joined true (Some y) g l x h none = let e : Some y ≡ None = h ∙ none refl in cc
joined false (Some y) g None x h none = cc
joined false (Some y) g (Some z) x h none = h

find_insert : (p : Symbol → Bool) (front back lines : List Symbol) (x : Symbol) → find p (front ++ back) ≡ find p lines → (p x ≡ true → find p lines ≡ None) → find p (front ++ x ∷ back) ≡ find p (lines ++ x ∷ [])
find_insert p front back lines x same none =
    find-append p front (x ∷ back) ∙ joined (p x) (find p front) (find p back) (find p lines) x (sym (find-append p front back) ∙ same) none ∙ sym (find-append p lines (x ∷ []))

any_moved : (b f g : Bool) → (f || (b || g)) ≡ ((f || g) || (b || false))
any_moved true true g = refl
any_moved true false true = refl
any_moved true false false = refl
any_moved false true g = refl
any_moved false false true = refl
any_moved false false false = refl

any_insert : (p : Symbol → Bool) (front back lines : List Symbol) (x : Symbol) → list_any p (front ++ back) ≡ list_any p lines → list_any p (front ++ x ∷ back) ≡ list_any p (lines ++ x ∷ [])
any_insert p front back lines x same =
    list_any-append p front (x ∷ back) ∙ any_moved (p x) (list_any p front) (list_any p back)
    ∙ ap (λ (b : Bool). b || (p x || false)) (sym (list_any-append p front back) ∙ same) ∙ sym (list_any-append p lines (x ∷ []))

covers_none : (image : List ℕ) (offset : ℕ) (x : Symbol) (lines : List Symbol) → AllByRecursion (λ s. meets x.image x.start (x.end - 1) s ≡ false) lines → covers image offset x ≡ true → AllByRecursion (λ s. covers image offset s ≡ false) lines
covers_none image offset x [] none h = tt
covers_none image offset x (s ∷ lines) none h = (covered_twice image offset x s h none.0, covers_none image offset x lines none.1 h)

apart_more : (lines : List Symbol) (x : Symbol) → AreApart lines → x.start < x.end → overlaps lines x.image x.start x.end ≡ false → AreApart (lines ++ x ∷ [])
apart_more [] x apart some none = (some, refl, tt)
apart_more (s ∷ lines) x apart some none =
    let t = neither (meets x.image x.start (x.end - 1) s) (overlaps lines x.image x.start x.end) none in
    (apart.0, list_any-append (meets s.image s.start (s.end - 1)) lines (x ∷ []) ∙ ap (λ (b : Bool). b || (meets s.image s.start (s.end - 1) x || false)) apart.1 ∙ ap (λ (b : Bool). b || false) (met_by s x apart.0 some t.0), apart_more lines x apart.2 some t.1)
  where
    neither : (a b : Bool) → (a || b) ≡ false → (a ≡ false) × (b ≡ false)
    neither true b h = cc
    neither false b h = (refl, h)

-- ---- all together: the index in two parts, and the new place between them

between : (lines : List Symbol) (front back : List ℕ) (x : Symbol) → IsIndexed lines (front ++ back) → Fits lines x → AllByRecursion (λ k. is_before x.image x.start (symbol_at lines k) ≡ true) front
    → AllByRecursion (λ k. is_before x.image x.start (symbol_at lines k) ≡ false) back → IsIndexed (lines ++ x ∷ []) (front ++ length lines ∷ back)
between lines front back x held fits before behind =
    let longer : length (lines ++ x ∷ []) ≡ length lines + 1 = length-append lines (x ∷ []) in
    let f = shown lines front in
    let b = shown lines back in
    let parts : shown lines (front ++ back) ≡ f ++ b = map-append (symbol_at lines) front back in
    let now = shown_new lines x front back held.within in
    let p = meets x.image x.start (x.end - 1) in
    let none : AllByRecursion (λ s. p s ≡ false) (f ++ b) = no_any p (f ++ b) (ap (list_any p) (sym parts) ∙ held.meets_some x.image x.start (x.end - 1) ∙ fits.apart) in
    record {
      few = omega (arith, longer, fits.room);
      apart = apart_more lines x held.apart fits.some fits.apart;
      within = all_insert (λ k. k < length (lines ++ x ∷ [])) front back (length lines) (more_within (front ++ back) (length lines) (length (lines ++ x ∷ [])) (omega (arith, longer)) held.within) (omega (arith, longer));
      rising = subst Rises (sym now) (rises_insert f b x (subst Rises parts held.rising) fits.some (all_shown (λ s. is_before x.image x.start s ≡ true) lines front before)
          (all_behind x b fits.some (all_shown (λ s. is_before x.image x.start s ≡ false) lines back behind) (all_back (λ s. p s ≡ false) f b none)));
      finds = λ image offset. ap (find (covers image offset)) now ∙ find_insert (covers image offset) f b lines x (ap (find (covers image offset)) (sym parts) ∙ held.finds image offset)
          (λ h. find_none (covers image offset) lines (covers_none image offset x lines (no_any p lines fits.apart) h));
      meets_some = λ image first last. ap (list_any (meets image first last)) now ∙ any_insert (meets image first last) f b lines x (ap (list_any (meets image first last)) (sym parts) ∙ held.meets_some image first last);
    }

pub added : (lines : List Symbol) (order : List ℕ) (x : Symbol) (at : ℕ) → IsIndexed lines order → Fits lines x → AllByRecursion (λ k. is_before x.image x.start (symbol_at lines k) ≡ true) (take at order)
    → AllByRecursion (λ k. is_before x.image x.start (symbol_at lines k) ≡ false) (drop at order) → IsIndexed (lines ++ x ∷ []) (insert order at (length lines))
added lines order x at held fits before behind =
    between lines (take at order) (drop at order) x (subst (λ (l : List ℕ). IsIndexed lines l) (sym (take-append-drop at order)) held) fits before behind
