-- Writers that add one part after the other: each part's bytes tell its value, and so do all of them together.
use Rattle.std.proofs.Common.{◌≡◌, ℕ, zero, suc, ◌+◌, ◌<◌, List, [], ◌∷◌, ◌++◌, length, get_or, take, refl, sym, ap, subst, ◌∙◌, append_assoc, add-one, arith}
use Rattle.std.proofs.lemmas.List.{append-nil, take_more, take_all}
use Rattle.var_bytes.specs.Numbers.{number_bytes, spell}
use Rattle.var_bytes.specs.Forms.{Form, Done, Field, and_then, repeat, IsIn, Takes, Spells, Follows, Appends}
use Rattle.var_bytes.proofs.Writing.{spells_fields}

-- more bytes behind the rest
pub takes_append : {A : Type 0} (form : Form A) (bytes : List ℕ) (value : A) (rest more : List ℕ) → Takes form bytes value rest → Takes form (bytes ++ more) value (rest ++ more)
takes_append (Done told) bytes value rest more t = (t.0, ap (λ (b : List ℕ). b ++ more) t.1)
takes_append {A = A} (Field test next) bytes value rest more t =
    (t.0, t.1 ++ more, t.2, ap (λ (b : List ℕ). b ++ more) t.3 ∙ append_assoc (number_bytes t.0) t.1 more, takes_append (next t.0) t.1 value rest more t.4)

-- a part, and then another
pub takes_and_then : {A B : Type 0} (form : Form A) (next : A → Form B) (bytes : List ℕ) (value : A) (rest : List ℕ) (told : B) (end : List ℕ) → Takes form bytes value rest → Takes (next value) rest told end → Takes (and_then form next) bytes told end
takes_and_then {A = A} {B = B} (Done here) next bytes value rest told end t u =
    let second : Takes (next here) rest told end = subst (λ (v : A). Takes (next v) rest told end) (sym t.0) u in
    subst (λ (b : List ℕ). Takes (next here) b told end) (sym t.1) second
takes_and_then (Field test others) next bytes value rest told end t u =
    (t.0, t.1, t.2, t.3, takes_and_then (others t.0) next t.1 value rest told end t.4 u)

-- what the first of two parts told, and the bytes that are left for the second
pub record IsTakenInParts {A B : Type 0} (form : Form A) (next : A → Form B) (bytes : List ℕ) (told : B) (end : List ℕ) : Type 0 where
  pub value : A
  pub rest : List ℕ
  pub first : Takes form bytes value rest
  pub second : Takes (next value) rest told end

pub taken_in_parts : {A B : Type 0} (form : Form A) (next : A → Form B) (bytes : List ℕ) (told : B) (end : List ℕ) → Takes (and_then form next) bytes told end → IsTakenInParts form next bytes told end
taken_in_parts (Done here) next bytes told end t = record { value = here; rest = bytes; first = (refl, refl); second = t }
taken_in_parts (Field test others) next bytes told end t =
    let p = taken_in_parts (others t.0) next t.1 told end t.4 in
    record { value = p.value; rest = p.rest; first = (t.0, t.1, t.2, t.3, p.first); second = p.second }

-- one more item
takes_repeat_push : {A : Type 0} (item : List A → Form A) (count : ℕ) (front : List A) (bytes : List ℕ) (xs : List A) (rest : List ℕ) (x : A) (end : List ℕ) → Takes (repeat item count front) bytes xs rest → Takes (item xs) rest x end → Takes (repeat item (suc count) front) bytes (xs ++ x ∷ []) end
takes_repeat_push {A = A} item zero front bytes xs rest x end t u =
    let here : Takes (item front) rest x end = subst (λ (f : List A). Takes (item f) rest x end) (sym t.0) u in
    let whole : Takes (item front) bytes x end = subst (λ (b : List ℕ). Takes (item front) b x end) (sym t.1) here in
    takes_and_then (item front) (λ y. repeat item zero (front ++ y ∷ [])) bytes x end (xs ++ x ∷ []) end whole (ap (λ (f : List A). f ++ x ∷ []) t.0, refl)
takes_repeat_push {A = A} item (suc count) front bytes xs rest x end t u =
    let p = taken_in_parts (item front) (λ y. repeat item count (front ++ y ∷ [])) bytes xs rest t in
    takes_and_then (item front) (λ y. repeat item (suc count) (front ++ y ∷ [])) bytes p.value p.rest (xs ++ x ∷ []) end p.first (takes_repeat_push item count (front ++ p.value ∷ []) p.rest xs rest x end p.second u)

-- ---- the same of bytes that were added

pub appends_none : {A : Type 0} (item : List A → Form A) (old : List ℕ) → Appends (repeat item 0 []) old old []
appends_none item old = ([], sym (append-nil old), (refl, refl))

pub appends_numbers : {A : Type 0} (form : Form A) (old new numbers : List ℕ) (value : A) → new ≡ old ++ spell numbers → Follows form numbers value [] → Appends form old new value
appends_numbers form old new numbers value e f = (spell numbers, e, spells_fields form numbers value f)

pub appends_and_then : {A B : Type 0} (form : Form A) (next : A → Form B) (old mid new : List ℕ) (value : A) (told : B) → Appends form old mid value → Appends (next value) mid new told → Appends (and_then form next) old new told
appends_and_then form next old mid new value told a b = (
  a.0 ++ b.0,
  b.1 ∙ ap (λ (m : List ℕ). m ++ b.0) a.1 ∙ append_assoc old a.0 b.0,
  takes_and_then form next (a.0 ++ b.0) value b.0 told [] (takes_append form a.0 value [] b.0 a.2) b.2,
)

pub appends_more : {A : Type 0} (item : List A → Form A) (count : ℕ) (old mid new : List ℕ) (xs : List A) (x : A) → Appends (repeat item count []) old mid xs → Appends (item xs) mid new x → Appends (repeat item (count + 1) []) old new (xs ++ x ∷ [])
appends_more {A = A} item count old mid new xs x a b =
    let whole : Spells (repeat item (suc count) []) (a.0 ++ b.0) (xs ++ x ∷ []) =
    takes_repeat_push item count [] (a.0 ++ b.0) xs b.0 x [] (takes_append (repeat item count []) a.0 xs [] b.0 a.2) b.2 in (
      a.0 ++ b.0,
      b.1 ∙ ap (λ (m : List ℕ). m ++ b.0) a.1 ∙ append_assoc old a.0 b.0,
      rw add-one whole,
    )

-- ---- several numbers, and then the rest of a format

-- behind these numbers a format goes on as the other
abbrev pub Leads : {A : Type 0} → Form A → List ℕ → Form A → Type 0
Leads form [] others = form ≡ others
Leads (Done told) (n ∷ numbers) others = ⊥
Leads (Field test next) (n ∷ numbers) others = IsIn test n × Leads (next n) numbers others

pub leads_spelled : {A : Type 0} (form : Form A) (numbers : List ℕ) (others : Form A) (text : List ℕ) (value : A) (end : List ℕ) → Leads form numbers others → Takes others text value end → Takes form (spell numbers ++ text) value end
leads_spelled {A = A} form [] others text value end l t = subst (λ (f : Form A). Takes f text value end) (sym l) t
leads_spelled (Done told) (n ∷ numbers) others text value end l t = absurd l
leads_spelled {A = A} (Field test next) (n ∷ numbers) others text value end l t =
    (n, spell numbers ++ text, l.0, append_assoc (number_bytes n) (spell numbers) text, leads_spelled (next n) numbers others text value end l.1 t)

pub appends_leads : {A : Type 0} (form : Form A) (numbers : List ℕ) (others : Form A) (old mid new : List ℕ) (value : A) → Leads form numbers others → mid ≡ old ++ spell numbers → Appends others mid new value → Appends form old new value
appends_leads form numbers others old mid new value l e b = (
  spell numbers ++ b.0,
  b.1 ∙ ap (λ (m : List ℕ). m ++ b.0) e ∙ append_assoc old (spell numbers) b.0,
  leads_spelled form numbers others b.0 value [] l b.2,
)

pub appends_done : {A : Type 0} (value told : A) (old : List ℕ) → value ≡ told → Appends (Done value) old old told
appends_done value told old e = ([], sym (append-nil old), (e, refl))

-- ---- a loop over items

-- one more item of a list
pub appends_item : {A : Type 0} (item : List A → Form A) (xs : List A) (i : ℕ) (d : A) (old mid new : List ℕ) → i < length xs → Appends (repeat item i []) old mid (take i xs) → Appends (item (take i xs)) mid new (get_or xs i d) → Appends (repeat item (i + 1) []) old new (take (i + 1) xs)
appends_item item xs i d old mid new lt a b = rw (take_more xs i d lt) (appends_more item i old mid new (take i xs) (get_or xs i d) a b)

-- all items of a list
pub appends_all : {A : Type 0} (item : List A → Form A) (xs : List A) (i : ℕ) (old new : List ℕ) → i ≡ length xs → Appends (repeat item i []) old new (take i xs) → Appends (repeat item (length xs) []) old new xs
appends_all {A = A} item xs i old new e a =
    let whole : take i xs ≡ xs = take_all i xs (omega (arith, e)) in
    subst (λ (n : ℕ). Appends (repeat item n []) old new xs) e (subst (λ (ys : List A). Appends (repeat item i []) old new ys) whole a)
