-- Formats: what number may stand next, and what the numbers tell in the end.
use Rattle.std.specs.Prelude.{◌≡◌, ◌≢◌, ◌⊎◌, ℕ, zero, suc, ◌+◌, ◌<◌, ◌^◌, Bool, true, ◌&&◌, not, ◌==◌, nat_le, List, [], ◌∷◌, ◌++◌, length, Option, None, Some}
use Rattle.var_bytes.specs.Numbers.{number_bytes}

-- A format whose bytes tell a value: nothing more stands there, or a number that passes a test, and what follows depends on the number.
pub data Form (A : Type 0) : Type 0 where
  Done : A → Form A
  Field : (ℕ → Bool) → (ℕ → Form A) → Form A

-- one format after the other, where the second depends on what the first told
abbrev pub and_then : {A B : Type 0} → Form A → (A → Form B) → Form B
and_then (Done told) next = next told
and_then (Field test others) next = Field test (λ n. and_then (others n) next)

-- `count` items behind the items in `front`; the format of an item may depend on the items before it
abbrev pub repeat : {A : Type 0} → (List A → Form A) → ℕ → List A → Form (List A)
repeat item zero front = Done front
repeat item (suc count) front = and_then (item front) (λ x. repeat item count (front ++ x ∷ []))

-- a number from low to high
abbrev pub between : ℕ → ℕ → ℕ → Bool
between low high n = nat_le low n && nat_le n high

-- a number from low to high that is not the barred one, if there is one
abbrev pub between_but : ℕ → ℕ → Option ℕ → ℕ → Bool
between_but low high None n = between low high n
between_but low high (Some barred) n = between low high n && not (n == barred)

-- a number that has a spelling and passes the test
pub record IsIn (test : ℕ → Bool) (n : ℕ) : Type 0 where
  pub meets : test n ≡ true
  pub wide : n < 2 ^ 64

-- a front of the bytes tells the value in this format, and the rest follows it
abbrev pub Takes : {A : Type 0} → Form A → List ℕ → A → List ℕ → Type 0
Takes (Done told) bytes value rest = (told ≡ value) × (bytes ≡ rest)
Takes (Field test next) bytes value rest =
    (n : ℕ) × (more : List ℕ) × IsIn test n × (bytes ≡ number_bytes n ++ more) × Takes (next n) more value rest

-- the bytes, all of them, tell the value in this format
abbrev pub Spells : {A : Type 0} → Form A → List ℕ → A → Type 0
Spells form bytes value = Takes form bytes value []

-- The first bad field begins at this index: there stands no canonical number that passes the field's test. Where all fields are good,
-- the index is that of the first byte after them.
abbrev pub IsBadAt : {A : Type 0} → Form A → List ℕ → ℕ → Type 0
IsBadAt (Done told) bytes at = (bytes ≢ []) × (at ≡ 0)
IsBadAt (Field test next) bytes at =
    ((at ≡ 0) × ((n : ℕ) (more : List ℕ) → IsIn test n → bytes ≡ number_bytes n ++ more → ⊥))
    ⊎ ((n : ℕ) × (more : List ℕ) × IsIn test n × (bytes ≡ number_bytes n ++ more) × (later : ℕ) × IsBadAt (next n) more later × (at ≡ length (number_bytes n) + later))

-- these numbers, before the rest, tell the value in this format
abbrev pub Follows : {A : Type 0} → Form A → List ℕ → A → List ℕ → Type 0
Follows (Done told) numbers value rest = (told ≡ value) × (numbers ≡ rest)
Follows (Field test next) [] value rest = ⊥
Follows (Field test next) (n ∷ numbers) value rest = IsIn test n × Follows (next n) numbers value rest

-- the numbers of these items, where those of an item may depend on the items before it
abbrev pub fields_after : {A : Type 0} → (List A → A → List ℕ) → List A → List A → List ℕ
fields_after fields front [] = []
fields_after fields front (x ∷ xs) = fields front x ++ fields_after fields (front ++ x ∷ []) xs

-- bytes that tell the value were added at the end
abbrev pub Appends : {A : Type 0} → Form A → List ℕ → List ℕ → A → Type 0
Appends form old new value = (text : List ℕ) × (new ≡ old ++ text) × Spells form text value
