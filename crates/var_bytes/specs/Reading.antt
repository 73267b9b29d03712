-- Reading from left to right, with an index into the bytes: the number or value and the index after it, or the index of the first bad field.
use Rattle.std.specs.Prelude.{ℕ, ◌+◌, ◌*◌, ◌-◌, ◌^◌, Bool, ◌==◌, nat_lt, List, [], ◌∷◌, length, drop, Option, None, Some, Result, Ok, Err, if◌then◌else◌}
use Rattle.var_bytes.specs.Forms.{Form, Done, Field}

-- a low part with its weight and its length, before a higher part, which may not be 0
abbrev pub joined : ℕ → ℕ → ℕ → Option (ℕ × ℕ) → Option (ℕ × ℕ)
joined value scale len None = None
joined value scale len (Some high) = if high.0 == 0 then None else Some (value + scale * high.0, len + high.1)

-- the number of any width that a front of the bytes spells, and the length of that front
unfoldable pub wide_at : List ℕ → Option (ℕ × ℕ)
wide_at [] = None
wide_at (b ∷ bytes) = if nat_lt b 128 then Some (b, 1) else joined (b - 128) 128 1 (wide_at bytes)

-- the same where the number is below 2 ^ 64
abbrev pub narrow : Option (ℕ × ℕ) → Option (ℕ × ℕ)
narrow None = None
narrow (Some x) = if nat_lt x.0 (2 ^ 64) then Some x else None

-- the number that a front of the bytes spells, and the length of that front
unfoldable pub number_at : List ℕ → Option (ℕ × ℕ)
number_at bytes = narrow (wide_at bytes)

-- the next step with what this one gives, or this one's failure
infixl 10 ◌>>=◌
abbrev pub ◌>>=◌ : {A B : Type 0} → Result A ℕ → (A → Result B ℕ) → Result B ℕ
(Ok x) >>= f = f x
(Err at) >>= f = Err at

-- a number that passes the test, and the index after it
abbrev pub meeting : (ℕ → Bool) → ℕ → Option (ℕ × ℕ) → Result (ℕ × ℕ) ℕ
meeting test at None = Err at
meeting test at (Some x) = if test x.0 then Ok (x.0, at + x.1) else Err at

-- a field at an index
unfoldable pub field_at : (ℕ → Bool) → List ℕ → ℕ → Result (ℕ × ℕ) ℕ
field_at test bytes at = meeting test at (number_at (drop at bytes))

-- a value at an index
abbrev pub take_form : {A : Type 0} → Form A → List ℕ → ℕ → Result (A × ℕ) ℕ
take_form (Done told) bytes at = Ok (told, at)
take_form (Field test next) bytes at = field_at test bytes at >>= λ x. take_form (next x.0) bytes x.1

-- a value that ends with the bytes
abbrev pub ended : {A : Type 0} → List ℕ → A × ℕ → Result A ℕ
ended bytes x = if x.1 == length bytes then Ok x.0 else Err x.1

-- the value that the bytes tell
abbrev pub read_form : {A : Type 0} → Form A → List ℕ → Result A ℕ
read_form form bytes = take_form form bytes 0 >>= ended bytes
