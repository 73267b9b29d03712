-- What the readers of a format answer.
use Rattle.std.specs.Prelude.{◌≡◌, ℕ, Result, Ok, Err}
use Rattle.var_bytes.specs.declared.errors.FormError.{FormError}
use Rattle.var_bytes.specs.declared.errors.FormError.TheVariants.{Bad, Memory}

-- a failure is the one of reading, unless memory ran out
abbrev pub Fails : {Y : Type 0} → FormError → Result Y ℕ → Type 0
Fails Memory read = Unit {0}
Fails (Bad at) read = read ≡ Err at

-- an answer, seen by view, is what reading gives, unless memory ran out
abbrev pub Gives : {X Y : Type 0} → (X → Y) → Result X FormError → Result Y ℕ → Type 0
Gives view (Ok x) read = read ≡ Ok (view x)
Gives view (Err e) read = Fails e read
