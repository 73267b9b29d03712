-- The forms of words that ask for a run by threads.
use Rattle.std.specs.Prelude.{ℕ, if◌then◌else◌, List, [], ◌∷◌, codes}
use Rattle.std.specs.declared.option.Option.{Option}
use Rattle.std.specs.declared.option.Option.TheVariants.{Some, None}
use Rattle.std.specs.Str.{bytes_eq}
use Rattle.sample_key.specs.declared.losses.Pace.{Pace}
use Rattle.sample_key.specs.declared.losses.Pace.TheVariants.{Free, Exact}

-- the pace that a word names
abbrev pub pace_named : List ℕ → Option Pace
pace_named word =
    if bytes_eq word (codes "free") then Some Free
    else if bytes_eq word (codes "exact") then Some Exact else None

-- the pace that stands behind its option
abbrev pub pace_behind : List ℕ → List ℕ → Option Pace
pace_behind mark pace = if bytes_eq mark (codes "--pace") then pace_named pace else None

-- the pace of a run on a database
abbrev pub run_named : List ℕ → List ℕ → List ℕ → Option Pace
run_named word mark pace = if bytes_eq word (codes "run") then pace_behind mark pace else None

-- The pace of the run that these words ask for, where they ask for one: `run DB --pace free` or `run DB --pace exact`.
abbrev pub pace_of : List (List ℕ) → Option Pace
pace_of [] = None
pace_of (word ∷ []) = None
pace_of (word ∷ db ∷ []) = None
pace_of (word ∷ db ∷ mark ∷ []) = None
pace_of (word ∷ db ∷ mark ∷ pace ∷ []) = run_named word mark pace
pace_of (word ∷ db ∷ mark ∷ pace ∷ next ∷ more) = None
