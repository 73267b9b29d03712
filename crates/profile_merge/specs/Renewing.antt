-- The changed profiles of a commit, in its order, and what their files held.
use Rattle.std.specs.Prelude.{◌≡◌, ◌⊎◌, ℕ, List, [], ◌∷◌, ◌++◌, is_some, true}
use Rattle.std.specs.Prelude.{Ok, Err}
use Rattle.std.specs.declared.option.Option.TheVariants.{Some, None}
use Rattle.std.specs.declared.result.Result.{Result}
use Rattle.std.specs.Global.{Vec}
use Rattle.std.specs.Map.{lookup}
use Rattle.store_io.specs.Files.{Files}
use Rattle.sample_key.specs.Events.{code_of}
use Rattle.database_model.specs.declared.profiles.ProfileRow.{ProfileRow}
use Rattle.database_state.specs.Heads.{Head}
use Rattle.database_state.specs.Updates.{KnownUpdate, UnknownUpdate}
use Rattle.database_state.specs.declared.faults.DbFault.{DbFault}
use Rattle.database_state.specs.declared.faults.DbFault.TheVariants.{StoreFault, Bad, Full, Memory}
use Rattle.growth_model.specs.Growth.{AreGrown}
use Rattle.profile_merge.specs.declared.owners.Owner.{Owner}
use Rattle.profile_merge.specs.declared.owners.Owner.TheVariants.{Known, Unknown}
use Rattle.profile_merge.specs.declared.growing.Renewed.{Renewed}
use Rattle.profile_merge.specs.Sums.{Collected, same_owner, sum_at, counts_in}
use Rattle.profile_merge.specs.Faults.{held_by, IsFileOf, HasRoom, IsWrong}
use Rattle.profile_merge.specs.Numbering.{renumbered}

-- the profiles by the numbers of their images, each with the one that was gathered
abbrev pub Parts : Type 0
Parts = List (Owner × Owner)

-- something was gathered for a profile
abbrev pub IsGathered : Collected → Owner → Type 0
IsGathered collected owner = is_some (lookup (same_owner owner) collected) ≡ true

-- Each profile that was gathered has its part, and there are no others.
pub record ArePartsOf (numbers : List ℕ) (collected : Collected) (parts : Parts) : Type 0 where
  pub found : (owner from : Owner) → lookup (same_owner owner) parts ≡ Some from →
      (renumbered numbers from ≡ owner) × IsGathered collected from
  pub has : (from : Owner) → IsGathered collected from →
      is_some (lookup (same_owner (renumbered numbers from)) parts) ≡ true

-- what reading the file of a profile gives
abbrev pub HoldsAs : Head → Files → Owner → Result (List ProfileRow) DbFault → Type 0
HoldsAs h files owner (Ok rows) = held_by h files owner ≡ Some rows
HoldsAs h files owner (Err StoreFault) = Unit {0}
HoldsAs h files owner (Err (Bad file)) =
    IsFileOf h owner file × (held_by h files owner ≡ None)
HoldsAs h files owner (Err (Full what held added)) = ⊥
HoldsAs h files owner (Err Memory) = Unit {0}

-- rows that count what a profile held and what is added
abbrev pub IsRenewed : (ℕ → ℕ) → Head → Files → Owner → List ProfileRow → Type 0
IsRenewed added h files owner rows =
    (before : List ProfileRow) × (held_by h files owner ≡ Some before) × AreGrown added before rows

-- what is wrong with a profile, if not the store or want of memory
abbrev pub IsStopped : (ℕ → ℕ) → Head → Files → Owner → DbFault → Type 0
IsStopped added h files owner StoreFault = Unit {0}
IsStopped added h files owner (Bad file) = IsWrong added h files owner (Bad file)
IsStopped added h files owner (Full what held more) =
    IsWrong added h files owner (Full what held more)
IsStopped added h files owner Memory = Unit {0}

-- what renewing one profile gives
abbrev pub RenewsOne : (ℕ → ℕ) → Head → Files → Owner → Result Renewed DbFault → Type 0
RenewsOne added h files owner (Ok one) = IsRenewed added h files owner one.profile
RenewsOne added h files owner (Err fault) = IsStopped added h files owner fault

-- each part is renewed, in their order
abbrev pub AreRenewed : Collected → Head → Files → Parts → List Renewed → Type 0
AreRenewed collected h files [] [] = Unit {0}
AreRenewed collected h files [] (one ∷ all) = ⊥
AreRenewed collected h files (part ∷ parts) [] = ⊥
AreRenewed collected h files (part ∷ parts) (one ∷ all) = (one.owner ≡ part.0)
    × IsRenewed (sum_at (counts_in collected part.1)) h files part.0 one.profile
    × AreRenewed collected h files parts all

-- the first part with which something is wrong
abbrev pub IsWrongAmong : Collected → Head → Files → Parts → DbFault → Type 0
IsWrongAmong collected h files [] fault = ⊥
IsWrongAmong collected h files (part ∷ parts) fault =
    IsWrong (sum_at (counts_in collected part.1)) h files part.0 fault
    ⊎ (HasRoom (sum_at (counts_in collected part.1)) (held_by h files part.0)
    × IsWrongAmong collected h files parts fault)

-- the same, if not the store or want of memory
abbrev pub AreStopped : Collected → Head → Files → Parts → DbFault → Type 0
AreStopped collected h files parts StoreFault = Unit {0}
AreStopped collected h files parts (Bad file) = IsWrongAmong collected h files parts (Bad file)
AreStopped collected h files parts (Full what held added) =
    IsWrongAmong collected h files parts (Full what held added)
AreStopped collected h files parts Memory = Unit {0}

-- what renewing all gives
abbrev pub RenewsAll : Collected → Head → Files → Parts → Result (Vec Renewed) DbFault → Type 0
RenewsAll collected h files parts (Ok all) = AreRenewed collected h files parts all.items
RenewsAll collected h files parts (Err fault) = AreStopped collected h files parts fault

-- a known profile, as a commit takes it
abbrev pub known_file : Owner → List ProfileRow → List KnownUpdate
known_file (Known epoch image event) rows =
    record { epoch = epoch; image = image; event = code_of event; rows = rows } ∷ []
known_file (Unknown epoch event) rows = []

-- an unknown one
abbrev pub unknown_file : Owner → List ProfileRow → List UnknownUpdate
unknown_file (Known epoch image event) rows = []
unknown_file (Unknown epoch event) rows =
    record { epoch = epoch; event = code_of event; rows = rows } ∷ []

-- the known ones, in their order
abbrev pub known_files : List Renewed → List KnownUpdate
known_files [] = []
known_files (one ∷ all) = known_file one.owner one.profile ++ known_files all

-- the unknown ones
abbrev pub unknown_files : List Renewed → List UnknownUpdate
unknown_files [] = []
unknown_files (one ∷ all) = unknown_file one.owner one.profile ++ unknown_files all
