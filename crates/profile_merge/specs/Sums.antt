-- What was gathered, as a value: for each profile its counts by rising offset.
use Rattle.std.specs.Prelude.{◌≡◌, ℕ, ◌+◌, ◌%◌, ◌^◌, ◌<◌, ◌≤◌, ◌==◌, ◌&&◌, Bool, false, if◌then◌else◌, List, [], ◌∷◌, unwrap_or}
use Rattle.std.specs.List.{AllByRecursion}
use Rattle.std.specs.Map.{lookup}
use Rattle.std.specs.declared.option.Option.{Option}
use Rattle.std.specs.declared.option.Option.TheVariants.{Some, None}
use Rattle.sample_key.specs.Counted.{Counted}
use Rattle.sample_key.specs.Events.{code_of}
use Rattle.trace_model.specs.declared.notices.Place.{Place}
use Rattle.profile_merge.specs.declared.owners.Owner.{Owner}
use Rattle.profile_merge.specs.declared.owners.Owner.TheVariants.{Known, Unknown}

-- the counts of a profile by offset
abbrev pub Counts : Type 0
Counts = List (ℕ × ℕ)

-- the counts of all profiles
abbrev pub Collected : Type 0
Collected = List (Owner × Counts)

-- one and the same profile
abbrev pub same_owner : Owner → Owner → Bool
same_owner (Known epoch image event) (Known other number kind) =
    epoch == other && image == number && code_of event == code_of kind
same_owner (Known epoch image event) (Unknown other kind) = false
same_owner (Unknown epoch event) (Known other number kind) = false
same_owner (Unknown epoch event) (Unknown other kind) =
    epoch == other && code_of event == code_of kind

-- what counts have at an offset, 0 where they have none
abbrev pub sum_at : Counts → ℕ → ℕ
sum_at [] offset = 0
sum_at (first ∷ counts) offset = if first.0 == offset then first.1 else sum_at counts offset

-- the counts of a profile, none where nothing was gathered for it
abbrev pub counts_in : Collected → Owner → Counts
counts_in collected owner = unwrap_or (lookup (same_owner owner) collected) []

-- more is counted at an offset
abbrev pub AddsCount : Counts → Counts → ℕ → ℕ → Type 0
AddsCount before after at count = (offset : ℕ) →
    sum_at after offset ≡ sum_at before offset + (if at == offset then count else 0)

-- what was gathered for a profile at an offset
abbrev pub gathered_at : Collected → Owner → ℕ → ℕ
gathered_at collected owner offset = sum_at (counts_in collected owner) offset

-- more was gathered for a profile at an offset
abbrev pub PutsCount : Collected → Collected → Owner → ℕ → ℕ → Type 0
PutsCount before after owner at count = (other : Owner) (offset : ℕ) →
    gathered_at after other offset
    ≡ gathered_at before other offset
    + (if same_owner owner other && at == offset then count else 0)

-- the same was gathered
abbrev pub HasSame : Collected → Collected → Type 0
HasSame before after = (owner : Owner) (offset : ℕ) →
    gathered_at after owner offset ≡ gathered_at before owner offset

-- whose profile an entry belongs to
abbrev pub owner_at : ℕ → Option Place → Counted → Owner
owner_at epoch None counted = Unknown epoch counted.key.event
owner_at epoch (Some place) counted = Known epoch place.image counted.key.event

-- and at which offset or program counter
abbrev pub offset_at : Option Place → Counted → ℕ
offset_at None counted = counted.key.pc
offset_at (Some place) counted = place.offset

-- an entry was gathered
abbrev pub AddsEntry : ℕ → Option Place → Counted → Collected → Collected → Type 0
AddsEntry epoch place counted before after =
    PutsCount before after (owner_at epoch place counted) (offset_at place counted) counted.count

-- what entries add to a profile at an offset, each where its process and program counter lie
abbrev pub entries_add : ℕ → (ℕ → ℕ → Option Place) → List Counted → Owner → ℕ → ℕ
entries_add epoch place [] owner offset = 0
entries_add epoch place (counted ∷ entries) owner offset =
    (if same_owner (owner_at epoch (place counted.key.pid counted.key.pc) counted) owner
    && offset_at (place counted.key.pid counted.key.pc) counted == offset then counted.count else 0)
    + entries_add epoch place entries owner offset

-- entries were gathered
abbrev pub AddsEntries : ℕ → (ℕ → ℕ → Option Place) → List Counted → Collected → Collected → Type 0
AddsEntries epoch place entries before after = (owner : Owner) (offset : ℕ) →
    gathered_at after owner offset
    ≡ gathered_at before owner offset + entries_add epoch place entries owner offset

-- counts whose offsets are multiples of 4 and rise below 2 ^ 64, the first of them not below `least`; none is 0
abbrev pub CountsRiseFrom : ℕ → Counts → Type 0
CountsRiseFrom least [] = Unit {0}
CountsRiseFrom least (first ∷ counts) =
    (least ≤ first.0) × (first.0 < 2 ^ 64) × (first.0 % 4 ≡ 0) × (1 ≤ first.1)
    × CountsRiseFrom (first.0 + 1) counts

-- the counts of a profile: there are some, and their offsets rise
abbrev pub AreCounts : Counts → Type 0
AreCounts [] = ⊥
AreCounts (first ∷ counts) = CountsRiseFrom 0 (first ∷ counts)

-- so it is for each profile
abbrev pub AreSums : Collected → Type 0
AreSums collected = AllByRecursion (λ profile. AreCounts profile.1) collected
