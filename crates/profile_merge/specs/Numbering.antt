-- The numbers of images: those held keep theirs, and the new ones follow in the trace's order.
use Rattle.std.specs.Prelude.{◌≡◌, ℕ, ◌+◌, ◌<◌, ◌==◌, ◌&&◌, Bool, false, if◌then◌else◌, List, [], ◌∷◌, ◌++◌, length, is_none, unwrap_or, slice_index_or}
use Rattle.std.specs.List.{list_any}
use Rattle.image_catalog.specs.Images.{place_of}
use Rattle.database_state.specs.declared.faults.DbFault.{DbFault}
use Rattle.database_state.specs.declared.faults.DbFault.TheVariants.{StoreFault, Bad, Full, Memory}
use Rattle.database_state.specs.declared.faults.FullWhat.TheVariants as full
use Rattle.std.specs.declared.cmp.Ordering.{Ordering}
use Rattle.profile_merge.specs.contracts.owners.OwnerOrd.TheImpl as owner_ord
use Rattle.profile_merge.specs.declared.owners.Owner.{Owner}
use Rattle.profile_merge.specs.declared.owners.Owner.TheVariants.{Known, Unknown}
use Rattle.profile_merge.specs.Sums.{Collected}

-- the order of profiles in a commit
abbrev pub owner_cmp : Owner → Owner → Ordering
owner_cmp = owner_ord.cmp-value.it

-- whether a profile is of an image
abbrev pub is_image : ℕ → Owner → Bool
is_image index (Known epoch image event) = image == index
is_image index (Unknown epoch event) = false

-- whether something was gathered for an image
abbrev pub is_used : Collected → ℕ → Bool
is_used collected index = list_any (λ profile. is_image index profile.0) collected

-- the name of an image, if it is used and new
abbrev pub new_names : List (List ℕ) → Bool → List ℕ → List (List ℕ)
new_names held used name = if used && is_none (place_of name held) then name ∷ [] else []

-- the names of the images that are used and new
abbrev pub fresh_of : List (List ℕ) → List Bool → List (List ℕ) → List (List ℕ)
fresh_of held [] names = []
fresh_of held (used ∷ more) [] = []
fresh_of held (used ∷ more) (name ∷ names) = new_names held used name ++ fresh_of held more names

-- the number of an image, where the next new one has this number
abbrev pub number_at : List (List ℕ) → ℕ → Bool → List ℕ → ℕ
number_at held next used name = if used then unwrap_or (place_of name held) next else 0

-- the numbers of the images, one after the other
abbrev pub numbers_of : List (List ℕ) → ℕ → List Bool → List (List ℕ) → List ℕ
numbers_of held next [] names = []
numbers_of held next (used ∷ more) [] = []
numbers_of held next (used ∷ more) (name ∷ names) =
    number_at held next used name
    ∷ numbers_of held (next + length (new_names held used name)) more names

-- more images than there are numbers
abbrev pub IsImagesFault : List (List ℕ) → List (List ℕ) → DbFault → Type 0
IsImagesFault held fresh StoreFault = ⊥
IsImagesFault held fresh (Bad file) = ⊥
IsImagesFault held fresh (Full what is_held added) =
    (what ≡ full.Images) × (is_held ≡ 4096) × (added ≡ 1)
    × (4096 < length held + length fresh)
IsImagesFault held fresh Memory = Unit {0}

-- the profile with its image's number in place of its index
abbrev pub renumbered : List ℕ → Owner → Owner
renumbered numbers (Known epoch image event) = Known epoch (slice_index_or numbers image 0) event
renumbered numbers (Unknown epoch event) = Unknown epoch event
