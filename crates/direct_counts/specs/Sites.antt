-- Where samples lie, as sites of numbers, and what a table of sites counts.
use Rattle.std.specs.Prelude.{◌≡◌, ℕ, ◌+◌, ◌<◌, Bool, if◌then◌else◌, List, [], ◌∷◌, map, length, slice_index, unwrap_or}
use Rattle.std.specs.declared.option.Option.{Option}
use Rattle.std.specs.declared.option.Option.TheVariants.{Some, None}
use Rattle.std.specs.List.{All, count_by, sum_by}
use Rattle.std.specs.HashMap.{HashMap, PutsEntry, get}
use Rattle.sample_key.specs.declared.keys.Key.{Key}
use Rattle.trace_model.specs.declared.notices.Place.{Place}
use Rattle.trace_model.specs.Counting.{Row, Spot, same_spot}
use Rattle.trace_model.specs.Counting as counting
use Rattle.trace_model.specs.Recording.{name_at}
use Rattle.direct_counts.specs.declared.sites.Site.{Site}
use Rattle.direct_counts.specs.declared.sites.Site.TheVariants.{Known, Unknown}
use Rattle.direct_counts.specs.Ranks.{IsRank}

-- the spot that a site stands for, where these are the names in their order
abbrev pub spot_shown : List (List ℕ) → Site → Spot
spot_shown names (Known epoch rank event offset) = counting.Known epoch (name_at names rank) event offset
spot_shown names (Unknown epoch event pc) = counting.Unknown epoch event pc

-- a site and its count, as a row
abbrev pub row_shown : List (List ℕ) → Site × ℕ → Row
row_shown names entry = record { spot = spot_shown names entry.0; count = entry.1 }

abbrev pub rows_in : List (List ℕ) → List (Site × ℕ) → List Row
rows_in names entries = map (row_shown names) entries

-- the image of a site stands at its rank among the names
abbrev pub IsRanked : List (List ℕ) → Site → Type 0
IsRanked names (Known epoch rank event offset) = IsRank names rank
IsRanked names (Unknown epoch event pc) = Unit {0}

abbrev pub AreRanked : List (List ℕ) → List (Site × ℕ) → Type 0
AreRanked names entries = All (λ entry. IsRanked names entry.0) entries

-- there is a rank for the image of a place
abbrev pub HasRank : List ℕ → Option Place → Type 0
HasRank ranks None = Unit {0}
HasRank ranks (Some place) = place.image < length ranks

-- the site of a sample
abbrev pub site_at : ℕ → List ℕ → Key → Option Place → Site
site_at epoch ranks key None = Unknown epoch key.event key.pc
site_at epoch ranks key (Some place) = Known epoch (slice_index ranks place.image) key.event place.offset

-- how many samples rows count at a spot
abbrev pub counted_at : Spot → Row → ℕ
counted_at spot row = if same_spot spot row.spot then row.count else 0

abbrev pub total_at : Spot → List Row → ℕ
total_at spot rows = sum_by (counted_at spot) rows

-- a table counts these spots, each as often as it stands there, and has no count of 0
pub record Tallies (names : List (List ℕ)) (entries : List (Site × ℕ)) (spots : List Spot) : Type 0 where
  pub ranked : AreRanked names entries
  pub some : All (λ entry. 0 < entry.1) entries
  pub totals : (spot : Spot) → total_at spot (rows_in names entries) ≡ count_by (same_spot spot) spots

-- a table with one more at a key
abbrev pub CountsOne : {K S : Type 0} → (K → K → Bool) → HashMap K ℕ S → HashMap K ℕ S → K → Type 0
CountsOne eq before after key = PutsEntry eq before after key (unwrap_or (get eq before key) 0 + 1) (get eq before key)
