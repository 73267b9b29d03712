-- The counts of one profile in a listing: they rise, and what they list.
use Rattle.std.proofs.Common.{arith, ◌≡◌, ℕ, ◌+◌, ◌<◌, ◌&&◌, Bool, true, false, cond, eqb, List, [], ◌∷◌, ◌++◌, refl, ap, ◌∙◌}
use Rattle.std.specs.declared.cmp.Ordering.{Ordering}
use Rattle.std.specs.declared.cmp.Ordering.TheVariants.{Less, Equal}
use Rattle.std.specs.Ordering.{nat_cmp, ordering_then}
use Rattle.std.specs.Cmp.Lexicographic.{slice_cmp}
use Rattle.std.proofs.lemmas.Cmp.{nat_cmp_total, nat_list_cmp_total, tied_itself}
use Rattle.std.proofs.lemmas.List.Sums.{sum_by-cons}
use Rattle.sample_key.specs.declared.events.Event.{Event}
use Rattle.sample_key.specs.Events.{code_of}
use Rattle.trace_model.specs.Counting.{Spot, Known, Unknown, Row, Rises, spot_cmp, same_spot}
use Rattle.image_catalog.proofs.Places.{lt_true}
use Rattle.database_model.specs.declared.profiles.ProfileRow.{ProfileRow}
use Rattle.database_model.specs.Ranges.{RowsRiseFrom}
use Rattle.direct_counts.specs.Sites.{counted_at, total_at}
use Rattle.direct_counts.proofs.Rows.{Leads, rises_from}
use Rattle.counts_listing.specs.Counting.{sum_at}
use Rattle.counts_listing.specs.Sections.{counts_at}

-- ---- order

-- places that stand by their offsets
abbrev pub Climbs : (ℕ → Spot) → Type 0
Climbs place = (o p : ℕ) → o < p → spot_cmp (place o) (place p) ≡ Less

third : (a b c d : Ordering) → a ≡ Equal → b ≡ Equal → c ≡ Equal → d ≡ Less → ordering_then a (ordering_then b (ordering_then c d)) ≡ Less
third a b c d p q r s = rw (p, q, r, s) refl

second : (a b c : Ordering) → a ≡ Equal → b ≡ Equal → c ≡ Less → ordering_then a (ordering_then b c) ≡ Less
second a b c p q r = rw (p, q, r) refl

less : (o p : ℕ) → o < p → nat_cmp o p ≡ Less
less o p below = rw (lt_true o p below) refl

pub known_climbs : (epoch : ℕ) (image : List ℕ) (event : Event) → Climbs (λ offset. Known epoch image event offset)
known_climbs epoch image event o p below =
    third (nat_cmp epoch epoch) (slice_cmp nat_cmp image image) (nat_cmp (code_of event) (code_of event)) (nat_cmp o p) (tied_itself nat_cmp_total epoch) (tied_itself nat_list_cmp_total image) (tied_itself nat_cmp_total (code_of event)) (less o p below)

pub unknown_climbs : (epoch : ℕ) (event : Event) → Climbs (λ pc. Unknown epoch event pc)
unknown_climbs epoch event o p below =
    second (nat_cmp epoch epoch) (nat_cmp (code_of event) (code_of event)) (nat_cmp o p) (tied_itself nat_cmp_total epoch) (tied_itself nat_cmp_total (code_of event)) (less o p below)

-- a profile's counts before more of them, all behind it
pub block_rises : (place : ℕ → Spot) → Climbs place → (least : ℕ) (rows : List ProfileRow) → RowsRiseFrom least rows → (more : List Row) → Rises more → ((o : ℕ) → Leads (place o) more) → Rises (counts_at place rows ++ more)
block_rises place climbs least [] rise more after leads = after
block_rises place climbs least (row ∷ rows) rise more after leads =
    rises_from (record { spot = place row.offset; count = row.count }) (counts_at place rows ++ more) (omega (arith, rise.2.some)) (next rows rise.3) (block_rises place climbs (row.offset + 4) rows rise.3 more after leads)
  where
    next : (rest : List ProfileRow) → RowsRiseFrom (row.offset + 4) rest → Leads (place row.offset) (counts_at place rest ++ more)
    next [] rises = leads row.offset
    next (other ∷ rest) rises = climbs row.offset other.offset (omega (arith, rises.0))

-- the first of a profile's counts, or of what comes behind them, stands behind a place
pub block_led : (spot : Spot) (place : ℕ → Spot) (rows : List ProfileRow) (more : List Row) → ((o : ℕ) → spot_cmp spot (place o) ≡ Less) → Leads spot more → Leads spot (counts_at place rows ++ more)
block_led spot place [] more before leads = leads
block_led spot place (row ∷ rows) more before leads = before row.offset

-- ---- what is listed

nothing : (t : Bool) (n : ℕ) → n ≡ 0 → n ≡ cond t n 0
nothing true n none = refl
nothing false n none = none

one_more : (t b : Bool) (n rest sums all whole : ℕ) → all ≡ cond (t && b) n 0 + rest → rest ≡ cond t sums 0 → whole ≡ cond b n 0 + sums → all ≡ cond t whole 0
one_more true true n rest sums all whole p q r = omega arith
one_more true false n rest sums all whole p q r = omega arith
one_more false b n rest sums all whole p q r = omega arith

-- what a profile's counts list at a place: what its rows count at an offset, if the place is one of theirs
pub block_total : (spot : Spot) (place : ℕ → Spot) (t : Bool) (offset : ℕ) → ((o : ℕ) → same_spot spot (place o) ≡ (t && eqb offset o)) → (rows : List ProfileRow) → total_at spot (counts_at place rows) ≡ cond t (sum_at offset rows) 0
block_total spot place t offset same [] = nothing t 0 refl
block_total spot place t offset same (row ∷ rows) =
    let row_here : Row = record { spot = place row.offset; count = row.count } in
    one_more t (eqb offset row.offset) row.count (total_at spot (counts_at place rows)) (sum_at offset rows) (total_at spot (counts_at place (row ∷ rows))) (sum_at offset (row ∷ rows))
    (sum_by-cons (counted_at spot) row_here (counts_at place rows) ∙ ap (λ (b : Bool). cond b row.count 0 + total_at spot (counts_at place rows)) (same row.offset))
    (block_total spot place t offset same rows)
    (sum_by-cons (λ (r : ProfileRow). cond (eqb offset r.offset) r.count 0) row rows)

-- nothing, where it is none of theirs
pub block_total_none : (spot : Spot) (place : ℕ → Spot) → ((o : ℕ) → same_spot spot (place o) ≡ false) → (rows : List ProfileRow) → total_at spot (counts_at place rows) ≡ 0
block_total_none spot place other rows = block_total spot place false 0 other rows
