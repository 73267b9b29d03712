-- What the profiles of a head count at a place is what the database counts there.
use Rattle.std.proofs.Common.{arith, ◌≡◌, ℕ, ◌+◌, ◌≤◌, ◌&&◌, Bool, true, false, cond, eqb, List, [], ◌∷◌, None, Some, Option, length, refl, sym, ap, ◌∙◌}
use Rattle.std.specs.Prelude.{find, sum_by}
use Rattle.std.specs.Str.{bytes_eq}
use Rattle.std.specs.List.{AllByRecursion, IsDistinct, flat_map}
use Rattle.std.specs.List.Sorted.{IsPermutation}
use Rattle.std.proofs.lemmas.List.Sorted.{sum_by-IsPermutation}
use Rattle.std.proofs.lemmas.List.Sums.{sum_by-cons, sum_by-append}
use Rattle.store_io.specs.Files.{Files}
use Rattle.image_catalog.specs.Images.{place_of, text_at}
use Rattle.sample_key.specs.declared.events.Event.{Event}
use Rattle.sample_key.specs.Events.{code_of}
use Rattle.trace_model.specs.Counting.{Spot, Known, Unknown, Row, Rises, listed_at}
use Rattle.database_model.specs.declared.profiles.ProfileRow.{ProfileRow}
use Rattle.database_state.specs.declared.rows.KnownRow.{KnownRow}
use Rattle.database_state.specs.declared.rows.UnknownRow.{UnknownRow}
use Rattle.database_state.specs.Rows.{known_same, known_place, known_row, known_ref, unknown_same, unknown_place, unknown_row, unknown_ref, is_before_first, is_rising}
use Rattle.database_state.specs.Heads.{Head}
use Rattle.database_state.specs.Updates.{at_image}
use Rattle.database_state.specs.Standing.{database_of, known_at, unknown_at}
use Rattle.database_state.specs.Orders.{IsOrder}
use Rattle.epoch_store.proofs.Order.{and_first, and_second}
use Rattle.database_state.proofs.RowOrders.{known_order, unknown_order}
use Rattle.dcpiprof_report.specs.Counting.{rows_or_none}
use Rattle.dcpiprof_report.specs.Sums.{told_rows}
use Rattle.dcpiprof_report.proofs.EpochSums.{first_or}
use Rattle.dcpiprof_report.proofs.Sites.{find_later}
use Rattle.direct_counts.specs.Sites.{counted_at, total_at}
use Rattle.direct_counts.proofs.Order.{both_same}
use Rattle.counts_listing.specs.Counting.{AreCountsIn, count_in, sum_at}
use Rattle.counts_listing.specs.Sections.{Section, all_told, event_at, known_total, section_at, section_rows, sections_at, unknown_listed, unknown_rows, unknown_total}
use Rattle.counts_listing.proofs.Blocks.{block_total, block_total_none}
use Rattle.counts_listing.proofs.Heads.{IsKnownWithin, Sound, coded, is_named, not_named}

-- ---- sections one after the other

pub flat_total : (spot : Spot) (sections : List Section) → total_at spot (flat_map section_rows sections) ≡ sum_by (λ section. total_at spot (section_rows section)) sections
flat_total spot [] = refl
flat_total spot (section ∷ sections) =
    sum_by-append (counted_at spot) (section_rows section) (flat_map section_rows sections)
    ∙ ap (λ n. total_at spot (section_rows section) + n) (flat_total spot sections)
    ∙ sym (sum_by-cons (λ (p : Section). total_at spot (section_rows p)) section sections)

pub moved_total : (spot : Spot) (sections sorted : List Section) → IsPermutation sections sorted → total_at spot (flat_map section_rows sorted) ≡ sum_by (λ section. total_at spot (section_rows section)) sections
moved_total spot sections sorted moved = flat_total spot sorted ∙ sum_by-IsPermutation (λ (section : Section). total_at spot (section_rows section)) sections sorted moved

-- ---- the row of a place, as a sum over rows

-- what is found for a place is what each row of it gives
pub found_sum : {R : Type 0} {before same : R → R → Bool} → IsOrder before same → (p : R) (F : Option R → ℕ) (rows : List R) → F None ≡ 0 → is_rising before rows ≡ true → F (find (same p) rows) ≡ sum_by (λ row. cond (same p row) (F (Some row)) 0) rows
found_sum order p F [] none rising = none
found_sum {R} {before} {same} order p F (row ∷ rows) none rising =
    let first = and_first (is_before_first before row rows) (is_rising before rows) rising in
    let others = and_second (is_before_first before row rows) (is_rising before rows) rising in
    first_or F row (find (same p) rows) (same p row) none (λ is. find_later order p row rows is first others)
    ∙ ap (λ n. cond (same p row) (F (Some row)) 0 + n) (found_sum order p F rows none others)
    ∙ sym (sum_by-cons (λ (r : R). cond (same p r) (F (Some r)) 0) row rows)

-- ---- known places

-- what a section counts at a known place
pub known_here : (e : ℕ) (image : List ℕ) (v : Event) (o : ℕ) (section : Section) → total_at (Known e image v o) (section_rows section) ≡ cond (eqb e section.epoch && bytes_eq image section.image && eqb (code_of v) (code_of section.event)) (sum_at o section.rows) 0
known_here e image v o section = block_total (Known e image v o) (λ p. Known section.epoch section.image section.event p) (eqb e section.epoch && bytes_eq image section.image && eqb (code_of v) (code_of section.event)) o (λ p. refl) section.rows

pub added : {a b c d : ℕ} → a ≡ c → b ≡ d → a + b ≡ c + d
added p q = rw (p, q) refl

module _ (files : Files) (names : List (List ℕ)) (e : ℕ) (image : List ℕ) (v : Event) (o : ℕ) where
  abbrev told_at : KnownRow → ℕ
  told_at row = sum_at o (told_rows files (known_ref row))

  known_first : (row : KnownRow) (rows : List KnownRow) → known_total (Known e image v o) names (row ∷ rows) (all_told files known_ref (row ∷ rows))
      ≡ cond (eqb e row.epoch && bytes_eq image (text_at names row.image) && eqb (code_of v) (code_of (event_at row.event))) (told_at row) 0 + known_total (Known e image v o) names rows (all_told files known_ref rows)
  known_first row rows =
      let told = told_rows files (known_ref row) in
      sum_by-cons (λ (p : Section). total_at (Known e image v o) (section_rows p)) (section_at names row told) (sections_at names rows (all_told files known_ref rows))
      ∙ ap (λ n. n + known_total (Known e image v o) names rows (all_told files known_ref rows)) (known_here e image v o (section_at names row told))

  -- an image with a number
  pub known_some : (n : ℕ) (rows : List KnownRow) → IsDistinct bytes_eq names → place_of image names ≡ Some n → AllByRecursion (IsKnownWithin (length names)) rows
      → known_total (Known e image v o) names rows (all_told files known_ref rows) ≡ sum_by (λ row. cond (known_same (known_place e n (code_of v)) row) (told_at row) 0) rows
  known_some n [] apart place within = refl
  known_some n (row ∷ rows) apart place within =
      let tests : (eqb e row.epoch && bytes_eq image (text_at names row.image) && eqb (code_of v) (code_of (event_at row.event))) ≡ known_same (known_place e n (code_of v)) row =
      both_same (both_same {a = eqb e row.epoch} refl (is_named names image n row.image apart place within.0.0)) (ap (λ c. eqb (code_of v) c) (coded row.event within.0.1)) in
      known_first row rows
      ∙ added (ap (λ (b : Bool). cond b (told_at row) 0) tests) (known_some n rows apart place within.1)
      ∙ sym (sum_by-cons (λ (r : KnownRow). cond (known_same (known_place e n (code_of v)) r) (told_at r) 0) row rows)

  other_image : (a b c : Bool) (n : ℕ) → b ≡ false → cond (a && b && c) n 0 ≡ 0
  other_image true true c n differs = cc
  other_image true false c n differs = refl
  other_image false b c n differs = refl

  -- an image with none
  pub known_none : (rows : List KnownRow) → place_of image names ≡ None → AllByRecursion (IsKnownWithin (length names)) rows → known_total (Known e image v o) names rows (all_told files known_ref rows) ≡ 0
  known_none [] place within = refl
  known_none (row ∷ rows) place within =
      known_first row rows
      ∙ added (other_image (eqb e row.epoch) (bytes_eq image (text_at names row.image)) (eqb (code_of v) (code_of (event_at row.event))) (told_at row) (not_named names image row.image place within.0.0)) (known_none rows place within.1)

pub known_counts : (files : Files) (head : Head) → Sound head → (e : ℕ) (image : List ℕ) (v : Event) (o : ℕ) (place : Option ℕ) → place_of image head.names ≡ place
    → known_total (Known e image v o) head.names head.known (all_told files known_ref head.known) ≡ sum_at o (rows_or_none (at_image place (λ n. known_at files (known_row head.known e n (code_of v)))))
known_counts files head sound e image v o None is = known_none files head.names e image v o head.known is sound.known
known_counts files head sound e image v o (Some n) is =
    known_some files head.names e image v o n head.known sound.images is sound.known
    ∙ sym (found_sum known_order (known_place e n (code_of v)) (λ row. sum_at o (rows_or_none (known_at files row))) head.known refl sound.known_rising)

-- a known place is that of no unknown count
pub known_not_unknown : (e : ℕ) (image : List ℕ) (v : Event) (o : ℕ) (rows : List UnknownRow) (profiles : List (List ProfileRow)) → unknown_total (Known e image v o) rows profiles ≡ 0
known_not_unknown e image v o [] profiles = refl
known_not_unknown e image v o (row ∷ rows) [] = refl
known_not_unknown e image v o (row ∷ rows) (profile ∷ profiles) =
    sum_by-append (counted_at (Known e image v o)) (unknown_rows row.epoch (event_at row.event) profile) (unknown_listed rows profiles)
    ∙ added (block_total_none (Known e image v o) (λ p. Unknown row.epoch (event_at row.event) p) (λ p. refl) profile) (known_not_unknown e image v o rows profiles)

-- ---- unknown places

pub unknown_not_known : (e : ℕ) (v : Event) (pc : ℕ) (sections : List Section) → sum_by (λ section. total_at (Unknown e v pc) (section_rows section)) sections ≡ 0
unknown_not_known e v pc [] = refl
unknown_not_known e v pc (section ∷ sections) =
    sum_by-cons (λ (p : Section). total_at (Unknown e v pc) (section_rows p)) section sections
    ∙ added (block_total_none (Unknown e v pc) (λ p. Known section.epoch section.image section.event p) (λ p. refl) section.rows) (unknown_not_known e v pc sections)

pub unknown_sum : (files : Files) (e : ℕ) (v : Event) (pc : ℕ) (rows : List UnknownRow) → AllByRecursion (λ (row : UnknownRow). row.event ≤ 3) rows
    → unknown_total (Unknown e v pc) rows (all_told files unknown_ref rows) ≡ sum_by (λ row. cond (unknown_same (unknown_place e (code_of v)) row) (sum_at pc (told_rows files (unknown_ref row))) 0) rows
unknown_sum files e v pc [] small = refl
unknown_sum files e v pc (row ∷ rows) small =
    let told = told_rows files (unknown_ref row) in
    let test = eqb e row.epoch && eqb (code_of v) (code_of (event_at row.event)) in
    let tests : test ≡ unknown_same (unknown_place e (code_of v)) row = both_same {a = eqb e row.epoch} refl (ap (λ c. eqb (code_of v) c) (coded row.event small.0)) in
    sum_by-append (counted_at (Unknown e v pc)) (unknown_rows row.epoch (event_at row.event) told) (unknown_listed rows (all_told files unknown_ref rows))
    ∙ added (block_total (Unknown e v pc) (λ p. Unknown row.epoch (event_at row.event) p) test pc (λ p. refl) told ∙ ap (λ (b : Bool). cond b (sum_at pc told) 0) tests) (unknown_sum files e v pc rows small.1)
    ∙ sym (sum_by-cons (λ (r : UnknownRow). cond (unknown_same (unknown_place e (code_of v)) r) (sum_at pc (told_rows files (unknown_ref r))) 0) row rows)

pub unknown_counts : (files : Files) (head : Head) → Sound head → (e : ℕ) (v : Event) (pc : ℕ) → unknown_total (Unknown e v pc) head.unknown (all_told files unknown_ref head.unknown) ≡ sum_at pc (rows_or_none (unknown_at files (unknown_row head.unknown e (code_of v))))
unknown_counts files head sound e v pc =
    unknown_sum files e v pc head.unknown sound.unknown
    ∙ sym (found_sum unknown_order (unknown_place e (code_of v)) (λ row. sum_at pc (rows_or_none (unknown_at files row))) head.unknown refl sound.unknown_rising)

-- ---- both

no_more : (a b c : ℕ) → a ≡ c → b ≡ 0 → a + b ≡ c
no_more a b c p q = omega arith

none_less : (a b c : ℕ) → a ≡ 0 → b ≡ c → a + b ≡ c
none_less a b c p q = omega arith

pub counted : (files : Files) (head : Head) → Sound head → (spot : Spot)
    → known_total spot head.names head.known (all_told files known_ref head.known) + unknown_total spot head.unknown (all_told files unknown_ref head.unknown) ≡ count_in (database_of head files) spot
counted files head sound (Known e image v o) = no_more _ _ _ (known_counts files head sound e image v o (place_of image head.names) refl) (known_not_unknown e image v o head.unknown (all_told files unknown_ref head.unknown))
counted files head sound (Unknown e v pc) = none_less _ _ _ (unknown_not_known e v pc (sections_at head.names head.known (all_told files known_ref head.known))) (unknown_counts files head sound e v pc)

-- rows that list what the profiles of a head count are the counts of the database
pub are_counts : (files : Files) (head : Head) → Sound head → (rows : List Row) (known unknown : List (List ProfileRow)) → Rises rows
    → ((spot : Spot) → listed_at spot rows ≡ known_total spot head.names head.known known + unknown_total spot head.unknown unknown)
    → known ≡ all_told files known_ref head.known → unknown ≡ all_told files unknown_ref head.unknown → AreCountsIn (database_of head files) rows
are_counts files head sound rows known unknown rise totals is also = record {
  rise = rise;
  counts = λ spot.
      totals spot
      ∙ added (ap (λ (l : List (List ProfileRow)). known_total spot head.names head.known l) is) (ap (λ (l : List (List ProfileRow)). unknown_total spot head.unknown l) also)
      ∙ counted files head sound spot;
}
