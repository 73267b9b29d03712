-- A run that keeps the limits stops nowhere.
use Rattle.std.proofs.Common.{◌≡◌, ◌≤◌, inl, inr, ℕ, suc, true, length, refl, sym, subst, ap, arith, add-one}
use Rattle.std.proofs.lemmas.Bool.{cases_order}
use Rattle.std.specs.List.{IsDistinct}
use Rattle.std.specs.Str.{bytes_eq}
use Rattle.store_io.specs.Files.{Files}
use Rattle.image_catalog.specs.Images.{AreImages}
use Rattle.trace_model.specs.Recording.{Recording}
use Rattle.trace_model.specs.Streams.{records_in}
use Rattle.database_model.specs.Runs.{Recorded}
use Rattle.run_model.specs.Shares.{segment_of}
use Rattle.database_state.specs.Database.{Database}
use Rattle.database_state.specs.Heads.{Head, empty_head, is_in_range, row_count}
use Rattle.database_state.specs.Standing.{HaveHead, database_of}
use Rattle.database_state.specs.declared.faults.DbFault.{DbFault}
use Rattle.database_state.specs.declared.faults.DbFault.TheVariants as faults
use Rattle.growth_model.specs.Additions.{additions_of}
use Rattle.growth_model.specs.Growth.{Grows, GrowsByPart}
use Rattle.growth_model.specs.Grown.{GrowsTo, epoch_after_parts}
use Rattle.growth_model.specs.Fitting.{HeadGrows, HeadGrowsTo}
use Rattle.growth_model.specs.Laws.{FirstHeadsAreOne, FirstPartsAreOne, OneHeadIsOne}
use Rattle.profile_merge.specs.Laws.{GrowthHasNoFault}
use Rattle.dcpid_core.specs.Storing.{HasNoRows, StopsPart}
use Rattle.replay_drive.specs.Growing.{StopsAt, part_at}
use Rattle.made_runs.specs.Stopping.{FittingRunsDoNotStop}

-- the laws of growth
pub record Growing : Type 0 where
  pub grown : FirstPartsAreOne
  pub next_head : OneHeadIsOne
  pub first_heads : FirstHeadsAreOne
  pub no_fault : GrowthHasNoFault

-- the empty head has no images and no rows
empty_is : (AreImages empty_head.names) × (is_in_range empty_head ≡ true)
unfolding IsDistinct
empty_is = (record { apart = tt; few = omega arith }, refl)

-- what holds of the images and the numbers of a head that files have
pub head_holds : (f : Files) (h : Head) → HaveHead f h → (AreImages h.names) × (is_in_range h ≡ true)
head_holds f h has = elim (cases_order 0 h.generation) [
  | inl none ↦ subst (λ x. (AreImages x.names) × (is_in_range x ≡ true)) (sym (has.fresh (sym none))) empty_is
  | inr apart ↦ elim apart [
    | inl some ↦ ((has.sealed some).1.images, (has.sealed some).1.range)
    | inr below ↦ absurd (omega (arith, below))
  ]
]

-- A part that grew did not stop.
pub no_part : Growing → (recording : Recording) (kept : Recorded) (parts : ℕ) (begin : Head) (f g : Files) (fault : DbFault)
    (at : StopsAt recording kept parts begin f g fault) (other : DbFault) (before new : Database)
    → IsDistinct bytes_eq recording.images
    → GrowsTo recording.images (records_in recording) kept parts (database_of begin f) before
    → GrowsByPart recording.images (records_in recording) (epoch_after_parts kept.first_epoch (records_in recording) (suc parts))
    (segment_of (records_in recording) kept parts) before new
    → length new.names ≤ 4096 → StopsPart (part_at recording kept parts at.head) g other → ⊥
no_part laws recording kept parts begin f g fault at other before new distinct steps part few stops =
    let images = recording.images in let records = records_in recording in
    let segment = segment_of records kept parts in
    let same : before ≡ database_of at.head g = laws.grown images records kept parts (database_of begin f) before (database_of at.head g)
    (record { within = at.grown.within; run = at.grown.run; first_epoch = at.grown.first_epoch; steps = steps }) at.grown in
    let grows : Grows images (additions_of images records segment.drains) (epoch_after_parts kept.first_epoch records (suc parts)) segment (database_of at.head g) new =
    subst (λ db. Grows images (additions_of images records segment.drains) (epoch_after_parts kept.first_epoch records (suc parts)) segment db new) same part in
    let holds = head_holds g at.head at.has_head in
    laws.no_fault images (additions_of images records segment.drains) (epoch_after_parts kept.first_epoch records (suc parts)) segment
    at.head g new other distinct holds.0 holds.1 grows few stops

-- A part whose head keeps the limit on rows has room for them.
pub no_rows : Growing → (recording : Recording) (kept : Recorded) (parts : ℕ) (begin : Head) (f g : Files) (fault : DbFault)
    (at : StopsAt recording kept parts begin f g fault) (held added : ℕ) (before after : Head)
    → HeadGrowsTo recording.images (records_in recording) kept parts begin before
    → HeadGrows recording.images (additions_of recording.images (records_in recording) (segment_of (records_in recording) kept parts).drains)
    (epoch_after_parts kept.first_epoch (records_in recording) (suc parts)) (segment_of (records_in recording) kept parts) before after
    → row_count after ≤ 65536 → HasNoRows (part_at recording kept parts at.head) held added → ⊥
no_rows laws recording kept parts begin f g fault at held added before after steps part few rows =
    let images = recording.images in let records = records_in recording in
    let segment = segment_of records kept parts in
    let same : before ≡ at.head = laws.first_heads images records kept parts begin before at.head steps at.heads in
    let grows : HeadGrows images (additions_of images records segment.drains) (epoch_after_parts kept.first_epoch records (suc parts)) segment at.head after =
    subst (λ h. HeadGrows images (additions_of images records segment.drains) (epoch_after_parts kept.first_epoch records (suc parts)) segment h after) same part in
    let next : HeadGrows images (additions_of images records segment.drains) (epoch_after_parts kept.first_epoch records (suc parts)) segment at.head rows.next =
    subst (λ n. HeadGrows images (additions_of images records segment.drains) (epoch_after_parts kept.first_epoch records n) segment at.head rows.next) (add-one parts) rows.grows in
    let one : rows.next ≡ after = laws.next_head images (additions_of images records segment.drains) (epoch_after_parts kept.first_epoch records (suc parts)) segment
    at.head rows.next after next grows in
    omega (arith, rows.total, rows.over, few, ap row_count one)

-- A run that keeps the limits stops at no part.
pub no_stop : Growing → FittingRunsDoNotStop
no_stop laws recording kept parts begin f g faults.StoreFault distinct keeps before at = absurd (cc)
no_stop laws recording kept parts begin f g (faults.Bad file) distinct keeps before at =
    let fits = keeps (suc parts) (omega (arith, at.there)) in
    no_part laws recording kept parts begin f g (faults.Bad file) at (faults.Bad file) fits.grown.steps.0 fits.after distinct fits.grown.steps.1 fits.grown.steps.2
    fits.within.images at.cause
no_stop laws recording kept parts begin f g (faults.Full what held added) distinct keeps before at =
    let fits = keeps (suc parts) (omega (arith, at.there)) in
    elim at.cause [
      | inl stops ↦ no_part laws recording kept parts begin f g (faults.Full what held added) at (faults.Full what held added)
          fits.grown.steps.0 fits.after distinct fits.grown.steps.1 fits.grown.steps.2 fits.within.images stops
      | inr rows ↦ no_rows laws recording kept parts begin f g (faults.Full what held added) at held added
          fits.heads.0 fits.head_after fits.heads.1 fits.heads.2 fits.within.rows rows.1
    ]
no_stop laws recording kept parts begin f g faults.Memory distinct keeps before at = absurd (cc)
