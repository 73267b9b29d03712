-- A run stops at one part, for one fault.
use Rattle.std.proofs.Common.{◌≡◌, ◌<◌, ◌⊎◌, inl, inr, ℕ, suc, true, sym, subst, ap, arith, ◌∙◌}
use Rattle.std.proofs.lemmas.Bool.{cases_order}
use Rattle.std.specs.List.{IsDistinct}
use Rattle.std.specs.Str.{bytes_eq}
use Rattle.store_io.specs.Files.{Files}
use Rattle.trace_model.specs.Recording.{Recording}
use Rattle.trace_model.specs.Streams.{records_in}
use Rattle.database_model.specs.Runs.{Recorded}
use Rattle.database_state.specs.Heads.{Head, is_in_range, row_count}
use Rattle.database_state.specs.Standing.{HaveHead, database_of}
use Rattle.database_state.specs.declared.faults.DbFault.{DbFault}
use Rattle.database_state.specs.declared.faults.DbFault.TheVariants as faults
use Rattle.database_state.specs.declared.faults.FullWhat.TheVariants.{Rows}
use Rattle.image_catalog.specs.Images.{AreImages}
use Rattle.epoch_store.proofs.Within.{few}
use Rattle.head_file.proofs.Limits.{ranges_of}
use Rattle.growth_model.specs.Grown.{GrowsTo, GrownWhole, part_count}
use Rattle.dcpid_core.specs.Storing.{HasCause, HasNoRows, Part, StopsPart, added_by, is_found_before}
use Rattle.replay_drive.specs.Growing.{HeadGrownBy, StopsAt, part_at}
use Rattle.made_runs.proofs.Stopping.{head_holds, no_part, no_rows}
use Rattle.dcpi_top.proofs.KnownLaws.{Known, growing}
use Rattle.dcpi_top.proofs.PartsBefore.{prefix}
use Rattle.dcpi_top.proofs.RowCounts.{AreInOrder, head_before}
use Rattle.dcpi_top.proofs.Transfers.{stops_same}

-- the rows of a head that files have stand in their order
head_in_order : (f : Files) (h : Head) → HaveHead f h → AreInOrder h
head_in_order f h has =
    let ranges = ranges_of h (head_holds f h has).1 in
    record { known = ranges.known_order; unknown = ranges.unknown_order }

-- the rows of the head are too many for this fault
record LacksRows (part : Part) (fault : DbFault) : Type 0 where
  pub held : ℕ
  pub added : ℕ
  pub is : fault ≡ faults.Full Rows held added
  pub lacks : HasNoRows part held added

-- a fault that is found before anything is written is one of the images and profiles, or of the rows
kind_of : (part : Part) (f : Files) (fault : DbFault) → is_found_before fault ≡ true → HasCause part f fault → StopsPart part f fault ⊎ LacksRows part fault
kind_of part f faults.StoreFault before cause = absurd (cc)
kind_of part f (faults.Bad file) before cause = inl cause
kind_of part f (faults.Full what held added) before cause = elim cause [
  | inl stops ↦ inl stops
  | inr rows ↦ inr (record { held = held; added = added; is = ap (λ place. faults.Full place held added) rows.0; lacks = rows.1 })
]
kind_of part f faults.Memory before cause = absurd (cc)

-- Files to which a run came: so many parts of it are in them.
record CameTo (recording : Recording) (kept : Recorded) (parts : ℕ) (begin : Head) (f c : Files) : Type 0 where
  pub head : Head
  pub heads : HeadGrownBy recording kept parts begin head
  pub has_head : HaveHead c head
  pub steps : GrowsTo recording.images (records_in recording) kept parts (database_of begin f) (database_of head c)

-- the files at which a run stops are some to which it came
came_to : (recording : Recording) (kept : Recorded) (parts : ℕ) (begin : Head) (f g : Files) (fault : DbFault) → StopsAt recording kept parts begin f g fault
    → CameTo recording kept parts begin f g
came_to recording kept parts begin f g fault at = record { head = at.head; heads = at.heads; has_head = at.has_head; steps = at.grown.steps }

-- so are those at which it ends
pub record EndsWith (recording : Recording) (kept : Recorded) (begin : Head) (f : Files) (new : Head) (after : Files) : Type 0 where
  pub heads : HeadGrownBy recording kept (part_count (records_in recording)) begin new
  pub grown : GrownWhole recording.images (records_in recording) kept (database_of begin f) (database_of new after)

-- ---- what stops one part

-- a part lacks rows by the same numbers
same_numbers : Known → (part : Part) (told found : DbFault) → LacksRows part told → LacksRows part found → found ≡ told
same_numbers laws part told found a b =
    let next : b.lacks.next ≡ a.lacks.next = laws.next_head part.images (added_by part) part.epoch part.segment part.head
    b.lacks.next a.lacks.next b.lacks.grows a.lacks.grows in
    let held : b.held ≡ a.held = b.lacks.is_held ∙ sym a.lacks.is_held in
    let added : b.added ≡ a.added = omega (arith, held, b.lacks.total, a.lacks.total, ap row_count next) in
    let numbers : faults.Full Rows b.held b.added ≡ faults.Full Rows a.held a.added = λ i. faults.Full Rows (held i) (added i) in
    b.is ∙ (numbers ∙ sym a.is)

-- why a part stops by these files, and that nothing else stops it before its rows are counted
record IsWhy (part : Part) (f : Files) (fault : DbFault) : Type 0 where
  pub cause : HasCause part f fault
  pub first : (other : DbFault) → StopsPart part f other → other ≡ fault

one_why : Known → (part : Part) (g c : Files) (told found : DbFault) → AreImages part.head.names → is_in_range part.head ≡ true
    → database_of part.head g ≡ database_of part.head c → is_found_before told ≡ true → is_found_before found ≡ true
    → IsWhy part g told → IsWhy part c found → found ≡ told
one_why laws part g c told found are range same before_told before_found a b = elim (kind_of part g told before_told a.cause) [
  | inl stops ↦ sym (b.first told (stops_same part.head g c are range same part.images _ told stops))
  | inr rows ↦ elim (kind_of part c found before_found b.cause) [
    | inl stops ↦ a.first found (stops_same part.head c g are range (sym same) part.images _ found stops)
    | inr other ↦ same_numbers laws part told found rows other
  ]
]

-- ---- what stops a run

module _ (laws : Known) (recording : Recording) (kept : Recorded) (begin : Head) (f : Files) (begins : HaveHead f begin) (distinct : IsDistinct bytes_eq recording.images) where
  no_fault_before : (parts more : ℕ) (g c : Files) (fault other : DbFault) (at : StopsAt recording kept parts begin f g fault) → parts < more
      → CameTo recording kept more begin f c → StopsPart (part_at recording kept parts at.head) g other → ⊥
  no_fault_before parts more g c fault other at below came stops =
      let (middle, first, less) = prefix recording.images (records_in recording) kept (suc parts) more (database_of begin f) (database_of came.head c) (omega (arith, below)) came.steps in
      no_part (growing laws) recording kept parts begin f g fault at other first.0 middle distinct first.1 first.2 (omega (arith, less, (few c came.head came.has_head).0)) stops

  rows_before : (parts more : ℕ) (g c : Files) (fault : DbFault) (at : StopsAt recording kept parts begin f g fault) (held added : ℕ) → parts < more
      → CameTo recording kept more begin f c → HasNoRows (part_at recording kept parts at.head) held added → ⊥
  rows_before parts more g c fault at held added below came lacks =
      let (after, steps, less) = head_before recording.images (records_in recording) kept (suc parts) more begin came.head (head_in_order f begin begins) (omega (arith, below)) came.heads in
      no_rows (growing laws) recording kept parts begin f g fault at held added steps.0 after steps.1 steps.2 (omega (arith, less, (few c came.head came.has_head).1)) lacks

  none_before : (parts more : ℕ) (g c : Files) (fault : DbFault) → is_found_before fault ≡ true → StopsAt recording kept parts begin f g fault → parts < more
      → CameTo recording kept more begin f c → ⊥
  none_before parts more g c fault before at below came = elim (kind_of (part_at recording kept parts at.head) g fault before at.cause) [
    | inl stops ↦ no_fault_before parts more g c fault fault at below came stops
    | inr rows ↦ rows_before parts more g c fault at rows.held rows.added below came rows.lacks
  ]

  -- the run stops at one part, for one fault
  pub one_stop : (g c : Files) (told found : DbFault) → is_found_before told ≡ true → is_found_before found ≡ true
      → (parts others : ℕ) → StopsAt recording kept parts begin f g told → StopsAt recording kept others begin f c found → found ≡ told
  one_stop g c told found before_told before_found parts others at here = elim (cases_order others parts) [
    | inl same ↦ at_one (subst (λ p. StopsAt recording kept p begin f c found) same here)
    | inr apart ↦ elim apart [
      | inl below ↦ absurd (none_before others parts c g found before_found here below (came_to recording kept parts begin f g told at))
      | inr above ↦ absurd (none_before parts others g c told before_told at above (came_to recording kept others begin f c found here))
    ]
  ]
    where
      at_one : StopsAt recording kept parts begin f c found → found ≡ told
      at_one here =
          let one : here.head ≡ at.head = laws.first_heads recording.images (records_in recording) kept parts begin here.head at.head here.heads at.heads in
          let db : database_of here.head c ≡ database_of at.head g = laws.grown recording.images (records_in recording) kept parts (database_of begin f)
          (database_of here.head c) (database_of at.head g) here.grown at.grown in
          let same : database_of at.head g ≡ database_of at.head c = sym db ∙ ap (λ h. database_of h c) one in
          let holds = head_holds g at.head at.has_head in
          let why : IsWhy (part_at recording kept parts here.head) c found = record { cause = here.cause; first = here.first } in
          one_why laws (part_at recording kept parts at.head) g c told found holds.0 holds.1 same before_told before_found
          (record { cause = at.cause; first = at.first }) (subst (λ h. IsWhy (part_at recording kept parts h) c found) one why)

  -- a run that stops does not come to its end
  pub no_end : (new : Head) (g after : Files) (fault : DbFault) → is_found_before fault ≡ true → (parts : ℕ) → StopsAt recording kept parts begin f g fault
      → HaveHead after new → EndsWith recording kept begin f new after → ⊥
  no_end new g after fault before parts at has ends =
      none_before parts (part_count (records_in recording)) g after fault before at at.there
      (record { head = new; heads = ends.heads; has_head = has; steps = ends.grown.steps })
