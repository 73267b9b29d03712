-- What one more segment makes of a run and of the text so far.
use Rattle.std.specs.Prelude.{◌≡◌, ℕ, ◌+◌, ◌==◌, Bool, true, false, if◌then◌else◌, List, [], ◌++◌, Ok, Err}
use Rattle.std.specs.declared.result.Result.{Result}
use Rattle.store_io.specs.declared.file_refs.FileRef.TheVariants as files
use Rattle.database_model.specs.Runs.{Segment}
use Rattle.database_state.specs.declared.faults.DbFault.{DbFault}
use Rattle.database_state.specs.declared.faults.DbFault.TheVariants.{StoreFault, Bad, Full, Memory}
use Rattle.run_listing.specs.Orders.{Reached, goes_on}
use Rattle.run_listing.specs.Texts.{record_text}
use Rattle.run_listing.specs.declared.joins.JoinedRun.{JoinedRun}

-- how far the run has come
abbrev pub reached_by : JoinedRun → Reached
reached_by j = record { run = j.kept.run; parts = j.parts; whole = j.whole }

-- what stands before the first run: a run 0 that is whole and has no parts
abbrev pub no_parts : JoinedRun
no_parts = record {
  kept = record { run = 0; first_epoch = 0; drains = []; losses = [] };
  parts = 0;
  whole = true;
}

-- a run of its first part
abbrev pub started : Segment → JoinedRun
started s = record {
  kept = record { run = s.run; first_epoch = s.first_epoch; drains = s.drains; losses = s.losses };
  parts = s.part + 1;
  whole = s.last;
}

-- the run with one more part
abbrev pub appended : JoinedRun → Segment → JoinedRun
appended j s = record {
  kept = record { run = j.kept.run; first_epoch = j.kept.first_epoch; drains = j.kept.drains ++ s.drains; losses = s.losses };
  parts = s.part + 1;
  whole = s.last;
}

-- the text of a run, which run 0 has none of
abbrev pub shown : JoinedRun → List ℕ
shown j = if j.kept.run == 0 then [] else record_text j.kept j.parts j.whole

-- the run behind one more segment
abbrev pub run_with : JoinedRun → Segment → JoinedRun
run_with j s = if goes_on (reached_by j) s then appended j s else started s

-- the text of the runs before that one
abbrev pub text_with : List ℕ → JoinedRun → Segment → List ℕ
text_with text j s = if goes_on (reached_by j) s then text else text ++ shown j

-- why a segment was not added: `Bad` names it where it is out of order
abbrev pub IsMisplaced : ℕ → Bool → DbFault → Type 0
IsMisplaced g next StoreFault = ⊥
IsMisplaced g next (Bad file) = (file ≡ files.Segment g) × (next ≡ false)
IsMisplaced g next (Full what held added) = ⊥
IsMisplaced g next Memory = Unit {0}

-- whether a segment was added, which is done only where it is in order
abbrev pub Places : {T : Type 0} → ℕ → Bool → Result T DbFault → Type 0
Places g next (Ok value) = next ≡ true
Places g next (Err fault) = IsMisplaced g next fault
