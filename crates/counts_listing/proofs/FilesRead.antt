-- Files read one after the other: what was read so far, and the first bad one.
use Rattle.std.proofs.Common.{◌≡◌, ℕ, ◌+◌, ◌<◌, ◌≤◌, Bool, true, false, cond, List, [], ◌∷◌, ◌++◌, map, None, Some, Option, length, drop, get_or, refl, sym, ap, ◌∙◌}
use Rattle.std.proofs.lemmas.List.{append_assoc, append-nil, at_drop_all}
use Rattle.store_io.specs.Files.{Files}
use Rattle.store_io.specs.declared.file_refs.FileRef.{FileRef}
use Rattle.database_model.specs.declared.profiles.ProfileRow.{ProfileRow}
use Rattle.database_state.specs.declared.faults.DbFault.{DbFault}
use Rattle.dcpiprof_report.specs.Reading.{is_bad, first_bad, IsStopped}
use Rattle.dcpiprof_report.specs.Sums.{bad_one, told_rows}
use Rattle.dcpiprof_report.proofs.Taken.{stopped_on}
use Rattle.dcpiprof_report.proofs.Taken.{next_row}
use Rattle.counts_listing.specs.Sections.{all_told}

none_then : (b : Bool) (file : FileRef) (rest : Option FileRef) → cond b (Some file) None ≡ None → cond b (Some file) rest ≡ rest
none_then true file rest h = cc
none_then false file rest h = refl

some_then : (b : Bool) (file other : FileRef) (rest : Option FileRef) → cond b (Some file) None ≡ Some other → cond b (Some file) rest ≡ Some other
some_then true file other rest h = h
some_then false file other rest h = cc

-- the files before this place are good, and these are the profiles that they tell
pub record ReadSoFar {R : Type 0} (files : Files) (ref : R → FileRef) (rows : List R) (i : ℕ) (profiles : List (List ProfileRow)) : Type 0 where
  pub first : first_bad files (map ref (drop i rows)) ≡ first_bad files (map ref rows)
  pub read : profiles ++ all_told files ref (drop i rows) ≡ all_told files ref rows

pub none_read : {R : Type 0} (files : Files) (ref : R → FileRef) (rows : List R) (profiles : List (List ProfileRow)) → profiles ≡ [] → ReadSoFar files ref rows 0 profiles
none_read files ref rows profiles none = record { first = refl; read = rw none refl }

pub one_read : {R : Type 0} (files : Files) (ref : R → FileRef) (rows : List R) (row : R) (i : ℕ) (profiles : List (List ProfileRow)) (profile : List ProfileRow) → i < length rows → row ≡ get_or rows i row → ReadSoFar files ref rows i profiles
    → bad_one files (ref row) ≡ None → told_rows files (ref row) ≡ profile → ReadSoFar files ref rows (i + 1) (profiles ++ profile ∷ [])
one_read files ref rows row i profiles profile within here before good is = record {
  first = sym (next_row (λ l. first_bad files (map ref l)) rows row i within here ∙ none_then (is_bad files (ref row)) (ref row) (first_bad files (map ref (drop (i + 1) rows))) good) ∙ before.first;
  read = append_assoc profiles (profile ∷ []) (all_told files ref (drop (i + 1) rows))
      ∙ ap (λ (told : List ProfileRow). profiles ++ (told ∷ all_told files ref (drop (i + 1) rows))) (sym is)
      ∙ ap (λ (l : List (List ProfileRow)). profiles ++ l) (sym (next_row (all_told files ref) rows row i within here))
      ∙ before.read;
}

pub read_stopped : {R : Type 0} (files : Files) (ref : R → FileRef) (rows : List R) (row : R) (i : ℕ) (profiles : List (List ProfileRow)) (fault : DbFault) → i < length rows → row ≡ get_or rows i row → ReadSoFar files ref rows i profiles
    → IsStopped (bad_one files (ref row)) fault → IsStopped (first_bad files (map ref rows)) fault
read_stopped files ref rows row i profiles fault within here before stop =
    stopped_on (bad_one files (ref row)) (first_bad files (map ref rows)) fault
    (λ file is. sym before.first ∙ next_row (λ l. first_bad files (map ref l)) rows row i within here ∙ some_then (is_bad files (ref row)) (ref row) file (first_bad files (map ref (drop (i + 1) rows))) is) stop

pub all_read : {R : Type 0} (files : Files) (ref : R → FileRef) (rows : List R) (i : ℕ) (profiles : List (List ProfileRow)) → length rows ≤ i → ReadSoFar files ref rows i profiles → (first_bad files (map ref rows) ≡ None) × (profiles ≡ all_told files ref rows)
all_read files ref rows i profiles past so_far = (
  sym so_far.first ∙ at_drop_all (λ l. first_bad files (map ref l)) rows i past,
  sym (append-nil profiles) ∙ ap (λ (l : List (List ProfileRow)). profiles ++ l) (sym (at_drop_all (all_told files ref) rows i past)) ∙ so_far.read,
)
