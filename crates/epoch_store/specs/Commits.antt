-- What a commit writes, and what it answers.
use Rattle.std.specs.Prelude.{◌≡◌, ℕ, ◌+◌, ◌<◌, ◌≤◌, ◌⊎◌, List, [], ◌∷◌, ◌++◌, None, Some, Ok, Err}
use Rattle.std.specs.declared.option.Option.{Option}
use Rattle.std.specs.declared.result.Result.{Result}
use Rattle.store_io.specs.Files.{Files, with_file}
use Rattle.store_io.specs.Outcomes.{Torn}
use Rattle.var_bytes.specs.Forms.{Spells}
use Rattle.database_model.specs.declared.profiles.ProfileRow.{ProfileRow}
use Rattle.database_model.specs.ProfileForm.{format1}
use Rattle.database_model.specs.SegmentForm.{segment}
use Rattle.database_state.specs.Rows.{known_file, unknown_file}
use Rattle.database_state.specs.Database as said
use Rattle.database_state.specs.Heads.{Head, IsHead, head_text}
use Rattle.database_state.specs.Updates.{KnownUpdate, UnknownUpdate, Update, known_row_of, unknown_row_of, updated}
use Rattle.database_state.specs.Standing.{seal_file, head_file, segment_file, HaveHead, database_of, StandsFor}
use Rattle.database_state.specs.declared.faults.DbFault.{DbFault}
use Rattle.database_state.specs.declared.faults.DbFault.TheVariants.{StoreFault, Bad, Full, Memory}
use Rattle.database_state.specs.declared.faults.FullWhat.TheVariants.{Rows}
use Rattle.database_state.specs.declared.faults.DbError.{DbError}
use Rattle.database_state.specs.declared.faults.DbError.TheVariants.{Fault, Stopped}
use Rattle.epoch_store.specs.Puts.{Put, puts, PutSome}

-- the file of a changed profile at generation g
abbrev pub known_name : ℕ → KnownUpdate → List ℕ
known_name g u = known_file (known_row_of g u)

-- the file of a changed unknown profile at generation g
abbrev pub unknown_name : ℕ → UnknownUpdate → List ℕ
unknown_name g u = unknown_file (unknown_row_of g u)

-- these writes are of the changed profiles, one for each, in their order
abbrev pub AreWritten : {U : Type 0} → (U → List ℕ) → (U → List ProfileRow) → List U → List Put → Type 0
AreWritten name rows [] ws = ws ≡ []
AreWritten name rows (u ∷ us) [] = ⊥
AreWritten name rows (u ∷ us) (w ∷ ws) = (w.name ≡ name u) × Spells format1 w.bytes (rows u) × AreWritten name rows us ws

-- The writes of a commit before its seal: the changed profiles, the changed unknown profiles, the run's part and the head.
pub record AreWritesOf (next : Head) (u : Update) (ws : List Put) : Type 0 where
  pub known : List Put
  pub unknown : List Put
  pub part : List ℕ
  pub are_known : AreWritten (known_name next.generation) (λ k. k.rows) u.known known
  pub are_unknown : AreWritten (unknown_name next.generation) (λ k. k.rows) u.unknown unknown
  pub is_part : Spells segment part u.segment
  pub list : ws ≡ known ++ (unknown ++ record { name = segment_file next.generation; bytes = part } ∷ record { name = head_file next.generation; bytes = head_text next } ∷ [])

-- what a crash during a commit leaves: some of its writes, the last of them maybe torn; the seal comes last
pub record InCommit (next : Head) (u : Update) (old new : Files) : Type 0 where
  pub head : IsHead next
  pub writes : List Put
  pub of : AreWritesOf next u writes
  pub some : PutSome writes old new ⊎ Torn (seal_file next.generation) (puts writes old) new

-- what a commit makes of the files
pub record AfterCommit (next : Head) (u : Update) (old new : Files) : Type 0 where
  pub head : IsHead next
  pub writes : List Put
  pub of : AreWritesOf next u writes
  pub all : new ≡ with_file (seal_file next.generation) (Some []) (puts writes old)

-- the files after a commit have the next head, and say what they said with the update
abbrev pub FilesChanged : Update → Head → Head → Option Files → Option Files → Type 0
FilesChanged u h next old new = (f : Files) → old ≡ Some f → HaveHead f h → (g : Files) × (new ≡ Some g) × HaveHead g next × (database_of next g ≡ updated u (database_of h f))

-- whether rows are added within the limit: `Full` where not, and before any call of the store
abbrev pub IsRoomFault : ℕ → ℕ → DbFault → Type 0
IsRoomFault held added StoreFault = held + added ≤ 65536
IsRoomFault held added (Bad file) = ⊥
IsRoomFault held added (Full what held' added') = (what ≡ Rows) × (held' ≡ held) × (added' ≡ added) × (65536 < held + added)
IsRoomFault held added Memory = Unit {0}

abbrev pub HasRoom : {T : Type 0} → ℕ → ℕ → Result T DbFault → Type 0
HasRoom held added (Ok value) = held + added ≤ 65536
HasRoom held added (Err fault) = IsRoomFault held added fault

-- the same of a commit
abbrev pub FindsRoom : {T : Type 0} → ℕ → ℕ → Result T DbError → Type 0
FindsRoom held added (Ok value) = held + added ≤ 65536
FindsRoom held added (Err (Fault fault)) = IsRoomFault held added fault
FindsRoom held added (Err (Stopped fault)) = Unit {0}

-- a fault before any call of the store leaves the store itself as it was
abbrev pub StaysAt : {S : Type 0} → S → S → DbFault → Type 0
StaysAt old new StoreFault = Unit {0}
StaysAt old new (Bad file) = Unit {0}
StaysAt old new (Full what held added) = new ≡ old
StaysAt old new Memory = Unit {0}

abbrev pub IsUntouched : {S T : Type 0} → S → S → Result T DbError → Type 0
IsUntouched old new (Ok value) = Unit {0}
IsUntouched old new (Err (Fault fault)) = StaysAt old new fault
IsUntouched old new (Err (Stopped fault)) = new ≡ old

-- A value of which a commit failed answers that fault and keeps it; another one keeps the fault that it answers, if it answers one.
abbrev pub KeepsFault : {T : Type 0} → Option DbFault → Option DbFault → Result T DbError → Type 0
KeepsFault (Some fault) new result = (result ≡ Err (Stopped fault)) × (new ≡ Some fault)
KeepsFault None new (Ok value) = new ≡ None
KeepsFault None new (Err (Fault fault)) = new ≡ Some fault
KeepsFault None new (Err (Stopped fault)) = ⊥

-- files that stand for the database before an update, or for the one after it
abbrev pub BeforeOrAfter : Update → said.Database → Files → Type 0
BeforeOrAfter u db c = StandsFor c db ⊎ StandsFor c (updated u db)
