-- Profiles renewed one after the other.
use Rattle.std.proofs.Common.{arith, ◌≡◌, inl, inr, ℕ, List, [], ◌∷◌, ◌++◌, Some, sym, ap, ◌∙◌, subst, append_assoc}
use Rattle.std.specs.Prelude.{Err, map}
use Rattle.std.proofs.lemmas.List.{append-nil, map-append}
use Rattle.store_io.specs.Files.{Files}
use Rattle.database_model.specs.declared.profiles.ProfileRow.{ProfileRow}
use Rattle.database_state.specs.Heads.{Head}
use Rattle.database_state.specs.declared.faults.DbFault.{DbFault}
use Rattle.database_state.specs.declared.faults.DbFault.TheVariants.{StoreFault, Bad, Full, Memory}
use Rattle.epoch_store.specs.Faults.{IsReadCause}
use Rattle.profile_merge.specs.declared.owners.Owner.{Owner}
use Rattle.profile_merge.specs.declared.growing.Renewed.{Renewed}
use Rattle.profile_merge.specs.Sums.{Collected, Counts, sum_at, counts_in}
use Rattle.profile_merge.specs.Faults.{held_by, HasRoom}
use Rattle.profile_merge.specs.Merging.{IsFullAt}
use Rattle.profile_merge.specs.Changing.{IsChangeCause}
use Rattle.profile_merge.specs.Renewing.{Parts, HoldsAs, IsRenewed, IsStopped, AreRenewed, AreStopped}
use Rattle.profile_merge.proofs.Rows.{count_most}

-- ---- one

pub not_held : (added : ℕ → ℕ) (h : Head) (files : Files) (owner : Owner) (fault : DbFault) → HoldsAs h files owner (Err fault) → IsStopped added h files owner fault
not_held added h files owner StoreFault holds = tt
not_held added h files owner (Bad file) holds = holds
not_held added h files owner (Full what held more) holds = absurd holds
not_held added h files owner Memory holds = tt

pub not_merged : (sums : Counts) (h : Head) (files : Files) (owner : Owner) (rows : List ProfileRow) (fault : DbFault) → held_by h files owner ≡ Some rows → IsFullAt owner sums rows fault → IsStopped (sum_at sums) h files owner fault
not_merged sums h files owner rows StoreFault held full = tt
not_merged sums h files owner rows (Bad file) held full = absurd full
not_merged sums h files owner rows (Full what is_held more) held full = (rows, full.0, held, full.1, full.2)
not_merged sums h files owner rows Memory held full = tt

pub read_change : (before now : ℕ) (fault : DbFault) → IsReadCause before now fault → IsChangeCause before now fault
read_change before now StoreFault cause = cause
read_change before now (Bad file) cause = cause
read_change before now (Full what held added) cause = absurd cause
read_change before now Memory cause = cause

-- a fault that no store made
pub full_change : (owner : Owner) (sums : Counts) (rows : List ProfileRow) (before now : ℕ) (fault : DbFault) → now ≡ before → IsFullAt owner sums rows fault → IsChangeCause before now fault
full_change owner sums rows before now StoreFault same full = absurd full
full_change owner sums rows before now (Bad file) same full = same
full_change owner sums rows before now (Full what held added) same full = same
full_change owner sums rows before now Memory same full = same

-- the cause of a later fault
pub later_cause : (first before now : ℕ) (fault : DbFault) → before ≡ first → IsChangeCause before now fault → IsChangeCause first now fault
later_cause first before now fault same cause = subst (λ (n : ℕ). IsChangeCause n now fault) same cause

-- ---- all

-- What is said of the parts that are left, is said of all.
pub record RenewedSoFar (collected : Collected) (h : Head) (files : Files) (parts left : Parts) (all : List Renewed) : Type 0 where
  pub goes_on : (more : List Renewed) → AreRenewed collected h files left more → AreRenewed collected h files parts (all ++ more)
  pub stops : (fault : DbFault) → AreStopped collected h files left fault → AreStopped collected h files parts fault

pub none_renewed : (collected : Collected) (h : Head) (files : Files) (parts : Parts) → RenewedSoFar collected h files parts parts []
none_renewed collected h files parts = record { goes_on = λ more are. are; stops = λ fault is. is }

pub has_room : (added : ℕ → ℕ) (h : Head) (files : Files) (owner : Owner) (rows : List ProfileRow) → IsRenewed added h files owner rows → HasRoom added (held_by h files owner)
has_room added h files owner rows renewed =
    subst (HasRoom added) (sym renewed.1) (λ offset. let sum = renewed.2.counts offset in let most = count_most rows offset renewed.2.are_rows in omega (arith, sum, most))

later_stop : (collected : Collected) (h : Head) (files : Files) (part : Owner × Owner) (left : Parts) (fault : DbFault) → HasRoom (sum_at (counts_in collected part.1)) (held_by h files part.0) → AreStopped collected h files left fault → AreStopped collected h files (part ∷ left) fault
later_stop collected h files part left StoreFault room stop = tt
later_stop collected h files part left (Bad file) room stop = inr (room, stop)
later_stop collected h files part left (Full what held added) room stop = inr (room, stop)
later_stop collected h files part left Memory room stop = tt

pub one_renewed : (collected : Collected) (h : Head) (files : Files) (parts : Parts) (part : Owner × Owner) (left : Parts) (all : List Renewed) (one : Renewed) → one.owner ≡ part.0
    → IsRenewed (sum_at (counts_in collected part.1)) h files part.0 one.profile → RenewedSoFar collected h files parts (part ∷ left) all → RenewedSoFar collected h files parts left (all ++ one ∷ [])
one_renewed collected h files parts part left all one owner renewed so = record {
  goes_on = λ more are. subst (AreRenewed collected h files parts) (sym (append_assoc all (one ∷ []) more)) (so.goes_on (one ∷ more) (owner, renewed, are));
  stops = λ fault stop. so.stops fault (later_stop collected h files part left fault (has_room (sum_at (counts_in collected part.1)) h files part.0 one.profile renewed) stop);
}

pub all_renewed : (collected : Collected) (h : Head) (files : Files) (parts : Parts) (all : List Renewed) → RenewedSoFar collected h files parts [] all → AreRenewed collected h files parts all
all_renewed collected h files parts all so = subst (AreRenewed collected h files parts) (append-nil all) (so.goes_on [] tt)

-- the next part stops
first_stop : (collected : Collected) (h : Head) (files : Files) (part : Owner × Owner) (left : Parts) (fault : DbFault) → IsStopped (sum_at (counts_in collected part.1)) h files part.0 fault → AreStopped collected h files (part ∷ left) fault
first_stop collected h files part left StoreFault stop = tt
first_stop collected h files part left (Bad file) stop = inl stop
first_stop collected h files part left (Full what held added) stop = inl stop
first_stop collected h files part left Memory stop = tt

pub stopped_at : (collected : Collected) (h : Head) (files : Files) (parts : Parts) (part : Owner × Owner) (left : Parts) (all : List Renewed) (fault : DbFault)
    → IsStopped (sum_at (counts_in collected part.1)) h files part.0 fault → RenewedSoFar collected h files parts (part ∷ left) all → AreStopped collected h files parts fault
stopped_at collected h files parts part left all fault stop so = so.stops fault (first_stop collected h files part left fault stop)

pub owners_more : (all : List Renewed) (one : Renewed) (owner : Owner) (left keys : List Owner) → one.owner ≡ owner → map (λ r. r.owner) all ++ (owner ∷ left) ≡ keys → map (λ r. r.owner) (all ++ one ∷ []) ++ left ≡ keys
owners_more all one owner left keys is so =
    ap (λ (l : List Owner). l ++ left) (map-append (λ (r : Renewed). r.owner) all (one ∷ []))
    ∙ append_assoc (map (λ (r : Renewed). r.owner) all) (one.owner ∷ []) left
    ∙ ap (λ (o : Owner). map (λ (r : Renewed). r.owner) all ++ (o ∷ left)) is
    ∙ so
