-- What files stand for is within the limits of a database.
use Rattle.std.proofs.Common.{arith, ◌≤◌, inl, inr, length, subst, sym}
use Rattle.std.proofs.lemmas.Bool.{cases_lt}
use Rattle.store_io.specs.Files.{Files}
use Rattle.database_state.specs.Heads.{Head, row_count}
use Rattle.database_state.specs.Standing.{HaveHead, database_of}
use Rattle.database_state.specs.Limits.{IsWithinLimits}
use Rattle.database_state.proofs.WithinLimits.{known_told, unknown_told}
use Rattle.head_file.proofs.Limits.{ranges_of}

-- the images and the rows of a head that files have
pub few : (files : Files) (h : Head) → HaveHead files h → (length h.names ≤ 4096) × (row_count h ≤ 65536)
few files h have = elim (cases_lt 0 h.generation) [
  | inl some ↦ let is = (have.sealed some).1 in (is.images.few, (ranges_of h is.range).count)
  | inr none ↦ subst (λ (k : Head). (length k.names ≤ 4096) × (row_count k ≤ 65536)) (sym (have.fresh (omega (arith, none)))) (omega arith, omega arith)
]

pub within_limits : (files : Files) (h : Head) → HaveHead files h → IsWithinLimits h (database_of h files)
within_limits files h have =
    let are = few files h have in
    record { images = are.0; rows = are.1; known = known_told h files; unknown = unknown_told h files }
