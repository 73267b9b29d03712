-- Where the next row of a profile may stand.
use Rattle.std.specs.Prelude.{◌≡◌, ℕ, ◌+◌, ◌*◌, ◌-◌, ◌^◌, ◌≤◌}
use Rattle.database_model.specs.declared.profiles.ProfileRow.{ProfileRow}

-- a row at a distance of at least `least` behind the position `last`
pub record IsRowAt (least last : ℕ) (row : ProfileRow) : Type 0 where
  pub distance : ℕ
  pub far : least ≤ distance
  pub near : last + distance ≤ 2 ^ 62 - 1
  pub offset : row.offset ≡ 4 * (last + distance)
  pub some : 1 ≤ row.count
  pub most : row.count ≤ 2 ^ 48
