-- The name of a seal is a name: visible bytes, and few.
use Rattle.std.proofs.Common.{arith, ◌≡◌, ℕ, ◌^◌, ◌<◌, ◌≤◌, suc, true, ◌&&◌, length, ◌++◌, refl}
use Rattle.std.specs.Prelude.{codes, nat_le}
use Rattle.std.specs.List.{list_all}
use Rattle.std.specs.Fmt.{decimal}
use Rattle.std.proofs.lemmas.Grind.{common_steps}
use Rattle.text_num.specs.Names.{is_name, is_visible}
use Rattle.store_io.proofs.FileTexts.{IsPiece, joined, number_piece}
use Rattle.database_state.specs.Standing.{seal_file}
use Rattle.epoch_store.proofs.Order.{both}

pub seal_is_name : (g : ℕ) → g < 2 ^ 32 → is_name (seal_file g) ≡ true
seal_is_name g below =
    let word : IsPiece (codes "seal.") 5 = record { short = omega arith; visible = refl } in
    let piece = joined {xs = codes "seal."} {ys = decimal g} {j = 5} {k = 10} word (number_piece g below) in
    let size : length (seal_file g) ≤ 15 = piece.short in
    let some : nat_le 1 (length (seal_file g)) ≡ true = at_least (length (codes "eal." ++ decimal g)) in
    let limit : nat_le (length (seal_file g)) 255 ≡ true = le_true (length (seal_file g)) 255 (omega arith) in
    both (nat_le 1 (length (seal_file g)) && nat_le (length (seal_file g)) 255) (list_all is_visible (seal_file g)) (both _ _ some limit) piece.visible
  where
    le_true : (a b : ℕ) → a ≤ b → nat_le a b ≡ true
    le_true a b le = grind (arith, common_steps)

    at_least : (n : ℕ) → nat_le 1 (suc n) ≡ true
    at_least n = grind (arith, common_steps)
