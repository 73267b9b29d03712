-- The images so far, and the lines of the others.
use Rattle.std.proofs.Common.{◌≡◌, ℕ, List, ◌++◌, length, take, drop, true}
use Rattle.std.specs.List.{list_all, flat_map}
use Rattle.text_num.specs.Names.{is_name}
use Rattle.image_catalog.specs.Images.{AreImages}
use Rattle.database_state.specs.Heads.{name_line}
use Rattle.head_file.proofs.reading.images_of.Given as goal

abbrev pub invariant-loop : goal.invariant-loop
invariant-loop l = (names : List (List ℕ)) (rest : List ℕ) → AreImages names → list_all is_name names ≡ true → length names ≡ l.fn.count → l.fn.text ≡ flat_map name_line names ++ rest → (l.catalog ≡ take l.counter names) × (l.rest ≡ flat_map name_line (drop l.counter names) ++ rest)
