-- What files tell under a head are profiles, whatever their bytes.
use Rattle.std.proofs.Common.{◌≡◌, ℕ, List, None, Some, Option, Result, Ok, Err, refl}
use Rattle.var_bytes.specs.Reading.{read_form}
use Rattle.store_io.specs.Files.{Files}
use Rattle.store_io.specs.declared.file_refs.FileRef.{FileRef}
use Rattle.store_io.specs.FileNames.{file_name}
use Rattle.image_catalog.specs.Images.{place_of}
use Rattle.database_model.specs.declared.profiles.ProfileRow.{ProfileRow}
use Rattle.database_model.specs.ProfileForm.{format1}
use Rattle.database_model.specs.Ranges.{AreRows}
use Rattle.profile_file.proofs.ProfileLaws.{read_told}
use Rattle.database_state.specs.Heads.{Head}
use Rattle.database_state.specs.Updates.{at_image}
use Rattle.database_state.specs.Rows.{known_row, unknown_row, known_ref, unknown_ref}
use Rattle.database_state.specs.Standing.{told, value_in, profile_at, known_at, database_of}
use Rattle.database_state.specs.Limits.{IsProfile}

of_result : (read : Result (List ProfileRow) ℕ) → ((rows : List ProfileRow) → read ≡ Ok rows → AreRows rows) → IsProfile (told read)
of_result (Ok rows) rise = rise rows refl
of_result (Err at) rise = tt

of_file : (bytes : Option (List ℕ)) → IsProfile (value_in format1 bytes)
of_file None = tt
of_file (Some bytes) = of_result (read_form format1 bytes) (read_told bytes)

pub of_row : {R : Type 0} (file : R → FileRef) (files : Files) (row : Option R) → IsProfile (profile_at file files row)
of_row file files None = tt
of_row file files (Some r) = of_file (files (file_name (file r)))

pub of_known : (files : Files) (row : Option ℕ) (rows : ℕ → Option (List ProfileRow)) → ((image : ℕ) → IsProfile (rows image)) → IsProfile (at_image row rows)
of_known files None rows each = tt
of_known files (Some image) rows each = each image

pub known_told : (h : Head) (files : Files) (epoch : ℕ) (name : List ℕ) (event : ℕ) → IsProfile ((database_of h files).known epoch name event)
known_told h files epoch name event =
    of_known files (place_of name h.names) (λ image. known_at files (known_row h.known epoch image event)) (λ image. of_row known_ref files (known_row h.known epoch image event))

pub unknown_told : (h : Head) (files : Files) (epoch event : ℕ) → IsProfile ((database_of h files).unknown epoch event)
unknown_told h files epoch event = of_row unknown_ref files (unknown_row h.unknown epoch event)
