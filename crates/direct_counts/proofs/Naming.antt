-- The image of each place is one that the trace names.
use Rattle.std.proofs.Common.{ℕ, List, [], ◌∷◌, ◌++◌, reverse}
use Rattle.std.proofs.lemmas.List.{reverse-append}
use Rattle.trace_model.specs.declared.notices.Record.{Record}
use Rattle.trace_model.specs.Attribution.{says, own_place, kernel_mapping, kernel_place, place_after}
use Rattle.trace_model.specs.Recording.{HasImage}
use Rattle.trace_laws.proofs.Naming.{IsNamed, says_named, kernel_named, decided_named, either_named}

-- one record more
pub own_more : (images : List (List ℕ)) (records : List Record) (entry : Record) → IsNamed images entry → ((pid pc : ℕ) → HasImage images (own_place (reverse records) pid pc)) → (pid pc : ℕ) → HasImage images (own_place (reverse (records ++ entry ∷ [])) pid pc)
own_more images records entry t h pid pc = rw (reverse-append records (entry ∷ [])) (decided_named images (says entry pid pc) (own_place (reverse records) pid pc) (says_named images entry pid pc t) (h pid pc))

pub kernel_more : (images : List (List ℕ)) (records : List Record) (entry : Record) → IsNamed images entry → ((pc : ℕ) → HasImage images (kernel_place (reverse records) pc)) → (pc : ℕ) → HasImage images (kernel_place (reverse (records ++ entry ∷ [])) pc)
kernel_more images records entry t h pc = rw (reverse-append records (entry ∷ [])) (either_named images (kernel_mapping entry pc) (kernel_place (reverse records) pc) (kernel_named images entry pc t) (h pc))

-- the place that these records give an address
pub place_has : (images : List (List ℕ)) (records : List Record) (pid pc : ℕ) → HasImage images (own_place (reverse records) pid pc) → HasImage images (kernel_place (reverse records) pc) → HasImage images (place_after records pid pc)
place_has images records pid pc h k = either_named images (own_place (reverse records) pid pc) (kernel_place (reverse records) pc) h k
