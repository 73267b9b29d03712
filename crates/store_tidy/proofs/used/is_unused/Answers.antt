-- The search of the set says which names it holds.
use Rattle.std.proofs.Common.{rules, ◌≡◌, true, ◌∙◌, ap}
use Rattle.std.specs.Prelude.{not}
use Rattle.store_io.specs.Listing.{is_listed}
use Rattle.store_tidy.specs.FileForms.{is_file_name}
use Rattle.store_tidy.proofs.Sets.{contains_listed}
use Rattle.store_tidy.proofs.used.is_unused.Goals as goal

pub returns-then-is_file_name : goal.returns-then-is_file_name
returns-then-is_file_name c =
    let n = c.args.name.now in
    let keys = c.args.used.now.keys in
    let held : c.contains.result ≡ is_listed n keys = c.contains.ensures ∙ contains_listed n keys in
    let file : is_file_name n ≡ true = search rules in
    rw file (ap not held)
