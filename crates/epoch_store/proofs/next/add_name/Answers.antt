-- A name that is apart from the others goes to their end.
use Rattle.std.proofs.Common.{◌≡◌, ◌++◌, ◌∷◌, [], None, ◌∙◌, refl}
use Rattle.image_catalog.specs.Images.{place_of, with_name}
use Rattle.head_file.proofs.Apart.{no_place}
use Rattle.epoch_store.proofs.next.add_name.Goals as goal

pub returns-in-Ok : goal.returns-in-Ok
returns-in-Ok c =
    let new : place_of c.args.name.now c.args.catalog.now ≡ None = no_place c.args.catalog.now c.args.name.now c.requires in
    let last : with_name c.args.catalog.now c.args.name.now ≡ c.args.catalog.now ++ c.args.name.now ∷ [] = rw new refl in
    c.in-Ok.ensures.names ∙ last
