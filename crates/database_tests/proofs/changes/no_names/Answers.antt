-- The images are images.
use Rattle.std.proofs.Common.{◌++◌, append-nil, ◌∙◌, sym, ap, subst}
use Rattle.image_catalog.specs.Images.{AreImages}
use Rattle.epoch_store.specs.Databases.{head_of}
use Rattle.database_tests.proofs.changes.no_names.Goals as goal

pub returns : goal.returns
returns c =
    let names = (head_of c.args.db.now).names in
    let held : AreImages names = subst AreImages (c.names-images.ensures.names ∙ c.catalog.ensures) c.names-images.ensures.images in
    subst AreImages (sym (ap (λ l. names ++ l) c.new.ensures.items ∙ append-nil names)) held
