-- A name that is apart from the others goes to their end.
use Rattle.std.proofs.Common.{rules, ◌≡◌, ◌++◌, ◌∷◌, [], None, ◌∙◌, sym, ap, subst}
use Rattle.image_catalog.specs.Images.{place_of, with_name, AreImages}
use Rattle.head_file.proofs.Apart.{no_place}
use Rattle.head_file.proofs.reading.add_image.Goals as goal

pub returns : goal.returns
returns c = λ named images.
    let same : c.in-Some.name ≡ c.args.word.now = search rules in
    let new : place_of c.in-Some.name c.args.catalog.now ≡ None = rw same (no_place c.args.catalog.now c.args.word.now images) in
    let last : with_name c.args.catalog.now c.in-Some.name ≡ c.args.catalog.now ++ c.args.word.now ∷ [] = rw new (ap (λ n. c.args.catalog.now ++ n ∷ []) same) in
    c.in-Ok.ensures.names ∙ last
