-- A name that is not held, where there is room for it.
use Rattle.std.proofs.Common.{rules, arith, ◌≡◌, ◌<◌, [], ◌∷◌, ◌++◌, None, length, sym, ap, subst}
use Rattle.image_catalog.specs.Images.{place_of, AreImages}
use Rattle.image_catalog.proofs.Places.{one_more}
use Rattle.database_tests.proofs.changes.new_names.Goals as goal

pub returns : goal.returns
returns c =
    let held = c.args.held.now in
    let images : AreImages held = subst AreImages c.names.ensures.names c.names.ensures.images in
    let none : place_of c.in_ok-name.name held ≡ None = search rules in
    let room : length held < 4096 = omega (arith, c.if-names-ge-MOST_IMAGES.false, ap length c.names.ensures.names) in
    let added : c.push.new.self.items ≡ c.in_ok-name.name ∷ [] = search rules in
    subst (λ l. AreImages (held ++ l)) (sym added) (one_more held c.in_ok-name.name images none room)
