-- The names so far with the next one stand in front of the others.
use Rattle.std.proofs.Common.{◌≡◌, ◌+◌, [], ◌∷◌, ◌++◌, take, drop, ◌∙◌, sym, ap, subst, append_assoc, take-append-drop}
use Rattle.std.proofs.lemmas.List.{take_more}
use Rattle.image_catalog.specs.Images.{AreImages}
use Rattle.head_file.proofs.Apart.{front_images}
use Rattle.epoch_store.proofs.next.add_names.Goals as goal

pub add_name-requires : goal.add_name-requires
add_name-requires c =
    let held = c.args.catalog.now in
    let names = c.args.names.now in
    let i = c.loop-name.name-index in
    let x = c.name-item.result in
    let more : take (i + 1) names ≡ take i names ++ x ∷ [] = take_more names i x c.loop-name-test.true ∙ ap (λ y. take i names ++ y ∷ []) (sym c.name-item.is) in
    let whole : (held ++ take (i + 1) names) ++ drop (i + 1) names ≡ held ++ names = append_assoc held (take (i + 1) names) (drop (i + 1) names) ∙ ap (λ l. held ++ l) (take-append-drop (i + 1) names) in
    let front : AreImages (held ++ take (i + 1) names) = front_images (held ++ take (i + 1) names) (drop (i + 1) names) (subst AreImages (sym whole) c.requires) in
    let here : held ++ take (i + 1) names ≡ c.loop-name.catalog ++ x ∷ [] = ap (λ l. held ++ l) more ∙ sym (append_assoc held (take i names) (x ∷ [])) ∙ ap (λ l. l ++ x ∷ []) (sym c.loop-name.invariant) in
    subst AreImages here front
