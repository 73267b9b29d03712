-- The next line is that of the next name, and it goes to the end of the catalog.
use Rattle.std.proofs.Common.{arith, ◌≡◌, ℕ, ◌+◌, ◌<◌, List, [], ◌∷◌, ◌++◌, length, take, drop, get_or, true, ◌∙◌, sym, ap, append_assoc, take-append-drop, lit≤, subst}
use Rattle.std.specs.List.{flat_map}
use Rattle.std.proofs.lemmas.List.{take_more}
use Rattle.text_num.specs.Names.{is_name}
use Rattle.image_catalog.specs.Images.{AreImages}
use Rattle.database_state.specs.Heads.{name_line}
use Rattle.head_file.proofs.Apart.{front_images}
use Rattle.head_file.proofs.Lines.{line_at, all_at, name_word}
use Rattle.head_file.proofs.reading.images_of.Goals as goal

pub loop-preserved : goal.loop-preserved
loop-preserved c = λ names rest images named size e.
    let so_far = c.loop.invariant names rest images named size e in
    let i = c.loop.counter in
    let within : i < length names = omega arith in
    let name = get_or names i [] in
    let others = flat_map name_line (drop (i + 1) names) ++ rest in
    let here : c.loop.rest.now ≡ name ++ 10 ∷ others = so_far.1 ∙ line_at name_line names i [] rest within ∙ append_assoc name (10 ∷ []) others in
    let is : is_name name ≡ true = all_at is_name names i [] named within in
    let parts = c.next_word.ensures name others 10 (name_word name is) (lit≤ tt) here in
    let more : take i names ++ name ∷ [] ≡ take (i + 1) names = sym (take_more names i [] within) in
    let joined : c.loop.catalog ++ c.next_word.result.0.now ∷ [] ≡ take (i + 1) names = ap (λ l. l ++ c.next_word.result.0.now ∷ []) so_far.0 ∙ ap (λ n. take i names ++ n ∷ []) parts.0 ∙ more in
    let front : AreImages (take (i + 1) names) = front_images (take (i + 1) names) (drop (i + 1) names) (subst AreImages (sym (take-append-drop (i + 1) names)) images) in
    (c.in_ok-add_image.ensures (ap is_name parts.0 ∙ is) (subst AreImages (sym joined) front) ∙ joined, parts.1)
