use Rattle.std.proofs.Common.{ℕ, List, [], ◌∷◌, ◌++◌, cond, Some, refl, ap, ◌∙◌}
use Rattle.std.specs.Ordering.{nat_cmp, is_eq}
use Rattle.std.specs.Cmp.Lexicographic.{slice_cmp}
use Rattle.std.specs.BTreeMap.{get}
use Rattle.trace_text.proofs.Adding.{image_new}
use Rattle.trace_text.proofs.body.Body.new_image.Goals as goal

pub returns : goal.returns
returns c = let made = (rw c.in-Some.is at c.in_ok-name.ensures).1 in
    image_new c.args.self.now _ c.args.bytes.now c.len-index.result c.requires.index c.requires.new (c.len-index.ensures ∙ c.args.self.now.images.ok.0) refl refl refl refl refl refl
    (c.in_ok-push.ensures.items ∙ ap (λ (n : List ℕ). c.args.self.now.images.items ++ n ∷ []) made)
    (λ q. c.in_ok-insert.ensures.updates.0 q ∙ ap (λ (n : List ℕ). cond (is_eq (slice_cmp nat_cmp n q)) (Some c.len-index.result) (get (slice_cmp nat_cmp) c.args.self.now.index q)) (c.in_ok-copy.ensures ∙ made))
