-- What a loop over a vector by value has yielded once it ends.
use Rattle.std.proofs.Common.{◌≡◌, List, Option, length, None, ap, sym, ◌∙◌}
use Rattle.std.proofs.lemmas.List.{map-id}
use Rattle.std.proofs.lemmas.Iterator.Adapters.{YieldsList-from_vec}
use Rattle.std.proofs.lemmas.Iterator.Consumers.{YieldsList-end}
use Rattle.std.specs.Iterator.{Yields}
use Rattle.std.specs.declared.vec.IntoIter.{IntoIter}
use Rattle.std.specs.Vec.Iter.{into_iter_items, into_iter_steps}

-- all of it
pub all_yielded : {A Z : Type 0} (all yielded : List A) (from end after : IntoIter A Z) (found : Option A)
    → into_iter_items from ≡ all → Yields (into_iter_steps {X = A} {Z = Z}) from yielded end → found ≡ None → into_iter_steps end found after
    → yielded ≡ all
all_yielded all yielded from end after found items run none last =
    let whole = YieldsList-end (YieldsList-from_vec all items (from.rest.ok.0 ∙ ap length items)) yielded end run found after none last in
    sym (map-id yielded) ∙ whole.0
