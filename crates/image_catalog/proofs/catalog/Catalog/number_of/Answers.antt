-- A new name goes to the end, and its number to its place in the index.
use Rattle.std.proofs.Common.{rules, arith, ◌≡◌, ◌<◌, ◌≤◌, ◌++◌, ◌∷◌, [], None, Some, length, ◌∙◌, sym, ap}
use Rattle.std.specs.List.{insert}
use Rattle.image_catalog.specs.Images.{place_of}
use Rattle.image_catalog.specs.declared.catalog.TheConstants.{MOST_IMAGES}
use Rattle.image_catalog.proofs.Places.{place_push}
use Rattle.image_catalog.proofs.Adding.{added}
use Rattle.image_catalog.proofs.catalog.Catalog.number_of.Goals as goal

pub returns-in-Some-clause-full : goal.returns-in-Some-clause-full
returns-in-Some-clause-full c =
    let finds = c.self.invariant.finds c.args.name.now in
    let held : Some c.in-Some.number ≡ place_of c.args.name.now c.args.self.now = search rules in
    (λ e. cc, λ both. let none : Some c.in-Some.number ≡ None = held ∙ both.0 in cc)

pub invariant_of-self-2 : goal.invariant_of-self-2
invariant_of-self-2 c =
    let names = c.self.inside.names.items in
    let order = c.self.inside.order.items in
    let at = c.count_before-at.result in
    let finds = c.self.invariant.finds c.args.name.now in
    let none : place_of c.args.name.now names ≡ None = search rules in
    let room : length names < MOST_IMAGES = search rules in
    let more : c.push.new.self.items ≡ names ++ c.args.name.now ∷ [] = search rules in
    let index : c.insert.new.self.items ≡ insert order at (length names) = search rules in
    rw (more, index) (added names order c.args.name.now at c.self.invariant none room (search rules) (search rules) (search rules))

pub returns-clause-number : goal.returns-clause-number
returns-clause-number c =
    let names = c.self.inside.names.items in
    let finds = c.self.invariant.finds c.args.name.now in
    let none : place_of c.args.name.now names ≡ None = search rules in
    let number : c.len-number.result ≡ length names = search rules in
    let more : c.push.new.self.items ≡ names ++ c.args.name.now ∷ [] = search rules in
    rw (more, number) (place_push names c.args.name.now none)
