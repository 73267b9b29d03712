-- Each line of the text of a head gives what it was made of.
use Rattle.std.proofs.Common.{arith, ◌≡◌, ℕ, ◌≤◌, [], length, ◌∙◌, sym, ap, refl, lit<}
use Rattle.std.specs.Prelude.{codes}
use Rattle.head_file.proofs.Limits.{ranges_of, all_known_fit, all_unknown_fit}
use Rattle.head_file.proofs.Shape.{shape, from_generation, from_epoch, from_runs, from_images, names_part, from_profiles, known_part, from_unknowns, unknown_part}
use Rattle.head_file.proofs.reading.taken_apart.Goals as goal

pub returns : goal.returns
returns c = λ h is e.
    let ranges = ranges_of h is.range in
    let generation : h.generation ≤ 65536 = omega (arith, ranges.count) in
    let epoch : h.epoch ≤ 65536 = omega (arith, ranges.epoch) in
    let runs : h.runs ≤ 65536 = omega (arith, ranges.runs) in
    let images : length h.names ≤ 4096 = is.images.few in
    let known : length h.known ≤ 65536 = omega (arith, ranges.count) in
    let unknown : length h.unknown ≤ 65536 = omega (arith, ranges.count) in
    let f0 = c.next_line-format.ensures (codes "dcpi-head") (from_generation h) 1 refl (lit< tt) (e ∙ shape h) in
    let f1 = c.next_line-generation.ensures (codes "generation") (from_epoch h) h.generation refl (omega arith) f0.1 in
    let f2 = c.next_line-epoch.ensures (codes "epoch") (from_runs h) h.epoch refl (omega arith) f1.1 in
    let f3 = c.next_line-runs.ensures (codes "runs") (from_images h) h.runs refl (omega arith) f2.1 in
    let f4 = c.next_line-images.ensures (codes "images") (names_part h) (length h.names) refl (omega arith) f3.1 in
    let n = c.in_ok-catalog.ensures h.names (from_profiles h) is.images is.names (sym f4.0) f4.1 in
    let f5 = c.next_line-profiles.ensures (codes "profiles") (known_part h) (length h.known) refl (omega arith) n.1 in
    let k = c.in_ok-known.ensures h.known (from_unknowns h) (all_known_fit h.epoch (length h.names) h.generation h.known epoch images generation ranges.known) (sym f5.0) known f5.1 in
    let f6 = c.next_line-unknowns.ensures (codes "unknowns") (unknown_part h) (length h.unknown) refl (omega arith) k.1 in
    let u = c.in_ok-unknown.ensures h.unknown [] (all_unknown_fit h.epoch h.generation h.unknown epoch generation ranges.unknown) (sym f6.0) unknown f6.1 in
    λ t. record { generation = f1.0 t; epoch = f2.0 t; runs = f3.0 t; names = n.0 t; known = k.0 t; unknown = u t }
