use Rattle.std.proofs.Common.{◌≡◌, ◌++◌, [], ◌∷◌, List, ℕ, ap, sym, ◌∙◌, rules}
use Rattle.trace_model.specs.declared.count_lists.KnownCount.{KnownCount}
use Rattle.trace_model.specs.Counting.{Row, known_row}
use Rattle.trace_model.specs.Counting as counting
use Rattle.trace_model.specs.Recording.{name_at}
use Rattle.direct_counts.specs.Lists.{rows_with}
use Rattle.direct_counts.specs.Sites.{row_shown}
use Rattle.direct_counts.proofs.Listing.{move_known}
use Rattle.direct_counts.proofs.Ranking.{any_default, at_name}
use Rattle.direct_counts.proofs.lists.add.Goals as goal

pub returns-in_ok-push-in-Known : goal.returns-in_ok-push-in-Known
returns-in_ok-push-in-Known c =
    let s = c.in-Known in
    let names = c.args.names.now in
    let k : KnownCount = record { epoch = s.epoch; image = c.in_ok-image-in-Known.image; event = s.event; offset = s.offset; count = c.args.row.now.1 } in
    let ranked = rw s.is at c.requires in
    let image : c.in_ok-image-in-Known.image ≡ name_at names s.rank = c.in_ok-image-in-Known.ensures ∙ (c.index-names-rank.is ∙ (any_default names s.rank c.index-names-rank.result [] ranked.within ∙ sym (at_name names s.rank))) in
    let same : known_row k ≡ (record { spot = counting.Known s.epoch (name_at names s.rank) s.event s.offset; count = c.args.row.now.1 }) =
    ap (λ (name : List ℕ). let row : Row = record { spot = counting.Known s.epoch name s.event s.offset; count = c.args.row.now.1 } in row) image in
    let out : c.push.new.self.items ≡ c.args.known.now.items ++ k ∷ [] = search rules in
    λ more. rw out (move_known names c.args.known.now.items c.args.unknown.now.items more c.args.row.now s.epoch s.rank s.event s.offset k s.is same)
