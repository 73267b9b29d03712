-- A filter of keys in order is in order.
use Rattle.std.proofs.Common.{rules, arith, ◌≡◌, ◌∙◌, sym, ap, map, append-nil, subst}
use Rattle.std.specs.Prelude.{filter}
use Rattle.std.specs.Ordering.{nat_cmp}
use Rattle.std.specs.Cmp.Lexicographic.{slice_cmp}
use Rattle.std.proofs.lemmas.List.Kept.{IsStrictlySortedBy-filter}
use Rattle.text_num.specs.Names.{is_name}
use Rattle.store_io.specs.Files.{contents}
use Rattle.store_io.specs.Listing.{IsInByteOrder}
use Rattle.store_io.proofs.Presence.{ordered_texts}
use Rattle.store_io.proofs.order.names_among.Goals as goal

pub returns-clause-order : goal.returns-clause-order
returns-clause-order c =
    let all : c.loop-text.names.items ≡ filter is_name (map contents c.args.texts.keys) = search rules in
    rw all (IsStrictlySortedBy-filter (slice_cmp nat_cmp) is_name (map contents c.args.texts.keys) (ordered_texts c.args.texts.keys (search rules)))
