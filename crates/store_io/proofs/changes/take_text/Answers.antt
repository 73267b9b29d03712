-- A text less among the keys.
use Rattle.std.proofs.Common.{rules, ◌≡◌, ◌&&◌, ◌∙◌, sym, ap, map}
use Rattle.std.specs.Prelude.{not}
use Rattle.std.specs.Ordering.{nat_cmp}
use Rattle.std.specs.Cmp.Lexicographic.{slice_cmp}
use Rattle.std.specs.Str.{bytes_eq}
use Rattle.std.specs.List.{list_all}
use Rattle.std.specs.Set.{remove_key}
use Rattle.std.specs.BTreeMap.{is_at}
use Rattle.text_num.specs.Names.{is_name}
use Rattle.store_io.specs.Files.{contents}
use Rattle.store_io.specs.Listing.{is_listed}
use Rattle.store_io.proofs.Presence.{listed_remove, names_remove}
use Rattle.store_io.proofs.changes.take_text.Goals as goal

pub returns-clause-listed : goal.returns-clause-listed
returns-clause-listed c = λ n.
    let old = c.args.texts.now.keys in
    ap (λ ks. is_listed n (map contents ks)) c.remove.ensures.keys ∙ listed_remove c.bytes.result.now old n c.len-rising.ensures.ordered ∙ ap (λ m. not (bytes_eq m n) && is_listed n (map contents old)) c.bytes.ensures.bytes

pub returns-clause-names : goal.returns-clause-names
returns-clause-names c = λ all.
    ap (λ ks. list_all is_name (map contents ks)) c.remove.ensures.keys ∙ names_remove _ c.args.texts.now.keys all
