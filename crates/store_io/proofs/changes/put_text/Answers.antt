-- A text more among the keys.
use Rattle.std.proofs.Common.{rules, ◌≡◌, ◌||◌, ◌∙◌, sym, ap, map}
use Rattle.std.specs.Str.{bytes_eq}
use Rattle.std.specs.List.{list_all}
use Rattle.std.specs.BTreeSet.{insert_key}
use Rattle.text_num.specs.Names.{is_name}
use Rattle.store_io.specs.Files.{contents}
use Rattle.store_io.specs.Listing.{is_listed}
use Rattle.store_io.proofs.Presence.{listed_insert, names_insert, by_bytes}
use Rattle.store_io.proofs.changes.put_text.Goals as goal

pub returns-clause-listed : goal.returns-clause-listed
returns-clause-listed c = λ n.
    let k = c.in_ok-from_slice.field-0 in
    let old = c.args.texts.now.keys in
    let named : contents k ≡ c.args.name.now = c.in_ok-from_slice.ensures.items ∙ c.bytes.ensures.bytes in
    ap (λ ks. is_listed n (map contents ks)) c.in_ok-insert.ensures.keys ∙ listed_insert k old n ∙ ap (λ m. bytes_eq m n || is_listed n (map contents old)) named

pub returns-clause-names : goal.returns-clause-names
returns-clause-names c = λ all.
    let k = c.in_ok-from_slice.field-0 in
    let old = c.args.texts.now.keys in
    ap (λ ks. list_all is_name (map contents ks)) c.in_ok-insert.ensures.keys ∙ names_insert k old (ap is_name c.in_ok-from_slice.ensures.items ∙ c.bytes.ensures.name) all
