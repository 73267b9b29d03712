-- A name more among the keys.
use Rattle.std.proofs.Common.{rules, ◌≡◌, [], ◌∷◌, sym, subst}
use Rattle.std.specs.Ordering.{nat_cmp}
use Rattle.std.specs.Cmp.Lexicographic.{slice_cmp}
use Rattle.std.specs.BTreeSet.{insert_key}
use Rattle.store_io.specs.FileNames.{file_name}
use Rattle.store_tidy.specs.Sets.{Gains}
use Rattle.store_tidy.proofs.Sets.{gains_one}
use Rattle.store_tidy.proofs.used.put_file.Goals as goal

pub returns : goal.returns
returns c =
    let old = c.args.used.now.keys in
    let k = c.in_ok-name_of.field-0 in
    let keys : c.insert.new.self.keys ≡ insert_key (slice_cmp nat_cmp) old k = c.in_ok-insert.ensures.keys in
    let named : k ≡ file_name c.args.file = search rules in
    subst (λ m. Gains (m ∷ []) old c.insert.new.self.keys) named (subst (Gains (k ∷ []) old) (sym keys) (gains_one k old))
