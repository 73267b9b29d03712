-- The names came to the set one kind after the other, those of the head last.
use Rattle.std.proofs.Common.{rules, ◌≡◌, [], ◌∷◌, ◌++◌, map, sym, subst}
use Rattle.std.specs.Ordering.{nat_cmp}
use Rattle.std.specs.Cmp.Lexicographic.{slice_cmp}
use Rattle.std.specs.BTreeSet.{insert_key}
use Rattle.database_state.specs.Rows.{known_file, unknown_file}
use Rattle.database_state.specs.Standing.{seal_file, head_file}
use Rattle.epoch_store.specs.Databases.{head_of}
use Rattle.store_tidy.specs.Sets.{Gains}
use Rattle.store_tidy.specs.Unused.{segment_names, used_names}
use Rattle.store_tidy.proofs.Sets.{gains_one, gains_before, gains_first, gains_all}
use Rattle.store_tidy.proofs.used.used_names.Goals as goal

pub returns : goal.returns
returns c =
    let h = head_of c.args.db.now in
    let s0 = c.new-used.result.keys in
    let s1 = c.put_rows.new.used.keys in
    let s2 = c.put_rows-2.new.used.keys in
    let s3 = c.put_segments.new.used.keys in
    let s4 = c.put_file.new.used.keys in
    let s5 = c.insert.new.self.keys in
    let segments = segment_names h.generation in
    let known = map known_file h.known in
    let unknown = map unknown_file h.unknown in
    let g : c.generation-g.result ≡ h.generation = search rules in
    let a : Gains unknown s0 s1 = subst (λ rows. Gains (map unknown_file rows) s0 s1) c.unknown_rows.ensures.list c.in_ok-put_rows.ensures in
    let b : Gains known s1 s2 = subst (λ rows. Gains (map known_file rows) s1 s2) c.known_rows.ensures.list c.in_ok-put_rows-2.ensures in
    let d : Gains segments s2 s3 = subst (λ n. Gains (segment_names n) s2 s3) g c.in_ok-put_segments.ensures in
    let e : Gains (head_file h.generation ∷ []) s3 s4 = subst (λ n. Gains (head_file n ∷ []) s3 s4) g c.in_ok-put_file.ensures in
    let k = c.in_ok-seal_name.field-0 in
    let named : k ≡ seal_file h.generation = search rules in
    let keys : s5 ≡ insert_key (slice_cmp nat_cmp) s4 k = c.in_ok-insert.ensures.keys in
    let f : Gains (seal_file h.generation ∷ []) s4 s5 = subst (λ m. Gains (m ∷ []) s4 s5) named (subst (Gains (k ∷ []) s4) (sym keys) (gains_one k s4)) in
    let rows : Gains (known ++ unknown) s0 s2 = gains_before s0 s1 s2 known unknown a b in
    let files : Gains (segments ++ (known ++ unknown)) s0 s3 = gains_before s0 s2 s3 segments (known ++ unknown) rows d in
    let heads : Gains (head_file h.generation ∷ segments ++ (known ++ unknown)) s0 s4 = gains_first s0 s3 s4 (segments ++ (known ++ unknown)) (head_file h.generation) files e in
    gains_all (used_names h) s0 s5 c.new-used.ensures.empty (gains_first s0 s4 s5 (head_file h.generation ∷ segments ++ (known ++ unknown)) (seal_file h.generation) heads f)
