-- The writes of a commit, as they come one after the other.
use Rattle.std.proofs.Common.{◌≡◌, ℕ, ◌+◌, ◌<◌, List, [], ◌∷◌, ◌++◌, length, take, get_or, refl, sym, ap, ◌∙◌, subst, append_assoc}
use Rattle.std.proofs.lemmas.List.{take_more}
use Rattle.var_bytes.specs.Forms.{Spells}
use Rattle.database_model.specs.declared.profiles.ProfileRow.{ProfileRow}
use Rattle.database_model.specs.ProfileForm.{format1}
use Rattle.database_model.specs.SegmentForm.{segment}
use Rattle.database_state.specs.Heads.{Head, head_text}
use Rattle.database_state.specs.Updates.{Update}
use Rattle.database_state.specs.Standing.{segment_file, head_file}
use Rattle.epoch_store.specs.Puts.{Put}
use Rattle.epoch_store.specs.Commits.{known_name, unknown_name, AreWritten, AreWritesOf}

one_last : {U : Type 0} (name : U → List ℕ) (rows : U → List ProfileRow) (us : List U) (u : U) (ws : List Put) (w : Put) → AreWritten name rows us ws → w.name ≡ name u → Spells format1 w.bytes (rows u) → AreWritten name rows (us ++ u ∷ []) (ws ++ w ∷ [])
one_last name rows [] u ws w are named spells = subst (λ l. AreWritten name rows (u ∷ []) (l ++ w ∷ [])) (sym are) (named, spells, refl)
one_last name rows (v ∷ us) u [] w are named spells = absurd are
one_last name rows (v ∷ us) u (x ∷ ws) w are named spells = (are.0, are.1, one_last name rows us u ws w are.2 named spells)

-- one changed profile more
pub written_more : {U : Type 0} (name : U → List ℕ) (rows : U → List ProfileRow) (us : List U) (i : ℕ) (u : U) (ws : List Put) (w : Put) → i < length us → u ≡ get_or us i u → AreWritten name rows (take i us) ws → w.name ≡ name u → Spells format1 w.bytes (rows u) → AreWritten name rows (take (i + 1) us) (ws ++ w ∷ [])
written_more name rows us i u ws w within is are named spells =
    let more : take i us ++ u ∷ [] ≡ take (i + 1) us = ap (λ x. take i us ++ x ∷ []) is ∙ sym (take_more us i u within) in
    subst (λ l. AreWritten name rows l (ws ++ w ∷ [])) more (one_last name rows (take i us) u ws w are named spells)

-- all of them, with the run's part and the head
pub all_writes : (next : Head) (u : Update) (w0 w1 w2 w3 w4 known unknown : List Put) (part text : List ℕ) → w0 ≡ [] → w1 ≡ w0 ++ known → w2 ≡ w1 ++ unknown → w3 ≡ w2 ++ record { name = segment_file next.generation; bytes = part } ∷ [] → w4 ≡ w3 ++ record { name = head_file next.generation; bytes = text } ∷ [] → text ≡ head_text next → AreWritten (known_name next.generation) (λ k. k.rows) u.known known → AreWritten (unknown_name next.generation) (λ k. k.rows) u.unknown unknown → Spells segment part u.segment → AreWritesOf next u w4
all_writes next u w0 w1 w2 w3 w4 known unknown part text e0 e1 e2 e3 e4 is are_known are_unknown is_part =
    let p : Put = record { name = segment_file next.generation; bytes = part } in
    let h : Put = record { name = head_file next.generation; bytes = head_text next } in
    let named : w4 ≡ w3 ++ h ∷ [] = e4 ∙ ap (λ t. w3 ++ record { name = head_file next.generation; bytes = t } ∷ []) is in
    let first : w1 ≡ known = e1 ∙ ap (λ l. l ++ known) e0 in
    let second : w2 ≡ known ++ unknown = e2 ∙ ap (λ l. l ++ unknown) first in
    let third : w3 ≡ known ++ (unknown ++ p ∷ []) = e3 ∙ ap (λ l. l ++ p ∷ []) second ∙ append_assoc known unknown (p ∷ []) in
    record {
      known = known;
      unknown = unknown;
      part = part;
      are_known = are_known;
      are_unknown = are_unknown;
      is_part = is_part;
      list = named ∙ ap (λ l. l ++ h ∷ []) third ∙ append_assoc known (unknown ++ p ∷ []) (h ∷ []) ∙ ap (λ l. known ++ l) (append_assoc unknown (p ∷ []) (h ∷ []));
    }
