-- Sums over entries and drains, and the rows of a tally.
use Rattle.std.proofs.Common.{◌≡◌, ℕ, ◌+◌, ◌<◌, Bool, List, [], ◌∷◌, ◌++◌, length, get_or, take, refl, sym, ap, ◌∙◌, append_assoc, add-one, arith}
use Rattle.std.specs.Prelude.{map, filter, sum_by}
use Rattle.std.specs.List.{zip}
use Rattle.std.proofs.lemmas.List.{take_more, take_all, map_push}
use Rattle.std.proofs.lemmas.List.Sums.{sum_by_more}
use Rattle.std.proofs.lemmas.List.Elements.{filter-append}
use Rattle.std.proofs.lemmas.Slice.Zip.{get_or-zip, length-zip}
use Rattle.sample_key.specs.declared.events.Event.{Event}
use Rattle.sample_key.specs.Counted.{Counted}
use Rattle.sample_key.specs.Events.{all_events}
use Rattle.database_model.specs.declared.tallies.TallyRow.{TallyRow}
use Rattle.database_model.specs.Runs.{Recorded}
use Rattle.database_model.specs.Tally.{samples_of, has_samples, row_of, processor_rows, rows_of}

abbrev paired : Counted → Bool → Counted × Bool
paired e k = (e, k)

-- one more entry in a sum
pub samples_more : (event : Event) (flag : Bool) (es : List Counted) (ks : List Bool) (i : ℕ) (e : Counted) (k : Bool) (sum more : ℕ) → i < length es → length ks ≡ length es
    → sum ≡ sum_by (samples_of event flag) (take i (zip es ks)) → e ≡ get_or es i e → more ≡ samples_of event flag (e, get_or ks i k) → sum + more ≡ sum_by (samples_of event flag) (take (i + 1) (zip es ks))
samples_more event flag es ks i e k sum more lt same so_far read here =
    let pair : Counted × Bool = (e, k) in
    let within : i < length (zip es ks) = omega (arith, length-zip es ks) in
    let at : get_or (zip es ks) i pair ≡ paired (get_or es i e) (get_or ks i k) = get_or-zip es ks i pair lt (omega arith) in
    let step = sum_by_more (samples_of event flag) (zip es ks) i pair within in
    let value : samples_of event flag (get_or (zip es ks) i pair) ≡ more =
    ap (samples_of event flag) (at ∙ ap (λ (x : Counted). paired x (get_or ks i k)) (sym read)) ∙ sym here in
    omega (arith, step, so_far, value)

pub samples_whole : (event : Event) (flag : Bool) (es : List Counted) (ks : List Bool) (i sum : ℕ) → i ≡ length es → length ks ≡ length es → sum ≡ sum_by (samples_of event flag) (take i (zip es ks)) → sum ≡ sum_by (samples_of event flag) (zip es ks)
samples_whole event flag es ks i sum whole same so_far =
    let all : take i (zip es ks) ≡ zip es ks = take_all i (zip es ks) (omega (arith, length-zip es ks)) in
    so_far ∙ ap (λ (ps : List (Counted × Bool)). sum_by (samples_of event flag) ps) all

-- one more row of a processor
pub rows_more : (r : Recorded) (cpu : ℕ) (i : ℕ) (d : Event) (old now new : List TallyRow) → i < length all_events → now ≡ old ++ filter has_samples (map (row_of r cpu) (take i all_events))
    → new ≡ now ++ filter has_samples (row_of r cpu (get_or all_events i d) ∷ []) → new ≡ old ++ filter has_samples (map (row_of r cpu) (take (i + 1) all_events))
rows_more r cpu i d old now new lt so_far here =
    let event = get_or all_events i d in
    let before = map (row_of r cpu) (take i all_events) in
    let rows : map (row_of r cpu) (take (i + 1) all_events) ≡ before ++ row_of r cpu event ∷ [] =
    ap (λ (es : List Event). map (row_of r cpu) es) (take_more all_events i d lt) ∙ map_push (row_of r cpu) (take i all_events) event in
    let kept : filter has_samples (map (row_of r cpu) (take (i + 1) all_events)) ≡ filter has_samples before ++ filter has_samples (row_of r cpu event ∷ []) =
    ap (λ (rs : List TallyRow). filter has_samples rs) rows ∙ filter-append has_samples before (row_of r cpu event ∷ []) in
    here ∙ ap (λ (rs : List TallyRow). rs ++ filter has_samples (row_of r cpu event ∷ [])) so_far
    ∙ append_assoc old (filter has_samples before) (filter has_samples (row_of r cpu event ∷ []))
    ∙ ap (λ (rs : List TallyRow). old ++ rs) (sym kept)

-- the rows of no processor, and of one more
pub rows_of-zero : (r : Recorded) → rows_of r 0 ≡ []
unfolding rows_of
rows_of-zero r = refl

pub rows_of-more : (r : Recorded) (cpus : ℕ) → rows_of r (cpus + 1) ≡ rows_of r cpus ++ processor_rows r cpus
unfolding rows_of
rows_of-more r cpus = rw add-one refl
