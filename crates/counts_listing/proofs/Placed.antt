-- Rows of a head beside their profiles, one step on.
use Rattle.std.proofs.Common.{◌≡◌, ℕ, ◌+◌, ◌<◌, ◌≤◌, List, [], ◌∷◌, ◌++◌, map, length, drop, get_or, refl, sym, ap, ◌∙◌}
use Rattle.std.specs.List.{AllByRecursion}
use Rattle.std.proofs.lemmas.List.{append_assoc, append-nil, at_drop_more, at_drop_all}
use Rattle.trace_model.specs.declared.count_lists.KnownCount.{KnownCount}
use Rattle.trace_model.specs.declared.count_lists.UnknownCount.{UnknownCount}
use Rattle.trace_model.specs.Counting.{Row, Rises, known_row, unknown_row}
use Rattle.database_model.specs.declared.profiles.ProfileRow.{ProfileRow}
use Rattle.database_state.specs.declared.rows.KnownRow.{KnownRow}
use Rattle.database_state.specs.declared.rows.UnknownRow.{UnknownRow}
use Rattle.direct_counts.proofs.Rows.{Leads, rises_from, rises_first, rises_leads, rises_rest}
use Rattle.counts_listing.specs.Sections.{Section, event_at, section_at, sections_at, unknown_listed, unknown_rows}

pub next_here : {R Y : Type 0} (F : List R → Y) (rows : List R) (row : R) (i : ℕ) → i < length rows → row ≡ get_or rows i row → F (drop i rows) ≡ F (row ∷ drop (i + 1) rows)
next_here {R} F rows row i within here = at_drop_more F rows i row within ∙ ap (λ (x : R). F (x ∷ drop (i + 1) rows)) (sym here)

-- a function of both lists, one step on
both_next : {R P Y : Type 0} (F : List R → List P → Y) (rows : List R) (profiles : List P) (row : R) (profile : P) (i : ℕ) → i < length rows → i < length profiles → row ≡ get_or rows i row → profile ≡ get_or profiles i profile → F (drop i rows) (drop i profiles) ≡ F (row ∷ drop (i + 1) rows) (profile ∷ drop (i + 1) profiles)
both_next F rows profiles row profile i within also here there =
    next_here (λ l. F l (drop i profiles)) rows row i within here ∙ next_here (λ l. F (row ∷ drop (i + 1) rows) l) profiles profile i also there

pub section_placed : (names : List (List ℕ)) (rows : List KnownRow) (profiles : List (List ProfileRow)) (row : KnownRow) (profile : List ProfileRow) (i : ℕ) (done whole : List Section) → i < length rows → i < length profiles → row ≡ get_or rows i row → profile ≡ get_or profiles i profile
    → done ++ sections_at names (drop i rows) (drop i profiles) ≡ whole → (done ++ section_at names row profile ∷ []) ++ sections_at names (drop (i + 1) rows) (drop (i + 1) profiles) ≡ whole
section_placed names rows profiles row profile i done whole within also here there before =
    append_assoc done (section_at names row profile ∷ []) (sections_at names (drop (i + 1) rows) (drop (i + 1) profiles))
    ∙ ap (λ (l : List Section). done ++ l) (sym (both_next (sections_at names) rows profiles row profile i within also here there)) ∙ before

pub all_placed : (names : List (List ℕ)) (rows : List KnownRow) (profiles : List (List ProfileRow)) (i : ℕ) (done whole : List Section) → length rows ≤ i → done ++ sections_at names (drop i rows) (drop i profiles) ≡ whole → done ≡ whole
all_placed names rows profiles i done whole past before =
    sym (append-nil done) ∙ ap (λ (l : List Section). done ++ l) (sym (at_drop_all (λ l. sections_at names l (drop i profiles)) rows i past)) ∙ before

pub push_all : {X : Type 0} (P : X → Type 0) (xs : List X) (x : X) → AllByRecursion P xs → P x → AllByRecursion P (xs ++ x ∷ [])
push_all P [] x all this = (this, tt)
push_all P (y ∷ xs) x all this = (all.0, push_all P xs x all.1 this)

pub unknown_placed : (rows : List UnknownRow) (profiles : List (List ProfileRow)) (row : UnknownRow) (profile : List ProfileRow) (i : ℕ) (old new whole : List Row) → i < length rows → i < length profiles → row ≡ get_or rows i row → profile ≡ get_or profiles i profile
    → new ≡ old ++ unknown_rows row.epoch (event_at row.event) profile → old ++ unknown_listed (drop i rows) (drop i profiles) ≡ whole → new ++ unknown_listed (drop (i + 1) rows) (drop (i + 1) profiles) ≡ whole
unknown_placed rows profiles row profile i old new whole within also here there is before =
    ap (λ (l : List Row). l ++ unknown_listed (drop (i + 1) rows) (drop (i + 1) profiles)) is
    ∙ append_assoc old (unknown_rows row.epoch (event_at row.event) profile) (unknown_listed (drop (i + 1) rows) (drop (i + 1) profiles))
    ∙ ap (λ (l : List Row). old ++ l) (sym (both_next unknown_listed rows profiles row profile i within also here there)) ∙ before

pub unknown_done : (rows : List UnknownRow) (profiles : List (List ProfileRow)) (i : ℕ) (done whole : List Row) → length rows ≤ i → done ++ unknown_listed (drop i rows) (drop i profiles) ≡ whole → done ≡ whole
unknown_done rows profiles i done whole past before =
    sym (append-nil done) ∙ ap (λ (l : List Row). done ++ l) (sym (at_drop_all (λ l. unknown_listed l (drop i profiles)) rows i past)) ∙ before

-- known counts, and unknown ones behind them
pub rises_both : (known : List KnownCount) (unknown : List UnknownCount) → Rises (map known_row known) → Rises (map unknown_row unknown) → Rises (map known_row known ++ map unknown_row unknown)
rises_both [] unknown first second = second
rises_both (count ∷ known) unknown first second =
    rises_from (known_row count) (map known_row known ++ map unknown_row unknown) (rises_first (known_row count) (map known_row known) first) (leads known unknown (rises_leads (known_row count) (map known_row known) first)) (rises_both known unknown (rises_rest (known_row count) (map known_row known) first) second)
  where
    leads : (rest : List KnownCount) (others : List UnknownCount) → Leads (known_row count).spot (map known_row rest) → Leads (known_row count).spot (map known_row rest ++ map unknown_row others)
    leads [] [] h = tt
    leads [] (other ∷ others) h = refl
    leads (next ∷ rest) others h = h
