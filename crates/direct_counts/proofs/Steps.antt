-- The steps of a walk over the lines of a trace.
use Rattle.std.proofs.Common.{◌≡◌, ℕ, suc, ◌+◌, ◌^◌, ◌<◌, ◌≤◌, true, cond, if◌then◌else◌, List, [], ◌∷◌, ◌++◌, length, map, refl, ap, sym, ◌∙◌, arith, Result, Ok, Err, OnOk}
use Rattle.std.specs.Prelude.{unwrap_or}
use Rattle.std.specs.declared.option.Option.{Option}
use Rattle.std.specs.declared.option.Option.TheVariants.{Some, None}
use Rattle.std.specs.List.{count_by}
use Rattle.std.specs.Map.{lookup}
use Rattle.std.proofs.lemmas.List.{append_assoc, length_push}
use Rattle.std.proofs.lemmas.List.Sums.{count_by-le-length}
use Rattle.sample_key.specs.declared.keys.Key.{Key}
use Rattle.load_map.specs.declared.maps.LoadMap.{LoadMap}
use Rattle.load_map.specs.Maps.{Applies, Finds, StandsFor}
use Rattle.trace_model.specs.declared.notices.Line.{Line}
use Rattle.trace_model.specs.declared.notices.Line.TheVariants.{Sample, Rec}
use Rattle.trace_model.specs.declared.notices.Place.{Place}
use Rattle.trace_model.specs.declared.notices.Record.{Record}
use Rattle.trace_model.specs.declared.recordings.Trace.{Trace}
use Rattle.trace_model.specs.Attribution.{place_after}
use Rattle.trace_model.specs.Counting.{Spot, same_spot, spot_at, spots_from, spots_in}
use Rattle.trace_model.specs.Counting as counting
use Rattle.trace_model.specs.Parts.{begins_epoch, epoch_after}
use Rattle.trace_model.specs.Recording.{HasImage, keeps_ranges, line_said, record_said, step_said}
use Rattle.trace_model.specs.Traces.{recording_of}
use Rattle.trace_model.specs.Said.{LongHeader, Ended, is_part_end}
use Rattle.direct_counts.specs.declared.ranks.Ranking.{Ranking}
use Rattle.direct_counts.specs.declared.sites.Site.{Site}
use Rattle.direct_counts.specs.declared.walks.Walk.{Walk}
use Rattle.direct_counts.specs.Ranks.{AreRanks}
use Rattle.direct_counts.specs.Sites.{CountsOne, HasRank, IsRanked, Tallies, site_at, spot_shown}
use Rattle.direct_counts.specs.Walks.{CanTake, IsWalk, Takes, Walks}
use Rattle.direct_counts.proofs.Goods.{Passes, good_first, good_rest, keeps, epoch_fits, epoch_ends}
use Rattle.direct_counts.proofs.Naming.{own_more, kernel_more, place_has}
use Rattle.direct_counts.proofs.Rows.{count_push}
use Rattle.direct_counts.proofs.Sorting.{site_eq}
use Rattle.direct_counts.proofs.Tallying.{good_of, lookup_most, put_tallies}

grows : (e c n k : ℕ) → e ≤ c → n ≡ c + k → e ≤ n
grows e c n k h p = omega arith

shorter : (d n l : ℕ) → n ≡ d + 1 → d + suc l < 2 ^ 64 → n + l < 2 ^ 64
shorter d n l p h = omega arith

less_left : (d l : ℕ) → d + suc l < 2 ^ 64 → d + l < 2 ^ 64
less_left d l h = omega arith

-- the site of a place of a good trace
rank_there : (images names : List (List ℕ)) (ranks : List ℕ) (place : Option Place) → AreRanks images names ranks → HasImage images place → HasRank ranks place
rank_there images names ranks None are h = tt
rank_there images names ranks (Some place) are h = rw are.many h

ranked_there : (images names : List (List ℕ)) (ranks : List ℕ) (epoch : ℕ) (key : Key) (place : Option Place) → AreRanks images names ranks → HasImage images place → IsRanked names (site_at epoch ranks key place)
ranked_there images names ranks epoch key None are h = tt
ranked_there images names ranks epoch key (Some place) are h = are.rank place.image h

shown_there : (images names : List (List ℕ)) (ranks : List ℕ) (epoch : ℕ) (key : Key) (place : Option Place) → AreRanks images names ranks → HasImage images place → spot_shown names (site_at epoch ranks key place) ≡ spot_at epoch images key place
shown_there images names ranks epoch key None are h = refl
shown_there images names ranks epoch key (Some place) are h = ap (λ (name : List ℕ). counting.Known epoch name key.event place.offset) (are.named place.image h)

has_image : (images : List (List ℕ)) (walk : Walk) (all : List Spot) (left : List Line) → IsWalk images walk all left → (pid pc : ℕ) (place : Option Place) → Finds walk.mappings pid pc place → HasImage images place
has_image images walk all left w pid pc place h = rw (h w.records w.stands) (place_has images w.records pid pc (w.own pid pc) (w.kernel pc))

-- a sample has a rank to look up
pub may_rank : (walk : Walk) (line : Line) (pid pc : ℕ) (place : Option Place) → CanTake walk line → Finds walk.mappings pid pc place → HasRank walk.ranking.now.ranks.items place
may_rank walk line pid pc place can h = rank_there can.0 walk.ranking.now.names.items walk.ranking.now.ranks.items place can.3.are_ranks (has_image can.0 walk can.1 (line ∷ can.2) can.3 pid pc place h)

one_fits : (o : Option ℕ) (most : ℕ) → most + 1 < 2 ^ 64 → ((n : ℕ) → o ≡ Some n → n ≤ most) → unwrap_or o 0 + 1 < 2 ^ 64
one_fits None most h f = omega arith
one_fits (Some n) most h f = let below = f n refl in omega arith

within : (t k d l : ℕ) → t ≡ k → k ≤ d → d + suc l < 2 ^ 64 → t + 1 < 2 ^ 64
within t k d l p h s = omega arith

-- one more sample can be counted
pub may_count : (walk : Walk) (line : Line) (key : Key) (place : Option Place) (site : Site) → CanTake walk line → Finds walk.mappings key.pid key.pc place → site ≡ site_at walk.epoch walk.ranking.now.ranks.items key place → unwrap_or (lookup (site_eq site) walk.counts.entries) 0 + 1 < 2 ^ 64
may_count walk line key place site can finds is =
    let images = can.0 in
    let left = can.2 in
    let w = can.3 in
    let names = walk.ranking.now.names.items in
    let ranked : IsRanked names site = rw is (ranked_there images names walk.ranking.now.ranks.items walk.epoch key place w.are_ranks (has_image images walk can.1 (line ∷ left) w key.pid key.pc place finds)) in
    let spot = spot_shown names site in
    one_fits (lookup (site_eq site) walk.counts.entries) _
    (within _ (count_by (same_spot spot) w.done) (length w.done) (length left) (w.tallied.totals spot) (count_by-le-length (same_spot spot) w.done) w.short)
    (λ n found. lookup_most names site n walk.counts.entries ranked (good_of names walk.counts.entries w.done w.tallied) found)

-- a record passes
passed : (images : List (List ℕ)) (walk : Walk) (all : List Spot) (left : List Line) (entry : Record) (line : Line) → line ≡ Rec entry → (w : IsWalk images walk all (line ∷ left)) → Passes w.before (record_said images entry)
passed images walk all left entry line is w = good_first w.before (record_said images entry) (map (line_said images) left ++ w.rest) (rw is at w.good)

pub may_apply : (walk : Walk) (entry : Record) (line : Line) → line ≡ Rec entry → CanTake walk line → keeps_ranges entry ≡ true
may_apply walk entry line is can = keeps can.3.before can.0 entry (passed can.0 walk can.1 can.2 entry line is can.3)

small : (e c : ℕ) → e ≤ c → c < 1024 → e + 1 < 2 ^ 32
small e c h k = omega arith

pub may_begin : (walk : Walk) (entry : Record) (line : Line) → line ≡ Rec entry → CanTake walk line → begins_epoch entry ≡ true → walk.epoch + 1 < 2 ^ 32
may_begin walk entry line is can h = small walk.epoch (count_by is_part_end can.3.before) can.3.epochs (epoch_fits can.3.before can.0 entry (passed can.0 walk can.1 can.2 entry line is can.3) h)

-- a sample was counted
pub sample_taken : {T F : Type 0} (r : Result T F) (before after : Walk) (line : Line) (cpu : ℕ) (key : Key) (place : Option Place) (site : Site)
    → line ≡ Sample cpu key → Finds before.mappings key.pid key.pc place → site ≡ site_at before.epoch before.ranking.now.ranks.items key place
    → after.ranking.now ≡ before.ranking.now → after.mappings ≡ before.mappings → after.epoch ≡ before.epoch
    → OnOk r (CountsOne site_eq before.counts after.counts site) → OnOk r (Takes before line after)
sample_taken (Err e) before after line cpu key place site is finds site_is ranking mappings epoch counts = counts
sample_taken (Ok t) before after line cpu key place site is finds site_is ranking mappings epoch counts = λ images all left w.
    let names = before.ranking.now.names.items in
    let ranks = before.ranking.now.ranks.items in
    let there = has_image images before all (line ∷ left) w key.pid key.pc place finds in
    let x = spot_shown names site in
    let said = line_said images (Sample cpu key) in
    let good = rw is at w.good in
    let spot : x ≡ spot_at (epoch_after 0 w.records) images key (place_after w.records key.pid key.pc) =
    ap (spot_shown names) site_is ∙ (shown_there images names ranks before.epoch key place w.are_ranks there
    ∙ (ap (λ (n : ℕ). spot_at n images key place) w.epoch_is ∙ ap (λ (o : Option Place). spot_at (epoch_after 0 w.records) images key o) (finds w.records w.stands))) in (
      ranking,
      rw (ranking, mappings, epoch) (record {
        before = w.before ++ said ∷ [];
        rest = w.rest;
        records = w.records;
        done = w.done ++ x ∷ [];
        are_ranks = w.are_ranks;
        good = good_rest w.before said (map (line_said images) left ++ w.rest) good;
        stands = w.stands;
        own = w.own;
        kernel = w.kernel;
        epoch_is = w.epoch_is;
        epochs = grows before.epoch (count_by is_part_end w.before) (count_by is_part_end (w.before ++ said ∷ [])) (cond (is_part_end said) 1 0) w.epochs (count_push is_part_end w.before said);
        tallied = put_tallies names site before.counts after.counts w.done (rw site_is (ranked_there images names ranks before.epoch key place w.are_ranks there)) counts w.tallied;
        whole = w.whole ∙ (ap (λ (l : Line). w.done ++ spots_from 0 images w.records (l ∷ left)) is
            ∙ (ap (λ (s : Spot). w.done ++ (s ∷ spots_from 0 images w.records left)) (sym spot) ∙ sym (append_assoc w.done (x ∷ []) (spots_from 0 images w.records left))));
        short = shorter (length w.done) (length (w.done ++ x ∷ [])) (length left) (length_push w.done x) w.short;
      }),
    )

epoch_next : (e c n b : ℕ) → e ≡ 0 + c → n ≡ c + b → e + b ≡ 0 + n
epoch_next e c n b h k = omega arith

epoch_least : (e c n b k : ℕ) → e ≤ c → b ≤ k → n ≡ c + k → e + b ≤ n
epoch_least e c n b k h l p = omega arith

-- a record was applied
pub record_taken : (before after : Walk) (line : Line) (entry : Record) → line ≡ Rec entry → Applies before.mappings entry after.mappings
    → after.ranking.now ≡ before.ranking.now → after.epoch ≡ before.epoch + (if begins_epoch entry then 1 else 0) → after.counts ≡ before.counts → Takes before line after
record_taken before after line entry is applies ranking epoch counts images all left w =
    let said = record_said images entry in
    let more = map (line_said images) left ++ w.rest in
    let good = rw is at w.good in
    let p = good_first w.before said more good in (
      ranking,
      rw (ranking, epoch, counts) (record {
        before = w.before ++ said ∷ [];
        rest = w.rest;
        records = w.records ++ entry ∷ [];
        done = w.done;
        are_ranks = w.are_ranks;
        good = good_rest w.before said more good;
        stands = applies w.records w.stands;
        own = own_more images w.records entry p.titled w.own;
        kernel = kernel_more images w.records entry p.titled w.kernel;
        epoch_is = epoch_next before.epoch (count_by begins_epoch w.records) (count_by begins_epoch (w.records ++ entry ∷ [])) (cond (begins_epoch entry) 1 0) w.epoch_is (count_push begins_epoch w.records entry);
        epochs = epoch_least before.epoch (count_by is_part_end w.before) (count_by is_part_end (w.before ++ said ∷ [])) (cond (begins_epoch entry) 1 0) (cond (is_part_end said) 1 0) w.epochs (epoch_ends images entry) (count_push is_part_end w.before said);
        tallied = w.tallied;
        whole = w.whole ∙ ap (λ (l : Line). w.done ++ spots_from 0 images w.records (l ∷ left)) is;
        short = less_left (length w.done) (length left) w.short;
      }),
    )

-- before the first line of a trace
pub begun : (t : Trace) (walk : Walk) (lines : List Line) → AreRanks t.images.items walk.ranking.now.names.items walk.ranking.now.ranks.items → lines ≡ t.lines.items → StandsFor walk.mappings [] → walk.epoch ≡ 0 → walk.counts.entries ≡ [] → length lines < 2 ^ 64 → IsWalk t.images.items walk (spots_in (recording_of t) 0) lines
begun t walk lines are_ranks lines_is stands epoch_is entries_is short =
    let header = LongHeader t.cpus t.buckets t.buffer in
    let rest = Ended ∷ map step_said t.schedule.items in
    rw (epoch_is, entries_is) (record {
      before = header ∷ [];
      rest = rest;
      records = [];
      done = [];
      are_ranks = are_ranks;
      good = rw lines_is (good_rest [] header (map (line_said t.images.items) t.lines.items ++ rest) t.good);
      stands = stands;
      own = λ pid pc. tt;
      kernel = λ pc. tt;
      epoch_is = refl;
      epochs = omega arith;
      tallied = record { ranked = λ k d h. absurd (omega arith); some = λ k d h. absurd (omega arith); totals = λ spot. refl };
      whole = rw lines_is refl;
      short = omega (arith, short);
    })
