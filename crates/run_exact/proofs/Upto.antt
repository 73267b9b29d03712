-- At the exact pace the entries drained by a position are, key by key, the samples that were due there.
use Rattle.std.proofs.Common.{◌≡◌, ℕ, zero, suc, ◌+◌, ◌<◌, ◌≤◌, List, [], ◌∷◌, ◌++◌, take, refl, sym, ◌∙◌, ap, subst, arith, inl, inr, Bool, true, false, if◌then◌else◌, leb, leb-true, leb-false, le-leb}
use Rattle.std.proofs.lemmas.Bool.{cond-true, cond-false, lt-leb}
use Rattle.sample_key.specs.Bags.{once, weight, times, batched, batched_upto, lost_below}
use Rattle.sample_key.specs.Counted.{Counted, entry}
use Rattle.sample_key.specs.Marks.{due, RisesFrom}
use Rattle.sample_key.specs.Sent.{Sent}
use Rattle.sample_key.specs.declared.keys.Key.{Key}
use Rattle.sample_key.specs.declared.keys.Marked.{Marked}
use Rattle.sample_key.specs.declared.losses.Loss.{Loss}
use Rattle.driver_model.specs.Lists.{EachFrom, AllOf}
use Rattle.driver_model.specs.Invariant.{IsWholeFlush}
use Rattle.driver_laws.proofs.Marks.{due_later, due_none}
use Rattle.driver_laws.proofs.Weights.{weight-append, batched-push}
use Rattle.database_model.specs.Runs.{Drained}
use Rattle.run_model.specs.Daemon.{flush_before}
use Rattle.run_model.specs.Shares.{Share, batches_in}
use Rattle.run_model.specs.Validity.{IsDueAt, IsTakenInTime, answers_in}
use Rattle.run_laws.specs.Laws.{GoesUpToDue}
use Rattle.run_joins.proofs.Rising.{ClimbsFrom, IsAmong, among_above}

-- the entries of drains up to a position
abbrev pub entries_upto : ℕ → List Drained → List Counted
entries_upto most [] = []
entries_upto most (d ∷ ds) = (if leb d.at most then d.batch.entries else []) ++ entries_upto most ds

-- the samples with a mark up to a position, each as an entry of one
abbrev pub samples_upto : ℕ → List Marked → List Counted
samples_upto most [] = []
samples_upto most (s ∷ ss) = (if leb s.mark most then entry s.key 1 ∷ [] else []) ++ samples_upto most ss

weight_here : (key : Key) (most : ℕ) (d : Drained) (ds : List Drained) (t : Bool) → leb d.at most ≡ t
    → weight key (entries_upto most (d ∷ ds)) ≡ (if t then weight key d.batch.entries else 0) + weight key (entries_upto most ds)
weight_here key most d ds true e =
    ap (λ (z : List Counted). weight key (z ++ entries_upto most ds)) (cond-true (leb d.at most) d.batch.entries [] e)
    ∙ weight-append key d.batch.entries (entries_upto most ds)
weight_here key most d ds false e =
    ap (λ (z : List Counted). weight key (z ++ entries_upto most ds)) (cond-false (leb d.at most) d.batch.entries [] e) ∙ omega arith

-- no more than the batches that go up to the samples due there
upto_most : (key : Key) (most : ℕ) (samples : List Marked) (ds : List Drained) → AllOf (IsDueAt samples) ds
    → weight key (entries_upto most ds) ≤ batched_upto key (due samples most) (batches_in ds)
upto_most key most samples [] all = omega arith
upto_most key most samples (d ∷ ds) all = by_place (leb d.at most) refl (upto_most key most samples ds all.1)
  where
    count : ℕ
    count = due samples most

    by_place : (t : Bool) → leb d.at most ≡ t → weight key (entries_upto most ds) ≤ batched_upto key count (batches_in ds)
        → weight key (entries_upto most (d ∷ ds)) ≤ batched_upto key count (batches_in (d ∷ ds))
    by_place true e rest =
        let within : d.batch.note.upto ≤ count = omega (arith, all.0, due_later samples d.at most (leb-true d.at most e)) in
        let c : (if leb d.batch.note.upto count then weight key d.batch.entries else 0) ≡ weight key d.batch.entries =
        cond-true {A = ℕ} (leb d.batch.note.upto count) (weight key d.batch.entries) 0 (le-leb d.batch.note.upto count within) in
        omega (arith, weight_here key most d ds true e, c, rest)
    by_place false e rest = omega (arith, weight_here key most d ds false e, rest)

-- the first batches, all drained by then, count no more than what was drained by then
first_least : (key : Key) (most count : ℕ) (ds : List Drained) → AllOf (λ d. d.at ≤ most) (take count ds)
    → batched key (take count (batches_in ds)) ≤ weight key (entries_upto most ds)
first_least key most zero ds all = omega arith
first_least key most (suc count) [] all = omega arith
first_least key most (suc count) (d ∷ ds) all =
    omega (arith, weight_here key most d ds true (le-leb d.at most all.0), first_least key most count ds all.1)

-- the table batch that answers the flush of a position is a whole flush, and all of it was drained by then
flush_least : (key : Key) (most least : ℕ) (samples : List Marked) (first second : List Drained) (losses : List Loss) (done : List Sent) (third : List Drained) → losses ≡ []
    → EachFrom (IsWholeFlush samples (batches_in first) (batches_in second) losses) done (batches_in third) → AllOf (IsTakenInTime first second) third
    → AllOf (GoesUpToDue samples) third → ClimbsFrom least (answers_in third) → IsAmong (answers_in third) (flush_before most)
    → times key (take (due samples most) samples)
    ≤ batched key done + weight key (entries_upto most first) + weight key (entries_upto most second) + weight key (entries_upto most third)
flush_least key most least samples first second losses done [] none flushes times exact climbs some = absurd some
flush_least key most least samples first second losses done (t ∷ ts) none flushes in_time exact climbs (inl e) =
    let now : flush_before t.at ≡ flush_before most = sym in_time.0.now ∙ e in
    let here : t.at ≡ most = omega arith in
    let count : t.batch.note.upto ≡ due samples most = exact.0 ∙ ap (λ (n : ℕ). due samples n) here in
    let whole : times key (take t.batch.note.upto samples) ≡ times key (take (due samples most) samples) = ap (λ (n : ℕ). times key (take n samples)) count in
    let lost : lost_below key t.batch.note.upto samples losses ≡ 0 = ap (λ (z : List Loss). lost_below key t.batch.note.upto samples z) none in
    let before0 : AllOf (λ d. d.at ≤ most) (take t.batch.note.sent0 first) = subst (λ (n : ℕ). AllOf (λ d. d.at ≤ n) (take t.batch.note.sent0 first)) here in_time.0.before0 in
    let before1 : AllOf (λ d. d.at ≤ most) (take t.batch.note.sent1 second) = subst (λ (n : ℕ). AllOf (λ d. d.at ≤ n) (take t.batch.note.sent1 second)) here in_time.0.before1 in
    omega (
      arith,
      flushes.0.whole key,
      whole,
      lost,
      weight_here key most t ts true (le-leb t.at most (omega arith)),
      first_least key most t.batch.note.sent0 first before0,
      first_least key most t.batch.note.sent1 second before1,
    )
flush_least key most least samples first second losses done (t ∷ ts) none flushes in_time exact climbs (inr some) =
    let above : t.batch.note.answers + 1 ≤ flush_before most = among_above (t.batch.note.answers + 1) (flush_before most) (answers_in ts) climbs.1 some in
    let before : t.at ≤ most = omega (arith, in_time.0.now) in
    omega (
      arith,
      weight_here key most t ts true (le-leb t.at most before),
      batched-push key done t.batch,
      flush_least key most (t.batch.note.answers + 1) samples first second losses (done ++ t.batch ∷ []) ts none flushes.1 in_time.1 exact.1 climbs.1 some,
    )

-- samples by their marks are the first that were due
none_upto : (key : Key) (most least : ℕ) (ss : List Marked) → RisesFrom least ss → most < least → weight key (samples_upto most ss) ≡ 0
none_upto key most least [] rises later = refl
none_upto key most least (s ∷ ss) rises later =
    let no : leb s.mark most ≡ false = lt-leb s.mark most (omega (arith, rises.0)) in
    ap (λ (z : List Counted). weight key (z ++ samples_upto most ss)) (cond-false (leb s.mark most) (entry s.key 1 ∷ []) [] no)
    ∙ none_upto key most s.mark ss rises.1 (omega (arith, rises.0))

pub samples_due : (key : Key) (most least : ℕ) (ss : List Marked) → RisesFrom least ss → weight key (samples_upto most ss) ≡ times key (take (due ss most) ss)
samples_due key most least [] rises = refl
samples_due key most least (s ∷ ss) rises = by_mark (leb s.mark most) refl (samples_due key most s.mark ss rises.1)
  where
    by_mark : (t : Bool) → leb s.mark most ≡ t → weight key (samples_upto most ss) ≡ times key (take (due ss most) ss)
        → weight key (samples_upto most (s ∷ ss)) ≡ times key (take (due (s ∷ ss) most) (s ∷ ss))
    by_mark true e rest =
        let n : due (s ∷ ss) most ≡ suc (due ss most) = ap {B = ℕ} (λ (x : ℕ). x + due ss most) (cond-true {A = ℕ} (leb s.mark most) 1 0 e) ∙ omega arith in
        let w : weight key (samples_upto most (s ∷ ss)) ≡ once key s.key + weight key (samples_upto most ss) =
        ap (λ (z : List Counted). weight key (z ++ samples_upto most ss)) (cond-true (leb s.mark most) (entry s.key 1 ∷ []) [] e) in
        w ∙ ap (λ (x : ℕ). once key s.key + x) rest ∙ ap (λ (m : ℕ). times key (take m (s ∷ ss))) (sym n)
    by_mark false e rest =
        let late : most < s.mark = leb-false s.mark most e in
        let n : due (s ∷ ss) most ≡ 0 = omega (arith, cond-false {A = ℕ} (leb s.mark most) 1 0 e, due_none ss s.mark most rises.1 late) in
        let w : weight key (samples_upto most (s ∷ ss)) ≡ weight key (samples_upto most ss) =
        ap (λ (z : List Counted). weight key (z ++ samples_upto most ss)) (cond-false (leb s.mark most) (entry s.key 1 ∷ []) [] e) in
        w ∙ none_upto key most s.mark ss rises.1 late ∙ ap (λ (m : ℕ). times key (take m (s ∷ ss))) (sym n)

-- what a share drained by a position
abbrev pub share_upto : ℕ → Share → List Counted
share_upto most share = entries_upto most share.first ++ (entries_upto most share.second ++ entries_upto most share.third)

pub share_weight : (key : Key) (most : ℕ) (share : Share)
    → weight key (share_upto most share) ≡ weight key (entries_upto most share.first) + weight key (entries_upto most share.second) + weight key (entries_upto most share.third)
share_weight key most share = omega (
  arith,
  weight-append key (entries_upto most share.first) (entries_upto most share.second ++ entries_upto most share.third),
  weight-append key (entries_upto most share.second) (entries_upto most share.third),
)

pub most_due : (key : Key) (most : ℕ) (samples : List Marked) (ds : List Drained) → AllOf (IsDueAt samples) ds
    → weight key (entries_upto most ds) ≤ batched_upto key (due samples most) (batches_in ds)
most_due key most samples ds all = upto_most key most samples ds all

pub least_due : (key : Key) (most least : ℕ) (samples : List Marked) (share : Share) → share.losses ≡ []
    → EachFrom (IsWholeFlush samples (batches_in share.first) (batches_in share.second) share.losses) [] (batches_in share.third)
    → AllOf (IsTakenInTime share.first share.second) share.third → AllOf (GoesUpToDue samples) share.third → ClimbsFrom least (answers_in share.third)
    → IsAmong (answers_in share.third) (flush_before most)
    → times key (take (due samples most) samples) ≤ weight key (share_upto most share)
least_due key most least samples share none flushes in_time exact climbs some =
    omega (arith, share_weight key most share, flush_least key most least samples share.first share.second share.losses [] share.third none flushes in_time exact climbs some)
