-- What is known where threads are joined makes the record valid, and after a kept fault the drains of a run cut short.
use Rattle.std.proofs.Common.{◌≡◌, ℕ, ◌+◌, ◌%◌, ◌<◌, ◌≤◌, List, [], ◌∷◌, ◌++◌, length, take, drop, refl, sym, ◌∙◌, ap, subst, arith, inl, inr, ◌⊎◌, leb, leb-true, leb-false, append_assoc, length-append, length-take}
use Rattle.std.proofs.lemmas.Bool.{cond_both}
use Rattle.std.proofs.lemmas.List.{take-append-drop}
use Rattle.sample_key.specs.Bags.{batched, batched_upto, lost_below}
use Rattle.sample_key.specs.Sent.{Sent}
use Rattle.sample_key.specs.declared.keys.Key.{Key}
use Rattle.sample_key.specs.declared.losses.Loss.{Loss}
use Rattle.sample_key.specs.declared.losses.Pace.{Pace}
use Rattle.trace_model.specs.Recording.{Recording}
use Rattle.trace_model.specs.Streams.{stream_of, records_in}
use Rattle.trace_model.specs.declared.notices.Record.{Record}
use Rattle.driver_model.specs.Lists.{EachFrom, AllOf, SomeOf}
use Rattle.driver_model.specs.Table.{FitsTable}
use Rattle.driver_model.specs.Sides.{Side}
use Rattle.driver_model.specs.Driver.{Driver}
use Rattle.driver_model.specs.Invariant.{InOrder, FullOrCut}
use Rattle.driver_laws.proofs.Lists.{all_map, all_both}
use Rattle.driver_laws.proofs.Parts.{all_each}
use Rattle.database_model.specs.Runs.{Drained, Recorded}
use Rattle.run_model.specs.Daemon.{flush_before}
use Rattle.run_model.specs.Running.{setup_of}
use Rattle.run_model.specs.Shares.{Share, share_in, share_of, batches_in, AgreesWith}
use Rattle.run_model.specs.Validity.{AreDrains, answers_in, answers_owed, flushes_of, IsTakenInTime, IsValidShare, IsValidRun, IsPartialShare, IsPartialRun}
use Rattle.run_laws.proofs.Basics.{all_map_of}
use Rattle.run_laws.proofs.Owed.{answers_of, asked_before, flushes_append}
use Rattle.run_laws.proofs.Endings.{IsOver, valid_over, agrees_over, answers_same, drained_facts, bounded_all, times_take}
use Rattle.run_joins.specs.Joins.{IsAsked, Completes, IsJoined, IsCutShort, AreFirst, WasJoined, WasCutShort}
use Rattle.run_joins.proofs.Rising.{ClimbsFrom, IsAmong, among_above, same_climbs, front_climbs, answers_climb, flushes_climb}

-- what all have, one among them has
pub all_among : (P : ℕ → Type 0) (xs : List ℕ) (x : ℕ) → AllOf P xs → IsAmong xs x → P x
all_among P [] x all some = absurd some
all_among P (y ∷ xs) x all (inl e) = subst P e all.0
all_among P (y ∷ xs) x all (inr some) = all_among P xs x all.1 some

-- a flush that is complete was answered
some_answers : (first second : List Drained) (value : ℕ) (third : List Drained) → SomeOf (Completes first second value) third → IsAmong (answers_in third) value
some_answers first second value [] some = absurd some
some_answers first second value (t ∷ ts) (inl c) = inl c.answers
some_answers first second value (t ∷ ts) (inr some) = inr (some_answers first second value ts some)

-- each table batch that answers one of these flushes completes it
complete_each : (first second : List Drained) (least : ℕ) (values : List ℕ) (third : List Drained) → ClimbsFrom least (answers_in third)
    → ((x : ℕ) → IsAmong values x → least ≤ x → SomeOf (Completes first second x) third)
    → AllOf (λ t. IsAmong values t.batch.note.answers → Completes first second t.batch.note.answers t) third
complete_each first second least values [] climbs complete = tt
complete_each first second least values (t ∷ ts) climbs complete = (
  (λ some. elim (complete t.batch.note.answers some climbs.0) as (λ z. Completes first second t.batch.note.answers t) [
    | inl c ↦ c
    | inr later ↦ absurd (omega (
      arith,
      among_above (t.batch.note.answers + 1) t.batch.note.answers (answers_in ts) climbs.1
          (some_answers first second t.batch.note.answers ts later),
    ))
  ]),
  complete_each first second (t.batch.note.answers + 1) values ts climbs.1 (λ x some low.
      elim (complete x some (omega (arith, climbs.0))) as (λ z. SomeOf (Completes first second x) ts) [
        | inl c ↦ absurd (omega (arith, c.answers))
        | inr later ↦ later
      ]),
)

-- what table batches answer is owed
each_owed : (pace : Pace) (records : List Record) (third : List Drained) → AllOf (IsAsked pace records) third → AllOf (λ t. t.batch.note.answers % 2 ≡ 1) third
    → AllOf (λ t. IsAmong (answers_owed pace records) t.batch.note.answers) third
each_owed pace records third asked odd =
    all_both (IsAsked pace records) (λ t. t.batch.note.answers % 2 ≡ 1) (λ t. IsAmong (answers_owed pace records) t.batch.note.answers) (λ t a o. a.owed o) third asked odd

among_owed : (P : ℕ → Type 0) (third : List Drained) (x : ℕ) → AllOf (λ t. P t.batch.note.answers) third → IsAmong (answers_in third) x → P x
among_owed P [] x all some = absurd some
among_owed P (t ∷ ts) x all (inl e) = subst P e all.0
among_owed P (t ∷ ts) x all (inr some) = among_owed P ts x all.1 some

-- a table batch that completes its flush was taken in time
in_time : (pace : Pace) (records : List Record) (first second : List Drained) (t : Drained) → Completes first second t.batch.note.answers t → IsAsked pace records t
    → IsTakenInTime first second t
in_time pace records first second t complete asked = record {
  now = omega (arith, asked.by_then, complete.at);
  before0 = all_map (λ e. flush_before e.at ≤ t.batch.note.answers) (λ e. e.at ≤ t.at) (λ e h. omega (arith, asked.by_then)) (take t.batch.note.sent0 first) complete.before0;
  before1 = all_map (λ e. flush_before e.at ≤ t.batch.note.answers) (λ e. e.at ≤ t.at) (λ e h. omega (arith, asked.by_then)) (take t.batch.note.sent1 second) complete.before1;
}

-- what is owed climbs
pub owed_climbs : (pace : Pace) (records : List Record) → ClimbsFrom 0 (answers_owed pace records)
owed_climbs pace records = flushes_climb pace 0 0 records (flush_before (length records)) (omega arith) (omega arith)

-- one processor
pub joined_share : (pace : Pace) (trace : Recording) (cpu : ℕ) (driver : Driver) (side : Side) (share : Share) → IsJoined pace trace cpu driver side share
    → IsValidShare pace trace (stream_of cpu trace) share × AgreesWith (length (stream_of cpu trace)) share driver.stats
joined_share pace trace cpu driver side share joined =
    let records = records_in trace in
    let owed = answers_owed pace records in
    let third = share.third in
    let handed_climb : ClimbsFrom 0 (answers_of side.third.handed) = answers_climb 0 [] side.third.handed (λ b h. omega arith) joined.lane.answers_rise.rise in
    let same : answers_in third ≡ answers_of side.third.handed = answers_same third ∙ ap {B = List ℕ} (λ (z : List Sent). answers_of z) joined.all2 in
    let climbs : ClimbsFrom 0 (answers_in third) = subst (λ (z : List ℕ). ClimbsFrom 0 z) (sym same) handed_climb in
    let odd : AllOf (λ t. t.batch.note.answers % 2 ≡ 1) third =
    drained_facts (λ b. b.note.answers % 2 ≡ 1) third side.third.handed joined.all2
    (all_each (λ done b. (b.note.answers % 2 ≡ 1) × AllOf (λ a. a.note.answers < b.note.answers) done) (λ b. b.note.answers % 2 ≡ 1) (λ done b h. h.0) [] side.third.handed joined.lane.answers_rise.rise) in
    let all_owed : AllOf (λ t. IsAmong owed t.batch.note.answers) third = each_owed pace records third joined.collected.asked odd in
    let complete : (x : ℕ) → IsAmong owed x → SomeOf (Completes share.first share.second x) third =
    λ x some. all_among (λ y. SomeOf (Completes share.first share.second y) third) owed x joined.collected.complete some in
    let answers : answers_in third ≡ owed =
    same_climbs 0 (answers_in third) owed climbs (owed_climbs pace records)
    (λ x some. among_owed (λ y. IsAmong owed y) third x all_owed some)
    (λ x some. some_answers share.first share.second x third (complete x some)) in
    let each : AllOf (λ t. IsAmong owed t.batch.note.answers → Completes share.first share.second t.batch.note.answers t) third =
    complete_each share.first share.second 0 owed third climbs (λ x some low. complete x some) in
    let own : AllOf (λ t. Completes share.first share.second t.batch.note.answers t) third =
    all_both (λ t. IsAmong owed t.batch.note.answers → Completes share.first share.second t.batch.note.answers t) (λ t. IsAmong owed t.batch.note.answers)
    (λ t. Completes share.first share.second t.batch.note.answers t) (λ t f a. f a) third each all_owed in
    let over : IsOver (setup_of pace trace cpu) driver side share = record {
      lane = joined.lane;
      end = joined.lane.closed.end joined.done;
      losses = joined.losses;
      all0 = joined.all0;
      all1 = joined.all1;
      all2 = joined.all2;
    } in (
      valid_over pace trace cpu driver side share joined.buckets joined.due0 joined.due1 joined.due2
          (record {
            answers = answers;
            times = all_both (λ t. Completes share.first share.second t.batch.note.answers t) (IsAsked pace records) (IsTakenInTime share.first share.second)
                (λ t c a. in_time pace records share.first share.second t c a) third own joined.collected.asked;
          }) over,
      agrees_over (setup_of pace trace cpu) driver side share over,
    )

-- the record of all
pub joined_run : (pace : Pace) (trace : Recording) (kept : Recorded) → length kept.losses ≡ trace.cpus → AreDrains trace kept.first_epoch kept.drains
    → ((cpu : ℕ) → cpu < trace.cpus → WasJoined pace trace cpu (share_of kept cpu)) → IsValidRun pace trace kept
joined_run pace trace kept count drains joined = record {
  processors = count;
  drains = drains;
  shares = λ cpu within. let j = joined cpu within in (joined_share pace trace cpu j.0 j.1 (share_of kept cpu) j.2).0;
}

-- the first of a list of batches count no more than all
part_weighs : (key : Key) (xs rest : List Sent) → batched key xs ≤ batched key (xs ++ rest)
part_weighs key [] rest = omega arith
part_weighs key (b ∷ xs) rest = omega (arith, part_weighs key xs rest)

part_upto : (key : Key) (count : ℕ) (xs rest : List Sent) → batched_upto key count xs ≤ batched_upto key count (xs ++ rest)
part_upto key count [] rest = omega arith
part_upto key count (b ∷ xs) rest = omega (arith, part_upto key count xs rest)

each_part : {A : Type 0} (P : List A → A → Type 0) (done xs rest : List A) → EachFrom P done (xs ++ rest) → EachFrom P done xs
each_part P done [] rest h = tt
each_part P done (x ∷ xs) rest h = (h.0, each_part P (done ++ x ∷ []) xs rest h.1)

all_part : {A : Type 0} (P : A → Type 0) (xs rest : List A) → AllOf P (xs ++ rest) → AllOf P xs
all_part P [] rest h = tt
all_part P (x ∷ xs) rest h = (h.0, all_part P xs rest h.1)

-- what is so of the batches handed is so of those drained first
first_weighs : (key : Key) (drains : List Drained) (handed : List Sent) → AreFirst drains handed → batched key (batches_in drains) ≤ batched key handed
first_weighs key drains handed first = subst (λ (z : List Sent). batched key (batches_in drains) ≤ batched key z) first.1 (part_weighs key (batches_in drains) first.0)

first_upto : (key : Key) (count : ℕ) (drains : List Drained) (handed : List Sent) → AreFirst drains handed → batched_upto key count (batches_in drains) ≤ batched_upto key count handed
first_upto key count drains handed first =
    subst (λ (z : List Sent). batched_upto key count (batches_in drains) ≤ batched_upto key count z) first.1 (part_upto key count (batches_in drains) first.0)

first_order : (drains : List Drained) (handed : List Sent) → AreFirst drains handed → InOrder handed → InOrder (batches_in drains)
first_order drains handed first order =
    each_part (λ done b. (b.note.number ≡ length done + 1) × AllOf (λ a. a.note.upto ≤ b.note.upto) done) [] (batches_in drains) first.0
    (subst (λ (z : List Sent). InOrder z) (sym first.1) order)

first_facts : (P : Sent → Type 0) (drains : List Drained) (handed : List Sent) → AreFirst drains handed → AllOf P handed → AllOf (λ d. P d.batch) drains
first_facts P drains handed first all =
    drained_facts P drains (batches_in drains) refl (all_part P (batches_in drains) first.0 (subst (λ (z : List Sent). AllOf P z) (sym first.1) all))

-- a member of two lists is of one of them
pub among_split : (xs ys : List ℕ) (x : ℕ) → IsAmong (xs ++ ys) x → IsAmong xs x ⊎ IsAmong ys x
among_split [] ys x some = inr some
among_split (y ∷ xs) ys x (inl e) = inl (inl e)
among_split (y ∷ xs) ys x (inr some) = elim (among_split xs ys x some) as (λ z. IsAmong (y ∷ xs) x ⊎ IsAmong ys x) [ inl a ↦ inl (inr a) | inr b ↦ inr b ]

-- what is owed below a flush was asked for before it
owed_early : (pace : Pace) (records : List Record) (applied x : ℕ) → applied ≤ length records → IsAmong (answers_owed pace records) x → x < flush_before applied
    → IsAmong (asked_before pace records applied) x
owed_early pace records applied x within some low =
    let number = 0 + length (take applied records) in
    let more = flushes_of pace number (drop applied records) in
    let close = flush_before (length records) ∷ [] in
    let size : length (take applied records) ≡ applied = omega (arith, length-take applied records) in
    let whole : take applied records ++ drop applied records ≡ records = take-append-drop applied records in
    let sizes : length (take applied records) + length (drop applied records) ≡ length records =
    sym (length-append (take applied records) (drop applied records)) ∙ ap length whole in
    let split : asked_before pace records applied ++ (more ++ close) ≡ answers_owed pace records =
    sym (append_assoc (asked_before pace records applied) more close)
    ∙ ap {B = List ℕ} (λ (z : List ℕ). z ++ close) (sym (flushes_append pace 0 (take applied records) (drop applied records)))
    ∙ ap {B = List ℕ} (λ (z : List Record). flushes_of pace 0 z ++ close) whole in
    let climbs : ClimbsFrom (flush_before applied) (more ++ close) =
    flushes_climb pace (flush_before applied) number (drop applied records) (flush_before (length records)) (omega arith) (omega arith) in
    elim (among_split (asked_before pace records applied) (more ++ close) x (subst (λ (z : List ℕ). IsAmong z x) (sym split) some)) as (λ z. IsAmong (asked_before pace records applied) x) [
      | inl a ↦ a
      | inr b ↦ absurd (omega (arith, among_above (flush_before applied) x (more ++ close) climbs b))
    ]

-- a table batch that was drained before the fault answers the flush of its position
answers_now : (pace : Pace) (records : List Record) (applied : ℕ) (first second : List Drained) (t : Drained) → applied ≤ length records → t.at ≤ applied
    → IsAsked pace records t → IsAmong (answers_owed pace records) t.batch.note.answers
    → (IsAmong (asked_before pace records applied) t.batch.note.answers → Completes first second t.batch.note.answers t)
    → t.batch.note.answers ≡ flush_before t.at
answers_now pace records applied first second t within before asked owed complete =
    cond_both (leb (flush_before applied) t.batch.note.answers) tt tt (λ (z : Unit {0}). t.batch.note.answers ≡ flush_before t.at)
    (λ e. omega (arith, leb-true (flush_before applied) t.batch.note.answers e, asked.by_then))
    (λ e. let c = complete (owed_early pace records applied t.batch.note.answers within owed (leb-false (flush_before applied) t.batch.note.answers e)) in
    omega (arith, asked.by_then, c.at))

now_all : (pace : Pace) (records : List Record) (applied : ℕ) (first second third : List Drained) → applied ≤ length records
    → AllOf (λ t. t.at ≤ applied) third → AllOf (IsAsked pace records) third → AllOf (λ t. IsAmong (answers_owed pace records) t.batch.note.answers) third
    → AllOf (λ t. IsAmong (asked_before pace records applied) t.batch.note.answers → Completes first second t.batch.note.answers t) third
    → AllOf (λ t. t.batch.note.answers ≡ flush_before t.at) third
now_all pace records applied first second [] within before asked owed complete = tt
now_all pace records applied first second (t ∷ ts) within before asked owed complete = (
  answers_now pace records applied first second t within before.0 asked.0 owed.0 complete.0,
  now_all pace records applied first second ts within before.1 asked.1 owed.1 complete.1,
)

-- one processor of a run that kept a fault
pub cut_share : (pace : Pace) (trace : Recording) (cpu applied : ℕ) (driver : Driver) (side : Side) (share : Share) → IsCutShort pace trace cpu applied driver side share
    → IsPartialShare pace trace (stream_of cpu trace) share
cut_share pace trace cpu applied driver side share cut =
    let samples = stream_of cpu trace in
    let setup = setup_of pace trace cpu in
    let records = records_in trace in
    let owed = answers_owed pace records in
    let low = asked_before pace records applied in
    let third = share.third in
    let answers_part : answers_in third ≡ answers_of (batches_in third) = answers_same third in
    let rise : EachFrom (λ done b. (b.note.answers % 2 ≡ 1) × AllOf (λ a. a.note.answers < b.note.answers) done) [] (batches_in third) =
    each_part (λ done b. (b.note.answers % 2 ≡ 1) × AllOf (λ a. a.note.answers < b.note.answers) done) [] (batches_in third) cut.first2.0
    (subst (λ (z : List Sent). EachFrom (λ done b. (b.note.answers % 2 ≡ 1) × AllOf (λ a. a.note.answers < b.note.answers) done) [] z) (sym cut.first2.1) cut.lane.answers_rise.rise) in
    let climbs : ClimbsFrom 0 (answers_in third) = subst (λ (z : List ℕ). ClimbsFrom 0 z) (sym answers_part) (answers_climb 0 [] (batches_in third) (λ b h. omega arith) rise) in
    let odd : AllOf (λ t. t.batch.note.answers % 2 ≡ 1) third =
    drained_facts (λ b. b.note.answers % 2 ≡ 1) third (batches_in third) refl
    (all_each (λ done b. (b.note.answers % 2 ≡ 1) × AllOf (λ a. a.note.answers < b.note.answers) done) (λ b. b.note.answers % 2 ≡ 1) (λ done b h. h.0) [] (batches_in third) rise) in
    let all_owed : AllOf (λ t. IsAmong owed t.batch.note.answers) third = each_owed pace records third cut.collected.asked odd in
    let complete : (x : ℕ) → IsAmong low x → SomeOf (Completes share.first share.second x) third =
    λ x some. all_among (λ y. SomeOf (Completes share.first share.second y) third) low x cut.collected.complete some in
    let few : AllOf (λ t. t.batch.note.answers ≤ flush_before applied) third =
    all_both (IsAsked pace records) (λ t. t.at ≤ applied) (λ t. t.batch.note.answers ≤ flush_before applied) (λ t a b. omega (arith, a.by_then)) third cut.collected.asked cut.before in
    record {
      of_samples = λ key. omega (
        arith,
        cut.lane.conserved key,
        times_take key driver.at samples,
        first_weighs key share.first side.first.handed cut.first0,
        first_weighs key share.second side.second.handed cut.first1,
        first_weighs key share.third side.third.handed cut.first2,
      );
      in_order = record {
        order0 = first_order share.first side.first.handed cut.first0 cut.lane.well_formed.order0;
        order1 = first_order share.second side.second.handed cut.first1 cut.lane.well_formed.order1;
        order2 = first_order share.third side.third.handed cut.first2 cut.lane.well_formed.order2;
        sizes0 = first_facts (λ b. (1 ≤ length b.entries) × (length b.entries ≤ trace.buffer)) share.first side.first.handed cut.first0
            (all_map (FullOrCut 0 trace.buffer side.third.handed) (λ b. (1 ≤ length b.entries) × (length b.entries ≤ trace.buffer)) (λ b h. (h.0, h.1)) side.first.handed cut.lane.well_formed.sizes0);
        sizes1 = first_facts (λ b. (1 ≤ length b.entries) × (length b.entries ≤ trace.buffer)) share.second side.second.handed cut.first1
            (all_map (FullOrCut 1 trace.buffer side.third.handed) (λ b. (1 ≤ length b.entries) × (length b.entries ≤ trace.buffer)) (λ b h. (h.0, h.1)) side.second.handed cut.lane.well_formed.sizes1);
        tables = first_facts (λ b. FitsTable trace.buckets b.entries) share.third side.third.handed cut.first2
            (subst (λ (n : ℕ). AllOf (λ b. FitsTable n b.entries) side.third.handed) cut.buckets cut.lane.well_formed.tables);
      };
      timely = record {
        due0 = cut.due0;
        due1 = cut.due1;
        due2 = cut.due2;
        bounded = λ count key. omega (
          arith,
          bounded_all setup driver side count key cut.lane,
          first_upto key count share.first side.first.handed cut.first0,
          first_upto key count share.second side.second.handed cut.first1,
          first_upto key count share.third side.third.handed cut.first2,
          ap (λ (l : List Loss). lost_below key count samples l) cut.losses,
        );
      };
      answered = record {
        answers = front_climbs 0 (flush_before applied) (answers_in third) owed climbs (owed_climbs pace records)
            (all_map_of (λ x. x ≤ flush_before applied) (λ (t : Drained). t.batch.note.answers) third few)
            (λ x some. among_owed (λ y. IsAmong owed y) third x all_owed some)
            (λ x some below. some_answers share.first share.second x third (complete x (owed_early pace records applied x cut.within some below)));
        now = now_all pace records applied share.first share.second third cut.within cut.before cut.collected.asked all_owed
            (complete_each share.first share.second 0 low third climbs (λ x some least. complete x some));
      };
    }

-- the drains of all
pub cut_run : (pace : Pace) (trace : Recording) (first_epoch applied : ℕ) (drained : List Drained) → AreDrains trace first_epoch drained
    → ((cpu : ℕ) → cpu < trace.cpus → WasCutShort pace trace cpu applied (share_in drained [] cpu)) → IsPartialRun pace trace first_epoch drained
cut_run pace trace first_epoch applied drained drains cut = record {
  drains = drains;
  shares = λ cpu within. let j = cut cpu within in cut_share pace trace cpu applied j.0 j.1 (share_in drained [] cpu) j.2;
}
