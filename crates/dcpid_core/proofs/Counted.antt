-- The daemon's counts agree with what was taken.
use Rattle.std.proofs.Common.{arith, ◌≡◌, ℕ, zero, suc, ◌+◌, ◌-◌, ◌*◌, ◌^◌, ◌<◌, ◌≤◌, ◌==◌, ◌&&◌, min, not, nat_le, refl, sym, ◌∙◌, ap, subst, Bool, true, false, if◌then◌else◌, List, [], ◌∷◌, ◌++◌, length, slice_get, Option, Some, None, length-append}
use Rattle.std.proofs.lemmas.Grind.{common_steps}
use Rattle.sample_key.specs.Headers.{Header}
use Rattle.sample_key.specs.Sent.{Sent}
use Rattle.driver_model.specs.Lists.{AllOf}
use Rattle.driver_model.specs.Handover.{FarSide, far_gave_buffer, far_gave_table, far_took_buffer, far_took_table}
use Rattle.trace_model.specs.Streams.{records_in}
use Rattle.run_model.specs.Daemon.{answering, begin, first_waiting, flush_before, go_on, is_flushed, reaches}
use Rattle.dcpid_core.specs.Flushes.{AnswerIs, IsCounter, first_incomplete, flush_answered, flush_took, is_complete, one_more}
use Rattle.dcpid_core.specs.Counting.{Agree, Agrees, CountsAgree, AdvancesAsTheRun, fars_in}
use Rattle.dcpid_core.specs.declared.flushes.Flush.{Flush}

-- ---- a flush is complete by the counts where it is by what was taken

-- a number of a counter is reached by a count that ends exactly where it is reached
reached : (sent count : ℕ) → sent < 2 ^ 64 → nat_le sent (min count (2 ^ 64 - 1)) ≡ nat_le sent count
reached sent count few = grind (arith, common_steps)

by_numbers : (a v s0 f t0 n s1 g t1 m : ℕ) → a ≡ v → s0 ≡ t0 → s1 ≡ t1 → f ≡ min n (2 ^ 64 - 1) → g ≡ min m (2 ^ 64 - 1) → s0 < 2 ^ 64 → s1 < 2 ^ 64 → (a == v && nat_le s0 f && nat_le s1 g) ≡ (nat_le t0 n && nat_le t1 m)
by_numbers a v s0 f t0 n s1 g t1 m av s0t s1t fn gm few0 few1 = grind (arith, common_steps)

complete_by : (value : ℕ) (flush : Flush) (far : FarSide) (answer : Option Sent) → AnswerIs value flush answer → flush.first ≡ min (length far.first.taken) (2 ^ 64 - 1) → flush.second ≡ min (length far.second.taken) (2 ^ 64 - 1) → flush.sent0 < 2 ^ 64 → flush.sent1 < 2 ^ 64 → is_complete value flush ≡ reaches far answer
complete_by value flush far None none first second sent0 sent1 = by (flush.answers == value) none
  where
    by : (b : Bool) → not b ≡ true → (b && nat_le flush.sent0 flush.first && nat_le flush.sent1 flush.second) ≡ false
    by true e = absurd (cc)
    by false e = refl
complete_by value flush far (Some batch) is first second sent0 sent1 = by_numbers flush.answers value flush.sent0 flush.first batch.note.sent0 (length far.first.taken) flush.sent1 flush.second batch.note.sent1 (length far.second.taken) is.0 is.1 is.2 first second sent0 sent1

pub complete_is : (value : ℕ) (flush : Flush) (far : FarSide) → Agrees value flush far → is_complete value flush ≡ is_flushed value far
complete_is value flush far agrees = complete_by value flush far (answering value far.third.taken) agrees.answer agrees.first agrees.second agrees.sent0 agrees.sent1

first_is : (value cpu : ℕ) (flushes : List Flush) (fars : List FarSide) → Agree value flushes fars → first_incomplete value cpu flushes ≡ first_waiting value cpu fars
first_is value cpu [] [] agree = refl
first_is value cpu [] (far ∷ fars) agree = absurd agree
first_is value cpu (flush ∷ flushes) [] agree = absurd agree
first_is value cpu (flush ∷ flushes) (far ∷ fars) agree =
    ap (λ (b : Bool). if b then first_incomplete value (cpu + 1) flushes else Some cpu) (complete_is value flush far agree.0)
    ∙ ap (λ (o : Option ℕ). if is_flushed value far then o else Some cpu) (first_is value (cpu + 1) flushes fars agree.1)

pub runs_advance : AdvancesAsTheRun
runs_advance daemon sides agree =
    ap (λ (o : Option ℕ). if daemon.state.asking then go_on (records_in daemon.trace) daemon.state o else begin daemon.pace daemon.state (slice_get (records_in daemon.trace) daemon.state.applied))
    (first_is (flush_before daemon.state.applied) 0 daemon.flushes (fars_in sides) agree)

-- ---- counts agree

-- what is kept of an answer rests on three numbers
same_answer : (value : ℕ) (f g : Flush) (answer : Option Sent) → g.answers ≡ f.answers → g.sent0 ≡ f.sent0 → g.sent1 ≡ f.sent1 → AnswerIs value f answer → AnswerIs value g answer
same_answer value f g None a b c is = subst (λ n. not (n == value) ≡ true) (sym a) is
same_answer value f g (Some batch) a b c is = (a ∙ is.0, b ∙ is.1, c ∙ is.2)

all_more : (P : Sent → Type 0) (xs : List Sent) (x : Sent) → AllOf P xs → P x → AllOf P (xs ++ x ∷ [])
all_more P [] x all new = (new, tt)
all_more P (y ∷ ys) x all new = (all.0, all_more P ys x all.1 new)

-- no earlier answer is this one
none_later : (value later : ℕ) (taken : List Sent) → value < later → AllOf (λ batch. batch.note.answers ≤ value) taken → answering later taken ≡ None
none_later value later [] lt all = refl
none_later value later (batch ∷ batches) lt all = by (batch.note.answers == later) (differs batch.note.answers later (omega (arith, all.0, lt))) (none_later value later batches lt all.1)
  where
    differs : (a b : ℕ) → a < b → (a == b) ≡ false
    differs a b lt = grind (arith, common_steps)

    by : (t : Bool) → t ≡ false → answering later batches ≡ None → (if t then Some batch else answering later batches) ≡ None
    by true e none = absurd (cc)
    by false e none = none

-- a flush that was answered keeps its answer
stays : (value : ℕ) (flush : Flush) (note : Header) (batch : Sent) (b k : Bool) → k ≡ true → AnswerIs value flush (Some batch) → AnswerIs value (if b && not k then record flush { answers = value; sent0 = note.sent0; sent1 = note.sent1 } else flush) (Some batch)
stays value flush note batch true true e is = is
stays value flush note batch true false e is = absurd (cc)
stays value flush note batch false true e is = is
stays value flush note batch false false e is = is

-- the first that answers is kept
begins : (value : ℕ) (flush : Flush) (batch : Sent) (b k : Bool) → not k ≡ true → not (flush.answers == value) ≡ true → AnswerIs value (if b && not k then record flush { answers = value; sent0 = batch.note.sent0; sent1 = batch.note.sent1 } else flush) (if b then Some batch else None)
begins value flush batch true true e none = absurd (cc)
begins value flush batch true false e none = (refl, refl, refl)
begins value flush batch false k e none = none

same_number : (a b : ℕ) → a ≡ b → (a == b) ≡ true
same_number a b e = grind (arith, common_steps)

took_answer : (value : ℕ) (flush : Flush) (batch : Sent) (taken : List Sent) → AnswerIs value flush (answering value taken) → AnswerIs value (flush_answered value flush batch.note) (answering value (taken ++ batch ∷ []))
took_answer value flush batch [] is = begins value flush batch (batch.note.answers == value) (flush.answers == value) is is
took_answer value flush batch (x ∷ xs) is = by (x.note.answers == value) is (took_answer value flush batch xs)
  where
    by : (t : Bool) → AnswerIs value flush (if t then Some x else answering value xs)
        → (AnswerIs value flush (answering value xs) → AnswerIs value (flush_answered value flush batch.note) (answering value (xs ++ batch ∷ [])))
        → AnswerIs value (flush_answered value flush batch.note) (if t then Some x else answering value (xs ++ batch ∷ []))
    by true is more = stays value flush batch.note x (batch.note.answers == value) (flush.answers == value) (same_number flush.answers value is.0) is
    by false is more = more is

-- what a table batch leaves of the counts
record LeavesCounts (value : ℕ) (before after : Flush) : Type 0 where
  first : after.first ≡ before.first
  second : after.second ≡ before.second
  sent0 : after.sent0 < 2 ^ 64
  sent1 : after.sent1 < 2 ^ 64
  kept : after.answers ≤ value

counts_left : (value : ℕ) (flush : Flush) (note : Header) (b : Bool) → IsCounter note → flush.sent0 < 2 ^ 64 → flush.sent1 < 2 ^ 64 → flush.answers ≤ value → LeavesCounts value flush (if b then record flush { answers = value; sent0 = note.sent0; sent1 = note.sent1 } else flush)
counts_left value flush note true counter s0 s1 kept = record { first = refl; second = refl; sent0 = counter.0; sent1 = counter.1; kept = omega arith }
counts_left value flush note false counter s0 s1 kept = record { first = refl; second = refl; sent0 = s0; sent1 = s1; kept = kept }

one_longer : (count : ℕ) (taken : List Sent) (batch : Sent) → count ≡ min (length taken) (2 ^ 64 - 1) → one_more count ≡ min (length (taken ++ batch ∷ [])) (2 ^ 64 - 1)
one_longer count taken batch is = omega (arith, is, length-append taken (batch ∷ []))

took_buffer : (value cell : ℕ) (flush : Flush) (far : FarSide) (batch : Sent) → cell ≤ 1 → Agrees value flush far → Agrees value (flush_took value flush cell batch.note) (far_gave_buffer (far_took_buffer far cell batch) cell)
took_buffer value zero flush far batch le agrees = record {
  first = one_longer flush.first far.first.taken batch agrees.first;
  second = agrees.second;
  answer = same_answer value flush (record flush { first = one_more flush.first }) (answering value far.third.taken) refl refl refl agrees.answer;
  sent0 = agrees.sent0;
  sent1 = agrees.sent1;
  kept = agrees.kept;
  behind = agrees.behind;
}
took_buffer value (suc zero) flush far batch le agrees = record {
  first = agrees.first;
  second = one_longer flush.second far.second.taken batch agrees.second;
  answer = same_answer value flush (record flush { second = one_more flush.second }) (answering value far.third.taken) refl refl refl agrees.answer;
  sent0 = agrees.sent0;
  sent1 = agrees.sent1;
  kept = agrees.kept;
  behind = agrees.behind;
}
took_buffer value (suc (suc cell)) flush far batch le agrees = absurd (omega (arith, le))

took_table : (value turn : ℕ) (flush : Flush) (far : FarSide) (batch : Sent) → IsCounter batch.note → batch.note.answers ≤ value → Agrees value flush far → Agrees value (flush_took value flush 2 batch.note) (far_gave_table (far_took_table far batch turn))
took_table value turn flush far batch counter le agrees =
    let left = counts_left value flush batch.note (batch.note.answers == value && not (flush.answers == value)) counter agrees.sent0 agrees.sent1 agrees.kept in
    record {
      first = left.first ∙ agrees.first;
      second = left.second ∙ agrees.second;
      answer = took_answer value flush batch far.third.taken agrees.answer;
      sent0 = left.sent0;
      sent1 = left.sent1;
      kept = left.kept;
      behind = all_more _ far.third.taken batch agrees.behind le;
    }

goes_on : (value later : ℕ) (flush : Flush) (far : FarSide) → value < later → Agrees value flush far → Agrees later flush far
goes_on value later flush far lt agrees = record {
  first = agrees.first;
  second = agrees.second;
  answer = subst (λ o. AnswerIs later flush o) (sym (none_later value later far.third.taken lt agrees.behind)) (differs flush.answers later (omega (arith, agrees.kept, lt)));
  sent0 = agrees.sent0;
  sent1 = agrees.sent1;
  kept = omega (arith, agrees.kept, lt);
  behind = all_later far.third.taken agrees.behind;
}
  where
    differs : (a b : ℕ) → a < b → not (a == b) ≡ true
    differs a b lt = grind (arith, common_steps)

    all_later : (taken : List Sent) → AllOf (λ batch. batch.note.answers ≤ value) taken → AllOf (λ batch. batch.note.answers ≤ later) taken
    all_later [] all = tt
    all_later (x ∷ xs) all = (omega (arith, all.0, lt), all_later xs all.1)

pub counts : CountsAgree
counts = record {
  starts = λ applied given. record {
    first = omega arith;
    second = omega arith;
    answer = starts applied;
    sent0 = omega arith;
    sent1 = omega arith;
    kept = omega arith;
    behind = tt;
  };
  took_buffer = λ value cell flush far batch le counter agrees. took_buffer value cell flush far batch le agrees;
  took_table = λ value turn flush far batch counter le agrees. took_table value turn flush far batch counter le agrees;
  goes_on = λ value later flush far lt agrees. goes_on value later flush far lt agrees;
  rang = λ value bell tries flush far agrees. record {
    first = agrees.first;
    second = agrees.second;
    answer = agrees.answer;
    sent0 = agrees.sent0;
    sent1 = agrees.sent1;
    kept = agrees.kept;
    behind = agrees.behind;
  };
}
  where
    starts : (applied : ℕ) → not (0 == 2 * applied + 1) ≡ true
    starts applied = grind (arith, common_steps)
