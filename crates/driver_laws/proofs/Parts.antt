use Rattle.std.proofs.Common.{◌≡◌, append_assoc, ℕ, ◌+◌, ◌*◌, ◌/◌, ◌%◌, ◌<◌, ◌≤◌, List, [], ◌∷◌, ◌++◌, length, take, refl, sym, ◌∙◌, ap, subst, arith, inl, inr, Bool, true, false, cond, Some, None, Option, eqb, length-append}
use Rattle.std.specs.Prelude.{is_some, IsSomeAnd, slice_get, unwrap_or}
use Rattle.std.proofs.lemmas.Bool.{cases_lt, cond_both}
use Rattle.std.proofs.lemmas.List.{take-append-le}
use Rattle.sample_key.specs.Bags.{times, counted, lost_below}
use Rattle.sample_key.specs.Counted.{Counted}
use Rattle.sample_key.specs.Marks.{due}
use Rattle.sample_key.specs.Sent.{Sent}
use Rattle.sample_key.specs.declared.keys.Key.{Key}
use Rattle.sample_key.specs.declared.keys.Marked.{Marked}
use Rattle.sample_key.specs.declared.losses.Loss.{Loss}
use Rattle.sample_key.specs.declared.losses.Pace.{Pace}
use Rattle.sample_key.specs.declared.losses.Pace.TheVariants.{Free, Exact}
use Rattle.driver_model.specs.Lists.{EachFrom, AllOf}
use Rattle.driver_model.specs.Table.{given_out}
use Rattle.driver_model.specs.Sides.{Side}
use Rattle.driver_model.specs.Driver.{Setup, Driver, tally}
use Rattle.driver_model.specs.Invariant.{IsConserved, IsWholeFlush, IsBounded, InOrder, WasOut, LossesInOrder, last_answer, IsExact, entries_of, handed_upto}
use Rattle.driver_model.specs.declared.answers.Added.{Added}
use Rattle.driver_model.specs.declared.answers.Added.TheVariants.{Folded, Placed, Evicted, Spilt}
use Rattle.driver_model.specs.declared.plans.Stats.{Stats}
use Rattle.driver_laws.proofs.Lists.{append-nil, all_map, all_last, got_push, next_push, got_last, past_end, snoc_of, by_number}
use Rattle.driver_laws.proofs.Weights.{upto_le, below_le, below_push}
use Rattle.driver_laws.proofs.Adds.{out_weight, placed_by}

-- what keeps the parts of the invariant, over plain lists

-- at the exact pace, where neither losses nor table batches changed
pub exact_same : (u : Setup) (d e : Driver) (v w : Side) (p : Pace) → e.losses ≡ d.losses → w.third.handed ≡ v.third.handed → IsExact u d v p → IsExact u e w p
exact_same u d e v w Free a b h = tt
exact_same u d e v w Exact a b h =
    (a ∙ h.0, subst (λ (z : List Sent). AllOf (λ b. b.note.upto ≡ due u.samples (b.note.answers / 2)) z) (sym b) h.1)

-- batches come from the samples before them, where all that stand below the samples taken do
pub bounded_from : (u : Setup) (d : Driver) (v : Side) → IsConserved u d v
    → ((n : ℕ) (k : Key) → n < d.at → handed_upto k n v + lost_below k n u.samples d.losses ≤ times k (take n u.samples)) → IsBounded u d v
bounded_from u d v c below n k l = elim (cases_lt n d.at) [
  | inl lt ↦ below n k lt
  | inr ge ↦
      let e : d.at ≡ n = omega arith in
      subst (λ (m : ℕ). handed_upto k m v + lost_below k m u.samples d.losses ≤ times k (take m u.samples)) e
      (omega (arith, c k, upto_le k d.at v.first.handed, upto_le k d.at v.second.handed, upto_le k d.at v.third.handed, below_le k d.at u.samples d.losses))
]

-- what each element has by itself
pub all_each : {A : Type 0} (P : List A → A → Type 0) (Q : A → Type 0) → ((d : List A) (x : A) → P d x → Q x) → (done xs : List A) → EachFrom P done xs → AllOf Q xs
all_each P Q f done [] h = tt
all_each P Q f done (x ∷ xs) h = (f done x h.0, all_each P Q f (done ++ x ∷ []) xs h.1)

-- each loss is of a sample taken or lost so far
pub losses_before : (u : Setup) (d : Driver) → LossesInOrder u d → AllOf (λ l. l.index < d.at) d.losses
losses_before u d h =
    all_each (λ done l. (l.index < d.at) × AllOf (λ m. m.index < l.index) done × IsSomeAnd (slice_get u.samples l.index) (λ s. l.event ≡ s.key.event))
    (λ l. l.index < d.at) (λ done l g. g.0) [] d.losses h

-- batches that go up to so many samples go up to one more
pub upto_later : (n : ℕ) (bs : List Sent) → AllOf (λ b. b.note.upto ≤ n) bs → AllOf (λ b. b.note.upto ≤ n + 1) bs
upto_later n bs h = all_map (λ b. b.note.upto ≤ n) (λ b. b.note.upto ≤ n + 1) (λ b g. omega arith) bs h

-- the last element, with those before it
pub each_last : {A : Type 0} (P : List A → A → Type 0) (done xs : List A) (y : A) → EachFrom P done (xs ++ y ∷ []) → P (done ++ xs) y
each_last {A = A} P done [] y h = subst (λ (z : List A). P z y) (sym (append-nil done)) h.0
each_last {A = A} P done (x ∷ xs) y h = subst (λ (z : List A). P z y) (append_assoc done (x ∷ []) xs) (each_last P (done ++ x ∷ []) xs y h.1)

pub entries-push : (bs : List Sent) (b : Sent) → entries_of (bs ++ b ∷ []) ≡ entries_of bs + length b.entries
entries-push [] b = omega arith
entries-push (c ∷ bs) b = omega (arith, entries-push bs b)

pub last_answer-push : (n : ℕ) (bs : List Sent) (b : Sent) → last_answer n (bs ++ b ∷ []) ≡ b.note.answers
last_answer-push n [] b = refl
last_answer-push n (c ∷ bs) b = last_answer-push c.note.answers bs b

-- answers that rise
abbrev pub Rises : List Sent → Sent → Type 0
Rises done b = (b.note.answers % 2 ≡ 1) × AllOf (λ a. a.note.answers < b.note.answers) done

-- there are no more answers than their values allow
pub few_answers : (bs : List Sent) (n : ℕ) (done : List Sent) → ((b : Sent) → Rises done b → n < b.note.answers) → EachFrom Rises done bs → n + length bs ≤ last_answer n bs
few_answers [] n done f h = omega arith
few_answers (b ∷ bs) n done f h =
    omega (arith, f b h.0, few_answers bs b.note.answers (done ++ b ∷ []) (λ c g. all_last (λ a. a.note.answers < c.note.answers) done b g.1) h.1)

-- none is above the last
pub answers_most : (bs : List Sent) (n : ℕ) (done : List Sent) → EachFrom Rises done bs → AllOf (λ a. a.note.answers ≤ last_answer n bs) bs
answers_most [] n done h = tt
answers_most (b ∷ bs) n done h =
    let r : b.note.answers + length bs ≤ last_answer b.note.answers bs = few_answers bs b.note.answers (done ++ b ∷ []) (λ c g. all_last (λ a. a.note.answers < c.note.answers) done b g.1) h.1 in
    (omega arith, answers_most bs b.note.answers (done ++ b ∷ []) h.1)

-- one for what was given out
abbrev pub out_count : Option Counted → ℕ
out_count None = 0
out_count (Some e) = 1

-- a sample raises one of the statistics
pub tally_all : (s : Stats) (o : Option Added)
    → (tally s o).folded + (tally s o).placed + (tally s o).evicted + (tally s o).spilt + (tally s o).direct ≡ s.folded + s.placed + s.evicted + s.spilt + s.direct + 1
tally_all s None = omega arith
tally_all s (Some Folded) = omega arith
tally_all s (Some Placed) = omega arith
tally_all s (Some (Evicted e)) = omega arith
tally_all s (Some (Spilt e)) = omega arith

pub tally_placed : (s : Stats) (a : Added) → (tally s (Some a)).placed ≡ s.placed + placed_by a
tally_placed s Folded = omega arith
tally_placed s Placed = omega arith
tally_placed s (Evicted e) = omega arith
tally_placed s (Spilt e) = omega arith

pub tally_written : (s : Stats) (a : Added)
    → (tally s (Some a)).evicted + (tally s (Some a)).spilt + (tally s (Some a)).direct ≡ s.evicted + s.spilt + s.direct + out_count (given_out a)
tally_written s Folded = omega arith
tally_written s Placed = omega arith
tally_written s (Evicted e) = omega arith
tally_written s (Spilt e) = omega arith

-- what was not given out
pub out_none : (o : Option Counted) → is_some o ≡ false → o ≡ None
out_none None h = refl
out_none (Some e) h = cc

-- what was given out is written
pub out_some : (o : Option Counted) (d : Counted) (j : Key) → is_some o ≡ true → (out_weight j o ≡ counted j (unwrap_or o d)) × (out_count o ≡ 1)
out_some None d j h = cc
out_some (Some e) d j h = (refl, refl)

-- the batches of a buffer, with this one where it was handed from it
abbrev pub handed_if : Bool → List Sent → Sent → List Sent
handed_if b bs x = cond b (bs ++ x ∷ []) bs

-- what holds of them either way
pub if_handed : (P : List Sent → Type 0) (b : Bool) (bs : List Sent) (x : Sent) → P bs → (b ≡ true → P (bs ++ x ∷ [])) → P (handed_if b bs x)
if_handed P b bs x h f = cond_both b (bs ++ x ∷ []) bs P f (λ e. h)

-- what is counted over both buffers, after the one of this number was handed
pub sum_handed : (n : ℕ) → n ≤ 1 → (first second : List Sent) (x : Sent) (f : List Sent → ℕ) (g : ℕ) → ((bs : List Sent) → f (bs ++ x ∷ []) ≡ f bs + g)
    → f (handed_if (eqb n 0) first x) + f (handed_if (eqb n 1) second x) ≡ f first + f second + g
sum_handed n low first second x f g h =
    by_number (λ (m : ℕ). f (handed_if (eqb m 0) first x) + f (handed_if (eqb m 1) second x) ≡ f first + f second + g) n low (omega (arith, h first)) (omega (arith, h second))

-- a buffer's hands follow its batches
pub hands_handed : (b : Bool) (hands : ℕ) (bs : List Sent) (x : Sent) → hands ≡ length bs → cond b (hands + 1) hands ≡ length (handed_if b bs x)
hands_handed true hands bs x h = omega (arith, h, length-append bs (x ∷ []))
hands_handed false hands bs x h = h

-- the first batches of a buffer are still the first
first_handed : (b : Bool) (bs : List Sent) (x : Sent) (n : ℕ) → n ≤ length bs → (n ≤ length (handed_if b bs x)) × (take n (handed_if b bs x) ≡ take n bs)
first_handed true bs x n h = (omega (arith, h, length-append bs (x ∷ [])), take-append-le n bs (x ∷ []) h)
first_handed false bs x n h = (h, refl)

-- a flush is whole also after more was handed
pub flush_hand : (ss : List Marked) (first second : List Sent) (a b : Bool) (ls : List Loss) (x : Sent) (done : List Sent) (g : Sent)
    → IsWholeFlush ss first second ls done g → IsWholeFlush ss (handed_if a first x) (handed_if b second x) ls done g
flush_hand ss first second a b ls x done g f =
    let first_still = first_handed a first x g.note.sent0 f.sent0 in let second_still = first_handed b second x g.note.sent1 f.sent1 in
    record {
      sent0 = first_still.0;
      sent1 = second_still.0;
      upto = f.upto;
      whole = λ k. rw (first_still.1, second_still.1) (f.whole k);
    }

-- and after a loss beyond it
pub flush_lost : (ss : List Marked) (first second : List Sent) (ls : List Loss) (l : Loss) (done : List Sent) (g : Sent)
    → g.note.upto ≤ l.index → IsWholeFlush ss first second ls done g → IsWholeFlush ss first second (ls ++ l ∷ []) done g
flush_lost ss first second ls l done g h f = record {
  sent0 = f.sent0;
  sent1 = f.sent1;
  upto = f.upto;
  whole = λ k. rw (below_push k g.note.upto ss ls l h) (f.whole k);
}

-- a loss is explained also after more was handed
pub out_hand : (b : Bool) (handed : List Sent) (x : Sent) (index word : ℕ) → index < x.note.upto → WasOut handed index word → WasOut (handed_if b handed x) index word
out_hand b handed x index word l h = if_handed (λ bs. WasOut bs index word) b handed x h
    (λ e. (h.0, got_push (λ c. (c.note.number ≡ (word + 1) / 2) × (c.note.upto ≤ index)) handed x (word / 2) h.1, next_push (λ a. index < a.note.upto) handed x (word / 2 + 1) h.2 l))

-- a buffer was out, where its word says so when a sample is lost
pub out_now : (handed : List Sent) (index word : ℕ) → word % 2 ≡ 1 → word + 1 ≡ 2 * length handed → InOrder handed → AllOf (λ b. b.note.upto ≤ index) handed
    → WasOut handed index word
out_now handed index word odd fair order upto =
    let s = snoc_of handed (omega arith) in
    let long : length handed ≡ length s.0 + 1 = ap length s.2 ∙ length-append s.0 (s.1 ∷ []) in
    let half : word / 2 ≡ length s.0 = omega (arith, long) in
    let number : s.1.note.number ≡ length s.0 + 1 =
    (each_last (λ done b. (b.note.number ≡ length done + 1) × AllOf (λ a. a.note.upto ≤ b.note.upto) done) [] s.0 s.1
    (subst (λ (z : List Sent). InOrder z) s.2 order)).0 in
    let at : s.1.note.upto ≤ index = all_last (λ b. b.note.upto ≤ index) s.0 s.1 (subst (λ (z : List Sent). AllOf (λ b. b.note.upto ≤ index) z) s.2 upto) in (
      odd,
      subst (λ (n : ℕ). IsSomeAnd (slice_get handed n) (λ b. (b.note.number ≡ (word + 1) / 2) × (b.note.upto ≤ index))) (sym half)
          (subst (λ (z : List Sent). IsSomeAnd (slice_get z (length s.0)) (λ b. (b.note.number ≡ (word + 1) / 2) × (b.note.upto ≤ index))) (sym s.2)
          (got_last (λ b. (b.note.number ≡ (word + 1) / 2) × (b.note.upto ≤ index)) s.0 s.1 (omega (arith, number, half), at))),
      past_end (λ a. index < a.note.upto) handed (word / 2 + 1) (omega (arith, long, half)),
    )
