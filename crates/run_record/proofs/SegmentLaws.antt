-- Segments: what the reader answers, and one spelling.
use Rattle.std.proofs.Common.{◌≡◌, ℕ, zero, suc, ◌+◌, ◌*◌, ◌-◌, ◌/◌, ◌%◌, ◌^◌, ◌<◌, ◌≤◌, Bool, true, false, List, [], ◌∷◌, ◌++◌, length, Result, refl, sym, ap, subst, ◌∙◌, append_assoc, arith}
use Rattle.std.specs.Prelude.{IfOk, All, map, ◌==◌}
use Rattle.std.specs.List.{zip, fold}
use Rattle.std.proofs.lemmas.List.{length-map, length_push}
use Rattle.std.proofs.lemmas.List.Elements.{All-nil, All-push}
use Rattle.std.proofs.lemmas.Result.{IfOk-weaker}
use Rattle.sample_key.specs.declared.losses.Loss.{Loss}
use Rattle.sample_key.specs.Counted.{Counted, entry}
use Rattle.sample_key.specs.Events.{code_of}
use Rattle.var_bytes.specs.Numbers.{IsBytes}
use Rattle.var_bytes.specs.Forms.{Form, Done, repeat, Spells, Follows, fields_after, and_then}
use Rattle.var_bytes.specs.Reading.{read_form}
use Rattle.var_bytes.proofs.FieldLaws.{between_is}
use Rattle.var_bytes.proofs.Writing.{parts_of, HasFields, repeat_has_fields, one_spelling, takes_spelled}
use Rattle.database_model.specs.Runs.{Drained, Segment}
use Rattle.database_model.specs.Ranges.{IsDrained, IsSegment, LossesRiseFrom, AreLosses, EndsWith}
use Rattle.database_model.specs.SegmentForm.{event_at, key_at, flagged_entry, drain, loss_form, next_loss, least_index, processor, processors, segment}
use Rattle.var_bytes.specs.declared.errors.FormError.{FormError}
use Rattle.var_bytes.specs.Answers.{Gives}
use Rattle.var_bytes.proofs.Answering.{is_found}
use Rattle.run_record.specs.Reading.{segment_at}
use Rattle.run_record.proofs.Steps.{segment_is}
use Rattle.run_record.proofs.KeyLaws.{bit_of, code_of-event_at, kind_back, bit_of_last}
use Rattle.run_record.proofs.LossLaws.{IsAtPlace}
use Rattle.run_record.proofs.Parts.{entry_fields, loss_fields, head_fields, segment_head}

-- ---- reading

-- an answer is what the segment's form gives
pub by_form : (bytes : List ℕ) (r : Result Segment FormError) → Gives (λ s. s) r (segment_at bytes) → Gives (λ s. s) r (read_form segment bytes)
by_form bytes r given = subst (λ (read : Result Segment ℕ). Gives (λ s. s) r read) (sym (segment_is bytes)) given

-- ---- one spelling: each part has one list of numbers

entry_has_fields : HasFields entry_fields flagged_entry
unfolding flagged_entry
entry_has_fields [] e rest f = absurd f
entry_has_fields (pid ∷ []) e rest f = absurd f.1
entry_has_fields (pid ∷ position ∷ []) e rest f = absurd f.1.1
entry_has_fields (pid ∷ position ∷ kind ∷ []) e rest f = absurd f.1.1.1
entry_has_fields (pid ∷ position ∷ kind ∷ count ∷ numbers) e rest f =
    let range = between_is 0 7 kind f.1.1.0.meets in
    let made : Counted × Bool = (entry (key_at pid position (event_at (kind / 2))) count, kind % 2 == 1) in
    let place : 4 * position / 4 ≡ position = omega arith in
    let fields : entry_fields made ≡ pid ∷ position ∷ kind ∷ count ∷ [] =
    ap (λ (n : ℕ). pid ∷ n ∷ (2 * code_of (event_at (kind / 2)) + bit_of (kind % 2 == 1)) ∷ count ∷ []) place ∙ ap (λ (n : ℕ). pid ∷ position ∷ n ∷ count ∷ []) (kind_back kind range.1) in
    let here : pid ∷ position ∷ kind ∷ count ∷ numbers ≡ entry_fields made ++ rest =
    ap (λ (ns : List ℕ). pid ∷ position ∷ kind ∷ count ∷ ns) f.1.1.1.1.1 ∙ ap (λ (ns : List ℕ). ns ++ rest) (sym fields) in
    subst (λ (x : Counted × Bool). pid ∷ position ∷ kind ∷ count ∷ numbers ≡ entry_fields x ++ rest) f.1.1.1.1.0 here

loss_has_fields : (before : List Loss) → HasFields loss_fields (next_loss before)
unfolding loss_form
loss_has_fields before [] l rest f = absurd f
loss_has_fields before (index ∷ []) l rest f = absurd f.1
loss_has_fields before (index ∷ code ∷ []) l rest f = absurd f.1.1
loss_has_fields before (index ∷ code ∷ word0 ∷ []) l rest f = absurd f.1.1.1
loss_has_fields before (index ∷ code ∷ word0 ∷ word1 ∷ numbers) l rest f =
    let range = between_is 0 3 code f.1.0.meets in
    let made : Loss = record { index = index; event = event_at code; word0 = word0; word1 = word1 } in
    let fields : loss_fields made ≡ index ∷ code ∷ word0 ∷ word1 ∷ [] = ap (λ (n : ℕ). index ∷ n ∷ word0 ∷ word1 ∷ []) (code_of-event_at code range.1) in
    let here : index ∷ code ∷ word0 ∷ word1 ∷ numbers ≡ loss_fields made ++ rest =
    ap (λ (ns : List ℕ). index ∷ code ∷ word0 ∷ word1 ∷ ns) f.1.1.1.1.1 ∙ ap (λ (ns : List ℕ). ns ++ rest) (sym fields) in
    subst (λ (x : Loss). index ∷ code ∷ word0 ∷ word1 ∷ numbers ≡ loss_fields x ++ rest) f.1.1.1.1.0 here

-- the numbers of a list of losses
abbrev processor_fields : List Loss → List ℕ
processor_fields losses = length losses ∷ fields_after (λ before. loss_fields) [] losses

processor_has_fields : HasFields processor_fields processor
unfolding processor
processor_has_fields [] losses rest f = absurd f
processor_has_fields (count ∷ numbers) losses rest f =
    let items = repeat_has_fields next_loss (λ before. loss_fields) count [] numbers losses rest loss_has_fields f.1 in
    let here : count ∷ numbers ≡ processor_fields items.items ++ rest =
    ap (λ (n : ℕ). n ∷ numbers) (sym items.size) ∙ ap (λ (ns : List ℕ). length items.items ∷ ns) items.text in
    subst (λ (ls : List Loss). count ∷ numbers ≡ processor_fields ls ++ rest) (sym items.whole) here

-- the numbers of the losses of all processors
abbrev processors_fields : Bool → List (List Loss) → List ℕ
processors_fields false lists = []
processors_fields true lists = length lists ∷ fields_after (λ before. processor_fields) [] lists

processors_have_fields : (last : Bool) → HasFields (processors_fields last) (processors last)
unfolding processors
processors_have_fields false numbers lists rest f = f.1
processors_have_fields true [] lists rest f = absurd f
processors_have_fields true (count ∷ numbers) lists rest f =
    let items = repeat_has_fields (λ before. processor) (λ before. processor_fields) count [] numbers lists rest (λ before. processor_has_fields) f.1 in
    let here : count ∷ numbers ≡ processors_fields true items.items ++ rest =
    ap (λ (n : ℕ). n ∷ numbers) (sym items.size) ∙ ap (λ (ns : List ℕ). length items.items ∷ ns) items.text in
    subst (λ (ls : List (List Loss)). count ∷ numbers ≡ processors_fields true ls ++ rest) (sym items.whole) here

-- the numbers of a drain
abbrev drain_fields : Drained → List ℕ
drain_fields d = head_fields d ++ fields_after (λ before. entry_fields) [] (zip d.batch.entries d.known)

zip-firsts-seconds : (pairs : List (Counted × Bool)) → zip (map (λ (e : Counted × Bool). e.0) pairs) (map (λ (e : Counted × Bool). e.1) pairs) ≡ pairs
zip-firsts-seconds [] = refl
zip-firsts-seconds (e ∷ pairs) = ap (λ (es : List (Counted × Bool)). e ∷ es) (zip-firsts-seconds pairs)

-- a drain with these numbers in its header
abbrev drain_with : ℕ → ℕ → ℕ → ℕ → ℕ → ℕ → ℕ → ℕ → ℕ → List (Counted × Bool) → Drained
drain_with at epoch cpu cell number upto answers sent0 sent1 pairs =
    record {
      at = at;
      epoch = epoch;
      batch = record {
        note = record { cpu = cpu; cell = cell; number = number; upto = upto; answers = answers; sent0 = sent0; sent1 = sent1 };
        entries = map (λ e. e.0) pairs;
      };
      known = map (λ e. e.1) pairs;
    }

drain_parts : (at epoch cpu cell number upto answers sent0 sent1 count : ℕ) (numbers : List ℕ) (d : Drained) (rest : List ℕ)
    → Follows (and_then (repeat (λ before. flagged_entry) count []) (λ pairs. Done (drain_with at epoch cpu cell number upto answers sent0 sent1 pairs))) numbers d rest
    → at ∷ epoch ∷ cpu ∷ cell ∷ number ∷ upto ∷ answers ∷ sent0 ∷ sent1 ∷ count ∷ numbers ≡ drain_fields d ++ rest
drain_parts at epoch cpu cell number upto answers sent0 sent1 count numbers d rest f =
    let made = drain_with at epoch cpu cell number upto answers sent0 sent1 in
    let head : ℕ → List ℕ → List ℕ = λ n ns. at ∷ epoch ∷ cpu ∷ cell ∷ number ∷ upto ∷ answers ∷ sent0 ∷ sent1 ∷ n ∷ ns in
    let p = parts_of (repeat (λ before. flagged_entry) count []) (λ pairs. Done (made pairs)) numbers d rest f in
    let items = repeat_has_fields (λ before. flagged_entry) (λ before. entry_fields) count [] numbers p.value p.rest (λ before. entry_has_fields) p.first in
    let pairs : List (Counted × Bool) = items.items in
    let size : length (map (λ (e : Counted × Bool). e.0) pairs) ≡ count = length-map pairs (λ (e : Counted × Bool). e.0) ∙ items.size in
    let text : numbers ≡ fields_after (λ before. entry_fields) [] (zip (map (λ (e : Counted × Bool). e.0) pairs) (map (λ (e : Counted × Bool). e.1) pairs)) ++ rest =
    items.text ∙ ap (λ (ns : List ℕ). fields_after (λ before. entry_fields) [] pairs ++ ns) p.second.1
    ∙ ap (λ (es : List (Counted × Bool)). fields_after (λ before. entry_fields) [] es ++ rest) (sym (zip-firsts-seconds pairs)) in
    let here : head count numbers ≡ drain_fields (made pairs) ++ rest = ap (λ (n : ℕ). head n numbers) (sym size) ∙ ap (λ (ns : List ℕ). head (length (map (λ (e : Counted × Bool). e.0) pairs)) ns) text in
    let same : made pairs ≡ d = ap made (sym items.whole) ∙ p.second.0 in
    subst (λ (x : Drained). head count numbers ≡ drain_fields x ++ rest) same here

-- the numbers of a drain one by one
record IsDrainText (numbers : List ℕ) (d : Drained) (rest : List ℕ) : Type 0 where
  at : ℕ
  epoch : ℕ
  cpu : ℕ
  cell : ℕ
  number : ℕ
  upto : ℕ
  answers : ℕ
  sent0 : ℕ
  sent1 : ℕ
  count : ℕ
  more : List ℕ
  text : numbers ≡ at ∷ epoch ∷ cpu ∷ cell ∷ number ∷ upto ∷ answers ∷ sent0 ∷ sent1 ∷ count ∷ more
  position : at ≤ 65536
  few : count ≤ 2000000
  follows : Follows (and_then (repeat (λ before. flagged_entry) count []) (λ pairs. Done (drain_with at epoch cpu cell number upto answers sent0 sent1 pairs))) more d rest

drain_text : (numbers : List ℕ) (d : Drained) (rest : List ℕ) → Follows drain numbers d rest → IsDrainText numbers d rest
unfolding drain
drain_text [] d rest f = absurd f
drain_text (at ∷ []) d rest f = absurd f.1
drain_text (at ∷ epoch ∷ []) d rest f = absurd f.1.1
drain_text (at ∷ epoch ∷ cpu ∷ []) d rest f = absurd f.1.1.1
drain_text (at ∷ epoch ∷ cpu ∷ cell ∷ []) d rest f = absurd f.1.1.1.1
drain_text (at ∷ epoch ∷ cpu ∷ cell ∷ number ∷ []) d rest f = absurd f.1.1.1.1.1
drain_text (at ∷ epoch ∷ cpu ∷ cell ∷ number ∷ upto ∷ []) d rest f = absurd f.1.1.1.1.1.1
drain_text (at ∷ epoch ∷ cpu ∷ cell ∷ number ∷ upto ∷ answers ∷ []) d rest f = absurd f.1.1.1.1.1.1.1
drain_text (at ∷ epoch ∷ cpu ∷ cell ∷ number ∷ upto ∷ answers ∷ sent0 ∷ []) d rest f = absurd f.1.1.1.1.1.1.1.1
drain_text (at ∷ epoch ∷ cpu ∷ cell ∷ number ∷ upto ∷ answers ∷ sent0 ∷ sent1 ∷ []) d rest f = absurd f.1.1.1.1.1.1.1.1.1
drain_text (at ∷ epoch ∷ cpu ∷ cell ∷ number ∷ upto ∷ answers ∷ sent0 ∷ sent1 ∷ count ∷ more) d rest f =
    let position = between_is 0 65536 at f.0.meets in
    let few = between_is 0 2000000 count f.1.1.1.1.1.1.1.1.1.0.meets in
    record {
      at = at;
      epoch = epoch;
      cpu = cpu;
      cell = cell;
      number = number;
      upto = upto;
      answers = answers;
      sent0 = sent0;
      sent1 = sent1;
      count = count;
      more = more;
      text = refl;
      position = position.1;
      few = few.1;
      follows = f.1.1.1.1.1.1.1.1.1.1;
    }

drain_has_fields : HasFields drain_fields drain
drain_has_fields numbers d rest f =
    let t = drain_text numbers d rest f in
    t.text ∙ drain_parts t.at t.epoch t.cpu t.cell t.number t.upto t.answers t.sent0 t.sent1 t.count t.more d rest t.follows

-- the numbers of a segment
abbrev segment_fields : Segment → List ℕ
segment_fields s = segment_head s ++ (fields_after (λ before. drain_fields) [] s.drains ++ processors_fields s.last s.losses)

-- a segment with these numbers in its header
abbrev segment_with : ℕ → ℕ → ℕ → ℕ → List Drained → List (List Loss) → Segment
segment_with run part last first_epoch drains losses = record { run = run; part = part; last = last == 1; first_epoch = first_epoch; drains = drains; losses = losses }

segment_parts : (format run part last first_epoch count : ℕ) (numbers : List ℕ) (s : Segment) (rest : List ℕ) → format ≡ 1 → last ≤ 1
    → Follows (and_then (repeat (λ before. drain) count []) (λ drains. and_then (processors (last == 1)) (λ losses. Done (segment_with run part last first_epoch drains losses)))) numbers s rest
    → format ∷ run ∷ part ∷ last ∷ first_epoch ∷ count ∷ numbers ≡ segment_fields s ++ rest
segment_parts format run part last first_epoch count numbers s rest one bit f =
    let made = segment_with run part last first_epoch in
    let head : ℕ → ℕ → ℕ → List ℕ → List ℕ = λ fm l n ns. fm ∷ run ∷ part ∷ l ∷ first_epoch ∷ n ∷ ns in
    let p = parts_of (repeat (λ before. drain) count []) (λ drains. and_then (processors (last == 1)) (λ losses. Done (made drains losses))) numbers s rest f in
    let items = repeat_has_fields (λ before. drain) (λ before. drain_fields) count [] numbers p.value p.rest (λ before. drain_has_fields) p.first in
    let q = parts_of (processors (last == 1)) (λ losses. Done (made p.value losses)) p.rest s rest p.second in
    let lists = processors_have_fields (last == 1) p.rest q.value q.rest q.first in
    let drains : List Drained = items.items in
    let drained : List ℕ = fields_after (λ before. drain_fields) [] drains in
    let text : numbers ≡ (drained ++ processors_fields (last == 1) q.value) ++ rest =
    items.text ∙ ap (λ (ns : List ℕ). drained ++ ns) (lists ∙ ap (λ (ns : List ℕ). processors_fields (last == 1) q.value ++ ns) q.second.1)
    ∙ sym (append_assoc drained (processors_fields (last == 1) q.value) rest) in
    let here : head format last count numbers ≡ segment_fields (made drains q.value) ++ rest =
    ap (λ (n : ℕ). head n last count numbers) one
    ∙ ap (λ (n : ℕ). head 1 n count numbers) (sym (bit_of_last last bit))
    ∙ ap (λ (n : ℕ). head 1 (bit_of (last == 1)) n numbers) (sym items.size)
    ∙ ap (λ (ns : List ℕ). head 1 (bit_of (last == 1)) (length drains) ns) text in
    let same : made drains q.value ≡ s = ap (λ (ds : List Drained). made ds q.value) (sym items.whole) ∙ q.second.0 in
    subst (λ (x : Segment). head format last count numbers ≡ segment_fields x ++ rest) same here

-- the numbers of a segment one by one
record IsSegmentText (numbers : List ℕ) (s : Segment) (rest : List ℕ) : Type 0 where
  format : ℕ
  run : ℕ
  part : ℕ
  last : ℕ
  first_epoch : ℕ
  count : ℕ
  more : List ℕ
  text : numbers ≡ format ∷ run ∷ part ∷ last ∷ first_epoch ∷ count ∷ more
  one : format ≡ 1
  some : 1 ≤ run
  most : part ≤ 1024
  bit : last ≤ 1
  follows : Follows (and_then (repeat (λ before. drain) count []) (λ drains. and_then (processors (last == 1)) (λ losses. Done (segment_with run part last first_epoch drains losses)))) more s rest

segment_text : (numbers : List ℕ) (s : Segment) (rest : List ℕ) → Follows segment numbers s rest → IsSegmentText numbers s rest
unfolding segment
segment_text [] s rest f = absurd f
segment_text (format ∷ []) s rest f = absurd f.1
segment_text (format ∷ run ∷ []) s rest f = absurd f.1.1
segment_text (format ∷ run ∷ part ∷ []) s rest f = absurd f.1.1.1
segment_text (format ∷ run ∷ part ∷ last ∷ []) s rest f = absurd f.1.1.1.1
segment_text (format ∷ run ∷ part ∷ last ∷ first_epoch ∷ []) s rest f = absurd f.1.1.1.1.1
segment_text (format ∷ run ∷ part ∷ last ∷ first_epoch ∷ count ∷ more) s rest f =
    let one = between_is 1 1 format f.0.meets in
    let some = between_is 1 (2 ^ 32 - 1) run f.1.0.meets in
    let most = between_is 0 1024 part f.1.1.0.meets in
    let bit = between_is 0 1 last f.1.1.1.0.meets in
    record {
      format = format;
      run = run;
      part = part;
      last = last;
      first_epoch = first_epoch;
      count = count;
      more = more;
      text = refl;
      one = omega (arith, one.0, one.1);
      some = some.0;
      most = most.1;
      bit = bit.1;
      follows = f.1.1.1.1.1.1;
    }

segment_has_fields : HasFields segment_fields segment
segment_has_fields numbers s rest f =
    let t = segment_text numbers s rest f in
    t.text ∙ segment_parts t.format t.run t.part t.last t.first_epoch t.count t.more s rest t.one t.bit t.follows

pub spelled_once : (a b : List ℕ) (s : Segment) → Spells segment a s → Spells segment b s → a ≡ b
spelled_once a b s t u = one_spelling segment_fields segment a b s segment_has_fields t u

-- ---- what is told is in its ranges

losses_push : (least : ℕ) (losses : List Loss) (loss : Loss) → LossesRiseFrom least losses → fold (λ before l. l.index + 1) least losses ≤ loss.index → loss.index < 2000000 → LossesRiseFrom least (losses ++ loss ∷ [])
losses_push least [] loss rise above small = (above, small, tt)
losses_push least (first ∷ losses) loss rise above small = (rise.0, rise.1, losses_push (first.index + 1) losses loss rise.2 above small)

loss_told : (before : List Loss) (numbers : List ℕ) (loss : Loss) (rest : List ℕ) → Follows (next_loss before) numbers loss rest → IsAtPlace (least_index before) loss
unfolding loss_form
loss_told before [] l rest f = absurd f
loss_told before (index ∷ []) l rest f = absurd f.1
loss_told before (index ∷ code ∷ []) l rest f = absurd f.1.1
loss_told before (index ∷ code ∷ word0 ∷ []) l rest f = absurd f.1.1.1
loss_told before (index ∷ code ∷ word0 ∷ word1 ∷ numbers) l rest f =
    let range = between_is (least_index before) 1999999 index f.0.meets in
    subst (λ (x : Loss). IsAtPlace (least_index before) x) f.1.1.1.1.0 (record { above = range.0; small = omega (arith, range.1) })

losses_told : (count : ℕ) (front : List Loss) (numbers : List ℕ) (losses : List Loss) (rest : List ℕ) → AreLosses front → Follows (repeat next_loss count front) numbers losses rest → AreLosses losses
losses_told zero front numbers losses rest are f = subst (λ (ls : List Loss). AreLosses ls) f.0 are
losses_told (suc count) front numbers losses rest are f =
    let p = parts_of (next_loss front) (λ y. repeat next_loss count (front ++ y ∷ [])) numbers losses rest f in
    let place = loss_told front numbers p.value p.rest p.first in
    losses_told count (front ++ p.value ∷ []) p.rest losses rest (losses_push 0 front p.value are place.above place.small) p.second

processor_told : (numbers : List ℕ) (losses : List Loss) (rest : List ℕ) → Follows processor numbers losses rest → AreLosses losses
unfolding processor
processor_told [] losses rest f = absurd f
processor_told (count ∷ numbers) losses rest f = losses_told count [] numbers losses rest tt f.1

-- items that are told by a format which says something of each of them
record AreAll {A : Type 0} (P : A → Type 0) (xs : List A) (size : ℕ) : Type 0 where
  each : All P xs
  count : length xs ≡ size

all_told : {A : Type 0} (P : A → Type 0) (item : Form A) (count : ℕ) (front : List A) (numbers : List ℕ) (xs : List A) (rest : List ℕ) → ((ns : List ℕ) (x : A) (rs : List ℕ) → Follows item ns x rs → P x)
    → All P front → Follows (repeat (λ before. item) count front) numbers xs rest → AreAll P xs (length front + count)
all_told {A = A} P item zero front numbers xs rest says all f = subst (λ (ys : List A). AreAll P ys (length front + 0)) f.0 (record { each = all; count = omega arith })
all_told {A = A} P item (suc count) front numbers xs rest says all f =
    let p = parts_of item (λ y. repeat (λ before. item) count (front ++ y ∷ [])) numbers xs rest f in
    let later = all_told P item count (front ++ p.value ∷ []) p.rest xs rest says (All-push P front p.value all (says numbers p.value p.rest p.first)) p.second in
    record { each = later.each; count = omega (arith, later.count, length_push front p.value) }

processors_told : (last : Bool) (numbers : List ℕ) (lists : List (List Loss)) (rest : List ℕ) → Follows (processors last) numbers lists rest → EndsWith last lists
unfolding processors
processors_told false numbers lists rest f = sym f.0
processors_told true [] lists rest f = absurd f
processors_told true (count ∷ numbers) lists rest f =
    let range = between_is 1 16 count f.0.meets in
    let all = all_told (λ ls. AreLosses ls) processor count [] numbers lists rest processor_told (All-nil (λ ls. AreLosses ls)) f.1 in
    let size : length lists ≡ 0 + count = all.count in
    (omega (arith, range.0), omega (arith, range.1), all.each)

drain_told : (numbers : List ℕ) (d : Drained) (rest : List ℕ) → Follows drain numbers d rest → IsDrained d
drain_told numbers d rest f =
    let t = drain_text numbers d rest f in
    let made = drain_with t.at t.epoch t.cpu t.cell t.number t.upto t.answers t.sent0 t.sent1 in
    let p = parts_of (repeat (λ before. flagged_entry) t.count []) (λ pairs. Done (made pairs)) t.more d rest t.follows in
    let items = repeat_has_fields (λ before. flagged_entry) (λ before. entry_fields) t.count [] t.more p.value p.rest (λ before. entry_has_fields) p.first in
    let pairs : List (Counted × Bool) = p.value in
    let few = t.few in
    let size : length pairs ≡ t.count = ap (λ (es : List (Counted × Bool)). length es) items.whole ∙ items.size in
    let entries : length (map (λ (e : Counted × Bool). e.0) pairs) ≡ length pairs = length-map pairs (λ (e : Counted × Bool). e.0) in
    let flags : length (map (λ (e : Counted × Bool). e.1) pairs) ≡ length pairs = length-map pairs (λ (e : Counted × Bool). e.1) in
    subst (λ (x : Drained). IsDrained x) p.second.0 (record { position = t.position; size = omega (arith, size, entries); flags = flags ∙ sym entries })

segment_told_by : (numbers : List ℕ) (s : Segment) (rest : List ℕ) → Follows segment numbers s rest → IsSegment s
segment_told_by numbers s rest f =
    let t = segment_text numbers s rest f in
    let made = segment_with t.run t.part t.last t.first_epoch in
    let p = parts_of (repeat (λ before. drain) t.count []) (λ drains. and_then (processors (t.last == 1)) (λ losses. Done (made drains losses))) t.more s rest t.follows in
    let drains = all_told (λ d. IsDrained d) drain t.count [] t.more p.value p.rest drain_told (All-nil (λ d. IsDrained d)) p.first in
    let q = parts_of (processors (t.last == 1)) (λ losses. Done (made p.value losses)) p.rest s rest p.second in
    subst (λ (x : Segment). IsSegment x) q.second.0 (record { run = t.some; part = t.most; drains = drains.each; losses = processors_told (t.last == 1) p.rest q.value q.rest q.first })

-- what some bytes tell is a segment that can be stored
pub segment_told : (bytes : List ℕ) (s : Segment) → Spells segment bytes s → IsSegment s
segment_told bytes s spells = let p = takes_spelled segment bytes s [] spells in segment_told_by p.numbers s [] p.follows

pub is_in_range : (bytes : List ℕ) (r : Result Segment FormError) → IsBytes bytes → Gives (λ s. s) r (segment_at bytes) → IfOk r (λ s. IsSegment s)
is_in_range bytes r fits given = IfOk-weaker r (λ s. Spells segment bytes s) (λ s. IsSegment s) (λ s spells. segment_told bytes s spells) (is_found segment bytes r fits (by_form bytes r given))
