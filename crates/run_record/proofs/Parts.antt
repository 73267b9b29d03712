-- The parts of a segment as numbers: they follow their formats.
use Rattle.std.proofs.Common.{◌≡◌, ℕ, ◌+◌, ◌*◌, ◌-◌, ◌/◌, ◌%◌, ◌^◌, ◌<◌, ◌≤◌, Bool, true, false, List, [], ◌∷◌, ◌++◌, length, get_or, take, refl, sym, ap, subst, ◌∙◌, arith}
use Rattle.std.specs.Prelude.{map, All, ◌==◌}
use Rattle.std.specs.Global.{Vec}
use Rattle.std.specs.List.{zip}
use Rattle.std.proofs.lemmas.Bool.{true≢false, false≢true}
use Rattle.std.proofs.lemmas.List.{length-map, get_or-map}
use Rattle.std.proofs.lemmas.Slice.Zip.{firsts-zip, seconds-zip, get_or-zip, length-zip}
use Rattle.sample_key.specs.declared.events.Event.{Event}
use Rattle.sample_key.specs.declared.keys.Key.{Key}
use Rattle.sample_key.specs.declared.losses.Loss.{Loss}
use Rattle.sample_key.specs.Counted.{Counted, entry}
use Rattle.sample_key.specs.Headers.{Header}
use Rattle.sample_key.specs.Sent.{Sent}
use Rattle.sample_key.specs.Events.{code_of}
use Rattle.var_bytes.specs.Numbers.{spell}
use Rattle.var_bytes.specs.Forms.{Form, Done, and_then, repeat, Spells, Follows, Appends}
use Rattle.var_bytes.proofs.FieldLaws.{is_between}
use Rattle.var_bytes.proofs.Appending.{Leads, appends_numbers, appends_and_then, appends_leads, appends_done, appends_item, appends_all}
use Rattle.database_model.specs.Runs.{Drained, Segment}
use Rattle.database_model.specs.Ranges.{IsDrained, IsSegment, EndsWith, AreLosses}
use Rattle.database_model.specs.SegmentForm.{event_at, key_at, flagged_entry, drain, least_index, loss_form, next_loss, processor, processors, segment}
use Rattle.run_record.proofs.KeyLaws.{bit_of, key_is, event_at-code_of, code_of_small, kind_code, kind_flag, kind_small, bit_of-eqb, bit_of_small}
use Rattle.run_record.proofs.LossLaws.{IsAtPlace, few_losses}

-- ---- entries

-- the numbers of an entry with its flag
abbrev pub entry_fields : Counted × Bool → List ℕ
entry_fields e = e.0.key.pid ∷ (e.0.key.pc / 4) ∷ (2 * code_of e.0.key.event + bit_of e.1) ∷ e.0.count ∷ []

abbrev flagged : Counted → Bool → Counted × Bool
flagged e known = (e, known)

-- the ranges that the types of an entry's fields keep
pub record IsCounted (e : Counted) : Type 0 where
  pub pid : e.key.pid < 2 ^ 32
  pub position : e.key.pc / 4 ≤ 2 ^ 62 - 1
  pub some : 1 ≤ e.count
  pub most : e.count ≤ 65535

pub entry_follows : (e : Counted) (known : Bool) → IsCounted e → Follows flagged_entry (entry_fields (e, known)) (e, known) []
unfolding flagged_entry
entry_follows e known is =
    let pid = is.pid in
    let aligned : e.key.pc % 4 ≡ 0 = e.key.aligned in
    let kind = 2 * code_of e.key.event + bit_of known in
    let event : e.key.event ≡ event_at (kind / 2) = sym (ap event_at (kind_code (code_of e.key.event) known) ∙ event_at-code_of e.key.event) in
    let key = key_is e.key e.key.pid (e.key.pc / 4) (event_at (kind / 2)) refl (omega arith) event in
    let same : flagged (entry (key_at e.key.pid (e.key.pc / 4) (event_at (kind / 2))) e.count) (kind % 2 == 1) ≡ flagged e known =
    ap (λ (k : Key). flagged (entry k e.count) (kind % 2 == 1)) (sym key) ∙ ap (λ (b : Bool). flagged e b) (kind_flag (code_of e.key.event) known) in (
      is_between 0 (2 ^ 32 - 1) e.key.pid (omega arith) (omega arith) (omega arith),
      (
        is_between 0 (2 ^ 62 - 1) (e.key.pc / 4) (omega arith) is.position (omega arith),
        (
          is_between 0 7 kind (omega arith) (kind_small e.key.event known) (omega arith),
          (is_between 1 65535 e.count is.some is.most (omega arith), (same, refl)),
        ),
      ),
    )

pub entry_written : (old new : List ℕ) (e : Counted) (k : Key) (n : ℕ) (known : Bool) (pid position code bit count : ℕ) → entry k n ≡ e → (1 ≤ n) × (n ≤ 65535) → pid ≡ k.pid → pid < 2 ^ 32 → position ≡ k.pc / 4 → position ≤ 2 ^ 62 - 1
    → code ≡ code_of k.event → bit ≡ bit_of known → count ≡ n → new ≡ old ++ spell (pid ∷ position ∷ (2 * code + bit) ∷ count ∷ []) → Appends flagged_entry old new (e, known)
entry_written old new e k n known pid position code bit count view range pid-is pid-fits position-is position-fits code-is bit-is count-is text =
    let numbers : pid ∷ position ∷ (2 * code + bit) ∷ count ∷ [] ≡ entry_fields (entry k n, known) = rw (pid-is, position-is, code-is, bit-is, count-is) refl in
    let is : IsCounted (entry k n) = record { pid = rw (← pid-is) pid-fits; position = rw (← position-is) position-fits; some = range.0; most = range.1 } in
    let made : Appends flagged_entry old new (entry k n, known) =
    appends_numbers flagged_entry old new (entry_fields (entry k n, known)) (entry k n, known) (text ∙ ap (λ (ns : List ℕ). old ++ spell ns) numbers) (entry_follows (entry k n) known is) in
    subst (λ (x : Counted). Appends flagged_entry old new (x, known)) view made

pub entries_more : (es : List Counted) (ks : List Bool) (i : ℕ) (e : Counted) (k : Bool) (old mid new : List ℕ) → i < length es → length ks ≡ length es → e ≡ get_or es i e
    → Appends (repeat (λ before. flagged_entry) i []) old mid (take i (zip es ks)) → Appends flagged_entry mid new (e, get_or ks i k) → Appends (repeat (λ before. flagged_entry) (i + 1) []) old new (take (i + 1) (zip es ks))
entries_more es ks i e k old mid new lt flags read so_far here =
    let pair : Counted × Bool = (e, k) in
    let same : flagged e (get_or ks i k) ≡ get_or (zip es ks) i pair = ap (λ (x : Counted). flagged x (get_or ks i k)) read ∙ sym (get_or-zip es ks i pair lt (omega arith)) in
    appends_item (λ before. flagged_entry) (zip es ks) i pair old mid new (omega (arith, length-zip es ks)) so_far (subst (λ (x : Counted × Bool). Appends flagged_entry mid new x) same here)

pub entries_done : (es : List Counted) (ks : List Bool) (i : ℕ) (old new : List ℕ) → i ≡ length es → length ks ≡ length es → Appends (repeat (λ before. flagged_entry) i []) old new (take i (zip es ks)) → Appends (repeat (λ before. flagged_entry) (length es) []) old new (zip es ks)
entries_done es ks i old new e flags so_far =
    let size : length (zip es ks) ≡ length es = omega (arith, length-zip es ks) in
    subst (λ (n : ℕ). Appends (repeat (λ before. flagged_entry) n []) old new (zip es ks)) size (appends_all (λ before. flagged_entry) (zip es ks) i old new (omega (arith, size, e)) so_far)

-- ---- losses

-- the numbers of a loss
abbrev pub loss_fields : Loss → List ℕ
loss_fields loss = loss.index ∷ code_of loss.event ∷ loss.word0 ∷ loss.word1 ∷ []

abbrev loss_of : ℕ → Event → ℕ → ℕ → Loss
loss_of index event word0 word1 = record { index = index; event = event; word0 = word0; word1 = word1 }

pub loss_follows : (before : List Loss) (loss : Loss) → IsAtPlace (least_index before) loss → loss.word0 < 2 ^ 64 → loss.word1 < 2 ^ 64 → Follows (next_loss before) (loss_fields loss) loss []
unfolding loss_form
loss_follows before loss place word0 word1 =
    let small = place.small in (
      is_between (least_index before) 1999999 loss.index place.above (omega arith) (omega arith),
      (
        is_between 0 3 (code_of loss.event) (omega arith) (code_of_small loss.event) (omega arith),
        (
          is_between 0 (2 ^ 64 - 1) loss.word0 (omega arith) (omega arith) (omega arith),
          (
            is_between 0 (2 ^ 64 - 1) loss.word1 (omega arith) (omega arith) (omega arith),
            (ap (λ (e : Event). loss_of loss.index e loss.word0 loss.word1) (event_at-code_of loss.event), refl),
          ),
        ),
      ),
    )

pub loss_written : (before : List Loss) (loss : Loss) (old new : List ℕ) (code : ℕ) → IsAtPlace (least_index before) loss → loss.word0 < 2 ^ 64 → loss.word1 < 2 ^ 64 → code ≡ code_of loss.event
    → new ≡ old ++ spell (loss.index ∷ code ∷ loss.word0 ∷ loss.word1 ∷ []) → Appends (next_loss before) old new loss
loss_written before loss old new code place word0 word1 code-is text =
    appends_numbers (next_loss before) old new (loss_fields loss) loss (text ∙ ap (λ (n : ℕ). old ++ spell (loss.index ∷ n ∷ loss.word0 ∷ loss.word1 ∷ [])) code-is) (loss_follows before loss place word0 word1)

-- the losses in vectors
abbrev pub items_of : Vec Loss → List Loss
items_of v = v.items

pub list_at : (lists : List (Vec Loss)) (i : ℕ) (v : Vec Loss) → i < length lists → v ≡ get_or lists i v → get_or (map items_of lists) i v.items ≡ v.items
list_at lists i v lt read = get_or-map items_of lists i v v.items lt ∙ ap items_of (sym read)

pub losses_at : (lists : List (Vec Loss)) (i : ℕ) (v : Vec Loss) → i < length lists → v ≡ get_or lists i v → All AreLosses (map items_of lists) → AreLosses v.items
losses_at lists i v lt read all = subst (λ (ls : List Loss). AreLosses ls) (list_at lists i v lt read) (all i v.items (omega (arith, length-map lists items_of)))

pub lists_more : (lists : List (Vec Loss)) (i : ℕ) (v : Vec Loss) (losses : List Loss) (old mid new : List ℕ) → i < length lists → v ≡ get_or lists i v → losses ≡ v.items
    → Appends (repeat (λ before. processor) i []) old mid (take i (map items_of lists)) → Appends processor mid new losses → Appends (repeat (λ before. processor) (i + 1) []) old new (take (i + 1) (map items_of lists))
lists_more lists i v losses old mid new lt read is so_far here =
    appends_item (λ before. processor) (map items_of lists) i v.items old mid new (omega (arith, length-map lists items_of)) so_far
    (subst (λ (ls : List Loss). Appends processor mid new ls) (is ∙ sym (list_at lists i v lt read)) here)

-- the losses of a processor behind their number
pub processor_appends : (old mid new : List ℕ) (losses : List Loss) → AreLosses losses → mid ≡ old ++ spell (length losses ∷ []) → Appends (repeat next_loss (length losses) []) mid new losses → Appends processor old new losses
unfolding processor
processor_appends old mid new losses are e later =
    let few = few_losses losses are in
    appends_leads processor (length losses ∷ []) (repeat next_loss (length losses) []) old mid new losses (is_between 0 2000000 (length losses) (omega arith) few (omega arith), refl) e later

-- the losses of all processors behind their number
pub processors_append : (old mid new : List ℕ) (lists : List (List Loss)) → 1 ≤ length lists → length lists ≤ 16 → mid ≡ old ++ spell (length lists ∷ []) → Appends (repeat (λ before. processor) (length lists) []) mid new lists → Appends (processors true) old new lists
unfolding processors
processors_append old mid new lists some most e later =
    appends_leads (processors true) (length lists ∷ []) (repeat (λ before. processor) (length lists) []) old mid new lists (is_between 1 16 (length lists) some most (omega arith), refl) e later

-- a part before the last has no losses
pub processors_none : (old : List ℕ) (lists : List (List Loss)) → lists ≡ [] → Appends (processors false) old old lists
unfolding processors
processors_none old lists e = appends_done [] lists old (sym e)

pub processors_kept : (last : Bool) (old : List ℕ) (lists : List (List Loss)) → last ≡ false → EndsWith last lists → Appends (processors last) old old lists
processors_kept false old lists e ends = processors_none old lists ends
processors_kept true old lists e ends = absurd (true≢false e)

pub processors_told : (last : Bool) (old mid new : List ℕ) (lists : List (List Loss)) (count : ℕ) → last ≡ true → EndsWith last lists → length lists ≡ count → mid ≡ old ++ spell (count ∷ []) → Appends (repeat (λ before. processor) count []) mid new lists → Appends (processors last) old new lists
processors_told false old mid new lists count e ends size text later = absurd (false≢true e)
processors_told true old mid new lists count e ends size text later =
    processors_append old mid new lists ends.0 ends.1 (text ∙ ap (λ (n : ℕ). old ++ spell (n ∷ [])) (sym size)) (subst (λ (n : ℕ). Appends (repeat (λ before. processor) n []) mid new lists) (sym size) later)

-- ---- drains

-- the numbers of a drain before its entries
abbrev pub head_fields : Drained → List ℕ
head_fields d =
    d.at ∷ d.epoch ∷ d.batch.note.cpu ∷ d.batch.note.cell ∷ d.batch.note.number ∷ d.batch.note.upto ∷ d.batch.note.answers ∷ d.batch.note.sent0 ∷ d.batch.note.sent1 ∷ length d.batch.entries ∷ []

-- the ranges of a drain's header
pub record IsHead (d : Drained) : Type 0 where
  pub at : d.at ≤ 65536
  pub epoch : d.epoch < 2 ^ 32
  pub cpu : d.batch.note.cpu ≤ 15
  pub cell : d.batch.note.cell ≤ 2
  pub number : 1 ≤ d.batch.note.number
  pub number_wide : d.batch.note.number < 2 ^ 64
  pub upto : d.batch.note.upto ≤ 2000000
  pub answers : d.batch.note.answers < 2 ^ 64
  pub sent0 : d.batch.note.sent0 < 2 ^ 64
  pub sent1 : d.batch.note.sent1 < 2 ^ 64
  pub size : length d.batch.entries ≤ 2000000

-- the drain of a header with these entries and flags
abbrev drained : Drained → List (Counted × Bool) → Drained
drained d pairs = record { at = d.at; epoch = d.epoch; batch = record { note = d.batch.note; entries = map (λ e. e.0) pairs }; known = map (λ e. e.1) pairs }

-- what stands behind the numbers of a drain
abbrev entries_form : Drained → Form Drained
entries_form d = and_then (repeat (λ before. flagged_entry) (length d.batch.entries) []) (λ pairs. Done (drained d pairs))

drain_leads : (d : Drained) → IsHead d → Leads drain (head_fields d) (entries_form d)
unfolding drain
drain_leads d is =
    let epoch = is.epoch in
    let number = is.number_wide in
    let answers = is.answers in
    let sent0 = is.sent0 in
    let sent1 = is.sent1 in (
      is_between 0 65536 d.at (omega arith) is.at (omega arith),
      (
        is_between 0 (2 ^ 32 - 1) d.epoch (omega arith) (omega arith) (omega arith),
        (
          is_between 0 15 d.batch.note.cpu (omega arith) is.cpu (omega arith),
          (
            is_between 0 2 d.batch.note.cell (omega arith) is.cell (omega arith),
            (
              is_between 1 (2 ^ 64 - 1) d.batch.note.number is.number (omega arith) (omega arith),
              (
                is_between 0 2000000 d.batch.note.upto (omega arith) is.upto (omega arith),
                (
                  is_between 0 (2 ^ 64 - 1) d.batch.note.answers (omega arith) (omega arith) (omega arith),
                  (
                    is_between 0 (2 ^ 64 - 1) d.batch.note.sent0 (omega arith) (omega arith) (omega arith),
                    (
                      is_between 0 (2 ^ 64 - 1) d.batch.note.sent1 (omega arith) (omega arith) (omega arith),
                      (is_between 0 2000000 (length d.batch.entries) (omega arith) is.size (omega arith), refl),
                    ),
                  ),
                ),
              ),
            ),
          ),
        ),
      ),
    )

abbrev drained_of : Drained → List Counted → List Bool → Drained
drained_of d es ks = record { at = d.at; epoch = d.epoch; batch = record { note = d.batch.note; entries = es }; known = ks }

drained_back : (d : Drained) → length d.known ≡ length d.batch.entries → drained d (zip d.batch.entries d.known) ≡ d
drained_back d flags =
    ap (λ (es : List Counted). drained_of d es (map (λ (e : Counted × Bool). e.1) (zip d.batch.entries d.known))) (firsts-zip d.batch.entries d.known flags)
    ∙ ap (λ (ks : List Bool). drained_of d d.batch.entries ks) (seconds-zip d.batch.entries d.known flags)

pub drain_appends : (old mid new : List ℕ) (d : Drained) → IsHead d → length d.known ≡ length d.batch.entries → mid ≡ old ++ spell (head_fields d)
    → Appends (repeat (λ before. flagged_entry) (length d.batch.entries) []) mid new (zip d.batch.entries d.known) → Appends drain old new d
drain_appends old mid new d is flags e later =
    let pairs = zip d.batch.entries d.known in
    let rest : Appends (entries_form d) mid new d =
    appends_and_then (repeat (λ before. flagged_entry) (length d.batch.entries) []) (λ ps. Done (drained d ps)) mid new new pairs d later (appends_done (drained d pairs) d new (drained_back d flags)) in
    appends_leads drain (head_fields d) (entries_form d) old mid new d (drain_leads d is) e rest

-- the ranges of a header
pub record IsHeader (h : Header) : Type 0 where
  pub kept : (h.cpu ≤ 15) × (h.cell ≤ 2) × (1 ≤ h.number) × (h.upto ≤ 2000000)
  pub number : h.number < 2 ^ 64
  pub answers : h.answers < 2 ^ 64
  pub sent0 : h.sent0 < 2 ^ 64
  pub sent1 : h.sent1 < 2 ^ 64

abbrev sent_of : Header → List Counted → Sent
sent_of header es = record { note = header; entries = es }

abbrev drain_in : ℕ → ℕ → List Bool → Sent → Drained
drain_in at epoch ks batch = record { at = at; epoch = epoch; batch = batch; known = ks }

-- a drain whose fields are at hand one by one
pub drain_written : (old mid new : List ℕ) (at epoch : ℕ) (header note : Header) (es : List Counted) (ks : List Bool) (batch : Sent) (d : Drained) (at' epoch' cpu' cell' count' : ℕ)
    → header ≡ note → sent_of note es ≡ batch → drain_in at epoch ks batch ≡ d → IsDrained d → at' ≡ at → epoch' ≡ epoch → epoch' < 2 ^ 32 → cpu' ≡ header.cpu → cell' ≡ header.cell → count' ≡ length es → IsHeader header
    → mid ≡ old ++ spell (at' ∷ epoch' ∷ cpu' ∷ cell' ∷ header.number ∷ header.upto ∷ header.answers ∷ header.sent0 ∷ header.sent1 ∷ count' ∷ [])
    → Appends (repeat (λ before. flagged_entry) (length es) []) mid new (zip es ks) → Appends drain old new d
drain_written old mid new at epoch header note es ks batch d at' epoch' cpu' cell' count' note-is batch-is d-is fits at-is epoch-is epoch-fits cpu-is cell-is count-is ranges text later =
    let whole : Drained = drain_in at epoch ks (sent_of header es) in
    let same : whole ≡ d = ap (λ (h : Header). drain_in at epoch ks (sent_of h es)) note-is ∙ ap (λ (b : Sent). drain_in at epoch ks b) batch-is ∙ d-is in
    let is : IsDrained whole = subst (λ (x : Drained). IsDrained x) (sym same) fits in
    let numbers : at' ∷ epoch' ∷ cpu' ∷ cell' ∷ header.number ∷ header.upto ∷ header.answers ∷ header.sent0 ∷ header.sent1 ∷ count' ∷ [] ≡ head_fields whole =
    rw (at-is, epoch-is, cpu-is, cell-is, count-is) refl in
    let head : IsHead whole =
    record {
      at = is.position;
      epoch = rw (← epoch-is) epoch-fits;
      cpu = ranges.kept.0;
      cell = ranges.kept.1;
      number = ranges.kept.2;
      number_wide = ranges.number;
      upto = ranges.kept.3;
      answers = ranges.answers;
      sent0 = ranges.sent0;
      sent1 = ranges.sent1;
      size = is.size;
    } in
    subst (λ (x : Drained). Appends drain old new x) same (drain_appends old mid new whole head is.flags (text ∙ ap (λ (ns : List ℕ). old ++ spell ns) numbers) later)

-- ---- segments

-- the numbers of a segment before its drains
abbrev pub segment_head : Segment → List ℕ
segment_head s = 1 ∷ s.run ∷ s.part ∷ bit_of s.last ∷ s.first_epoch ∷ length s.drains ∷ []

-- the ranges of a segment's header
pub record IsSegmentHead (s : Segment) : Type 0 where
  pub run : 1 ≤ s.run
  pub run_wide : s.run < 2 ^ 32
  pub part : s.part ≤ 1024
  pub first_epoch : s.first_epoch < 2 ^ 32
  pub count : length s.drains < 2 ^ 64

abbrev segment_of : Segment → Bool → List Drained → List (List Loss) → Segment
segment_of s last drains losses = record { run = s.run; part = s.part; last = last; first_epoch = s.first_epoch; drains = drains; losses = losses }

abbrev losses_form : Segment → Bool → List Drained → Form Segment
losses_form s last drains = and_then (processors last) (λ losses. Done (segment_of s last drains losses))

abbrev drains_form : Segment → Bool → Form Segment
drains_form s last = and_then (repeat (λ before. drain) (length s.drains) []) (λ drains. losses_form s last drains)

segment_leads : (s : Segment) → IsSegmentHead s → Leads segment (segment_head s) (drains_form s s.last)
unfolding segment
segment_leads s is =
    let run = is.run_wide in
    let first_epoch = is.first_epoch in
    let count = is.count in (
      is_between 1 1 1 (omega arith) (omega arith) (omega arith),
      (
        is_between 1 (2 ^ 32 - 1) s.run is.run (omega arith) (omega arith),
        (
          is_between 0 1024 s.part (omega arith) is.part (omega arith),
          (
            is_between 0 1 (bit_of s.last) (omega arith) (bit_of_small s.last) (omega arith),
            (
              is_between 0 (2 ^ 32 - 1) s.first_epoch (omega arith) (omega arith) (omega arith),
              (
                is_between 0 (2 ^ 64 - 1) (length s.drains) (omega arith) (omega arith) (omega arith),
                ap (λ (last : Bool). drains_form s last) (bit_of-eqb s.last),
              ),
            ),
          ),
        ),
      ),
    )

pub segment_appends : (old mid after new : List ℕ) (s : Segment) → IsSegmentHead s → mid ≡ old ++ spell (segment_head s)
    → Appends (repeat (λ before. drain) (length s.drains) []) mid after s.drains → Appends (processors s.last) after new s.losses → Appends segment old new s
segment_appends old mid after new s is e drains losses =
    let ends : Appends (losses_form s s.last s.drains) after new s =
    appends_and_then (processors s.last) (λ ls. Done (segment_of s s.last s.drains ls)) after new new s.losses s losses (appends_done s s new refl) in
    let rest : Appends (drains_form s s.last) mid new s =
    appends_and_then (repeat (λ before. drain) (length s.drains) []) (λ ds. losses_form s s.last ds) mid after new s.drains s drains ends in
    appends_leads segment (segment_head s) (drains_form s s.last) old mid new s (segment_leads s is) e rest

abbrev pub segment_in : ℕ → ℕ → Bool → ℕ → List Drained → List (List Loss) → Segment
segment_in run part last first_epoch drains lists = record { run = run; part = part; last = last; first_epoch = first_epoch; drains = drains; losses = lists }

-- a segment whose fields are at hand one by one
pub segment_written : (old mid after new : List ℕ) (run part : ℕ) (last : Bool) (first_epoch : ℕ) (drains : List Drained) (lists : List (List Loss)) (s : Segment) (run' part' last' first_epoch' count' : ℕ)
    → segment_in run part last first_epoch drains lists ≡ s → IsSegment s → run' ≡ run → run' < 2 ^ 32 → part' ≡ part → last' ≡ bit_of last → first_epoch' ≡ first_epoch → first_epoch' < 2 ^ 32 → count' ≡ length drains → count' < 2 ^ 64
    → mid ≡ old ++ spell (1 ∷ run' ∷ part' ∷ last' ∷ first_epoch' ∷ count' ∷ []) → Appends (repeat (λ before. drain) (length drains) []) mid after drains → Appends (processors last) after new lists → Appends segment old new s
segment_written old mid after new run part last first_epoch drains lists s run' part' last' first_epoch' count' s-is fits run-is run-fits part-is last-is first_epoch-is first_epoch-fits count-is count-fits text drains-told losses-told =
    let whole : Segment = segment_in run part last first_epoch drains lists in
    let is : IsSegment whole = subst (λ (x : Segment). IsSegment x) (sym s-is) fits in
    let numbers : 1 ∷ run' ∷ part' ∷ last' ∷ first_epoch' ∷ count' ∷ [] ≡ segment_head whole = rw (run-is, part-is, last-is, first_epoch-is, count-is) refl in
    let head : IsSegmentHead whole =
    record { run = is.run; run_wide = rw (← run-is) run-fits; part = is.part; first_epoch = rw (← first_epoch-is) first_epoch-fits; count = rw (← count-is) count-fits } in
    subst (λ (x : Segment). Appends segment old new x) s-is (segment_appends old mid after new whole head (text ∙ ap (λ (ns : List ℕ). old ++ spell ns) numbers) drains-told losses-told)

-- what was added to nothing
pub spells_whole : {A : Type 0} (form : Form A) (old new : List ℕ) (value : A) → old ≡ [] → Appends form old new value → Spells form new value
spells_whole {A = A} form old new value e a = subst (λ (t : List ℕ). Spells form t value) (sym (a.1 ∙ ap (λ (o : List ℕ). o ++ a.0) e)) a.2
