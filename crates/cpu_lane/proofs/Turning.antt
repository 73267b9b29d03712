-- A turn is ready for its steps once the bell was heard and the table looked for; and what it gives, from what they give.
use Rattle.std.proofs.Common.{◌≡◌, ℕ, ◌+◌, ◌*◌, ◌/◌, ◌<◌, ◌≤◌, List, [], ◌∷◌, length, refl, sym, ◌∙◌, ap, subst, arith, true, false, Some, None, Option}
use Rattle.std.specs.Prelude.{is_some, IfSome}
use Rattle.std.proofs.lemmas.Bool.{cond_both, cond-true, cond-false}
use Rattle.std.proofs.lemmas.List.{length-replicate}
use Rattle.sample_key.specs.Counted.{Counted}
use Rattle.sample_key.specs.Sent.{Sent}
use Rattle.driver_model.specs.Lists.{AllOf}
use Rattle.driver_model.specs.Table.{Table, empty_table, IsTable}
use Rattle.driver_model.specs.Sides.{Slot, Side, is_even, side_hear, side_look_table}
use Rattle.driver_model.specs.Driver.{Setup, Driver, World, Turned, Two, Words, ends_with, regain, after_regain, turn_of}
use Rattle.driver_model.specs.Invariant.{IsSetup, FullOrCut, entries_of, last_answer, table_entries, DriverInvariant}
use Rattle.driver_model.specs.declared.answers.Turn.{Turn}
use Rattle.driver_model.specs.declared.answers.Turn.TheVariants.{Done}
use Rattle.driver_model.specs.Handover.{FarSide, Given}
use Rattle.driver_model.specs.Runs.{words_at, word_of}
use Rattle.driver_laws.specs.Turns.{AreFairWords}
use Rattle.driver_laws.proofs.Marks.{due_later}
use Rattle.driver_laws.proofs.Parts.{few_answers}
use Rattle.driver_laws.proofs.Tables.{empty_entries}
use Rattle.lane_side.specs.Fixed.{Fixed}
use Rattle.cpu_lane.specs.Told.{OverTwo, OverThird, two_at}
use Rattle.cpu_lane.specs.Steps.{Is, Gives}
use Rattle.cpu_lane.specs.Ready.{IsSideOf, HasRoom, Ready}
use Rattle.cpu_lane.proofs.Readying.{ready_holds}

-- each batch of a buffer has an entry
few_batches : (cell size : ℕ) (tables bs : List Sent) → AllOf (FullOrCut cell size tables) bs → length bs ≤ entries_of bs
few_batches cell size tables [] h = omega arith
few_batches cell size tables (b ∷ bs) h = omega (arith, h.0.0, few_batches cell size tables bs h.1)

partly : (n : ℕ) (a : Option (List Counted)) → IfSome a (λ es. (1 ≤ length es) × (length es < n)) → IfSome a (λ es. length es < n)
partly n None h = tt
partly n (Some es) h = h.1

sized : (n : ℕ) (o : Option Table) → IfSome o (IsTable n) → IfSome o (λ t. length t.rows ≡ n)
sized n None h = tt
sized n (Some t) h = h.size

-- after the bell
pub ready_hear : (u : Setup) (f : Fixed) (d : Driver) (v : Side) (w : ℕ) → IsSetup u → IsSideOf u f v → HasRoom d v → DriverInvariant u d v → v.heard ≤ w → Ready u f d (side_hear v w)
ready_hear u f d v w setup side room i later =
    let s = i.in_step in
    let first = few_batches 0 u.size v.third.handed v.first.handed i.well_formed.sizes0 in
    let second = few_batches 1 u.size v.third.handed v.second.handed i.well_formed.sizes1 in
    let third : 0 + length v.third.handed ≤ last_answer 0 v.third.handed = few_answers v.third.handed 0 [] (λ b g. omega (arith, g.0)) i.answers_rise.rise in
    record {
      setup_is = setup;
      side_is = record { cpu = side.cpu; samples = side.samples; size = side.size };
      room = room;
      holds0 = s.holds0;
      holds1 = s.holds1;
      holds2 = s.holds2;
      table = sized v.buckets d.table s.table;
      active = partly v.buffer d.pair.active s.active;
      buffer = s.buffer;
      number = s.number;
      next = s.next;
      hands0 = s.hands0;
      hands1 = s.hands1;
      hands2 = s.hands2;
      few0 = omega (arith, s.hands0, first, i.counted.written, i.counted.all);
      few1 = omega (arith, s.hands1, second, i.counted.written, i.counted.all);
      few2 = omega (arith, s.hands2, third, i.answers_rise.last);
      answered = omega (arith, i.answers_rise.heard, later);
      at = omega (arith, i.in_range.at, due_later u.samples (v.heard / 2) (w / 2) (omega arith));
      held = omega (arith, i.counted.placed, i.counted.written, i.counted.all);
      all = i.counted.all;
    }

-- after the table was looked for
pub ready_regain : (u : Setup) (f : Fixed) (d : Driver) (v : Side) (w : ℕ) (o : Option Table) → Ready u f d v → d.table ≡ o → Ready u f (regain d v w o).driver (regain d v w o).side
ready_regain u f d v w (Some t) r held = r
ready_regain u f d v w None r held =
    cond_both (is_even w) (record d { table = Some (empty_table v.buckets v.turn) }) d (λ (e : Driver). Ready u f e (side_look_table v w))
    (λ even. ready_holds u f d (record d { table = Some (empty_table v.buckets v.turn) }) v (side_look_table v w)
    (empty_entries v.buckets v.turn ∙ sym (ap (λ (z : Option Table). table_entries z) held)) refl r.holds0 r.holds1 even (length-replicate {A = List Counted} v.buckets []) r.active r.number (omega arith) r)
    (λ odd. ready_holds u f d d v (side_look_table v w) refl refl r.holds0 r.holds1 (odd ∙ sym (ap (λ (z : Option Table). is_some z) held)) r.table r.active r.number (omega arith) r)

-- what the look for the table leaves
record Leaves (v w : Side) : Type 0 where
  pub heard : w.heard ≡ v.heard
  pub first : w.first ≡ v.first
  pub second : w.second ≡ v.second

regain_leaves : (d : Driver) (v : Side) (w : ℕ) (o : Option Table) → Leaves v (regain d v w o).side
regain_leaves d v w None = record { heard = refl; first = refl; second = refl }
regain_leaves d v w (Some t) = record { heard = refl; first = refl; second = refl }

-- the driver is that of the definition
pub regained_ready : (u : Setup) (f g : Fixed) (d : Driver) (v : Side) (w : ℕ) (e : Driver) (x : Side) → Ready u f d v → Is (regain d v w d.table) e x → g ≡ f → Ready u g e x
regained_ready u f g d v w e x r is same =
    let y = regain d v w d.table in
    subst (λ (k : Fixed). Ready u k e x) (sym same) (subst (λ (z : Driver). Ready u f z x) (sym is.0) (subst (λ (z : Side). Ready u f y.driver z) (sym is.1)
    (ready_regain u f d v w d.table r refl)))

-- what a turn gives, from what its steps give over these words
given_at : (u : Setup) (d : Driver) (v : Side) (bell word : ℕ) (two : Two) (e : Driver) (x : Side) (said : Turn) (f : Driver) (y : Side) → d.done ≡ false
    → Is (regain d (side_hear v bell) word d.table) e x → Gives (after_regain u (record { bell = bell; third = word; two = two }) (record { driver = e; side = x })) said f y
    → Gives (turn_of u (record { bell = bell; third = word; two = two }) (record { driver = d; side = v })) said f y
given_at u d v bell word two e x said f y going is gives =
    let k : Words = record { bell = bell; third = word; two = two } in
    let z = regain d (side_hear v bell) word d.table in
    let same : record { driver = e; side = x } ≡ z = λ i. record { driver = is.0 i; side = is.1 i } in
    subst (λ (t : Turned). Gives t said f y) (sym (cond-false d.done (ends_with (record { driver = d; side = v }) Done) (after_regain u k z) going))
    (subst (λ (s : World). Gives (after_regain u k s) said f y) same gives)

-- the look for the table leaves what the buffers were handed
handed_same : (d : Driver) (v : Side) (bell word : ℕ) (e : Driver) (x : Side) → Is (regain d (side_hear v bell) word d.table) e x → (x.first ≡ v.first) × (x.second ≡ v.second)
handed_same d v bell word e x is =
    let l = regain_leaves d (side_hear v bell) word d.table in
    (ap (λ (s : Side). s.first) is.1 ∙ l.first, ap (λ (s : Side). s.second) is.1 ∙ l.second)

-- what a turn gives over the words that it read
pub turn_given : (u : Setup) (far : FarSide) (f : FarSide) (d : Driver) (v s : Side) (bell : ℕ) (e : Driver) (x : Side) (said : Turn) (a : Driver) (y : Side) → d.done ≡ false → s ≡ side_hear v bell
    → OverThird far s (λ word. Is (regain d s word d.table) e x)
    → OverTwo f x (λ two. (third : ℕ) → Gives (after_regain u (record { bell = bell; third = third; two = two }) (record { driver = e; side = x })) said a y)
    → (k : Words) × Gives (turn_of u k (record { driver = d; side = v })) said a y × AreFairWords v k.two × (k.bell ≡ bell)
turn_given u far f d v s bell e x said a y going heard looks after =
    let word = looks.read.0 in let two = after.read.0 in
    let is : Is (regain d (side_hear v bell) word d.table) e x = subst (λ (z : Side). Is (regain d z word d.table) e x) heard looks.read.1 in
    let same = handed_same d v bell word e x is in let fair = after.read.2 in (
      record { bell = bell; third = word; two = two },
      given_at u d v bell word two e x said a y going is (after.read.1 word),
      ((λ odd. fair.0 odd ∙ ap (λ (c : Slot). 2 * length c.handed) same.0), (λ odd. fair.1 odd ∙ ap (λ (c : Slot). 2 * length c.handed) same.1)),
      refl,
    )

-- the same, over the words that the side tells
pub turn_told : (u : Setup) (far f : FarSide) (d : Driver) (v s : Side) (bell : ℕ) (e : Driver) (x : Side) (said : Turn) (a : Driver) (y : Side) (g : Given) → d.done ≡ false → s ≡ side_hear v bell
    → far.given ≡ Some g → f ≡ far
    → OverThird far s (λ word. Is (regain d s word d.table) e x)
    → OverTwo f x (λ two. (third : ℕ) → Gives (after_regain u (record { bell = bell; third = third; two = two }) (record { driver = e; side = x })) said a y)
    → Gives (turn_of u (words_at bell g v) (record { driver = d; side = v })) said a y
turn_told u far f d v s bell e x said a y g going heard given same looks after =
    let word = word_of v.third g.third in
    let third : Is (regain d s (word_of s.third g.third) d.table) e x = looks.told g given in
    let is : Is (regain d (side_hear v bell) word d.table) e x = subst (λ (z : Side). Is (regain d z (word_of z.third g.third) d.table) e x) heard third in
    let handed = handed_same d v bell word e x is in
    let two : two_at g x ≡ two_at g v = λ i. record { first = word_of (handed.0 i) g.first; second = word_of (handed.1 i) g.second } in
    let gives = after.told g (ap (λ (z : FarSide). z.given) same ∙ given) word in
    given_at u d v bell word (two_at g v) e x said a y going is
    (subst (λ (h : Two). Gives (after_regain u (record { bell = bell; third = word; two = h }) (record { driver = e; side = x })) said a y) two gives)

-- a turn after the close, over any words
pub turn_done : (u : Setup) (k : Words) (d : Driver) (v : Side) → d.done ≡ true → Gives (turn_of u k (record { driver = d; side = v })) Done d v
turn_done u k d v done =
    subst (λ (t : Turned). Gives t Done d v)
    (sym (cond-true d.done (ends_with (record { driver = d; side = v }) Done) (after_regain u k (regain d (side_hear v k.bell) k.third d.table)) done)) (refl, refl, refl)
