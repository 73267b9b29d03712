-- What entries add, by the index of an image and by its name.
use Rattle.std.proofs.Common.{arith, ◌≡◌, ℕ, ◌+◌, ◌<◌, ◌≤◌, ◌⊎◌, inl, inr, ◌&&◌, Bool, true, false, eqb, List, [], ◌∷◌, ◌++◌, Option, None, Some, length, refl, sym, ap, ◌∙◌, subst, cond}
use Rattle.std.specs.Prelude.{◌==◌, if◌then◌else◌, find}
use Rattle.std.specs.List.{IsDistinct, AllByRecursion}
use Rattle.std.specs.Str.{bytes_eq}
use Rattle.std.proofs.lemmas.Bool.{cases_lt, eqb-true, eq-eqb}
use Rattle.std.proofs.lemmas.Bool.Decides.{nat_tests}
use Rattle.sample_key.specs.Counted.{Counted}
use Rattle.sample_key.specs.Sent.{Sent}
use Rattle.sample_key.specs.Events.{code_of, event_of_code, all_events}
use Rattle.sample_key.specs.declared.events.Event.{Event}
use Rattle.sample_key.specs.declared.events.Event.TheVariants.{Cycles, Imiss, Dmiss, Branchmp}
use Rattle.image_catalog.specs.Images.{place_of}
use Rattle.trace_model.specs.Attribution.{place_at}
use Rattle.trace_model.specs.Recording.{name_at, HasImage}
use Rattle.trace_model.specs.declared.notices.Place.{Place}
use Rattle.trace_model.specs.declared.notices.Record.{Record}
use Rattle.database_model.specs.Runs.{Drained}
use Rattle.growth_model.specs.Additions.{known_count, unknown_count, known_of, unknown_of}
use Rattle.growth_model.proofs.Sums.{drains_add}
use Rattle.profile_merge.specs.declared.owners.Owner.{Owner}
use Rattle.profile_merge.specs.declared.owners.Owner.TheVariants.{Known, Unknown}
use Rattle.profile_merge.specs.Sums.{Collected, same_owner, gathered_at, owner_at, offset_at, entries_add, AddsEntries}
use Rattle.profile_merge.specs.Gathering.{known_by, unknown_by, additions_in, ImagesAreIn, EpochsAreUpTo, epoch_of, Gathers, drained}
use Rattle.profile_merge.proofs.Names.{name_test}
use Rattle.sample_key.proofs.Codes.{event_back}
use Rattle.profile_merge.proofs.OwnerOrder.{same_itself}

flip : (a b : ℕ) → eqb a b ≡ eqb b a
flip a b = grind (arith, nat_tests)

-- ---- places that count are in one of the images

-- the place of an entry is in one of the images, or the entry counts nothing
abbrev IsNamed : ℕ → Option Place → ℕ → Type 0
IsNamed images None count = Unit {0}
IsNamed images (Some place) count = (count ≡ 0) ⊎ (place.image < images)

abbrev pub AreNamed : List (List ℕ) → (ℕ → ℕ → Option Place) → List Counted → Type 0
AreNamed images place entries = AllByRecursion (λ c. IsNamed (length images) (place c.key.pid c.key.pc) c.count) entries

-- what is added is in one of the images
abbrev pub AddsNamed : List (List ℕ) → ℕ → (ℕ → ℕ → Option Place) → List Counted → Type 0
AddsNamed images epoch place entries = (e image : ℕ) (event : Event) (offset : ℕ) → 0 < entries_add epoch place entries (Known e image event) offset → image < length images

own_count : (owner : Owner) (offset count : ℕ) → (if same_owner owner owner && offset == offset then count else 0) ≡ count
own_count owner offset count = rw (same_itself owner, eq-eqb offset offset refl) refl

named_entry : (images : List (List ℕ)) (epoch : ℕ) (c : Counted) (o : Option Place) (rest : Owner → ℕ → ℕ)
    → ((e image : ℕ) (event : Event) (offset : ℕ) → 0 < (if same_owner (owner_at epoch o c) (Known e image event) && offset_at o c == offset then c.count else 0) + rest (Known e image event) offset → image < length images)
    → IsNamed (length images) o c.count
named_entry images epoch c None rest within = tt
named_entry images epoch c (Some place) rest within = elim (cases_lt 0 c.count) [
  | inl some ↦
      let own = own_count (Known epoch place.image c.key.event) place.offset c.count in
      inr (within epoch place.image c.key.event place.offset (omega (arith, some, own)))
  | inr none ↦ inl (omega (arith, none))
]

pub are_named : (images : List (List ℕ)) (epoch : ℕ) (place : ℕ → ℕ → Option Place) (entries : List Counted) → AddsNamed images epoch place entries → AreNamed images place entries
are_named images epoch place [] within = tt
are_named images epoch place (c ∷ entries) within = (
  named_entry images epoch c (place c.key.pid c.key.pc) (entries_add epoch place entries) within,
  are_named images epoch place entries (λ e image event offset some. within e image event offset (omega (arith, some))),
)

-- ---- one entry

nothing : (b : Bool) → ◌≡◌ {A = ℕ} (if b then 0 else 0) 0
nothing true = refl
nothing false = refl

-- the tests of a place, in another order
tests : (e i v o : Bool) (count : ℕ) → (if ((e && i) && v) && o then count else 0) ≡ (if e then (if (i && v) && o then count else 0) else 0)
tests true i v o count = refl
tests false i v o count = refl

nowhere : (a b : Bool) (count : ℕ) → a ≡ false → (if (a && b) then count else 0) ≡ 0
nowhere true b count is = cc
nowhere false b count is = refl

known_entry : (images : List (List ℕ)) (name : List ℕ) (i : ℕ) (v : Event) (event e epoch offset : ℕ) (c : Counted) (o : Option Place)
    → IsDistinct bytes_eq images → place_of name images ≡ Some i → event ≡ code_of v → IsNamed (length images) o c.count
    → (if same_owner (owner_at epoch o c) (Known e i v) && offset_at o c == offset then c.count else 0) ≡ (if e == epoch then known_count images name event offset c o else 0)
known_entry images name i v event e epoch offset c None apart place code named = sym (nothing (e == epoch))
known_entry images name i v event e epoch offset c (Some p) apart place code (inl none) =
    let zero : (b : Bool) → (if b then c.count else 0) ≡ 0 = λ b. ap (λ (n : ℕ). if b then n else 0) none ∙ nothing b in
    zero _ ∙ sym (ap (λ (n : ℕ). if e == epoch then n else 0) (zero _) ∙ nothing (e == epoch))
known_entry images name i v event e epoch offset c (Some p) apart place code (inr within) =
    tests (epoch == e) (p.image == i) (code_of c.key.event == code_of v) (p.offset == offset) c.count
    ∙ ap (λ (b : Bool). if b then (if ((p.image == i) && (code_of c.key.event == code_of v)) && (p.offset == offset) then c.count else 0) else 0) (flip epoch e)
    ∙ ap (λ (b : Bool). if e == epoch then (if (b && (code_of c.key.event == code_of v)) && (p.offset == offset) then c.count else 0) else 0) (sym (name_test name images p.image apart within (Some i) place))
    ∙ ap (λ (b : Bool). if e == epoch then (if (bytes_eq name (name_at images p.image) && b) && (p.offset == offset) then c.count else 0) else 0) (flip (code_of c.key.event) (code_of v) ∙ ap (λ (n : ℕ). n == code_of c.key.event) (sym code))
    ∙ ap (λ (b : Bool). if e == epoch then (if (bytes_eq name (name_at images p.image) && (event == code_of c.key.event)) && b then c.count else 0) else 0) (flip p.offset offset)

unnamed_entry : (images : List (List ℕ)) (name : List ℕ) (event offset : ℕ) (c : Counted) (o : Option Place)
    → IsDistinct bytes_eq images → place_of name images ≡ None → IsNamed (length images) o c.count → known_count images name event offset c o ≡ 0
unnamed_entry images name event offset c None apart place named = refl
unnamed_entry images name event offset c (Some p) apart place (inl none) = ap (λ (n : ℕ). if (bytes_eq name (name_at images p.image) && event == code_of c.key.event) && offset == p.offset then n else 0) none ∙ nothing _
unnamed_entry images name event offset c (Some p) apart place (inr within) =
    rw (name_test name images p.image apart within None place) refl

pub no_event : (event : ℕ) (v : Event) → event_of_code event ≡ None → (event == code_of v) ≡ false
no_event event v none = by (event == code_of v) refl
  where
    by : (b : Bool) → (event == code_of v) ≡ b → b ≡ false
    by false is = refl
    by true is =
        let same : event ≡ code_of v = eqb-true event (code_of v) is in
        let found : None ≡ Some v = sym none ∙ ap event_of_code same ∙ event_back v in
        absurd cc

eventless_entry : (images : List (List ℕ)) (name : List ℕ) (event offset : ℕ) (c : Counted) (o : Option Place)
    → event_of_code event ≡ None → known_count images name event offset c o ≡ 0
eventless_entry images name event offset c None none = refl
eventless_entry images name event offset c (Some p) none = by (bytes_eq name (name_at images p.image))
  where
    by : (b : Bool) → (if (b && event == code_of c.key.event) && offset == p.offset then c.count else 0) ≡ 0
    by true = ap (λ (t : Bool). if t && offset == p.offset then c.count else 0) (no_event event c.key.event none)
    by false = refl

-- ---- entries

joined : (b : Bool) (x y : ℕ) → (if b then x else 0) + (if b then y else 0) ≡ (if b then x + y else 0)
joined true x y = refl
joined false x y = refl

known_entries : (images : List (List ℕ)) (name : List ℕ) (i : ℕ) (v : Event) (event e epoch offset : ℕ) (place : ℕ → ℕ → Option Place) (entries : List Counted)
    → IsDistinct bytes_eq images → place_of name images ≡ Some i → event ≡ code_of v → AreNamed images place entries
    → entries_add epoch place entries (Known e i v) offset ≡ (if e == epoch then known_of images place name event offset entries else 0)
known_entries images name i v event e epoch offset place [] apart at code named = sym (nothing (e == epoch))
known_entries images name i v event e epoch offset place (c ∷ entries) apart at code named =
    ap (λ (n : ℕ). n + entries_add epoch place entries (Known e i v) offset) (known_entry images name i v event e epoch offset c (place c.key.pid c.key.pc) apart at code named.0)
    ∙ ap (λ (n : ℕ). (if e == epoch then known_count images name event offset c (place c.key.pid c.key.pc) else 0) + n) (known_entries images name i v event e epoch offset place entries apart at code named.1)
    ∙ joined (e == epoch) _ _

unnamed_entries : (images : List (List ℕ)) (name : List ℕ) (event offset : ℕ) (place : ℕ → ℕ → Option Place) (entries : List Counted)
    → IsDistinct bytes_eq images → place_of name images ≡ None → AreNamed images place entries → known_of images place name event offset entries ≡ 0
unnamed_entries images name event offset place [] apart at named = refl
unnamed_entries images name event offset place (c ∷ entries) apart at named =
    let first = unnamed_entry images name event offset c (place c.key.pid c.key.pc) apart at named.0 in
    let rest = unnamed_entries images name event offset place entries apart at named.1 in
    omega (arith, first, rest)

eventless_entries : (images : List (List ℕ)) (name : List ℕ) (event offset : ℕ) (place : ℕ → ℕ → Option Place) (entries : List Counted)
    → event_of_code event ≡ None → known_of images place name event offset entries ≡ 0
eventless_entries images name event offset place [] none = refl
eventless_entries images name event offset place (c ∷ entries) none =
    let first = eventless_entry images name event offset c (place c.key.pid c.key.pc) none in
    let rest = eventless_entries images name event offset place entries none in
    omega (arith, first, rest)

unknown_entry : (v : Event) (event e epoch pc : ℕ) (c : Counted) (o : Option Place) → event ≡ code_of v
    → (if same_owner (owner_at epoch o c) (Unknown e v) && offset_at o c == pc then c.count else 0) ≡ (if e == epoch then unknown_count event pc c o else 0)
unknown_entry v event e epoch pc c None code =
    swap (epoch == e) (code_of c.key.event == code_of v) (c.key.pc == pc)
    ∙ ap (λ (b : Bool). if b then (if (code_of c.key.event == code_of v) && (c.key.pc == pc) then c.count else 0) else 0) (flip epoch e)
    ∙ ap (λ (b : Bool). if e == epoch then (if b && (c.key.pc == pc) then c.count else 0) else 0) (flip (code_of c.key.event) (code_of v) ∙ ap (λ (n : ℕ). n == code_of c.key.event) (sym code))
    ∙ ap (λ (b : Bool). if e == epoch then (if (event == code_of c.key.event) && b then c.count else 0) else 0) (flip c.key.pc pc)
  where
    swap : (a b d : Bool) → (if (a && b) && d then c.count else 0) ≡ (if a then (if b && d then c.count else 0) else 0)
    swap true b d = refl
    swap false b d = refl
unknown_entry v event e epoch pc c (Some p) code = sym (nothing (e == epoch))

unknown_entries : (v : Event) (event e epoch pc : ℕ) (place : ℕ → ℕ → Option Place) (entries : List Counted) → event ≡ code_of v
    → entries_add epoch place entries (Unknown e v) pc ≡ (if e == epoch then unknown_of place event pc entries else 0)
unknown_entries v event e epoch pc place [] code = sym (nothing (e == epoch))
unknown_entries v event e epoch pc place (c ∷ entries) code =
    ap (λ (n : ℕ). n + entries_add epoch place entries (Unknown e v) pc) (unknown_entry v event e epoch pc c (place c.key.pid c.key.pc) code)
    ∙ ap (λ (n : ℕ). (if e == epoch then unknown_count event pc c (place c.key.pid c.key.pc) else 0) + n) (unknown_entries v event e epoch pc place entries code)
    ∙ joined (e == epoch) _ _

unknown_less : (event pc : ℕ) (c : Counted) (o : Option Place) → event_of_code event ≡ None → unknown_count event pc c o ≡ 0
unknown_less event pc c None none = ap (λ (t : Bool). if t && pc == c.key.pc then c.count else 0) (no_event event c.key.event none)
unknown_less event pc c (Some p) none = refl

unknowns_less : (event pc : ℕ) (place : ℕ → ℕ → Option Place) (entries : List Counted) → event_of_code event ≡ None → unknown_of place event pc entries ≡ 0
unknowns_less event pc place [] none = refl
unknowns_less event pc place (c ∷ entries) none =
    let first = unknown_less event pc c (place c.key.pid c.key.pc) none in
    let rest = unknowns_less event pc place entries none in
    omega (arith, first, rest)

-- ---- a code up to 3 is that of its event

passes_by : (b : Bool) (p : Event → Bool) (y x : Event) (later : Option Event) → p y ≡ b → cond b (Some y) later ≡ Some x → (later ≡ Some x → p x ≡ true) → p x ≡ true
passes_by true p y x later here is more = let same : y ≡ x = cc in subst (λ (z : Event). p z ≡ true) same here
passes_by false p y x later here is more = more is

pub coded : (event : ℕ) (v : Event) → event_of_code event ≡ Some v → event ≡ code_of v
coded event v found = sym (eqb-true (code_of v) event (passes all_events found))
  where
    test : Event → Bool
    test e = code_of e == event

    four : (a b c d : Event) → find test (a ∷ b ∷ c ∷ d ∷ []) ≡ Some v → test v ≡ true
    four a b c d is = passes_by (test a) test a v _ refl is (λ is. passes_by (test b) test b v _ refl is (λ is. passes_by (test c) test c v _ refl is (λ is. passes_by (test d) test d v _ refl is (λ is. absurd cc))))

    passes : (events : List Event) → find test all_events ≡ Some v → test v ≡ true
    passes events is = four Cycles Imiss Dmiss Branchmp is

-- ---- a batch

at_epoch : (b : Bool) (x n : ℕ) → n ≡ 0 → x ≡ x + (if b then n else 0)
at_epoch true x n none = omega (arith, none)
at_epoch false x n none = omega arith

module _ (images : List (List ℕ)) (epoch : ℕ) (place : ℕ → ℕ → Option Place) (entries : List Counted) (g0 g1 : Collected) (adds : AddsEntries epoch place entries g0 g1) (apart : IsDistinct bytes_eq images) (within : ImagesAreIn images g1) where
  named : AreNamed images place entries
  named = are_named images epoch place entries (λ e image event offset some. let sum = adds (Known e image event) offset in within e image event offset (omega (arith, some, sum)))

  pub old_within : ImagesAreIn images g0
  old_within = λ e image event offset some. let sum = adds (Known e image event) offset in within e image event offset (omega (arith, some, sum))

  known_step : (e event offset : ℕ) (name : List ℕ) (o : Option ℕ) (w : Option Event) → place_of name images ≡ o → event_of_code event ≡ w
      → known_by g1 e offset o w ≡ known_by g0 e offset o w + (if e == epoch then known_of images place name event offset entries else 0)
  known_step e event offset name None w at code = at_epoch (e == epoch) 0 _ (unnamed_entries images name event offset place entries apart at named)
  known_step e event offset name (Some i) None at code = at_epoch (e == epoch) 0 _ (eventless_entries images name event offset place entries code)
  known_step e event offset name (Some i) (Some v) at code =
      adds (Known e i v) offset ∙ ap (λ (n : ℕ). gathered_at g0 (Known e i v) offset + n) (known_entries images name i v event e epoch offset place entries apart at (coded event v code) named)

  unknown_step : (e event pc : ℕ) (w : Option Event) → event_of_code event ≡ w
      → unknown_by g1 e pc w ≡ unknown_by g0 e pc w + (if e == epoch then unknown_of place event pc entries else 0)
  unknown_step e event pc None code = at_epoch (e == epoch) 0 _ (unknowns_less event pc place entries code)
  unknown_step e event pc (Some v) code =
      adds (Unknown e v) pc ∙ ap (λ (n : ℕ). gathered_at g0 (Unknown e v) pc + n) (unknown_entries v event e epoch pc place entries (coded event v code))

  pub known_more : (e : ℕ) (name : List ℕ) (event offset : ℕ) → (additions_in images g1).known e name event offset ≡ (additions_in images g0).known e name event offset + (if e == epoch then known_of images place name event offset entries else 0)
  known_more e name event offset = known_step e event offset name (place_of name images) (event_of_code event) refl refl

  pub unknown_more : (e event pc : ℕ) → (additions_in images g1).unknown e event pc ≡ (additions_in images g0).unknown e event pc + (if e == epoch then unknown_of place event pc entries else 0)
  unknown_more e event pc = unknown_step e event pc (event_of_code event) refl

chained : (a b c d n : ℕ) → a ≡ b + n → b ≡ c → d ≡ c + (n + 0) → a ≡ d
chained a b c d n one two three = omega (arith, one, two, three)

-- a batch more was gathered
pub gathers_more : (images : List (List ℕ)) (records : List Record) (at epoch : ℕ) (batch : Sent) (g0 g1 : Collected) (drains : List Drained)
    → AddsEntries epoch (place_at records at) batch.entries g0 g1 → Gathers g0 images records drains
    → Gathers g1 images records (drains ++ drained records at epoch batch ∷ [])
gathers_more images records at epoch batch g0 g1 drains adds gathers = λ apart within.
    let place = place_at records at in
    let before = gathers apart (old_within images epoch place batch.entries g0 g1 adds apart within) in
    let sums = drains_add images records drains (drained records at epoch batch ∷ []) in
    record {
      known = λ e name event offset. chained _ _ _ _ _ (known_more images epoch place batch.entries g0 g1 adds apart within e name event offset) (before.known e name event offset) (sums.known e name event offset);
      unknown = λ e event pc. chained _ _ _ _ _ (unknown_more images epoch place batch.entries g0 g1 adds apart within e event pc) (before.unknown e event pc) (sums.unknown e event pc);
    }

-- ---- images and epochs

some_of : (b : Bool) (count rest : ℕ) → 0 < (if b then count else 0) + rest → (b ≡ true) ⊎ (0 < rest)
some_of true count rest some = inl refl
some_of false count rest some = inr (omega (arith, some))

and_left : (a b : Bool) → (a && b) ≡ true → a ≡ true
and_left true b is = refl
and_left false b is = is

own_image : (images : List (List ℕ)) (e epoch image : ℕ) (event : Event) (c : Counted) (o : Option Place) → HasImage images o → same_owner (owner_at epoch o c) (Known e image event) ≡ true → image < length images
own_image images e epoch image event c None has same = absurd cc
own_image images e epoch image event c (Some p) has same =
    let front = and_left (epoch == e && p.image == image) (code_of c.key.event == code_of event) same in
    let is : p.image ≡ image = eqb-true p.image image (right (epoch == e) (p.image == image) front) in
    subst (λ (i : ℕ). i < length images) is has
  where
    right : (a b : Bool) → (a && b) ≡ true → b ≡ true
    right true b is = is
    right false b is = absurd cc

entries_named : (images : List (List ℕ)) (epoch : ℕ) (place : ℕ → ℕ → Option Place) (entries : List Counted) → ((pid pc : ℕ) → HasImage images (place pid pc))
    → (e image : ℕ) (event : Event) (offset : ℕ) → 0 < entries_add epoch place entries (Known e image event) offset → image < length images
entries_named images epoch place [] has e image event offset some = absurd (omega (arith, some))
entries_named images epoch place (c ∷ entries) has e image event offset some = elim (some_of _ c.count (entries_add epoch place entries (Known e image event) offset) some) [
  | inl here ↦ own_image images e epoch image event c (place c.key.pid c.key.pc) (has c.key.pid c.key.pc) (and_left _ _ here)
  | inr rest ↦ entries_named images epoch place entries has e image event offset rest
]

pub images_more : (images : List (List ℕ)) (epoch : ℕ) (place : ℕ → ℕ → Option Place) (entries : List Counted) (g0 g1 : Collected)
    → AddsEntries epoch place entries g0 g1 → ((pid pc : ℕ) → HasImage images (place pid pc)) → ImagesAreIn images g0 → ImagesAreIn images g1
images_more images epoch place entries g0 g1 adds has within = λ e image event offset some.
    let sum = adds (Known e image event) offset in
    elim (cases_lt 0 (gathered_at g0 (Known e image event) offset)) [
      | inl before ↦ within e image event offset before
      | inr none ↦ entries_named images epoch place entries has e image event offset (omega (arith, some, sum, none))
    ]

own_epoch : (epoch : ℕ) (c : Counted) (o : Option Place) (owner : Owner) → same_owner (owner_at epoch o c) owner ≡ true → epoch_of owner ≡ epoch
own_epoch epoch c None (Known e i v) same = absurd cc
own_epoch epoch c None (Unknown e v) same = sym (eqb-true epoch e (and_left (epoch == e) (code_of c.key.event == code_of v) same))
own_epoch epoch c (Some p) (Known e i v) same =
    sym (eqb-true epoch e (and_left (epoch == e) (p.image == i) (and_left (epoch == e && p.image == i) (code_of c.key.event == code_of v) same)))
own_epoch epoch c (Some p) (Unknown e v) same = absurd cc

entries_begun : (epoch : ℕ) (place : ℕ → ℕ → Option Place) (entries : List Counted) (owner : Owner) (offset : ℕ) → 0 < entries_add epoch place entries owner offset → epoch_of owner ≡ epoch
entries_begun epoch place [] owner offset some = absurd (omega (arith, some))
entries_begun epoch place (c ∷ entries) owner offset some = elim (some_of _ c.count (entries_add epoch place entries owner offset) some) [
  | inl here ↦ own_epoch epoch c (place c.key.pid c.key.pc) owner (and_left _ _ here)
  | inr rest ↦ entries_begun epoch place entries owner offset rest
]

pub epochs_more : (last epoch : ℕ) (place : ℕ → ℕ → Option Place) (entries : List Counted) (g0 g1 : Collected)
    → AddsEntries epoch place entries g0 g1 → epoch ≤ last → EpochsAreUpTo last g0 → EpochsAreUpTo last g1
epochs_more last epoch place entries g0 g1 adds upto within = λ owner offset some.
    let sum = adds owner offset in
    elim (cases_lt 0 (gathered_at g0 owner offset)) [
      | inl before ↦ within owner offset before
      | inr none ↦ let is = entries_begun epoch place entries owner offset (omega (arith, some, sum, none)) in omega (arith, is, upto)
    ]
