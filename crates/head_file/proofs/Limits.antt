-- What the ranges of a head say.
use Rattle.std.proofs.Common.{rules, arith, ◌≡◌, ℕ, ◌+◌, ◌^◌, ◌<◌, ◌≤◌, Bool, true, false, ◌&&◌, List, [], ◌∷◌, length, refl}
use Rattle.std.specs.Prelude.{nat_le, nat_lt}
use Rattle.std.specs.List.{list_all, AllByRecursion}
use Rattle.std.proofs.lemmas.Grind.{common_steps}
use Rattle.database_state.specs.declared.rows.KnownRow.{KnownRow}
use Rattle.database_state.specs.declared.rows.UnknownRow.{UnknownRow}
use Rattle.database_state.specs.Rows.{is_known_row, is_unknown_row, known_before, unknown_before, is_rising}
use Rattle.database_state.specs.Heads.{Head, row_count, is_in_range}
use Rattle.head_file.specs.Words.{KnownFits, UnknownFits}

first : (a b : Bool) → (a && b) ≡ true → a ≡ true
first true b h = refl
first false b h = h

second : (a b : Bool) → (a && b) ≡ true → b ≡ true
second true b h = h
second false b h = cc

pub le_of : (a b : ℕ) → nat_le a b ≡ true → a ≤ b
le_of a b is = grind (arith, common_steps)

pub lt_of : (a b : ℕ) → nat_lt a b ≡ true → a < b
lt_of a b is = grind (arith, common_steps)

-- the ranges of a head, each by its name
pub record AreRanges (h : Head) : Type 0 where
  pub epoch : h.epoch ≤ h.generation
  pub runs : h.runs ≤ h.generation
  pub count : row_count h ≤ 65536
  pub known : list_all (is_known_row h.epoch (length h.names) h.generation) h.known ≡ true
  pub known_order : is_rising known_before h.known ≡ true
  pub unknown : list_all (is_unknown_row h.epoch h.generation) h.unknown ≡ true
  pub unknown_order : is_rising unknown_before h.unknown ≡ true

pub ranges_of : (h : Head) → is_in_range h ≡ true → AreRanges h
ranges_of h all =
    let a = nat_le h.epoch h.generation in
    let b = nat_le h.runs h.generation in
    let d = nat_le (row_count h) 65536 in
    let k = list_all (is_known_row h.epoch (length h.names) h.generation) h.known in
    let kr = is_rising known_before h.known in
    let u = list_all (is_unknown_row h.epoch h.generation) h.unknown in
    let ur = is_rising unknown_before h.unknown in
    let s6 = first (a && b && d && k && kr && u) ur all in
    let s5 = first (a && b && d && k && kr) u s6 in
    let s4 = first (a && b && d && k) kr s5 in
    let s3 = first (a && b && d) k s4 in
    let s2 = first (a && b) d s3 in
    record {
      epoch = le_of h.epoch h.generation (first a b s2);
      runs = le_of h.runs h.generation (second a b s2);
      count = le_of (row_count h) 65536 (second (a && b) d s3);
      known = second (a && b && d) k s4;
      known_order = second (a && b && d && k) kr s5;
      unknown = second (a && b && d && k && kr) u s6;
      unknown_order = second (a && b && d && k && kr && u) ur all;
    }

known_fits : (epoch images generation : ℕ) (r : KnownRow) → epoch ≤ 65536 → images ≤ 4096 → generation ≤ 65536 → is_known_row epoch images generation r ≡ true → KnownFits r
known_fits epoch images generation r e i g is =
    let a = nat_le r.epoch epoch in
    let b = nat_lt r.image images in
    let d = nat_le r.event 3 in
    let p = nat_le 1 r.g in
    let q = nat_le r.g generation in
    let s4 = first (a && b && d && p) q is in
    let s3 = first (a && b && d) p s4 in
    let s2 = first (a && b) d s3 in
    let epoch_le = le_of r.epoch epoch (first a b s2) in
    let image_lt = lt_of r.image images (second a b s2) in
    let event_le = le_of r.event 3 (second (a && b) d s3) in
    let g_le = le_of r.g generation (second (a && b && d && p) q is) in
    record { epoch = omega arith; image = omega arith; event = omega arith; g = omega arith }

pub all_known_fit : (epoch images generation : ℕ) (rows : List KnownRow) → epoch ≤ 65536 → images ≤ 4096 → generation ≤ 65536 → list_all (is_known_row epoch images generation) rows ≡ true → AllByRecursion KnownFits rows
all_known_fit epoch images generation [] e i g all = tt
all_known_fit epoch images generation (r ∷ rows) e i g all =
    let one = is_known_row epoch images generation r in
    let more = list_all (is_known_row epoch images generation) rows in
    (known_fits epoch images generation r e i g (first one more all), all_known_fit epoch images generation rows e i g (second one more all))

unknown_fits : (epoch generation : ℕ) (r : UnknownRow) → epoch ≤ 65536 → generation ≤ 65536 → is_unknown_row epoch generation r ≡ true → UnknownFits r
unknown_fits epoch generation r e g is =
    let a = nat_le r.epoch epoch in
    let d = nat_le r.event 3 in
    let p = nat_le 1 r.g in
    let q = nat_le r.g generation in
    let s3 = first (a && d && p) q is in
    let s2 = first (a && d) p s3 in
    let epoch_le = le_of r.epoch epoch (first a d s2) in
    let event_le = le_of r.event 3 (second a d s2) in
    let g_le = le_of r.g generation (second (a && d && p) q is) in
    record { epoch = omega arith; event = omega arith; g = omega arith }

pub all_unknown_fit : (epoch generation : ℕ) (rows : List UnknownRow) → epoch ≤ 65536 → generation ≤ 65536 → list_all (is_unknown_row epoch generation) rows ≡ true → AllByRecursion UnknownFits rows
all_unknown_fit epoch generation [] e g all = tt
all_unknown_fit epoch generation (r ∷ rows) e g all =
    let one = is_unknown_row epoch generation r in
    let more = list_all (is_unknown_row epoch generation) rows in
    (unknown_fits epoch generation r e g (first one more all), all_unknown_fit epoch generation rows e g (second one more all))
