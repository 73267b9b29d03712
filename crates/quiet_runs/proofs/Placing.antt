-- The place of an address has an offset that is a multiple of 4 and not above the address.
use Rattle.std.proofs.Common.{◌≡◌, ℕ, ◌-◌, ◌%◌, ◌≤◌, ◌&&◌, Bool, true, false, List, [], ◌∷◌, reverse, take, arith, Option, Some, None, eqb}
use Rattle.std.specs.List.{AllByRecursion}
use Rattle.std.proofs.lemmas.Bool.{cond_both, and_parts, eqb-true, leb-true}
use Rattle.text_num.proofs.Lists.{all_first, all_reversed}
use Rattle.trace_model.specs.declared.notices.Record.{Record}
use Rattle.trace_model.specs.declared.notices.Record.TheVariants.{Scan, Load, Unload, Exec, Exit, Kernel, Drain, Merge, Epoch}
use Rattle.trace_model.specs.declared.notices.Place.{Place}
use Rattle.trace_model.specs.Attribution.{covers, place_if_covered, Verdict, GoesOn, Decides, by_mapping, decides_where, says, decided_by, own_place, kernel_mapping, or_else, kernel_place, place_at}
use Rattle.trace_model.specs.Recording.{keeps_ranges, record_said}
use Rattle.trace_model.specs.Said.{every, tested, is_within}

abbrev pub Keeps : Record → Type 0
Keeps notice = keeps_ranges notice ≡ true

module _ (pc : ℕ) where
  abbrev pub PlaceFits : Option Place → Type 0
  PlaceFits None = Unit {0}
  PlaceFits (Some place) = (place.offset % 4 ≡ 0) × (place.offset ≤ pc)

  abbrev VerdictFits : Verdict → Type 0
  VerdictFits GoesOn = Unit {0}
  VerdictFits (Decides place) = PlaceFits place

  module _ (aligned : pc % 4 ≡ 0) where
    covered : (base size image : ℕ) → eqb (base % 4) 0 ≡ true → PlaceFits (place_if_covered base size image pc)
    covered base size image a =
        cond_both (covers base size pc) (Some (record { image = image; offset = pc - base })) None PlaceFits
        (λ e. fits (eqb-true (base % 4) 0 a) (leb-true base pc (and_parts _ _ e).0)) (λ e. tt)
      where
        fits : base % 4 ≡ 0 → base ≤ pc → ((pc - base) % 4 ≡ 0) × (pc - base ≤ pc)
        fits b l = (omega arith, omega arith)

    mapping_fits : (t : Bool) (place : Option Place) → PlaceFits place → VerdictFits (by_mapping t place)
    mapping_fits true (Some place) h = h
    mapping_fits true None h = tt
    mapping_fits false place h = tt

    where_fits : (t : Bool) (place : Option Place) → PlaceFits place → VerdictFits (decides_where t place)
    where_fits true place h = h
    where_fits false place h = tt

    -- the base of a mapping is a multiple of 4
    base_of : (w a b c : Bool) → (w && ((a && b) && c)) ≡ true → a ≡ true
    base_of w a b c h = (and_parts a b (and_parts (a && b) c (and_parts w ((a && b) && c) h).1).0).0

    says_fits : (notice : Record) (pid : ℕ) → Keeps notice → VerdictFits (says notice pid pc)
    says_fits (Scan process base size image) pid h = mapping_fits (eqb process pid) (place_if_covered base size image pc)
        (covered base size image (base_of (every is_within (tested (record_said [] (Scan process base size image)))) (eqb (base % 4) 0) (eqb (size % 4) 0) true h))
    says_fits (Load process base size image) pid h = mapping_fits (eqb process pid) (place_if_covered base size image pc)
        (covered base size image (base_of (every is_within (tested (record_said [] (Load process base size image)))) (eqb (base % 4) 0) (eqb (size % 4) 0) true h))
    says_fits (Unload process base size) pid h = where_fits (eqb process pid && covers base size pc) None tt
    says_fits (Exec process base size image) pid h = where_fits (eqb process pid) (place_if_covered base size image pc)
        (covered base size image (base_of (every is_within (tested (record_said [] (Exec process base size image)))) (eqb (base % 4) 0) (eqb (size % 4) 0) true h))
    says_fits (Exit process) pid h = where_fits (eqb process pid) None tt
    says_fits (Kernel base size image) pid h = tt
    says_fits Drain pid h = tt
    says_fits Merge pid h = tt
    says_fits Epoch pid h = tt

    kernel_fits : (notice : Record) → Keeps notice → PlaceFits (kernel_mapping notice pc)
    kernel_fits (Scan process base size image) h = tt
    kernel_fits (Load process base size image) h = tt
    kernel_fits (Unload process base size) h = tt
    kernel_fits (Exec process base size image) h = tt
    kernel_fits (Exit process) h = tt
    kernel_fits (Kernel base size image) h =
        covered base size image (base_of (every is_within (tested (record_said [] (Kernel base size image)))) (eqb (base % 4) 0) (eqb (size % 4) 0) true h)
    kernel_fits Drain h = tt
    kernel_fits Merge h = tt
    kernel_fits Epoch h = tt

    decided_fits : (v : Verdict) (other : Option Place) → VerdictFits v → PlaceFits other → PlaceFits (decided_by v other)
    decided_fits GoesOn other a b = b
    decided_fits (Decides place) other a b = a

    else_fits : (first other : Option Place) → PlaceFits first → PlaceFits other → PlaceFits (or_else first other)
    else_fits None other a b = b
    else_fits (Some place) other a b = a

    own_fits : (records : List Record) (pid : ℕ) → AllByRecursion Keeps records → PlaceFits (own_place records pid pc)
    own_fits [] pid h = tt
    own_fits (notice ∷ earlier) pid h = decided_fits (says notice pid pc) (own_place earlier pid pc) (says_fits notice pid h.0) (own_fits earlier pid h.1)

    all_kernel_fits : (records : List Record) → AllByRecursion Keeps records → PlaceFits (kernel_place records pc)
    all_kernel_fits [] h = tt
    all_kernel_fits (notice ∷ earlier) h = else_fits (kernel_mapping notice pc) (kernel_place earlier pc) (kernel_fits notice h.0) (all_kernel_fits earlier h.1)

pub place_fits : (pc : ℕ) → pc % 4 ≡ 0 → (records : List Record) (at pid : ℕ) → AllByRecursion Keeps records → PlaceFits pc (place_at records at pid pc)
place_fits pc aligned records at pid h =
    let latest = all_reversed Keeps (take at records) (all_first Keeps at records h) in
    else_fits pc aligned (own_place (reverse (take at records)) pid pc) (kernel_place (reverse (take at records)) pc)
    (own_fits pc aligned (reverse (take at records)) pid latest) (all_kernel_fits pc aligned (reverse (take at records)) latest)
