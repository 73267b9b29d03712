-- The image of each place is one that the trace names.
use Rattle.std.proofs.Common.{◌≡◌, ℕ, ◌-◌, ◌<◌, ◌==◌, ◌&&◌, Bool, true, false, if◌then◌else◌, List, [], ◌∷◌, length, reverse, take, ap, sym, ◌∙◌, ⊎_elim}
use Rattle.std.specs.declared.option.Option.{Option}
use Rattle.std.specs.declared.option.Option.TheVariants.{Some, None}
use Rattle.std.specs.List.{AllByRecursion}
use Rattle.std.proofs.lemmas.Bool.{cases_lt, false≢true}
use Rattle.std.proofs.lemmas.List.{get_or_past}
use Rattle.std.proofs.lemmas.Option.{unwrap_or-slice_get}
use Rattle.text_num.specs.Names.{is_name}
use Rattle.text_num.proofs.Lists.{all_first, all_reversed}
use Rattle.trace_model.specs.declared.notices.Place.{Place}
use Rattle.trace_model.specs.declared.notices.Record.{Record}
use Rattle.trace_model.specs.declared.notices.Record.TheVariants.{Scan, Load, Unload, Exec, Exit, Kernel, Drain, Merge, Epoch}
use Rattle.trace_model.specs.Attribution.{covers, place_if_covered, Verdict, GoesOn, Decides, by_mapping, decides_where, says, decided_by, own_place, kernel_mapping, or_else, kernel_place, place_after}
use Rattle.trace_model.specs.Recording.{HasImage, is_named, name_at}

-- the image of the place that a record decides on is one of these
abbrev pub HasVerdict : List (List ℕ) → Verdict → Type 0
HasVerdict images GoesOn = Unit {0}
HasVerdict images (Decides place) = HasImage images place

-- a record names an image, where it names one
abbrev pub IsNamed : List (List ℕ) → Record → Type 0
IsNamed images notice = is_named images notice ≡ true

named_at : (images : List (List ℕ)) (i : ℕ) → is_name (name_at images i) ≡ true → i < length images
named_at images i h = ⊎_elim (λ l. l)
    (λ past. absurd (false≢true (sym (ap is_name (unwrap_or-slice_get images i [] ∙ get_or_past images i [] past)) ∙ h)))
    (cases_lt i (length images))

if_covered : (images : List (List ℕ)) (b : Bool) (i o : ℕ) → i < length images → HasImage images (if b then Some (record { image = i; offset = o }) else None)
if_covered images true i o h = h
if_covered images false i o h = tt

place_named : (images : List (List ℕ)) (base size image pc : ℕ) → is_name (name_at images image) ≡ true → HasImage images (place_if_covered base size image pc)
place_named images base size image pc h = if_covered images (covers base size pc) image (pc - base) (named_at images image h)

mapping_named : (images : List (List ℕ)) (b : Bool) (place : Option Place) → HasImage images place → HasVerdict images (by_mapping b place)
mapping_named images true (Some place) h = h
mapping_named images true None h = tt
mapping_named images false place h = tt

where_named : (images : List (List ℕ)) (b : Bool) (place : Option Place) → HasImage images place → HasVerdict images (decides_where b place)
where_named images true place h = h
where_named images false place h = tt

-- of one record
pub says_named : (images : List (List ℕ)) (notice : Record) (pid pc : ℕ) → IsNamed images notice → HasVerdict images (says notice pid pc)
says_named images (Scan process base size image) pid pc h = mapping_named images (process == pid) (place_if_covered base size image pc) (place_named images base size image pc h)
says_named images (Load process base size image) pid pc h = mapping_named images (process == pid) (place_if_covered base size image pc) (place_named images base size image pc h)
says_named images (Unload process base size) pid pc h = where_named images (process == pid && covers base size pc) None tt
says_named images (Exec process base size image) pid pc h = where_named images (process == pid) (place_if_covered base size image pc) (place_named images base size image pc h)
says_named images (Exit process) pid pc h = where_named images (process == pid) None tt
says_named images (Kernel base size image) pid pc h = tt
says_named images Drain pid pc h = tt
says_named images Merge pid pc h = tt
says_named images Epoch pid pc h = tt

pub kernel_named : (images : List (List ℕ)) (notice : Record) (pc : ℕ) → IsNamed images notice → HasImage images (kernel_mapping notice pc)
kernel_named images (Scan process base size image) pc h = tt
kernel_named images (Load process base size image) pc h = tt
kernel_named images (Unload process base size) pc h = tt
kernel_named images (Exec process base size image) pc h = tt
kernel_named images (Exit process) pc h = tt
kernel_named images (Kernel base size image) pc h = place_named images base size image pc h
kernel_named images Drain pc h = tt
kernel_named images Merge pc h = tt
kernel_named images Epoch pc h = tt

-- of a record and those before it
pub decided_named : (images : List (List ℕ)) (verdict : Verdict) (place : Option Place) → HasVerdict images verdict → HasImage images place → HasImage images (decided_by verdict place)
decided_named images GoesOn place h k = k
decided_named images (Decides found) place h k = h

pub either_named : (images : List (List ℕ)) (first second : Option Place) → HasImage images first → HasImage images second → HasImage images (or_else first second)
either_named images None second h k = k
either_named images (Some place) second h k = h

own_named : (images : List (List ℕ)) (latest : List Record) (pid pc : ℕ) → AllByRecursion (IsNamed images) latest → HasImage images (own_place latest pid pc)
own_named images [] pid pc h = tt
own_named images (notice ∷ earlier) pid pc h = decided_named images (says notice pid pc) (own_place earlier pid pc) (says_named images notice pid pc h.0) (own_named images earlier pid pc h.1)

all_kernel_named : (images : List (List ℕ)) (latest : List Record) (pc : ℕ) → AllByRecursion (IsNamed images) latest → HasImage images (kernel_place latest pc)
all_kernel_named images [] pc h = tt
all_kernel_named images (notice ∷ earlier) pc h = either_named images (kernel_mapping notice pc) (kernel_place earlier pc) (kernel_named images notice pc h.0) (all_kernel_named images earlier pc h.1)

-- each place that the first of these records give an address
pub place_has : (images : List (List ℕ)) (records : List Record) → AllByRecursion (λ notice. is_named images notice ≡ true) records → (applied pid pc : ℕ) → HasImage images (place_after (take applied records) pid pc)
place_has images records h applied pid pc =
    let latest = all_reversed (IsNamed images) (take applied records) (all_first (IsNamed images) applied records h) in
    either_named images (own_place (reverse (take applied records)) pid pc) (kernel_place (reverse (take applied records)) pc)
    (own_named images (reverse (take applied records)) pid pc latest) (all_kernel_named images (reverse (take applied records)) pc latest)
