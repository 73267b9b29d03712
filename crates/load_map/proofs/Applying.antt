-- A map stands for one record more.
use Rattle.std.proofs.Common.{◌≡◌, ℕ, ◌+◌, ◌<◌, ◌==◌, ◌&&◌, leb, ltb, Bool, true, false, if◌then◌else◌, List, [], ◌∷◌, ◌++◌, reverse, refl, ap, sym, subst, ◌∙◌, arith, Option, Some, None, Result, Ok, Err, OnOk}
use Rattle.std.proofs.lemmas.List.{reverse-append}
use Rattle.trace_model.specs.declared.notices.Place.{Place}
use Rattle.trace_model.specs.declared.notices.Record.{Record}
use Rattle.trace_model.specs.declared.notices.Record.TheVariants.{Unload, Kernel}
use Rattle.trace_model.specs.Attribution.{covers, place_if_covered, by_mapping, decides_where, Verdict, says, decided_by, own_place, kernel_mapping, kernel_place, or_else}
use Rattle.load_map.specs.declared.maps.LoadMap.{LoadMap}
use Rattle.load_map.specs.declared.ranges.Range.{Range}
use Rattle.load_map.specs.Maps.{StandsFor, Applies, Changes, ranges_of, range_of}
use Rattle.load_map.specs.Ranges.{place_in, is_covered, place_at, with_range, without_range}
use Rattle.load_map.proofs.Placing.{put_place, cut_place, is_between}

pub on_ok : {T E P Q : Type 0} (r : Result T E) → OnOk r P → (P → Q) → OnOk r Q
on_ok (Ok x) p f = f p
on_ok (Err e) p f = p

mapped_where : (b : Bool) (place : Place) (o : Option Place) → (if b then Some place else o) ≡ decided_by (by_mapping true (if b then Some place else None)) o
mapped_where true place o = refl
mapped_where false place o = refl

-- where an address lies after a mapping of the process that is told, or of another one
mapped_place : (b : Bool) (base size image : ℕ) (rs : List Range) (pc : ℕ) → 0 < size → place_in (if b then with_range (range_of base size image) rs else rs) pc ≡ decided_by (by_mapping b (place_if_covered base size image pc)) (place_in rs pc)
mapped_place true base size image rs pc some = put_place (range_of base size image) rs pc (omega arith) ∙ mapped_where (covers base size pc) (place_at (range_of base size image) pc) (place_in rs pc)
mapped_place false base size image rs pc some = refl

unmapped_where : (b : Bool) (o : Option Place) → (if b then None else o) ≡ decided_by (decides_where b None) o
unmapped_where true o = refl
unmapped_where false o = refl

unmapped_place : (b : Bool) (base size : ℕ) (rs : List Range) (pc : ℕ) → 0 < size → place_in (if b then without_range base (base + size) rs else rs) pc ≡ decided_by (decides_where (b && covers base size pc) None) (place_in rs pc)
unmapped_place true base size rs pc some = cut_place base (base + size) rs pc (omega arith) ∙ unmapped_where (covers base size pc) (place_in rs pc)
unmapped_place false base size rs pc some = refl

kernel_where : (b : Bool) (place : Place) (o : Option Place) → (if b then Some place else o) ≡ or_else (if b then Some place else None) o
kernel_where true place o = refl
kernel_where false place o = refl

on_range : (before after : LoadMap) (pid : ℕ) {range other : Range} → range ≡ other → Changes before after pid (with_range range) → Changes before after pid (with_range other)
on_range before after pid is changed = let P : Range → Type 0 = λ r. Changes before after pid (with_range r) in subst P is changed

-- a mapping of a process was put in force, by a record that says so and nothing of the kernel
pub loads : (before after : LoadMap) (entry : Record) (pid base size image : ℕ) (range : Range)
    → ((other pc : ℕ) → says entry other pc ≡ by_mapping (pid == other) (place_if_covered base size image pc)) → ((pc : ℕ) → kernel_mapping entry pc ≡ None)
    → 0 < size → range ≡ range_of base size image → Changes before after pid (with_range range) → after.kernel ≡ before.kernel → Applies before entry after
loads before after entry pid base size image range told none some is changed kernel records stands =
    let changes = on_range before after pid is changed in
    record {
      own = λ other pc. rw (reverse-append records (entry ∷ []))
          (ap (λ (rs : List Range). place_in rs pc) (changes other)
          ∙ (mapped_place (pid == other) base size image (ranges_of before other) pc some
          ∙ (ap (λ (o : Option Place). decided_by (by_mapping (pid == other) (place_if_covered base size image pc)) o) (stands.own other pc)
          ∙ ap (λ (v : Verdict). decided_by v (own_place (reverse records) other pc)) (sym (told other pc)))));
      kernel = λ pc. rw (reverse-append records (entry ∷ []), kernel, none pc) (stands.kernel pc);
    }

-- a range of a process is no longer mapped
pub unloads : (before after : LoadMap) (pid base size : ℕ) → 0 < size → Changes before after pid (without_range base (base + size)) → after.kernel ≡ before.kernel → Applies before (Unload pid base size) after
unloads before after pid base size some changes kernel records stands = record {
  own = λ other pc. rw (reverse-append records (Unload pid base size ∷ []))
      (ap (λ (rs : List Range). place_in rs pc) (changes other)
      ∙ (unmapped_place (pid == other) base size (ranges_of before other) pc some
      ∙ ap (λ (o : Option Place). decided_by (decides_where (pid == other && covers base size pc) None) o) (stands.own other pc)));
  kernel = λ pc. rw (reverse-append records (Unload pid base size ∷ []), kernel) (stands.kernel pc);
}

-- a mapping of the kernel was put in force
pub maps_kernel : (before after : LoadMap) (base size image : ℕ) (range : Range) → 0 < size → range ≡ range_of base size image → ((other : ℕ) → ranges_of after other ≡ ranges_of before other) → after.kernel ≡ with_range range before.kernel → Applies before (Kernel base size image) after
maps_kernel before after base size image range some is same changed records stands = record {
  own = λ other pc. rw (reverse-append records (Kernel base size image ∷ [])) (ap (λ (rs : List Range). place_in rs pc) (same other) ∙ stands.own other pc);
  kernel = λ pc. rw (reverse-append records (Kernel base size image ∷ []))
      (ap (λ (rs : List Range). place_in rs pc) (changed ∙ ap (λ (r : Range). with_range r before.kernel) is)
      ∙ (put_place (range_of base size image) before.kernel pc (omega arith)
      ∙ (kernel_where (covers base size pc) (place_at (range_of base size image) pc) (place_in before.kernel pc)
      ∙ ap (λ (o : Option Place). or_else (place_if_covered base size image pc) o) (stands.kernel pc))));
}
