-- Segments in order are those of runs 1, 2, 3 and so on, whose parts are numbered in their order.
use Rattle.std.proofs.Common.{arith, ◌≡◌, ◌≢◌, ℕ, suc, zero, ◌+◌, ◌<◌, ◌≤◌, ◌⊎◌, inl, inr, Bool, true, false, cond, ◌&&◌, List, [], ◌∷◌, ◌++◌, None, Some, Option, length, map, refl, sym, ap, ◌∙◌, subst, append_assoc, eqb-true, length-append}
use Rattle.std.specs.Prelude.{not, ◌==◌, slice_index_or, fold}
use Rattle.std.proofs.lemmas.Bool.{cases_lt}
use Rattle.std.proofs.lemmas.Bool.Decides.{eqb_tells}
use Rattle.std.proofs.lemmas.List.{append-nil, get_or_append_left, get_or_at}
use Rattle.std.proofs.lemmas.List.Sums.{fold-append}
use Rattle.store_io.specs.declared.file_refs.FileRef.TheVariants as named
use Rattle.database_model.specs.Runs.{Segment}
use Rattle.epoch_store.proofs.Order.{and_first, and_second}
use Rattle.run_listing.specs.Orders.{Reached, no_run, reached, goes_on, begins_next, follows, first_bad_from, first_bad}
use Rattle.run_listing.specs.Runs.{readable, last_run, parts_of, is_whole, AreInOrder, AreRuns}
use Rattle.run_listing.proofs.Progress.{last_with, parts_same, parts_more, above_with, some_parts, or_second}

-- ---- one more part

last_fold : (a : Bool) (parts : List Segment) (k : ℕ) (d : Segment) → k + 1 ≡ length parts → fold (λ (before : Bool) (t : Segment). t.last) a parts ≡ (slice_index_or parts k d).last
last_fold a [] k d is = absurd (omega (arith, is))
last_fold a (p ∷ []) zero d is = refl
last_fold a (p ∷ []) (suc k) d is = absurd (omega (arith, is))
last_fold a (p ∷ q ∷ ps) zero d is = absurd (omega (arith, is))
last_fold a (p ∷ q ∷ ps) (suc k) d is = last_fold p.last (q ∷ ps) k d (omega (arith, is))

none_in_order : AreInOrder []
none_in_order = record { numbered = λ k d within. absurd (omega (arith, within)); one_end = λ k d within. absurd (omega (arith, within)) }

in_order_more : (parts : List Segment) (s : Segment) → AreInOrder parts → s.part ≡ length parts → (0 < length parts → is_whole parts ≡ false) → AreInOrder (parts ++ s ∷ [])
in_order_more parts s are next open_end = record {
  numbered = λ k d within. number k d (cases_lt k (length parts)) (omega (arith, within, length-append parts (s ∷ [])));
  one_end = λ k d within.
      let inside : k < length parts = omega (arith, within, length-append parts (s ∷ [])) in
      ap (λ (t : Segment). t.last) (get_or_append_left parts (s ∷ []) d k inside) ∙ end k d inside (cases_lt (k + 1) (length parts));
}
  where
    number : (k : ℕ) (d : Segment) → (k < length parts) ⊎ (length parts ≤ k) → k ≤ length parts → (slice_index_or (parts ++ s ∷ []) k d).part ≡ k
    number k d (inl lt) most = ap (λ (t : Segment). t.part) (get_or_append_left parts (s ∷ []) d k lt) ∙ are.numbered k d lt
    number k d (inr ge) most =
        let same : length parts ≡ k = omega (arith, ge, most) in
        ap (λ (t : Segment). t.part) (get_or_at parts s [] d k same) ∙ next ∙ same

    end : (k : ℕ) (d : Segment) → k < length parts → (k + 1 < length parts) ⊎ (length parts ≤ k + 1) → (slice_index_or parts k d).last ≡ false
    end k d inside (inl lt) = are.one_end k d lt
    end k d inside (inr ge) =
        let same : k + 1 ≡ length parts = omega (arith, inside, ge) in
        sym (last_fold true parts k d same) ∙ open_end (omega (arith, inside))

-- ---- one more segment

pub record Stands (segments : List Segment) (before : Reached) : Type 0 where
  pub run : before.run ≡ last_run segments
  pub parts : before.parts ≡ length (parts_of (last_run segments) segments)
  pub whole : before.whole ≡ is_whole (parts_of (last_run segments) segments)
  pub are : AreRuns segments

-- the segment is the next part of its run
record IsNext (segments : List Segment) (s : Segment) : Type 0 where
  some : 1 ≤ s.run
  up : last_run segments ≤ s.run
  most : s.run ≤ last_run segments + 1
  next : s.part ≡ length (parts_of s.run segments)
  open_end : 0 < length (parts_of s.run segments) → is_whole (parts_of s.run segments) ≡ false

runs_with : (segments : List Segment) (s : Segment) → AreRuns segments → IsNext segments s → AreRuns (segments ++ s ∷ [])
runs_with segments s are is = record {
  each = λ run some most. each run some (omega (arith, most, last_with segments s)) (eqb_tells s.run run);
  parts = λ run. parts run (eqb_tells s.run run);
  none = parts_same segments s 0 (λ same. omega (arith, same, is.some)) ∙ are.none;
  above = λ run over. above_with segments s run is.up are.above (omega (arith, over, last_with segments s));
}
  where
    own : (run : ℕ) → s.run ≡ run → parts_of run (segments ++ s ∷ []) ≡ parts_of s.run segments ++ s ∷ []
    own run same = ap (λ (k : ℕ). parts_of k (segments ++ s ∷ [])) (sym same) ∙ parts_more segments s

    each : (run : ℕ) → 1 ≤ run → run ≤ s.run → ((s.run == run) ≡ true × (s.run ≡ run)) ⊎ ((s.run == run) ≡ false × (s.run ≢ run)) → 0 < length (parts_of run (segments ++ s ∷ []))
    each run some most (inl same) = rw (own run same.1) (omega (arith, length-append (parts_of s.run segments) (s ∷ [])))
    each run some most (inr apart) =
        let before : run ≤ last_run segments = omega (arith, most, is.most, apart.1) in
        rw (parts_same segments s run apart.1) (are.each run some before)

    parts : (run : ℕ) → ((s.run == run) ≡ true × (s.run ≡ run)) ⊎ ((s.run == run) ≡ false × (s.run ≢ run)) → AreInOrder (parts_of run (segments ++ s ∷ []))
    parts run (inl same) = subst AreInOrder (sym (own run same.1)) (in_order_more (parts_of s.run segments) s (are.parts s.run) is.next is.open_end)
    parts run (inr apart) = subst AreInOrder (sym (parts_same segments s run apart.1)) (are.parts run)

stands_with : (segments : List Segment) (s : Segment) → AreRuns segments → IsNext segments s → Stands (segments ++ s ∷ []) (reached s)
stands_with segments s are is =
    let own : parts_of (last_run (segments ++ s ∷ [])) (segments ++ s ∷ []) ≡ parts_of s.run segments ++ s ∷ [] =
    ap (λ (k : ℕ). parts_of k (segments ++ s ∷ [])) (last_with segments s) ∙ parts_more segments s in
    record {
      run = sym (last_with segments s);
      parts = sym (ap (λ (ps : List Segment). length ps) own ∙ omega (arith, length-append (parts_of s.run segments) (s ∷ []), is.next));
      whole = sym (ap is_whole own ∙ fold-append (λ (before : Bool) (t : Segment). t.last) true (parts_of s.run segments) (s ∷ []));
      are = runs_with segments s are is;
    }

not_true : (a : Bool) → not a ≡ true → a ≡ false
not_true true h = cc
not_true false h = refl

next_of : (segments : List Segment) (before : Reached) (s : Segment) → Stands segments before → follows before s ≡ true → IsNext segments s
next_of segments before s stands holds = by_case (goes_on before s) refl
  where
    by_case : (t : Bool) → goes_on before s ≡ t → IsNext segments s
    by_case true on =
        let r = last_run segments in
        let first = and_first (s.run == before.run && s.part == before.parts) (not before.whole) on in
        let same : s.run ≡ r = eqb-true s.run before.run (and_first (s.run == before.run) (s.part == before.parts) first) ∙ stands.run in
        let part : s.part ≡ length (parts_of r segments) = eqb-true s.part before.parts (and_second (s.run == before.run) (s.part == before.parts) first) ∙ stands.parts in
        let goes : not before.whole ≡ true = and_second (s.run == before.run && s.part == before.parts) (not before.whole) on in
        let open_end : is_whole (parts_of r segments) ≡ false = sym stands.whole ∙ not_true before.whole goes in
        let here : parts_of s.run segments ≡ parts_of r segments = ap (λ (k : ℕ). parts_of k segments) same in
        let no_zero : s.run ≢ 0 = λ zero. some_parts (parts_of r segments) (ap not (sym stands.whole) ∙ goes) (ap (λ (ps : List Segment). length ps) (ap (λ (k : ℕ). parts_of k segments) (sym same ∙ zero) ∙ stands.are.none)) in
        record {
          some = omega (arith, no_zero);
          up = omega (arith, same);
          most = omega (arith, same);
          next = part ∙ sym (ap (λ (ps : List Segment). length ps) here);
          open_end = λ some. ap is_whole here ∙ open_end;
        }
    by_case false on =
        let r = last_run segments in
        let next = or_second (goes_on before s) (begins_next before s) on holds in
        let run : s.run ≡ before.run + 1 = eqb-true s.run (before.run + 1) (and_first (s.run == before.run + 1) (s.part == 0) next) in
        let same : s.run ≡ r + 1 = omega (arith, run, stands.run) in
        let first : s.part ≡ 0 = eqb-true s.part 0 (and_second (s.run == before.run + 1) (s.part == 0) next) in
        let here : parts_of s.run segments ≡ [] = stands.are.above s.run (omega (arith, same)) in
        let none : length (parts_of s.run segments) ≡ 0 = ap (λ (ps : List Segment). length ps) here in
        record {
          some = omega (arith, same);
          up = omega (arith, same);
          most = omega (arith, same);
          next = first ∙ sym none;
          open_end = λ some. absurd (omega (arith, some, none));
        }

-- ---- all segments

starts : Stands [] no_run
starts = record {
  run = refl;
  parts = refl;
  whole = refl;
  are = record { each = λ run some most. absurd (omega (arith, some, most)); parts = λ run. none_in_order; none = refl; above = λ run over. refl };
}

pub all_in_order : (done : List Segment) (before : Reached) (g : ℕ) (rest : List (Option Segment)) → Stands done before → first_bad_from before g rest ≡ None → (rest ≡ map Some (readable rest)) × AreRuns (done ++ readable rest)
all_in_order done before g [] stands good = (refl, subst AreRuns (sym (append-nil done)) stands.are)
all_in_order done before g (None ∷ rest) stands good = cc
all_in_order done before g (Some s ∷ rest) stands good = one_more (follows before s) refl good (λ now later. all_in_order (done ++ s ∷ []) (reached s) (g + 1) rest now later)
  where
    one_more : (t : Bool) → follows before s ≡ t → cond t (first_bad_from (reached s) (g + 1) rest) (Some (named.Segment g)) ≡ None
        → (Stands (done ++ s ∷ []) (reached s) → first_bad_from (reached s) (g + 1) rest ≡ None → (rest ≡ map Some (readable rest)) × AreRuns ((done ++ s ∷ []) ++ readable rest))
        → (Some s ∷ rest ≡ map Some (readable (Some s ∷ rest))) × AreRuns (done ++ readable (Some s ∷ rest))
    one_more true next later go =
        let more = go (stands_with done s stands.are (next_of done before s stands next)) later in
        (ap (λ (l : List (Option Segment)). Some s ∷ l) more.0, subst AreRuns (append_assoc done (s ∷ []) (readable rest)) more.1)
    one_more false next later go = cc

pub segments_in_order : (segments : List (Option Segment)) → first_bad segments ≡ None → (segments ≡ map Some (readable segments)) × AreRuns (readable segments)
segments_in_order segments good = all_in_order [] no_run 1 segments starts good
