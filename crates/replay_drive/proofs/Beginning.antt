-- One player after the other at the start.
use Rattle.std.proofs.Common.{◌≡◌, refl, sym, ◌∙◌, ap, subst, ℕ, zero, suc, ◌+◌, ◌<◌, ◌≤◌, List, [], ◌∷◌, ◌++◌, length, map, arith, Some}
use Rattle.std.specs.Prelude.{slice_get, slice_set, slice_index_or, Vec}
use Rattle.std.specs.List.{range_with_len}
use Rattle.std.proofs.lemmas.List.{length-map, length-set}
use Rattle.std.proofs.lemmas.List.FromFn.{map-range_with_len_more, length-map-range_with_len, get_or-map-range_with_len}
use Rattle.std.proofs.lemmas.Option.{slice_get-get_or}
use Rattle.sample_key.specs.declared.keys.Marked.{Marked}
use Rattle.sample_key.specs.declared.losses.Pace.{Pace}
use Rattle.trace_model.specs.Recording.{Recording}
use Rattle.trace_model.specs.Streams.{stream_of, streams_in}
use Rattle.trace_cut.specs.Cutting.{lanes_in}
use Rattle.run_laws.proofs.Systems.{map_got}
use Rattle.lane_side.specs.Plain.{Plain}
use Rattle.cpu_lane.specs.Seen.{Seen}
use Rattle.run_model.specs.Running.{Processor, new_processor}
use Rattle.replay_drive.specs.Players.{AllStart, ArePlayers, IsPlayer, StartsAt, processor_of, processors_of}
use Rattle.replay_drive.proofs.Among.{as_many}

players_push : (pace : Pace) (trace : Recording) (cpu at : ℕ) (ls : List Seen) (ss : List Plain) (l : Seen) (s : Plain) → cpu + length ls ≡ at → ArePlayers pace trace cpu ls ss → IsPlayer pace trace at l s
    → ArePlayers pace trace cpu (ls ++ l ∷ []) (ss ++ s ∷ [])
players_push pace trace cpu at [] [] l s is all one = (subst (λ (n : ℕ). IsPlayer pace trace n l s) (omega (arith, is)) one, tt)
players_push pace trace cpu at [] (y ∷ ss) l s is all one = absurd all
players_push pace trace cpu at (x ∷ ls) [] l s is all one = absurd all
players_push pace trace cpu at (x ∷ ls) (y ∷ ss) l s is all one = (all.0, players_push pace trace (cpu + 1) at ls ss l s (omega (arith, is)) all.1 one)

processors_push : (ls : List Seen) (ss : List Plain) (l : Seen) (s : Plain) → length ls ≡ length ss → processors_of (ls ++ l ∷ []) (ss ++ s ∷ []) ≡ processors_of ls ss ++ processor_of l s ∷ []
processors_push [] [] l s same = refl
processors_push [] (y ∷ ss) l s same = absurd (omega (arith, same))
processors_push (x ∷ ls) [] l s same = absurd (omega (arith, same))
processors_push (x ∷ ls) (y ∷ ss) l s same = ap {B = List Processor} (λ z. processor_of x y ∷ z) (processors_push ls ss l s (omega (arith, same)))

-- one more processor at the start
pub one_more_starts : (pace : Pace) (trace : Recording) (count : ℕ) (ls : List Seen) (ss : List Plain) (l : Seen) (s : Plain) → length ls ≡ count → AllStart pace trace count ls ss
    → StartsAt pace trace count l s → AllStart pace trace (count + 1) (ls ++ l ∷ []) (ss ++ s ∷ [])
one_more_starts pace trace count ls ss l s is all one = record {
  players = players_push pace trace 0 count ls ss l s (omega (arith, is)) all.players one.player;
  new = processors_push ls ss l s (as_many pace trace 0 ls ss all.players)
      ∙ ap {B = List Processor} (λ z. z ++ processor_of l s ∷ []) all.new
      ∙ ap {B = List Processor} (λ z. map (new_processor trace) (range_with_len 0 count) ++ z ∷ []) one.new
      ∙ sym (map-range_with_len_more (new_processor trace) 0 count count (omega arith));
}

-- from this place on the streams are as they were
pub record StandFrom (count : ℕ) (xs ys : List (List Marked)) : Type 0 where
  pub same : length xs ≡ length ys
  pub each : (k : ℕ) → count ≤ k → slice_get xs k ≡ slice_get ys k

-- where one was taken out
pub stands_on : {A : Type 0} (count : ℕ) (xs : List (Vec Marked A)) (y : Vec Marked A) (ys : List (List Marked)) → StandFrom count (lanes_in xs) ys
    → StandFrom (count + 1) (lanes_in (slice_set xs count y)) ys
stands_on {A = A} count xs y ys stands = record {
  same = length-map (slice_set xs count y) (λ (v : Vec Marked A). v.items) ∙ length-set xs count y ∙ sym (length-map xs (λ (v : Vec Marked A). v.items)) ∙ stands.same;
  each = λ k later. other xs count k y (omega (arith, later)) ∙ stands.each k (omega (arith, later));
}
  where
    other : (xs : List (Vec Marked A)) (i k : ℕ) (y : Vec Marked A) → i < k → slice_get (lanes_in (slice_set xs i y)) k ≡ slice_get (lanes_in xs) k
    other [] i k y lt = refl
    other (x ∷ xs) zero zero y lt = absurd (omega (arith, lt))
    other (x ∷ xs) zero (suc k) y lt = refl
    other (x ∷ xs) (suc i) zero y lt = absurd (omega (arith, lt))
    other (x ∷ xs) (suc i) (suc k) y lt = other xs i k y (omega (arith, lt))

-- there is a stream for each processor
pub streams_count : {A : Type 0} (count : ℕ) (xs : List (Vec Marked A)) (trace : Recording) → StandFrom count (lanes_in xs) (streams_in trace) → length xs ≡ trace.cpus
streams_count {A = A} count xs trace stands =
    sym (length-map xs (λ (v : Vec Marked A). v.items)) ∙ stands.same ∙ length-map-range_with_len (λ cpu. stream_of cpu trace) 0 trace.cpus

-- the next one is that of the trace
pub stream_there : {A : Type 0} (count : ℕ) (xs : List (Vec Marked A)) (d : Vec Marked A) (trace : Recording) → StandFrom count (lanes_in xs) (streams_in trace) → count < trace.cpus
    → (slice_index_or xs count d).items ≡ stream_of count trace
stream_there {A = A} count xs d trace stands within =
    let many = streams_count count xs trace stands in
    let mine = map_got (λ (v : Vec Marked A). v.items) xs count (slice_index_or xs count d) (slice_get-get_or xs count d (omega (arith, many, within))) in
    let all = length-map-range_with_len (λ cpu. stream_of cpu trace) 0 trace.cpus in
    let its = slice_get-get_or (streams_in trace) count [] (omega (arith, all, within)) in
    let is = get_or-map-range_with_len (λ cpu. stream_of cpu trace) 0 trace.cpus count count [] within (omega arith) in
    same_some _ _ (sym mine ∙ stands.each count (omega arith) ∙ its) ∙ is
  where
    same_some : (x y : List Marked) → Some x ≡ Some y → x ≡ y
    same_some x y e = cc
