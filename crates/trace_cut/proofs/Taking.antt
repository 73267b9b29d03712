-- Streams with one line more.
use Rattle.std.proofs.Common.{◌≡◌, ℕ, zero, suc, ◌+◌, ◌<◌, ◌≤◌, Bool, true, false, cond, List, [], ◌∷◌, ◌++◌, length, map, set, get_or, Vec, refl, ap, sym, ◌∙◌, arith, nat_eq}
use Rattle.std.specs.Prelude.{unwrap_or, slice_get}
use Rattle.std.specs.List.{range_with_len}
use Rattle.std.proofs.lemmas.Bool.{eq-eqb, ne_eqb}
use Rattle.std.proofs.lemmas.List.{append-nil, map-append, map-set, length-map, length-set, get_or-map}
use Rattle.std.proofs.Math.Seq.{map-set_same}
use Rattle.std.proofs.lemmas.List.FromFn.{length-range_with_len, map-range_with_len_more}
use Rattle.std.proofs.lemmas.Option.{unwrap_or-slice_get}
use Rattle.sample_key.specs.declared.keys.Key.{Key}
use Rattle.sample_key.specs.declared.keys.Marked.{Marked}
use Rattle.trace_model.specs.declared.notices.Record.{Record}
use Rattle.trace_model.specs.declared.notices.Line.{Line}
use Rattle.trace_model.specs.declared.notices.Line.TheVariants.{Sample, Rec}
use Rattle.trace_model.specs.Streams.{stream_from, records_from}
use Rattle.trace_cut.specs.Cutting.{AreCut, lanes_in, streams_from}

-- what one line brings to the stream of a processor, where so many records stand before it
abbrev brings : ℕ → ℕ → Line → List Marked
brings cpu mark line = stream_from cpu mark (line ∷ [])

push_by : (b : Bool) (sample : Marked) (samples more : List Marked) → cond b (sample ∷ (samples ++ more)) (samples ++ more) ≡ cond b (sample ∷ samples) samples ++ more
push_by true sample samples more = refl
push_by false sample samples more = refl

-- the stream of a processor
stream_more : (cpu mark : ℕ) (lines : List Line) (line : Line) → stream_from cpu mark (lines ++ line ∷ []) ≡ stream_from cpu mark lines ++ brings cpu (mark + length (records_from lines)) line
stream_more cpu mark [] line = ap (λ (n : ℕ). brings cpu n line) {x = mark} {y = mark + 0} (omega arith)
stream_more cpu mark (Sample other key ∷ lines) line =
    ap (λ (l : List Marked). cond (nat_eq other cpu) (record { key = key; mark = mark } ∷ l) l) (stream_more cpu mark lines line)
    ∙ push_by (nat_eq other cpu) (record { key = key; mark = mark }) (stream_from cpu mark lines) (brings cpu (mark + length (records_from lines)) line)
stream_more cpu mark (Rec notice ∷ lines) line = stream_more cpu (mark + 1) lines line
    ∙ ap (λ (n : ℕ). stream_from cpu (mark + 1) lines ++ brings cpu n line) {x = mark + 1 + length (records_from lines)} {y = mark + suc (length (records_from lines))} (omega arith)

-- the records
pub records_sample : (lines : List Line) (cpu : ℕ) (key : Key) → records_from (lines ++ Sample cpu key ∷ []) ≡ records_from lines
records_sample [] cpu key = refl
records_sample (Sample other k ∷ lines) cpu key = records_sample lines cpu key
records_sample (Rec notice ∷ lines) cpu key = ap (λ (l : List Record). notice ∷ l) (records_sample lines cpu key)

pub records_record : (lines : List Line) (notice : Record) → records_from (lines ++ Rec notice ∷ []) ≡ records_from lines ++ notice ∷ []
records_record [] notice = refl
records_record (Sample other k ∷ lines) notice = records_record lines notice
records_record (Rec first ∷ lines) notice = ap (λ (l : List Record). first ∷ l) (records_record lines notice)

module _ (lines : List Line) where
  -- a record is of no processor
  stream_record : (cpu : ℕ) (notice : Record) → stream_from cpu 0 (lines ++ Rec notice ∷ []) ≡ stream_from cpu 0 lines
  stream_record cpu notice = stream_more cpu 0 lines (Rec notice) ∙ append-nil (stream_from cpu 0 lines)

  -- a sample of another processor
  stream_other : (cpu other : ℕ) (key : Key) → (other ≡ cpu → ⊥) → stream_from cpu 0 (lines ++ Sample other key ∷ []) ≡ stream_from cpu 0 lines
  stream_other cpu other key apart = rw (stream_more cpu 0 lines (Sample other key), ne_eqb other cpu apart) (append-nil (stream_from cpu 0 lines))

  -- a sample of this one
  stream_own : (cpu other : ℕ) (key : Key) → other ≡ cpu → stream_from cpu 0 (lines ++ Sample other key ∷ []) ≡ stream_from cpu 0 lines ++ record { key = key; mark = length (records_from lines) } ∷ []
  stream_own cpu other key same = rw (stream_more cpu 0 lines (Sample other key), eq-eqb other cpu same)
      (ap (λ (n : ℕ). stream_from cpu 0 lines ++ record { key = key; mark = n } ∷ []) {x = 0 + length (records_from lines)} {y = length (records_from lines)} (omega arith))

  -- so it is for all processors from one on
  abbrev from_on : ℕ → ℕ → List Line → List (List Marked)
  from_on from n more = map (λ cpu. stream_from cpu 0 (lines ++ more)) (range_with_len from n)

  abbrev so_far : ℕ → ℕ → List (List Marked)
  so_far from n = map (λ cpu. stream_from cpu 0 lines) (range_with_len from n)

  record_all : (from n : ℕ) (notice : Record) → so_far from n ≡ from_on from n (Rec notice ∷ [])
  record_all from zero notice = refl
  record_all from (suc n) notice = rw (stream_record from notice, record_all (from + 1) n notice) refl

  -- a sample of a processor that is none of these
  below_all : (from n other : ℕ) (key : Key) → other < from → so_far from n ≡ from_on from n (Sample other key ∷ [])
  below_all from zero other key few = refl
  below_all from (suc n) other key few = rw (stream_other from other key (λ e. omega (arith, e, few)), below_all (from + 1) n other key (omega (arith, few))) refl

  above_all : (from n other : ℕ) (key : Key) → from + n ≤ other → so_far from n ≡ from_on from n (Sample other key ∷ [])
  above_all from zero other key many = refl
  above_all from (suc n) other key many = rw (stream_other from other key (λ e. omega (arith, e, many)), above_all (from + 1) n other key (omega (arith, many))) refl

  -- a sample of one of these is put last in its stream
  put_all : (from n i other : ℕ) (key : Key) → other ≡ from + i
      → set (so_far from n) i (unwrap_or (slice_get (so_far from n) i) [] ++ record { key = key; mark = length (records_from lines) } ∷ []) ≡ from_on from n (Sample other key ∷ [])
  put_all from zero i other key at = refl
  put_all from (suc n) zero other key at = rw (stream_own from other key (omega (arith, at)), below_all (from + 1) n other key (omega (arith, at))) refl
  put_all from (suc n) (suc i) other key at = rw (stream_other from other key (λ e. omega (arith, e, at)), ← put_all (from + 1) n i other key (omega (arith, at))) refl

module _ {A : Type 0} where
  -- one processor more, without samples
  pub no_samples_more : (lanes more : List (Vec Marked A)) (lane : Vec Marked A) (n : ℕ) → more ≡ lanes ++ lane ∷ [] → lane.items ≡ [] → lanes_in lanes ≡ streams_from n [] → lanes_in more ≡ streams_from (n + 1) []
  no_samples_more lanes more lane n is none had = rw (is, map-append (λ (v : Vec Marked A). v.items) lanes (lane ∷ []), none, had) (sym (map-range_with_len_more {X = List Marked} (λ c. []) 0 n n (omega arith)))

  -- there is a stream for each processor
  pub count_of : (lanes : List (Vec Marked A)) (n : ℕ) → lanes_in lanes ≡ streams_from n [] → length lanes ≡ n
  count_of lanes n e = sym (length-map lanes (λ (v : Vec Marked A). v.items)) ∙ ap length e ∙ length-map (range_with_len 0 n) (λ c. []) ∙ length-range_with_len 0 n

  -- no line was taken
  pub none_taken : (lanes : List (Vec Marked A)) (records : List Record) (lines : List Line) (n : ℕ) → lanes_in lanes ≡ streams_from n [] → records ≡ [] → lines ≡ [] → AreCut lanes records lines
  none_taken lanes records lines n e none empty = rw (none, empty) (record {
    lanes_are = e ∙ ap (λ (k : ℕ). streams_from k []) (sym (count_of lanes n e));
    records_are = refl;
  })

  -- a stream was left as it is
  pub lane_kept : (lanes : List (Vec Marked A)) (records : List Record) (lines : List Line) (at : ℕ) (old new : Vec Marked A) → AreCut lanes records lines → old ≡ get_or lanes at old → new.items ≡ old.items → AreCut (set lanes at new) records lines
  lane_kept lanes records lines at old new c found kept = record {
    lanes_are = map-set_same (λ (v : Vec Marked A). v.items) lanes at new old (kept ∙ ap (λ (v : Vec Marked A). v.items) found) ∙ c.lanes_are ∙ ap (λ (n : ℕ). streams_from n lines) (sym (length-set lanes at new));
    records_are = c.records_are;
  }

  module _ (lanes : List (Vec Marked A)) (records : List Record) (lines : List Line) (line : Line) (c : AreCut lanes records lines) where
    -- a sample is put last in its processor's stream
    pub sample_taken : (cpu : ℕ) (key : Key) (mark : ℕ) (old new : Vec Marked A) → line ≡ Sample cpu key → cpu < length lanes → old ≡ get_or lanes cpu old → mark ≡ length records
        → new.items ≡ old.items ++ record { key = key; mark = mark } ∷ [] → AreCut (set lanes cpu new) records (lines ++ line ∷ [])
    sample_taken cpu key mark old new is within found counted put =
        let sample : Marked = record { key = key; mark = length (records_from lines) } in
        let marked : mark ≡ length (records_from lines) = counted ∙ ap length c.records_are in
        let own : old.items ≡ unwrap_or (slice_get (lanes_in lanes) cpu) [] = rw (unwrap_or-slice_get (lanes_in lanes) cpu [], get_or-map (λ (v : Vec Marked A). v.items) lanes cpu old [] within, ← found) refl in
        let last : new.items ≡ unwrap_or (slice_get (lanes_in lanes) cpu) [] ++ sample ∷ [] = put ∙ (λ i. own i ++ record { key = key; mark = marked i } ∷ []) in
        rw is (record {
          lanes_are = map-set (λ (v : Vec Marked A). v.items) lanes cpu new ∙ ap (set (lanes_in lanes) cpu) last
              ∙ ap (λ (l : List (List Marked)). set l cpu (unwrap_or (slice_get l cpu) [] ++ sample ∷ [])) c.lanes_are
              ∙ put_all lines 0 (length lanes) cpu cpu key (omega arith)
              ∙ ap (λ (n : ℕ). streams_from n (lines ++ Sample cpu key ∷ [])) (sym (length-set lanes cpu new));
          records_are = c.records_are ∙ sym (records_sample lines cpu key);
        })

    -- a sample of a processor that there is not
    pub sample_passed : (cpu : ℕ) (key : Key) → line ≡ Sample cpu key → length lanes ≤ cpu → AreCut lanes records (lines ++ line ∷ [])
    sample_passed cpu key is beyond = rw is (record {
      lanes_are = c.lanes_are ∙ above_all lines 0 (length lanes) cpu key (omega (arith, beyond));
      records_are = c.records_are ∙ sym (records_sample lines cpu key);
    })

    -- a record is put last
    pub record_taken : (notice : Record) → line ≡ Rec notice → AreCut lanes (records ++ notice ∷ []) (lines ++ line ∷ [])
    record_taken notice is = rw is (record {
      lanes_are = c.lanes_are ∙ record_all lines 0 (length lanes) notice;
      records_are = ap (λ (l : List Record). l ++ notice ∷ []) c.records_are ∙ sym (records_record lines notice);
    })
