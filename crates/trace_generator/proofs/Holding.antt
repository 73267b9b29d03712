-- What holds of the lines of a made trace so far, and after one line more.
use Rattle.std.proofs.Common.{◌≡◌, ℕ, zero, suc, ◌+◌, ◌*◌, ◌/◌, ◌%◌, ◌<◌, ◌≤◌, Bool, true, false, cond, List, [], ◌∷◌, ◌++◌, eqb, map, refl, ap, sym, ◌∙◌, arith, None, if◌then◌else◌, append_assoc}
use Rattle.std.specs.List.{count_by, fold}
use Rattle.std.specs.Fmt.{digits}
use Rattle.std.proofs.lemmas.Bool.{eqb-true, eqb-false}
use Rattle.std.proofs.lemmas.List.{append-nil}
use Rattle.std.proofs.lemmas.List.Sums.{sum_by_push}
use Rattle.trace_model.specs.Said.{Said, Drained, Merged, Ended, is_sample, is_record, is_part_end, images_named}
use Rattle.trace_model.specs.Grammar.{first_that_applies, value_tests}
use Rattle.trace_model.specs.Recording.{are_good, images_in_order, with_name}
use Rattle.trace_model.proofs.Pushing.{good_push, images_push}
use Rattle.trace_generator.specs.Draws.{draw, state_after}
use Rattle.trace_generator.specs.Generator.{address_of, event_of, every_so_often, image_names, made_trace, mapped_first, sample_from, samples_to}
use Rattle.trace_model.specs.declared.notices.Line.{Line}
use Rattle.trace_model.specs.declared.notices.Step.{Step}
use Rattle.trace_model.specs.Recording.{AreGood, InOrder, line_said, recording, said_in, step_said}
use Rattle.trace_generator.specs.Making.{said_of}
use Rattle.trace_generator.proofs.Judging.{header, sample_passes, drain_passes, merge_passes, end_passes, address_fits}

-- a line that names no image changes none
no_image_push : (said : List (Said ℕ)) (next : Said ℕ) → images_named next ≡ [] → images_in_order (said ++ next ∷ []) ≡ images_in_order said
no_image_push said next e = images_push said next ∙ ap (λ (l : List (List ℕ)). fold with_name (images_in_order said) l) e

-- the lines behind the header are good, and have this many samples, records and ends of parts, and the images of a made trace
pub record Holds (rest : List (Said ℕ)) (samples records parts : ℕ) : Type 0 where
  pub good : are_good [] (header ∷ rest) ≡ true
  pub samples_are : count_by is_sample (header ∷ rest) ≡ samples
  pub records_are : count_by is_record (header ∷ rest) ≡ records
  pub parts_are : count_by is_part_end (header ∷ rest) ≡ parts
  pub images_are : images_in_order (header ∷ rest) ≡ image_names

holds_as : (rest more : List (Said ℕ)) (a b c a' b' c' : ℕ) → rest ≡ more → a ≡ a' → b ≡ b' → c ≡ c' → Holds rest a b c → Holds more a' b' c'
holds_as rest more a b c a' b' c' l p q r h = coe 0 1 (i. Holds (l i) (p i) (q i) (r i)) h

count_push : (p : Said ℕ → Bool) (said : List (Said ℕ)) (next : Said ℕ) (n m : ℕ) → count_by p said ≡ n → n + cond (p next) 1 0 ≡ m → count_by p (said ++ next ∷ []) ≡ m
count_push p said next n m e s = sum_by_push (λ x. cond (p x) 1 0) said next ∙ ap (λ (k : ℕ). k + cond (p next) 1 0) e ∙ s

pub push : (rest : List (Said ℕ)) (next : Said ℕ) (a b c a' b' c' : ℕ) → Holds rest a b c → first_that_applies (value_tests (header ∷ rest) next) ≡ None → images_named next ≡ []
    → a + cond (is_sample next) 1 0 ≡ a' → b + cond (is_record next) 1 0 ≡ b' → c + cond (is_part_end next) 1 0 ≡ c' → Holds (rest ++ next ∷ []) a' b' c'
push rest next a b c a' b' c' h passes none p q r = record {
  good = good_push [] (header ∷ rest) next h.good passes;
  samples_are = count_push is_sample (header ∷ rest) next a a' h.samples_are p;
  records_are = count_push is_record (header ∷ rest) next b b' h.records_are q;
  parts_are = count_push is_part_end (header ∷ rest) next c c' h.parts_are r;
  images_are = no_image_push (header ∷ rest) next none ∙ h.images_are;
}

push_sample : (rest : List (Said ℕ)) (state a b c : ℕ) → Holds rest a b c → a < 2000000 → Holds (rest ++ sample_from state ∷ []) (a + 1) b c
push_sample rest state a b c h few =
    let fits = address_fits (draw state 3 % 16) (draw state 4) in
    push rest (sample_from state) a b c (a + 1) b c h
    (sample_passes rest (draw state 1 % 4) (1 + draw state 2 % 8) (address_of (draw state 3 % 16) (draw state 4)) (event_of (draw state 5 % 8))
    (omega arith) (omega arith) fits.0 fits.1 (omega (arith, h.samples_are)))
    refl refl (omega arith) (omega arith)

push_drain : (rest : List (Said ℕ)) (number a b c : ℕ) → Holds rest a b c → b < 65536 → Holds (rest ++ every_so_often 10000 Drained number) a (b + cond (eqb (number % 10000) 0) 1 0) c
push_drain rest number a b c h few = by (eqb (number % 10000) 0)
  where
    by : (t : Bool) → Holds (rest ++ (if t then Drained ∷ [] else [])) a (b + cond t 1 0) c
    by true = push rest Drained a b c a (b + 1) c h (drain_passes rest (omega (arith, h.records_are))) refl (omega arith) refl (omega arith)
    by false = holds_as rest (rest ++ []) a b c a (b + 0) c (sym (append-nil rest)) refl (omega arith) refl h

push_merge : (rest : List (Said ℕ)) (number a b c : ℕ) → Holds rest a b c → b < 65536 → c < 1024
    → Holds (rest ++ every_so_often 100000 Merged number) a (b + cond (eqb (number % 100000) 0) 1 0) (c + cond (eqb (number % 100000) 0) 1 0)
push_merge rest number a b c h few some = by (eqb (number % 100000) 0)
  where
    by : (t : Bool) → Holds (rest ++ (if t then Merged ∷ [] else [])) a (b + cond t 1 0) (c + cond t 1 0)
    by true = push rest Merged a b c a (b + 1) (c + 1) h (merge_passes rest (omega (arith, h.records_are)) (omega (arith, h.parts_are))) refl (omega arith) refl refl
    by false = holds_as rest (rest ++ []) a b c a (b + 0) (c + 0) (sym (append-nil rest)) refl (omega arith) (omega arith) h

-- one number more is one multiple more, or none
drains_more : (n : ℕ) → n / 10000 + cond (eqb (suc n % 10000) 0) 1 0 ≡ suc n / 10000
drains_more n = by (eqb (suc n % 10000) 0) refl
  where
    by : (t : Bool) → eqb (suc n % 10000) 0 ≡ t → n / 10000 + cond t 1 0 ≡ suc n / 10000
    by true e = let z : suc n % 10000 ≡ 0 = eqb-true _ _ e in omega arith
    by false e = let z : suc n % 10000 ≡ 0 → ⊥ = eqb-false _ _ e in omega arith

merges_more : (n : ℕ) → n / 100000 + cond (eqb (suc n % 100000) 0) 1 0 ≡ suc n / 100000
merges_more n = by (eqb (suc n % 100000) 0) refl
  where
    by : (t : Bool) → eqb (suc n % 100000) 0 ≡ t → n / 100000 + cond t 1 0 ≡ suc n / 100000
    by true e = let z : suc n % 100000 ≡ 0 = eqb-true _ _ e in omega arith
    by false e = let z : suc n % 100000 ≡ 0 → ⊥ = eqb-false _ _ e in omega arith

first_holds : Holds (mapped_first ++ []) 0 17 0
unfolding digits
first_holds = record {
  good = refl;
  samples_are = refl;
  records_are = refl;
  parts_are = refl;
  images_are = refl;
}

one_list : (first samples drains merges : List (Said ℕ)) (next : Said ℕ)
    → (((first ++ samples) ++ next ∷ []) ++ drains) ++ merges ≡ first ++ (samples ++ next ∷ (drains ++ merges))
one_list first samples drains merges next = simp append_assoc

-- the first samples of a made trace
pub samples_hold : (seed n : ℕ) → n ≤ 2000000 → Holds (mapped_first ++ samples_to seed n) n (17 + n / 10000 + n / 100000) (n / 100000)
samples_hold seed zero h = first_holds
samples_hold seed (suc n) h =
    let first : List (Said ℕ) = mapped_first ++ samples_to seed n in
    let state : ℕ = state_after seed (5 * n) in
    let before = samples_hold seed n (omega arith) in
    let sampled = push_sample first state n (17 + n / 10000 + n / 100000) (n / 100000) before (omega arith) in
    let drained = push_drain (first ++ sample_from state ∷ []) (suc n) (n + 1) (17 + n / 10000 + n / 100000) (n / 100000) sampled (omega arith) in
    let merged = push_merge ((first ++ sample_from state ∷ []) ++ every_so_often 10000 Drained (suc n)) (suc n) (n + 1)
    (17 + n / 10000 + n / 100000 + cond (eqb (suc n % 10000) 0) 1 0) (n / 100000) drained (omega (arith, drains_more n)) (omega arith) in
    holds_as _ (mapped_first ++ samples_to seed (suc n)) _ _ _ (suc n) (17 + suc n / 10000 + suc n / 100000) (suc n / 100000)
    (one_list mapped_first (samples_to seed n) (every_so_often 10000 Drained (suc n)) (every_so_often 100000 Merged (suc n)) (sample_from state))
    (omega arith) (omega (arith, drains_more n, merges_more n)) (merges_more n) merged

-- and the end behind them
pub made_holds : (seed n : ℕ) → n ≤ 2000000 → (are_good [] (made_trace seed n) ≡ true) × (images_in_order (made_trace seed n) ≡ image_names)
made_holds seed n h = let all = samples_hold seed n h in (
  good_push [] (header ∷ (mapped_first ++ samples_to seed n)) Ended all.good (end_passes (mapped_first ++ samples_to seed n)),
  no_image_push (header ∷ (mapped_first ++ samples_to seed n)) Ended refl ∙ all.images_are,
)

-- what a trace of these images and lines says
pub said_is : (images : List (List ℕ)) (lines : List Line) (steps : List Step) (seed n : ℕ)
    → images ≡ image_names → said_of lines ≡ mapped_first ++ samples_to seed n → steps ≡ []
    → said_in (recording 4 4096 8192 images lines steps) ≡ made_trace seed n
said_is images lines steps seed n names said none =
    (λ i. header ∷ (map (line_said (names i)) lines ++ Ended ∷ map step_said (none i)))
    ∙ ap (λ (l : List (Said ℕ)). header ∷ (l ++ Ended ∷ [])) said

-- so it is a trace
pub is_trace : (images : List (List ℕ)) (lines : List Line) (steps : List Step) (seed n : ℕ)
    → images ≡ image_names → said_of lines ≡ mapped_first ++ samples_to seed n → steps ≡ [] → n ≤ 2000000
    → AreGood 4 4096 8192 images lines steps × InOrder 4 4096 8192 images lines steps
is_trace images lines steps seed n names said none h =
    let whole = said_is images lines steps seed n names said none in
    let made = made_holds seed n h in (
      ap (are_good []) whole ∙ made.0,
      names ∙ sym made.1 ∙ ap images_in_order (sym whole),
    )
