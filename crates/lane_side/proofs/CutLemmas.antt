use Rattle.std.proofs.Common.{◌≡◌, ℕ, ◌+◌, ◌-◌, ◌≤◌, List, [], ◌∷◌, ◌++◌, length, take, drop, ◌∙◌, ap, arith, length-append, length-drop}
use Rattle.std.proofs.lemmas.List.{take-append-le, drop-append-le, take_all}
use Rattle.sample_key.specs.Counted.{Counted}
use Rattle.sample_key.specs.Headers.{Header}
use Rattle.sample_key.specs.Sent.{Sent}
use Rattle.lane_side.specs.Cuts.{cut, counts_of}
use Rattle.lane_side.specs.declared.history.BatchHead.{BatchHead}

-- a head of so many entries
abbrev pub head : Header → ℕ → BatchHead
head h n = record { note = h; count = n }

-- a batch of these entries
abbrev pub batch : Header → List Counted → Sent
batch h es = record { note = h; entries = es }

counts-push : (hs : List BatchHead) (h : BatchHead) → counts_of (hs ++ h ∷ []) ≡ counts_of hs + h.count
counts-push [] h = omega arith
counts-push (g ∷ hs) h = omega (arith, counts-push hs h)

-- one batch more at the end
cut-push : (hs : List BatchHead) (es fs : List Counted) (note : Header) → counts_of hs ≡ length es
    → cut (hs ++ head note (length fs) ∷ []) (es ++ fs) ≡ cut hs es ++ batch note fs ∷ []
cut-push [] [] fs note h = ap (λ (z : List Counted). batch note z ∷ []) (take_all (length fs) fs (omega arith))
cut-push [] (e ∷ es) fs note h = absurd (omega (arith, h))
cut-push (g ∷ hs) es fs note h =
    let l : g.count ≤ length es = omega (arith, h) in
    let r : counts_of hs ≡ length (drop g.count es) = omega (arith, h, length-drop g.count es) in
    rw (take-append-le g.count es fs l, drop-append-le g.count es fs l)
    (ap {B = List Sent} (λ (z : List Sent). batch g.note (take g.count es) ∷ z) (cut-push hs (drop g.count es) fs note r))

-- what a history keeps when a batch is pushed
pub pushed_in : (hs gs : List BatchHead) (es ds fs : List Counted) (note : Header) (n hands left hc ec hd ed : ℕ) → gs ≡ hs ++ head note n ∷ [] → ds ≡ es ++ fs
    → n ≡ length fs → 1 ≤ hands → length fs ≤ left → counts_of hs ≡ length es → length hs + hands ≤ hc → length es + left ≤ ec → hc ≤ hd → ec ≤ ed
    → (counts_of gs ≡ length ds) × (length gs + (hands - 1) ≤ hd) × (length ds + (left - n) ≤ ed)
pushed_in hs gs es ds fs note n hands left hc ec hd ed g d e some few c h l ch cl =
    let lg : length gs ≡ length hs + 1 = ap length g ∙ length-append hs (head note n ∷ []) in
    let ld : length ds ≡ length es + length fs = ap length d ∙ length-append es fs in
    let cg : counts_of gs ≡ counts_of hs + n = ap counts_of g ∙ counts-push hs (head note n) in
    (omega (arith, cg, ld, c, e), omega (arith, lg, h, ch, some), omega (arith, ld, l, cl, e, few))

-- and how it is cut then
pub pushed_cut : (hs gs : List BatchHead) (es ds fs : List Counted) (note : Header) (n : ℕ) → gs ≡ hs ++ head note n ∷ [] → ds ≡ es ++ fs → n ≡ length fs → counts_of hs ≡ length es
    → cut gs ds ≡ cut hs es ++ batch note fs ∷ []
pushed_cut hs gs es ds fs note n g d e c =
    ap (λ (z : List BatchHead). cut z ds) (g ∙ ap (λ (m : ℕ). hs ++ head note m ∷ []) e) ∙ ap (λ (z : List Counted). cut (hs ++ head note (length fs) ∷ []) z) d ∙ cut-push hs es fs note c

-- how many entries were copied
pub copied : (es ds fs : List Counted) (before after m n : ℕ) → ds ≡ es ++ fs → before ≡ m → after ≡ n → m ≡ length es → n ≡ length ds → after - before ≡ length fs
copied es ds fs before after m n d b a p q =
    let ld : length ds ≡ length es + length fs = ap length d ∙ length-append es fs in omega (arith, ld, b, a, p, q)
