-- How the batches handed are kept: heads, and one list of entries that is cut by them.
use Rattle.std.specs.Prelude.{ℕ, ◌+◌, List, [], ◌∷◌, take, drop}
use Rattle.sample_key.specs.Counted.{Counted}
use Rattle.sample_key.specs.Sent.{Sent}
use Rattle.lane_side.specs.declared.history.BatchHead.{BatchHead}

-- the entries, cut into batches by these heads
abbrev pub cut : List BatchHead → List Counted → List Sent
cut [] entries = []
cut (head ∷ heads) entries =
    record { note = head.note; entries = take head.count entries }
    ∷ cut heads (drop head.count entries)

-- how many entries the heads have
abbrev pub counts_of : List BatchHead → ℕ
counts_of [] = 0
counts_of (head ∷ heads) = head.count + counts_of heads
