-- What drains add, taken together, is what the first and the others add.
use Rattle.std.proofs.Common.{◌≡◌, ℕ, ◌+◌, List, [], ◌∷◌, ◌++◌, arith}
use Rattle.trace_model.specs.declared.notices.Record.{Record}
use Rattle.database_model.specs.Runs.{Drained}
use Rattle.growth_model.specs.Additions.{known_drained, unknown_drained, additions_of, AreSums}

known_sums : (images : List (List ℕ)) (records : List Record) (epoch : ℕ) (name : List ℕ) (event offset : ℕ) (first second : List Drained)
    → known_drained images records epoch name event offset (first ++ second)
    ≡ known_drained images records epoch name event offset first + known_drained images records epoch name event offset second
known_sums images records epoch name event offset [] second = omega arith
known_sums images records epoch name event offset (drain ∷ drains) second =
    let more = known_sums images records epoch name event offset drains second in omega arith

unknown_sums : (records : List Record) (epoch event pc : ℕ) (first second : List Drained)
    → unknown_drained records epoch event pc (first ++ second)
    ≡ unknown_drained records epoch event pc first + unknown_drained records epoch event pc second
unknown_sums records epoch event pc [] second = omega arith
unknown_sums records epoch event pc (drain ∷ drains) second =
    let more = unknown_sums records epoch event pc drains second in omega arith

pub drains_add : (images : List (List ℕ)) (records : List Record) (first second : List Drained)
    → AreSums (additions_of images records first) (additions_of images records second) (additions_of images records (first ++ second))
drains_add images records first second = record {
  known = λ epoch name event offset. known_sums images records epoch name event offset first second;
  unknown = λ epoch event pc. unknown_sums records epoch event pc first second;
}
