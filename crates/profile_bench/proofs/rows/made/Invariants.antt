use Rattle.std.proofs.Common.{◌≡◌, ◌≤◌, ◌*◌, length}
use Rattle.std.specs.Prelude.{All}
use Rattle.profile_bench.proofs.rows.made.Given as goal

abbrev pub invariant-loop-i : goal.invariant-loop-i
invariant-loop-i l =
    record {
      size : length l.profile ≡ l.i;
      small : l.position ≤ 300 * l.i;
      below : All (λ held. held.offset ≤ 4 * l.position) l.profile;
    }
