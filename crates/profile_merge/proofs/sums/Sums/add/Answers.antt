-- A map that has one count more.
use Rattle.std.proofs.Common.{rules, arith, ◌≡◌, ◌+◌, ◌≤◌}
use Rattle.std.specs.Prelude.{unwrap_or}
use Rattle.std.specs.Ordering.{nat_cmp}
use Rattle.std.specs.BTreeMap.{is_at}
use Rattle.std.specs.Map.{lookup}
use Rattle.profile_merge.proofs.Counting.{adds_count, counts_insert}
use Rattle.profile_merge.proofs.sums.Sums.add.Goals as goal

pub returns-in_ok-insert-in-Some-clause-adds : goal.returns-in_ok-insert-in-Some-clause-adds
returns-in_ok-insert-in-Some-clause-adds c =
    let es = c.self.inside.counts.entries in
    let seen : c.args.self.now ≡ es = search rules in
    let before : c.unwrap_or-before.result ≡ unwrap_or (lookup (is_at (nat_cmp c.args.at)) es) 0 = search rules in
    let sum : c.in-Some.sum ≡ c.unwrap_or-before.result + c.args.count = search rules in
    rw (seen, c.in_ok-insert-in-Some.ensures.entries) (adds_count es c.args.at c.args.count c.unwrap_or-before.result c.in-Some.sum before sum)

pub returns-in_ok-insert-in-Some-clause-counts : goal.returns-in_ok-insert-in-Some-clause-counts
returns-in_ok-insert-in-Some-clause-counts c =
    let es = c.self.inside.counts.entries in
    let seen : c.args.self.now ≡ es = search rules in
    let sum : c.in-Some.sum ≡ c.unwrap_or-before.result + c.args.count = search rules in
    let some : 1 ≤ c.in-Some.sum = omega (arith, sum, c.requires.some) in
    rw (seen, c.in_ok-insert-in-Some.ensures.entries) (λ are. counts_insert es c.args.at c.in-Some.sum (omega arith) c.requires.aligned some are)
