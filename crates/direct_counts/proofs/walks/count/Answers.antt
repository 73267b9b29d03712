use Rattle.std.proofs.Common.{◌≡◌, ℕ, ◌+◌, Bool, ap, ◌∙◌, arith, rules, unwrap_or}
use Rattle.std.specs.HashMap.{HashMap, PutsEntry, get}
use Rattle.std.specs.HashMap.Entry.{map_with_value}
use Rattle.direct_counts.specs.Sites.{CountsOne}
use Rattle.direct_counts.proofs.walks.count.Goals as goal

counts_one : {K S : Type 0} (eq : K → K → Bool) (before made after : HashMap K ℕ S) (key : K) (n : ℕ)
    → PutsEntry eq before made key n (get eq before key) → n ≡ unwrap_or (get eq before key) 0 + 1 → after ≡ made → CountsOne eq before after key
counts_one eq before made after key n puts one is = rw (← is, one) at puts

pub overflow_add-counts : goal.overflow_add-counts
overflow_add-counts o c =
    let a = c.or_insert.ensures.value in
    let b = ap (λ r. unwrap_or r 0) c.in_ok-counts.ensures.value in
    omega (arith, a, b, c.requires)

pub returns : goal.returns
returns o c =
    let n = c.or_insert.result.now + 1 in
    let b = ap (λ r. unwrap_or r 0) c.in_ok-counts.ensures.value in
    counts_one o.K.PartialEq.eq c.args.counts.now (map_with_value c.in_ok-counts.field-0 n) c.counts-3-1.given.0 c.args.key n
    (c.in_ok-counts.ensures.update.1 n) (ap (λ (m : ℕ). m + 1) (c.or_insert.ensures.value ∙ b)) (search rules)
