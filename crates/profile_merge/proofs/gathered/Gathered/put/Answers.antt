-- One count more, in the profile that is there or in a new one.
use Rattle.std.proofs.Common.{rules, arith, ◌≡◌, [], None, Some, Option, ◌∙◌, ap, refl, subst, sym}
use Rattle.std.specs.Prelude.{unwrap_or, IsSome}
use Rattle.std.specs.BTreeMap.{is_at}
use Rattle.std.specs.Map.{lookup}
use Rattle.profile_merge.specs.Sums.{Counts, AddsCount, AreCounts, AreSums}
use Rattle.profile_merge.proofs.Counting.{puts_count, has_same, sums_set, sums_insert, found_are, on_ok, on_err}
use Rattle.profile_merge.proofs.OwnerOrder.{owner_cmp}
use Rattle.profile_merge.proofs.gathered.Gathered.put.Goals as goal

pub invariant_of-self : goal.invariant_of-self
invariant_of-self c =
    let es = c.self.inside.sums.entries in
    let w = c.add.new.self in
    let found : lookup (is_at (owner_cmp c.args.owner)) es ≡ Some c.in-Some.held.now = sym c.in-Some.ensures.value in
    let are : AreCounts w = c.add.ensures.counts (found_are (is_at (owner_cmp c.args.owner)) es c.in-Some.held.now found c.self.invariant) in
    rw (c.get_mut.follows.holds w).0 (sums_set (is_at (owner_cmp c.args.owner)) es w are c.self.invariant)

pub invariant_of-self-in-None : goal.invariant_of-self-in-None
invariant_of-self-in-None c =
    let kept : c.get_mut.follows.lender-at-none ≡ c.self.inside.sums = c.get_mut.follows.holds-at-none in
    let before : AreSums c.get_mut.follows.lender-at-none.entries = subst AreSums (sym (ap (λ m. m.entries) kept)) c.self.invariant in
    let are : AreCounts c.in_ok-first-in-None.first = rw c.in_ok-first-in-None.ensures (omega arith, omega arith, c.requires.aligned, c.requires.some, tt) in
    rw c.in_ok-insert-in-None.ensures.entries (sums_insert c.get_mut.follows.lender-at-none.entries c.args.owner c.in_ok-first-in-None.first are before)

pub returns-in-Some-clause-put : goal.returns-in-Some-clause-put
returns-in-Some-clause-put c =
    let es = c.self.inside.sums.entries in
    let w = c.add.new.self in
    let seen : c.args.self.now ≡ es = search rules in
    let found : lookup (is_at (owner_cmp c.args.owner)) es ≡ Some c.in-Some.held.now = sym c.in-Some.ensures.value in
    let holds = c.get_mut.follows.holds w in
    let updates = holds.3 (subst IsSome (sym found) refl) in
    rw seen (on_ok c.add.result (λ adds. puts_count es (c.get_mut.follows.lender w).entries c.args.owner c.in-Some.held.now w c.args.at c.args.count (ap (λ (o : Option Counts). unwrap_or o []) found) adds updates.0) c.add.ensures.adds)

pub returns-in-Some-clause-refused : goal.returns-in-Some-clause-refused
returns-in-Some-clause-refused c =
    let es = c.self.inside.sums.entries in
    let w = c.add.new.self in
    let seen : c.args.self.now ≡ es = search rules in
    let found : lookup (is_at (owner_cmp c.args.owner)) es ≡ Some c.in-Some.held.now = sym c.in-Some.ensures.value in
    let holds = c.get_mut.follows.holds w in
    let updates = holds.3 (subst IsSome (sym found) refl) in
    rw seen (on_err c.add.result (λ same. has_same es (c.get_mut.follows.lender w).entries c.args.owner w (ap (λ (o : Option Counts). unwrap_or o []) found ∙ sym same) updates.0) c.add.ensures.refused)

pub returns-in_ok-insert-in-None-clause-put : goal.returns-in_ok-insert-in-None-clause-put
returns-in_ok-insert-in-None-clause-put c =
    let es = c.get_mut.follows.lender-at-none.entries in
    let w = c.in_ok-first-in-None.first in
    let kept : c.get_mut.follows.lender-at-none ≡ c.self.inside.sums = c.get_mut.follows.holds-at-none in
    let seen : c.args.self.now ≡ c.self.inside.sums.entries = search rules in
    let none : lookup (is_at (owner_cmp c.args.owner)) es ≡ None = ap (λ m. lookup (is_at (owner_cmp c.args.owner)) m.entries) kept ∙ sym c.in-None.ensures.value in
    let adds : AddsCount [] w c.args.at c.args.count = rw c.in_ok-first-in-None.ensures (λ offset. omega arith) in
    rw (seen ∙ sym (ap (λ m. m.entries) kept)) (puts_count es c.insert.new.self.entries c.args.owner [] w c.args.at c.args.count (ap (λ (o : Option Counts). unwrap_or o []) none) adds c.in_ok-insert-in-None.ensures.updates.0)
