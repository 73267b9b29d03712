-- What the map finds for a profile.
use Rattle.std.proofs.Common.{rules, ◌≡◌, ◌∙◌}
use Rattle.profile_merge.specs.Sums.{same_owner}
use Rattle.profile_merge.proofs.Counting.{some_are, found_same}
use Rattle.profile_merge.proofs.gathered.Gathered.counts.Goals as goal

pub returns-clause-found : goal.returns-clause-found
returns-clause-found c =
    let seen : c.args.self.now ≡ c.self.inside.sums.entries = search rules in
    rw seen (c.get.ensures.value ∙ found_same c.self.inside.sums.entries c.args.owner.now)

pub returns-clause-counts : goal.returns-clause-counts
returns-clause-counts c = some_are (same_owner c.args.owner.now) c.self.inside.sums.entries c.get.result (c.get.ensures.value ∙ found_same c.self.inside.sums.entries c.args.owner.now) c.self.invariant
