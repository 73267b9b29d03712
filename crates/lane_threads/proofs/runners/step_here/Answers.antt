-- one lane more was stepped; and at the end all were, and run what they ran
use Rattle.std.proofs.Common.{◌≡◌, ℕ, arith, sym, ◌∙◌, subst, add-one, slice_set, length}
use Rattle.std.proofs.lemmas.List.{length-set}
use Rattle.lane_threads.proofs.Turns.{AreStepped, all_stepped, stepped_run, stepped_set}
use Rattle.lane_threads.proofs.runners.step_here.Goals as goal

pub loop-i-preserved : goal.loop-i-preserved
loop-i-preserved c = record {
  steps = subst (λ (n : ℕ). AreStepped n c.args.runners.now.items (slice_set c.loop-i.runners.items c.loop-i.i c.step_one.new.runner)) (sym (add-one c.loop-i.i))
      (stepped_set c.loop-i.i c.args.runners.now.items c.loop-i.runners.items c.index_mut.result.now c.step_one.new.runner c.index_mut.ensures.value c.step_one.ensures c.loop-i.invariant.steps);
  count = c.loop-i.invariant.count;
  many = length-set c.loop-i.runners.items c.loop-i.i c.step_one.new.runner ∙ c.loop-i.invariant.many;
}

pub returns-clause-steps : goal.returns-clause-steps
returns-clause-steps c =
    let all : c.loop-i.i ≡ length c.args.runners.now.items = omega arith in
    all_stepped c.loop-i.i c.args.runners.now.items c.loop-i.runners.items all c.loop-i.invariant.steps

pub returns-clause-runs : goal.returns-clause-runs
returns-clause-runs c = λ works runs.
    let all : c.loop-i.i ≡ length c.args.runners.now.items = omega arith in
    stepped_run works c.args.runners.now.items c.loop-i.runners.items
    (all_stepped c.loop-i.i c.args.runners.now.items c.loop-i.runners.items all c.loop-i.invariant.steps) runs
