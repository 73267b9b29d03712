use Rattle.std.proofs.Common.{arith, ◌≡◌, ◌+◌, ◌≤◌, true, ap, ◌∙◌}
use Rattle.std.specs.Prelude.{unwrap_or}
use Rattle.std.specs.Map.{lookup}
use Rattle.std.specs.BTreeMap.{is_at, insert_entry}
use Rattle.report_text.specs.declared.labels.Label.{Label}
use Rattle.report_text.specs.Labels.{label_cmp, is_listed}
use Rattle.report_text.specs.Orders.{label_total}
use Rattle.dcpiprof_report.specs.Sums.{held_in_all}
use Rattle.dcpiprof_report.proofs.Adding.{passing_more, good_more, found_most}
use Rattle.dcpiprof_report.proofs.sums.add.Goals as goal

pub overflow_add-before : goal.overflow_add-before
overflow_add-before c =
    let sums = c.args.sums.now.entries in
    let before : c.unwrap_or-before.result ≡ unwrap_or (lookup (is_at (label_cmp c.args.label)) sums) 0 = c.unwrap_or-before.ensures ∙ ap (λ o. unwrap_or o 0) (c.copied.ensures ∙ c.get.ensures.value) in
    let most : unwrap_or (lookup (is_at (label_cmp c.args.label)) sums) 0 ≤ held_in_all sums = found_most (is_at (label_cmp c.args.label)) sums in
    omega (arith, c.requires.room)

pub returns-clause-counts : goal.returns-clause-counts
returns-clause-counts c = λ test ties.
    let sums = c.args.sums.now.entries in
    let value : c.unwrap_or-before.result + c.args.count ≡ unwrap_or (lookup (is_at (label_cmp c.args.label)) sums) 0 + c.args.count = ap (λ n. n + c.args.count) (c.unwrap_or-before.ensures ∙ ap (λ o. unwrap_or o 0) (c.copied.ensures ∙ c.get.ensures.value)) in
    let is : c.insert.new.self.entries ≡ insert_entry label_cmp sums c.args.label (c.unwrap_or-before.result + c.args.count) = c.in_ok-insert.ensures.entries in
    rw is (passing_more label_total test ties c.args.label c.args.count (c.unwrap_or-before.result + c.args.count) sums c.in_ok-insert.ensures.was_ordered value)

pub returns-clause-labels : goal.returns-clause-labels
returns-clause-labels c = λ procedures listed all.
    let sums = c.args.sums.now.entries in
    let is : c.insert.new.self.entries ≡ insert_entry label_cmp sums c.args.label (c.unwrap_or-before.result + c.args.count) = c.in_ok-insert.ensures.entries in
    rw is (good_more label_cmp (λ (label : Label). is_listed procedures label ≡ true) c.args.label (c.unwrap_or-before.result + c.args.count) sums (omega (arith, c.requires.some)) listed all)
