use Rattle.trace_text.specs.Forms.{sample_values}
use Rattle.trace_text.proofs.Adding.{sample_added}
use Rattle.trace_text.proofs.body.Body.take_sample.Goals as goal

pub returns-in_ok-push_sample-in-Some : goal.returns-in_ok-push_sample-in-Some
returns-in_ok-push_sample-in-Some c =
    let s = c.in-Some.sample in
    let good = c.in-Some.ensures in
    let added = sample_added c.args.self.now c.push_sample.new.self s.cpu s.pid s.pc s.event c.requires c.in_ok-push_sample-in-Some.ensures good.1 in
    (added.0, added.1, (sample_values s, good.0, added.2))
