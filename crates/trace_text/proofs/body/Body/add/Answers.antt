use Rattle.std.proofs.Common.{arith}
use Rattle.trace_text.specs.Forms.{notice_values}
use Rattle.trace_text.specs.State.{said_in_body}
use Rattle.trace_text.specs.declared.body.Taken.TheVariants as kinds
use Rattle.trace_text.specs.declared.body_lines.BodyLine.TheVariants as bodies
use Rattle.trace_text.proofs.Adding.{record_added, sample_added}
use Rattle.trace_text.proofs.BodySteps.{adds_as, few_records, notice_fits, passes_as, sample_fits}
use Rattle.trace_text.proofs.body.Body.add.Goals as goal

pub push_sample-requires : goal.push_sample-requires
push_sample-requires c =
    let fits = sample_fits c.args.self.now c.in-Sample.sample c.requires.sound (passes_as (said_in_body c.args.self.now) c.args.values.now (bodies.Sample c.in-Sample.sample) c.in-Sample.is c.requires.passes) in
    record { room = fits.0; aligned = fits.1 }

pub returns-in_ok-push_sample-in-Sample : goal.returns-in_ok-push_sample-in-Sample
returns-in_ok-push_sample-in-Sample c = adds_as kinds.Line c.args.self.now c.push_sample.new.self c.args.values.now (bodies.Sample c.in-Sample.sample) c.in-Sample.is
    (sample_added c.args.self.now c.push_sample.new.self c.in-Sample.sample.cpu c.in-Sample.sample.pid c.in-Sample.sample.pc c.in-Sample.sample.event c.requires.sound c.in_ok-push_sample-in-Sample.ensures
    (passes_as (said_in_body c.args.self.now) c.args.values.now (bodies.Sample c.in-Sample.sample) c.in-Sample.is c.requires.passes))

pub record_of-requires : goal.record_of-requires
record_of-requires c =
    let fits = notice_fits c.args.self.now c.in-Notice.notice c.requires.sound (passes_as (said_in_body c.args.self.now) c.args.values.now (bodies.Notice c.in-Notice.notice) c.in-Notice.is c.requires.passes) in
    record { index = fits.0; titled = fits.1 }

pub push_record-requires : goal.push_record-requires
push_record-requires c =
    let kept = c.in_ok-record-in-Notice.ensures.kept in
    let few = few_records c.args.self.now c.in-Notice.notice c.requires.sound (passes_as (said_in_body c.args.self.now) c.args.values.now (bodies.Notice c.in-Notice.notice) c.in-Notice.is c.requires.passes) in
    record { records = omega (arith, few, kept.records); parts = omega (arith, c.requires.sound.tracks.parts_most, kept.parts) }

pub returns-in_ok-push_record-in-Notice : goal.returns-in_ok-push_record-in-Notice
returns-in_ok-push_record-in-Notice c = adds_as kinds.Line c.args.self.now c.push_record.new.self c.args.values.now (bodies.Notice c.in-Notice.notice) c.in-Notice.is
    (record_added c.args.self.now c.record_of.new.self c.push_record.new.self (notice_values c.in-Notice.notice) c.in_ok-record-in-Notice.record c.requires.sound c.in_ok-record-in-Notice.ensures c.in_ok-push_record-in-Notice.ensures
    (passes_as (said_in_body c.args.self.now) c.args.values.now (bodies.Notice c.in-Notice.notice) c.in-Notice.is c.requires.passes))
