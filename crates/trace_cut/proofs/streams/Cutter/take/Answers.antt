use Rattle.std.proofs.Common.{◌∙◌, arith}
use Rattle.trace_cut.proofs.Taking.{lane_kept, sample_taken, sample_passed, record_taken}
use Rattle.trace_cut.proofs.streams.Cutter.take.Goals.{in-Sample+then-at-len+in_ok-push-in-Sample, in-Sample+else-at-len, in-Rec+in_ok-push-in-Rec}
use Rattle.trace_cut.proofs.streams.Cutter.take.Goals as goal

pub invariant_of-self : goal.invariant_of-self
invariant_of-self c = lane_kept c.self.inside.streams.lanes.items c.self.inside.streams.records.items c.self.inside.told.items c.in-Sample.cpu c.index_mut.result.now c.push.new.self c.self.invariant c.index_mut.ensures.value (c.in_err-push-in-Sample.ensures).items

pub invariant_of-self-2 : goal.invariant_of-self-2
invariant_of-self-2 c = let s = c.self.inside in elim c.match-line.branch [
  | in-Sample+then-at-len+in_ok-push-in-Sample w ↦ rw (c.and-self-inside.ensures, w.self-inside-is) (sample_taken s.streams.lanes.items s.streams.records.items s.told.items c.args.line.now c.self.invariant
      w.in-Sample.cpu w.in-Sample.key w.len.result w.index_mut.result.now w.push.new.self w.in-Sample.is (omega (arith, w.if-at-len.true, w.len-in-Sample.ensures ∙ s.streams.lanes.ok.0)) w.index_mut.ensures.value
      (w.len.ensures ∙ s.streams.records.ok.0) (w.in_ok-push-in-Sample.ensures).items)
  | in-Sample+else-at-len w ↦ rw (c.and-self-inside.ensures, w.self-inside-is) (sample_passed s.streams.lanes.items s.streams.records.items s.told.items c.args.line.now c.self.invariant
      w.in-Sample.cpu w.in-Sample.key w.in-Sample.is (omega (arith, w.if-at-len.false, w.len-in-Sample.ensures ∙ s.streams.lanes.ok.0)))
  | in-Rec+in_ok-push-in-Rec w ↦ rw (c.and-self-inside.ensures, w.self-inside-is, (w.in_ok-push-in-Rec.ensures).items) (record_taken s.streams.lanes.items s.streams.records.items s.told.items c.args.line.now c.self.invariant w.in-Rec.notice w.in-Rec.is)
]
