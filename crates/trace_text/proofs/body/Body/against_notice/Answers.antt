use Rattle.std.proofs.Common.{ap, ◌∙◌}
use Rattle.trace_text.specs.Faults.{part_fault, record_fault, scan_fault}
use Rattle.trace_text.proofs.BodySteps.{by_kind}
use Rattle.trace_text.proofs.body.Body.against_notice.Goals as goal

pub returns-in-Scan : goal.returns-in-Scan
returns-in-Scan c = by_kind c.args.self.now c.args.values.now _ _ c.in-Scan.is (c.against_scan.ensures ∙ (λ i. scan_fault (c.requires.tracks.scans_are i) (c.requires.tracks.records_are i)))

pub returns-in-Load : goal.returns-in-Load
returns-in-Load c = by_kind c.args.self.now c.args.values.now _ _ c.in-Load.is (c.against_record.ensures ∙ ap record_fault c.requires.tracks.records_are)

pub returns-in-Unload : goal.returns-in-Unload
returns-in-Unload c = by_kind c.args.self.now c.args.values.now _ _ c.in-Unload.is (c.against_record-in-Unload.ensures ∙ ap record_fault c.requires.tracks.records_are)

pub returns-in-Exec : goal.returns-in-Exec
returns-in-Exec c = by_kind c.args.self.now c.args.values.now _ _ c.in-Exec.is (c.against_record-in-Exec.ensures ∙ ap record_fault c.requires.tracks.records_are)

pub returns-in-Exit : goal.returns-in-Exit
returns-in-Exit c = by_kind c.args.self.now c.args.values.now _ _ c.in-Exit.is (c.against_record-in-Exit.ensures ∙ ap record_fault c.requires.tracks.records_are)

pub returns-in-Kernel : goal.returns-in-Kernel
returns-in-Kernel c = by_kind c.args.self.now c.args.values.now _ _ c.in-Kernel.is (c.against_record-in-Kernel.ensures ∙ ap record_fault c.requires.tracks.records_are)

pub returns-in-Drain : goal.returns-in-Drain
returns-in-Drain c = by_kind c.args.self.now c.args.values.now _ _ c.in-Drain.is (c.against_record-in-Drain.ensures ∙ ap record_fault c.requires.tracks.records_are)

pub returns-in-Merge : goal.returns-in-Merge
returns-in-Merge c = by_kind c.args.self.now c.args.values.now _ _ c.in-Merge.is (c.against_part.ensures ∙ (λ i. part_fault (c.requires.tracks.records_are i) (c.requires.tracks.parts_are i)))

pub returns-in-Epoch : goal.returns-in-Epoch
returns-in-Epoch c = by_kind c.args.self.now c.args.values.now _ _ c.in-Epoch.is (c.against_part-in-Epoch.ensures ∙ (λ i. part_fault (c.requires.tracks.records_are i) (c.requires.tracks.parts_are i)))
