use Rattle.std.proofs.Common.{List, ◌++◌, ap, sym, ◌∙◌}
use Rattle.database_model.specs.declared.tallies.TallyRow.{TallyRow}
use Rattle.database_model.specs.Tally.{processor_rows}
use Rattle.run_record.proofs.TallyLaws.{rows_of-zero, rows_of-more}
use Rattle.run_record.proofs.counting.tally.Goals as goal

pub loop-cpu-init : goal.loop-cpu-init
loop-cpu-init c = c.new-rows.ensures.items ∙ sym (rows_of-zero c.args.r.now)

pub loop-cpu-preserved : goal.loop-cpu-preserved
loop-cpu-preserved c =
    c.in_ok-push_rows.ensures ∙ ap (λ (rows : List TallyRow). rows ++ processor_rows c.args.r.now c.loop-cpu.cpu) c.loop-cpu.invariant ∙ sym (rows_of-more c.args.r.now c.loop-cpu.cpu)
