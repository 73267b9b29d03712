use Rattle.std.proofs.Common.{length, ◌∙◌, ap}
use Rattle.driver_model.specs.Table.{entries_in}
use Rattle.assoc_table.proofs.Rows.{entries-empty}
use Rattle.assoc_table.proofs.tables.AssocTableBody.clear.Goals as goal

pub returns-clause-entries : goal.returns-clause-entries
returns-clause-entries c = ap entries_in c.clear.ensures ∙ entries-empty (length c.args.self.now.rows) c.args.self.now.turn
