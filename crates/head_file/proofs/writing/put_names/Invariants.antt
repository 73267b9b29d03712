-- The lines so far and those that are left, and that the names so far are names.
use Rattle.std.proofs.Common.{◌≡◌, ◌++◌, take, drop, true}
use Rattle.std.specs.List.{flat_map, list_all}
use Rattle.text_num.specs.Names.{is_name}
use Rattle.database_state.specs.Heads.{name_line}
use Rattle.head_file.proofs.writing.put_names.Given as goal

abbrev pub invariant-loop-name : goal.invariant-loop-name
invariant-loop-name l = record {
  lines : l.out.items ++ flat_map name_line (drop l.name-index l.names) ≡ l.fn.out.items ++ flat_map name_line l.names;
  named : list_all is_name (take l.name-index l.names) ≡ true;
}
