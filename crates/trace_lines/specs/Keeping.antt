-- The lines of a trace as they are kept while it is read.
use Rattle.std.specs.Prelude.{ℕ, List}
use Rattle.std.specs.declared.option.Option.{Option}
use Rattle.std.specs.declared.option.Option.TheVariants.{Some, None}
use Rattle.trace_model.specs.declared.notices.Line.{Line}
use Rattle.trace_lines.specs.declared.lines.Kept.{Kept}
use Rattle.trace_lines.specs.declared.lines.Kept.TheVariants as kinds

-- the lines so far, and for how many processors they are cut, where they are
pub record LinesSoFar : Type 0 where
  pub items : List Line
  pub cpus : Option ℕ

abbrev pub lines_of : Kept → List Line
lines_of (kinds.Whole lines) = lines.items
lines_of (kinds.Cut cutter) = cutter.lines

abbrev pub cpus_of : Kept → Option ℕ
cpus_of (kinds.Whole lines) = None
cpus_of (kinds.Cut cutter) = Some cutter.cpus
