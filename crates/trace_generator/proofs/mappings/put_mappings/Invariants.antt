use Rattle.std.proofs.Common.{◌≡◌, ◌∷◌, codes}
use Rattle.trace_model.specs.Said.{KernelMapped}
use Rattle.trace_generator.specs.Generator.{scans_to}
use Rattle.trace_generator.specs.Making.{said_of}
use Rattle.trace_generator.proofs.mappings.put_mappings.Given as goal

abbrev pub invariant-loop-before : goal.invariant-loop-before
invariant-loop-before l = said_of l.lines.items ≡ KernelMapped 0xfffffc0000000000 0x400000 (codes "vmunix") ∷ scans_to l.before
