-- A crash leaves the same where a text was written, and where it was not.
use Rattle.std.proofs.Common.{inl, inr, ℕ}
use Rattle.std.specs.declared.option.Option.{Option}
use Rattle.std.specs.declared.option.Option.TheVariants.{Some}
use Rattle.store_io.specs.Files.{Files}
use Rattle.dcpi_top.specs.declared.commands.Command.{Command}
use Rattle.dcpi_top.specs.declared.commands.Command.TheVariants.{Plain, Replay, ProfImage, ProfProcedure, Cat, Runs, Tidy, Make}
use Rattle.dcpi_top.specs.Streams.{Stream}
use Rattle.dcpi_top.specs.Moments.{LeavesAtAnyMoment}
use Rattle.dcpi_top.proofs.Replayed.{unwritten}
use Rattle.dcpi_top.proofs.Tidied.{unwritten_number}

pub unprinted : {D : Type 0} (files : D → Option Files) (moment : D → ℕ) (left_since : D → ℕ → Files → Type 0) (command : Command) (input : Stream) (old new : D)
    → LeavesAtAnyMoment files moment left_since (Some command) input old new 0 → LeavesAtAnyMoment files moment left_since (Some command) input old new 5
unprinted files moment left_since Plain input old new leaves = leaves
unprinted files moment left_since Replay input old new (inl reads) = inl reads
unprinted files moment left_since Replay input old new (inr parts) = inr (unwritten files moment left_since input old new parts)
unprinted files moment left_since (ProfImage epochs event csv) input old new leaves = leaves
unprinted files moment left_since (ProfProcedure epochs event csv) input old new leaves = leaves
unprinted files moment left_since Cat input old new leaves = leaves
unprinted files moment left_since Runs input old new leaves = leaves
unprinted files moment left_since Tidy input old new (inl reads) = inl reads
unprinted files moment left_since Tidy input old new (inr leaves) = inr (unwritten_number files moment left_since old new leaves)
unprinted files moment left_since (Make seed samples trace) input old new leaves = leaves
