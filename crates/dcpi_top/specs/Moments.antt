-- What a crash at any moment of a call leaves of the files.
use Rattle.std.specs.Prelude.{ℕ, ◌⊎◌}
use Rattle.std.specs.declared.option.Option.{Option}
use Rattle.std.specs.declared.option.Option.TheVariants.{Some, None}
use Rattle.store_io.specs.Files.{Files}
use Rattle.store_io.specs.Crashes.{OnlyReads}
use Rattle.dcpi_top.specs.declared.commands.Command.{Command}
use Rattle.dcpi_top.specs.declared.commands.Command.TheVariants.{Plain, Replay, ProfImage, ProfProcedure, Cat, Runs, Tidy, Make}
use Rattle.dcpi_top.specs.Streams.{Stream}
use Rattle.dcpi_top.specs.Replays.{LeavesParts}
use Rattle.dcpi_top.specs.Tidies.{LeavesDatabase}

-- the files stay, and a crash leaves what it left before
abbrev pub ReadsOnly : {D : Type 0} → (D → Option Files) → (D → ℕ) → (D → ℕ → Files → Type 0) → D → D → Type 0
ReadsOnly files moment left_since old new =
    OnlyReads (files old) (files new) (moment old) (moment new) (left_since old) (left_since new)

-- A command that only reads changes nothing of what a crash leaves. A replay leaves at any moment the database of before, grown by
-- some first parts of the run; a tidying leaves the database of before. Where they did not come so far, they changed nothing
-- either.
abbrev pub LeavesAtAnyMoment : {D : Type 0} → (D → Option Files) → (D → ℕ) → (D → ℕ → Files → Type 0)
    → Option Command → Stream → D → D → ℕ → Type 0
LeavesAtAnyMoment files moment left_since None input old new status =
    ReadsOnly files moment left_since old new
LeavesAtAnyMoment files moment left_since (Some Plain) input old new status =
    ReadsOnly files moment left_since old new
LeavesAtAnyMoment files moment left_since (Some Replay) input old new status =
    ReadsOnly files moment left_since old new
    ⊎ LeavesParts files moment left_since input old new status
LeavesAtAnyMoment files moment left_since (Some (ProfImage epochs event csv)) input old new status =
    ReadsOnly files moment left_since old new
LeavesAtAnyMoment files moment left_since (Some (ProfProcedure epochs event csv)) input old new status =
    ReadsOnly files moment left_since old new
LeavesAtAnyMoment files moment left_since (Some Cat) input old new status =
    ReadsOnly files moment left_since old new
LeavesAtAnyMoment files moment left_since (Some Runs) input old new status =
    ReadsOnly files moment left_since old new
LeavesAtAnyMoment files moment left_since (Some Tidy) input old new status =
    ReadsOnly files moment left_since old new
    ⊎ LeavesDatabase files moment left_since old new status
LeavesAtAnyMoment files moment left_since (Some (Make seed samples trace)) input old new status =
    ReadsOnly files moment left_since old new
