-- A refusal that was passed on.
use Rattle.std.proofs.Common.{ℕ, List}
use Rattle.std.specs.declared.result.Result.{Result}
use Rattle.std.specs.declared.result.Result.TheVariants.{Ok, Err}
use Rattle.std.specs.Prelude.{IsErrAnd}
use Rattle.dcpi_top.specs.declared.commands.Command.{Command}
use Rattle.dcpi_top.specs.declared.refusals.Refusal.{Refusal}
use Rattle.dcpi_top.specs.Refusals.{refused, status_in, status_of}
use Rattle.dcpi_top.specs.Streams.{Stream, Disk}
use Rattle.dcpi_top.specs.Causes.{GivesText, IsCause}

-- each refusal of which P holds has its cause
pub refuses : {T : Type 0} (bytes : T → List ℕ) (command : Command) (input : Stream) (disk : Disk) (P : Refusal → Type 0) (result : Result T Refusal)
    → IsErrAnd result P → ((refusal : Refusal) → P refusal → IsCause command input disk refusal) → GivesText bytes command input disk result
refuses bytes command input disk P (Ok value) is causes = absurd is
refuses bytes command input disk P (Err refusal) is causes = causes refusal is

-- and its status says something
pub passes : {T : Type 0} (P : Refusal → Type 0) (Q : ℕ → Type 0) (result : Result T Refusal) → IsErrAnd result P
    → ((refusal : Refusal) → P refusal → Q (status_of refusal)) → Q (status_in (refused result))
passes P Q (Ok value) is says = absurd is
passes P Q (Err refusal) is says = says refusal is
