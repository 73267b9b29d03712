-- What the top call promises follows from what serving a command says and from the line that was told.
use Rattle.std.proofs.Common.{◌≡◌, ◌≤◌, inl, inr, ℕ, refl, subst, arith}
use Rattle.std.specs.declared.option.Option.{Option}
use Rattle.std.specs.declared.option.Option.TheVariants.{Some, None}
use Rattle.dcpi_top.specs.declared.commands.Command.{Command}
use Rattle.dcpi_top.specs.declared.refusals.Refusal.{Refusal}
use Rattle.dcpi_top.specs.declared.refusals.Refusal.TheVariants.{Usage, TraceBad, ReadFault, StoreFault, WriteFault, Memory, DatabaseBad, Full, SymbolBad, NoSuchEpoch}
use Rattle.dcpi_top.specs.Commands.{command_of}
use Rattle.dcpi_top.specs.Messages.{TellsLine}
use Rattle.dcpi_top.specs.Refusals.{status_in, status_of}
use Rattle.dcpi_top.specs.Streams.{Stream, Disk}
use Rattle.dcpi_top.specs.Causes.{IsCause}
use Rattle.dcpi_top.specs.Answers.{Answers, Call, Serves, ServesCall}
use Rattle.dcpi_top.proofs.KnownLaws.{Known}
use Rattle.dcpi_top.proofs.Owed.{owed_is_answered}
use Rattle.dcpi_top.proofs.Sound.{served_soundly}

-- only words that are no command are refused as such
not_usage : (command : Command) (input : Stream) (disk : Disk) (refusal : Refusal) → IsCause command input disk refusal → status_of refusal ≡ 1 → ⊥
not_usage command input disk Usage cause is = cause
not_usage command input disk (TraceBad line why) cause is = absurd (cc)
not_usage command input disk ReadFault cause is = absurd (cc)
not_usage command input disk StoreFault cause is = absurd (cc)
not_usage command input disk WriteFault cause is = absurd (cc)
not_usage command input disk Memory cause is = absurd (cc)
not_usage command input disk (DatabaseBad file) cause is = absurd (cc)
not_usage command input disk (Full what held added) cause is = absurd (cc)
not_usage command input disk (SymbolBad line why) cause is = absurd (cc)
not_usage command input disk (NoSuchEpoch epoch last) cause is = absurd (cc)

not_one : (n : ℕ) → n ≡ 5 → n ≡ 1 → ⊥
not_one n five one = absurd (omega (arith, five, one))

known_words : (command : Command) (input : Stream) (disk : Disk) (output : Stream) (refusal : Option Refusal) → Serves command input disk output refusal
    → status_in refusal ≡ 1 → ⊥
known_words command input disk output None serves is = absurd (cc)
known_words command input disk output (Some refusal) (inl refused) is = not_usage command input disk refusal refused.0 is
known_words command input disk output (Some refusal) (inr failed) is = not_one (status_of refusal) (λ i. status_of (failed.0 i)) is

usage_one : (named : Option Command) (input : Stream) (disk : Disk) (output : Stream) (refusal : Option Refusal) → ServesCall named input disk output refusal
    → status_in refusal ≡ 1 → named ≡ None
usage_one None input disk output refusal serves is = refl
usage_one (Some command) input disk output refusal serves is = absurd (known_words command input disk output refusal serves.1 is)

usage_two : (named : Option Command) (input : Stream) (disk : Disk) (output : Stream) (refusal : Option Refusal) → ServesCall named input disk output refusal
    → named ≡ None → status_in refusal ≡ 1
usage_two None input disk output refusal serves is = λ i. status_in (serves.0 i)
usage_two (Some command) input disk output refusal serves is = absurd (cc)

-- what serving a command says of it
pub of_command : (named : Option Command) (command : Command) (input : Stream) (disk : Disk) (output : Stream) (refusal : Option Refusal)
    → ServesCall named input disk output refusal → named ≡ Some command → Serves command input disk output refusal
of_command named command input disk output refusal serves is =
    let of : ServesCall (Some command) input disk output refusal = subst (λ o. ServesCall o input disk output refusal) is serves in of.1

-- the promises
pub answered : Known → (call : Call) (refusal : Option Refusal) → ServesCall (command_of call.words) call.input call.disk call.output refusal
    → TellsLine refusal call.errors → call.errors.faults_before ≤ call.errors.faults_after → Answers call (status_in refusal)
answered laws call refusal serves told later = record {
  refusal = refusal;
  is_status = refl;
  means = serves;
  line = told;
  later = later;
  usage = (
    usage_one (command_of call.words) call.input call.disk call.output refusal serves,
    usage_two (command_of call.words) call.input call.disk call.output refusal serves,
  );
  answers = λ command owed is due. owed_is_answered laws command call.input call.disk call.output refusal owed
      (of_command (command_of call.words) command call.input call.disk call.output refusal serves is) due;
  complete = λ command is sound read store write. served_soundly laws command call.input call.disk call.output refusal
      (of_command (command_of call.words) command call.input call.disk call.output refusal serves is) sound read store write;
}
