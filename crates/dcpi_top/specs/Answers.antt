-- What the program promises of a call: its status, what it read and wrote, and when each status comes.
use Rattle.std.specs.Prelude.{◌≡◌, ℕ, ◌≤◌, List, ◌⊎◌, ◌↔◌}
use Rattle.std.specs.declared.option.Option.{Option}
use Rattle.std.specs.declared.option.Option.TheVariants.{Some, None}
use Rattle.std.specs.Io.KnownBytes.{Appends}
use Rattle.outside_io.specs.Prefix.{AppendsPrefix}
use Rattle.dcpi_top.specs.declared.commands.Command.{Command}
use Rattle.dcpi_top.specs.declared.refusals.Refusal.{Refusal}
use Rattle.dcpi_top.specs.declared.refusals.Refusal.TheVariants.{Usage, WriteFault}
use Rattle.dcpi_top.specs.Commands.{command_of}
use Rattle.dcpi_top.specs.Messages.{TellsLine}
use Rattle.dcpi_top.specs.Refusals.{status_in}
use Rattle.dcpi_top.specs.Streams.{Stream, Disk, KeepsCount, HasFailed, IsUntouched}
use Rattle.dcpi_top.specs.Causes.{IsCause, IsText, KeepsCounts, LeavesAlone}
use Rattle.dcpi_top.specs.Owing.{IsOwed, IsRefusedAs, IsSound}

-- the whole text of the command was written, and nothing else, and no fault was counted
pub record Prints (command : Command) (input : Stream) (disk : Disk) (output : Stream)
    : Type 0 where
  pub text : List ℕ
  pub is_text : IsText command input disk text
  pub printed : Appends output.old output.new text
  pub counts : KeepsCounts input disk
  pub written : KeepsCount output

-- a write failed behind a prefix of the text of the command; all else is as if it had been written
pub record PrintsPrefix (command : Command) (input : Stream) (disk : Disk) (output : Stream)
    : Type 0 where
  pub text : List ℕ
  pub is_text : IsText command input disk text
  pub printed : AppendsPrefix output.old output.new text
  pub counts : KeepsCounts input disk
  pub failed : HasFailed output

-- nothing was done
pub record IsIdle (input : Stream) (disk : Disk) (output : Stream) : Type 0 where
  pub unread : IsUntouched input
  pub untouched : IsUntouched disk
  pub unwritten : IsUntouched output

-- What it means that a command was served, or refused: the refusal has its cause, and nothing was written; or a write failed.
abbrev pub Serves : Command → Stream → Disk → Stream → Option Refusal → Type 0
Serves command input disk output None = Prints command input disk output
Serves command input disk output (Some refusal) =
    (IsCause command input disk refusal × IsUntouched output)
    ⊎ ((refusal ≡ WriteFault) × PrintsPrefix command input disk output)

-- the same where the words may be no command
abbrev pub ServesCall : Option Command → Stream → Disk → Stream → Option Refusal → Type 0
ServesCall None input disk output refusal = (refusal ≡ Some Usage) × IsIdle input disk output
ServesCall (Some command) input disk output refusal =
    LeavesAlone command input disk × Serves command input disk output refusal

-- a call: its words, and the four objects
pub record Call : Type 0 where
  pub words : List (List ℕ)
  pub input : Stream
  pub disk : Disk
  pub output : Stream
  pub errors : Stream

-- What a status says of a call: of the words, the input, the database, the output and the error output.
pub record Answers (call : Call) (status : ℕ) : Type 0 where
  -- what was refused, if anything was; it has this status and its cause, and one line tells it
  pub refusal : Option Refusal
  pub is_status : status ≡ status_in refusal
  pub means : ServesCall (command_of call.words) call.input call.disk call.output refusal
  pub line : TellsLine refusal call.errors
  pub later : call.errors.faults_before ≤ call.errors.faults_after
  -- 1 exactly where the words have no form of a command
  pub usage : (status ≡ 1) ↔ (command_of call.words ≡ None)
  -- a refusal that has its cause, and none before it, is the one that is answered, where no fault was counted and memory was found
  pub answers : (command : Command) (owed : Refusal) → command_of call.words ≡ Some command →
      IsOwed command call.input call.disk owed → IsRefusedAs owed refusal
  -- a command of which all is sound is served: 0, or want of memory, where no fault was counted
  pub complete : (command : Command) → command_of call.words ≡ Some command →
      IsSound command call.input call.disk → (HasFailed call.input → ⊥) →
      (HasFailed call.disk → ⊥) → (HasFailed call.output → ⊥) →
      (status ≡ 0) ⊎ (status ≡ 6)
