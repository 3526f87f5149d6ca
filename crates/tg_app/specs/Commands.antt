-- How words end: each command by its own relation.
use Rattle.std.specs.Prelude.{◌≡◌, ℕ, ◌⊎◌, ⊤, List, Option, Some}
use Rattle.tg_words.specs.CommandLine.{CommandLine}
use Rattle.tg_words.specs.Help.{help_text, version_text}
use Rattle.tg_words.specs.declared.Command.{Command}
use Rattle.tg_words.specs.declared.Command.TheVariants.{Audit, Check, Node, CidToHex, CidToText, Export, Fetch, FetchInto, Help, Import, Mirror, Serve, Swarm, Verify, VerifyInto, Version}
use Rattle.tg_streams.specs.Streams.{Output}
use Rattle.tg_commands.specs.Lines.{Says, exit_status}
use Rattle.tg_commands.specs.Blocks.{InputUntouched, Untouched}
use Rattle.tg_app.specs.Audits.{AuditAnswers}
use Rattle.tg_commands.specs.Check.{CheckEnds}
use Rattle.tg_commands.specs.Node.{NodeEnds}
use Rattle.tg_commands.specs.CidLines.{HexLine, TextLine, PrintEnds}
use Rattle.tg_commands.specs.Exports.{ExportAnswers}
use Rattle.tg_app.specs.Fetches.{FetchAnswers}
use Rattle.tg_app.specs.Intos.{FetchIntoAnswers, VerifyIntoAnswers}
use Rattle.tg_app.specs.Mirrors.{MirrorAnswers}
use Rattle.tg_commands.specs.Imports.{ImportAnswers}
use Rattle.tg_commands.specs.Files.{SameFiles}
use Rattle.tg_app.specs.Objects.{Objects}
use Rattle.tg_app.specs.Serves.{ServeAnswers}
use Rattle.tg_app.specs.Swarms.{SwarmAnswers}
use Rattle.tg_commands.specs.Verify.{VerifyEnds}
use Rattle.tg_commands.specs.declared.fault.CommandFault.{CommandFault}
use Rattle.tg_commands.specs.declared.fault.CommandFault.TheVariants.{Usage, OutOfMemory}

-- how a command ends
abbrev pub CommandEnds : Command → Objects → Option CommandFault → Type 0
CommandEnds (Check cid) objects end = SameFiles objects.files × CheckEnds cid objects.input objects.out end
CommandEnds (Node cid) objects end = SameFiles objects.files × NodeEnds cid objects.input objects.out end
CommandEnds (CidToHex cid) objects end =
    SameFiles objects.files × InputUntouched objects.input × PrintEnds (HexLine cid) objects.out end
CommandEnds (CidToText cid) objects end =
    SameFiles objects.files × InputUntouched objects.input × PrintEnds (TextLine cid) objects.out end
CommandEnds (Export parts) objects end =
    objects.files.same_folder × InputUntouched objects.input × ExportAnswers parts.pack parts.query objects.files.pack objects.files.same_pack objects.out end
CommandEnds (Verify q) objects end = SameFiles objects.files × VerifyEnds q objects.input objects.out end
CommandEnds (VerifyInto parts) objects end = SameFiles objects.files × VerifyIntoAnswers parts objects.input objects.making objects.out end
CommandEnds (Serve parts) objects end =
    objects.files.same_folder × InputUntouched objects.input × ServeAnswers parts objects.files.pack objects.files.same_pack objects.out objects.door end
CommandEnds (Fetch parts) objects end =
    SameFiles objects.files × InputUntouched objects.input × FetchAnswers parts objects.dial.dialling objects.out end
CommandEnds (FetchInto parts) objects end =
    SameFiles objects.files × InputUntouched objects.input × FetchIntoAnswers parts objects.dial objects.making objects.out end
CommandEnds (Mirror parts) objects end =
    objects.files.same_folder × InputUntouched objects.input × MirrorAnswers parts objects.files objects.dial objects.out end
CommandEnds (Swarm parts) objects end =
    SameFiles objects.files × InputUntouched objects.input × SwarmAnswers parts objects.dial objects.out end
CommandEnds (Import parts) objects end =
    InputUntouched objects.input × ImportAnswers parts objects.files objects.out end
CommandEnds (Audit parts) objects end = SameFiles objects.files × InputUntouched objects.input × AuditAnswers parts objects.out end
CommandEnds (Help topic) objects end =
    SameFiles objects.files × InputUntouched objects.input × PrintEnds (λ text. text ≡ help_text topic) objects.out end
CommandEnds Version objects end =
    SameFiles objects.files × InputUntouched objects.input × PrintEnds (λ text. text ≡ version_text) objects.out end

-- a command that neither reads nor writes files, nor makes them, nor does so in memory
abbrev pub UsesNoFiles : Command → Type 0
UsesNoFiles (Check cid) = ⊤
UsesNoFiles (Node cid) = ⊤
UsesNoFiles (CidToHex cid) = ⊤
UsesNoFiles (CidToText cid) = ⊤
UsesNoFiles (Verify q) = ⊤
UsesNoFiles (Export parts) = ⊥
UsesNoFiles (Import parts) = ⊥
UsesNoFiles (Serve parts) = ⊥
UsesNoFiles (Fetch parts) = ⊤
UsesNoFiles (FetchInto parts) = ⊥
UsesNoFiles (VerifyInto parts) = ⊥
UsesNoFiles (Mirror parts) = ⊥
UsesNoFiles (Swarm parts) = ⊤
UsesNoFiles (Audit parts) = ⊥
UsesNoFiles (Help topic) = ⊤
UsesNoFiles Version = ⊤

-- a command that is handed no door, and leaves it as it was
abbrev pub UsesNoDoor : Command → Type 0
UsesNoDoor (Serve parts) = ⊥
UsesNoDoor (Check cid) = ⊤
UsesNoDoor (Node cid) = ⊤
UsesNoDoor (CidToHex cid) = ⊤
UsesNoDoor (CidToText cid) = ⊤
UsesNoDoor (Verify q) = ⊤
UsesNoDoor (Export parts) = ⊤
UsesNoDoor (Import parts) = ⊤
UsesNoDoor (Fetch parts) = ⊤
UsesNoDoor (FetchInto parts) = ⊤
UsesNoDoor (VerifyInto parts) = ⊤
UsesNoDoor (Mirror parts) = ⊤
UsesNoDoor (Swarm parts) = ⊤
UsesNoDoor (Audit parts) = ⊤
UsesNoDoor (Help topic) = ⊤
UsesNoDoor Version = ⊤

-- a command that is handed no dial, and leaves it as it was
abbrev pub UsesNoDial : Command → Type 0
UsesNoDial (Fetch parts) = ⊥
UsesNoDial (Mirror parts) = ⊥
UsesNoDial (Swarm parts) = ⊥
UsesNoDial (FetchInto parts) = ⊥
UsesNoDial (VerifyInto parts) = ⊤
UsesNoDial (Check cid) = ⊤
UsesNoDial (Node cid) = ⊤
UsesNoDial (CidToHex cid) = ⊤
UsesNoDial (CidToText cid) = ⊤
UsesNoDial (Verify q) = ⊤
UsesNoDial (Export parts) = ⊤
UsesNoDial (Import parts) = ⊤
UsesNoDial (Serve parts) = ⊤
UsesNoDial (Audit parts) = ⊤
UsesNoDial (Help topic) = ⊤
UsesNoDial Version = ⊤

-- a command that makes no folder of an answer, and leaves the extract as it was
abbrev pub MakesNoFolder : Command → Type 0
MakesNoFolder (FetchInto parts) = ⊥
MakesNoFolder (VerifyInto parts) = ⊥
MakesNoFolder (Check cid) = ⊤
MakesNoFolder (Node cid) = ⊤
MakesNoFolder (CidToHex cid) = ⊤
MakesNoFolder (CidToText cid) = ⊤
MakesNoFolder (Verify q) = ⊤
MakesNoFolder (Export parts) = ⊤
MakesNoFolder (Import parts) = ⊤
MakesNoFolder (Serve parts) = ⊤
MakesNoFolder (Fetch parts) = ⊤
MakesNoFolder (Mirror parts) = ⊤
MakesNoFolder (Swarm parts) = ⊤
MakesNoFolder (Audit parts) = ⊤
MakesNoFolder (Help topic) = ⊤
MakesNoFolder Version = ⊤

-- a command that reads a block from its input
abbrev pub ReadsBlock : Command → Type 0
ReadsBlock (Check cid) = ⊤
ReadsBlock (Node cid) = ⊤
ReadsBlock other = ⊥

-- all of the objects are as they were
pub record AllUntouched (objects : Objects) : Type 0 where
  pub files : SameFiles objects.files
  pub making : objects.making.same
  pub door : objects.door.same_door
  pub dial : objects.dial.same_dial
  pub streams : Untouched objects.input objects.out

-- the words spell this command and no other
pub record TheCommand (words : List (List ℕ)) (command : Command) : Type 0 where
  pub spelled : CommandLine words command
  pub only : (other : Command) → CommandLine words other → command ≡ other

-- no command of the grammar has these words
abbrev pub IsNoCommand : List (List ℕ) → Type 0
IsNoCommand words = (command : Command) → CommandLine words command → ⊥

-- the words are no command; or no memory was found for them; or they are a command, and it ended
pub record NoCommandEnds (words : List (List ℕ)) (objects : Objects) (end : Option CommandFault) : Type 0 where
  pub none : IsNoCommand words
  pub end_is : end ≡ Some Usage
  pub untouched : AllUntouched objects

pub record NoMemoryEnds (objects : Objects) (end : Option CommandFault) : Type 0 where
  pub end_is : end ≡ Some OutOfMemory
  pub untouched : AllUntouched objects

pub record TheCommandEnds (words : List (List ℕ)) (objects : Objects) (end : Option CommandFault) : Type 0 where
  pub command : Command
  pub the : TheCommand words command
  pub ends : CommandEnds command objects end
  pub making : MakesNoFolder command → objects.making.same
  pub door : UsesNoDoor command → objects.door.same_door
  pub dial : UsesNoDial command → objects.dial.same_dial

abbrev pub Ends : List (List ℕ) → Objects → Option CommandFault → Type 0
Ends words objects end = NoCommandEnds words objects end ⊎ (NoMemoryEnds objects end ⊎ TheCommandEnds words objects end)

-- the exit status and err say an end of which this holds
abbrev pub Answers : (Option CommandFault → Type 0) → ℕ → Output → Type 0
Answers Holds status err = (end : Option CommandFault) × (status ≡ exit_status end) × Holds end × Says end err

-- memory was wanted: before anything was done, or by the command, which says what it did before
abbrev pub WantsMemory : List (List ℕ) → Objects → Type 0
WantsMemory words objects =
    AllUntouched objects ⊎ ((command : Command) × TheCommand words command × CommandEnds command objects (Some OutOfMemory))
