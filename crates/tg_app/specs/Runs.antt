-- What `run` says of one run: how the words end, and for each command what each exit status says.
use Rattle.std.specs.Prelude.{IsSome, List, Option, Some, ℕ, ◌≡◌, ◌≢◌, ◌≤◌, ◌⊎◌}
use Rattle.tg_app.specs.Audits.{AuditDenied}
use Rattle.tg_commands.specs.Blocks.{InputUntouched, OutputUntouched, PassedLimit}
use Rattle.tg_commands.specs.Check.{Agrees, CheckEnds, CheckStatus, Checked, CheckedOther}
use Rattle.tg_commands.specs.CidLines.{HexLine, PutsLine, TextLine}
use Rattle.tg_app.specs.Commands.{AllUntouched, Answers, CommandEnds, Ends, IsNoCommand, NoMemoryEnds, ReadsBlock, UsesNoDial, UsesNoDoor}
use Rattle.tg_app.specs.Commands.{MakesNoFolder, UsesNoFiles}
use Rattle.tg_app.specs.Commands.{WantsMemory}
use Rattle.tg_commands.specs.Exports.{Exported, ExportedNothing, HasAnswer, HoldsDag, IsRisen}
use Rattle.tg_app.specs.Mirrors.{IsGoodMirrorReply, IsLeftMirror, IsMirroredInto, VouchedMirror}
use Rattle.tg_app.specs.Fetches.{Fetched, FetchedStatus, IsAbsentReply, IsGoodReply, VouchedFetch, miss_refusal}
use Rattle.tg_app.specs.Intos.{HasPairHeard, HasPairTaken, IsCarFor, IsPathMade, IsReplyOf, IsUnmade, TreeRose, VouchedFolder, counts_line}
use Rattle.tg_app.specs.Makings.{made_in}
use Rattle.tg_commands.specs.Imports.{Imported, IsGoodFolder, options_of}
use Rattle.tg_commands.specs.Lines.{PutAll, Says}
use Rattle.tg_extract.specs.Answers.{IsMeasured}
use Rattle.tg_extract.specs.Counts.{counts_of}
use Rattle.tg_commands.specs.Node.{NodeEnds, NodeStatus, Noded, NodedOther}
use Rattle.tg_commands.specs.Files.{SameFiles}
use Rattle.tg_app.specs.Objects.{Objects}
use Rattle.tg_app.specs.Serves.{IsGoodPack, ServedWhole}
use Rattle.tg_app.specs.Swarms.{HasSwarmPair, IsWholeSwarm, VouchedSwarm, swarm_setup}
use Rattle.tg_commands.specs.Verify.{IsGoodCar, IsItsCar, VerifiedInput, Vouched}
use Rattle.tg_audit.specs.Audits.{Audited}
use Rattle.tg_commands.specs.declared.fault.CommandFault.TheVariants.{FolderFault, OutOfMemory}
use Rattle.tg_cid.specs.Cid.{CidParts}
use Rattle.tg_cid.specs.Names.{Names}
use Rattle.tg_dials.specs.Dials.{DialRose}
use Rattle.tg_doors.specs.Doors.{DoorRose}
use Rattle.tg_files.specs.Folders.{FolderRose}
use Rattle.tg_files.specs.Packs.{PackRose}
use Rattle.tg_model.specs.Answer.{answer}
use Rattle.tg_model.specs.Content.{content}
use Rattle.tg_model.specs.Counts.{counts}
use Rattle.tg_model.specs.Dag.{Dag, root_cid}
use Rattle.tg_model.specs.LimitNumbers.{standard}
use Rattle.tg_model.specs.Queries.{QueryParts}
use Rattle.tg_model.specs.Sound.{IsSound}
use Rattle.tg_model_laws.specs.FileSizes.{HasFileRoot, root_total}
use Rattle.tg_model_laws.specs.Tasks.{Miss}
use Rattle.tg_swarming.specs.Counts.{AllBack}
use Rattle.tg_swarming.specs.Sound.{IsServed, IsServedAt}
use Rattle.tg_streams.specs.Streams.{InputQuiet, InputRose, Output, OutputQuiet, OutputRose, Put}
use Rattle.tg_verify.specs.Laws.{IsWithinLimits}
use Rattle.tg_walk.specs.Walks.{max_depth}
use Rattle.tg_words.specs.AuditLines.{AuditParts}
use Rattle.tg_words.specs.CommandLine.{CommandLine}
use Rattle.tg_words.specs.ExportLines.{ExportParts}
use Rattle.tg_words.specs.FetchLines.{FetchParts}
use Rattle.tg_words.specs.Help.{help_text, version_text}
use Rattle.tg_words.specs.ImportLines.{ImportParts}
use Rattle.tg_words.specs.IntoLines.{FetchIntoParts, VerifyIntoParts}
use Rattle.tg_words.specs.MirrorLines.{MirrorParts}
use Rattle.tg_words.specs.ServeLines.{ServeParts}
use Rattle.tg_words.specs.SwarmLines.{SwarmParts}
use Rattle.tg_words.specs.declared.names.CommandName.{CommandName}
use Rattle.tg_words.specs.declared.Command.{Command}
use Rattle.tg_words.specs.declared.Command.TheVariants.{Audit, Check, CidToHex, CidToText, Export, Fetch, FetchInto, Help, Import, Mirror, Node, Serve, Swarm, Verify, VerifyInto, Version}

-- a run: the words behind the program's name, what became of the objects and of err, and the exit status
pub record Run : Type 1 where
  pub words : List (List ℕ)
  pub objects : Objects
  pub err : Output
  pub status : ℕ

-- the words spell this command
abbrev pub Asks : Run → Command → Type 0
Asks run command = CommandLine run.words command

-- a command ended so, with its status and its line on err
abbrev pub EndsAs : Command → Run → Type 0
EndsAs command run = Answers (CommandEnds command run.objects) run.status run.err

-- no fault of the input was counted, and none of out
pub record NoStreamRose (run : Run) : Type 0 where
  pub input : InputRose run.objects.input → ⊥
  pub out : OutputRose run.objects.out → ⊥

-- the words: how they end, with the status and the line
pub record WordsRun (run : Run) : Type 0 where
  pub ends : Answers (Ends run.words run.objects) run.status run.err
  -- status 2 comes exactly where the words are no command, and leaves all objects as they were
  pub usage : run.status ≡ 2 → IsNoCommand run.words
  pub no_command : IsNoCommand run.words → (run.status ≡ 2) ⊎ (run.status ≡ 8)
  pub untouched : run.status ≡ 2 → AllUntouched run.objects
  -- at 8 memory was wanted, and the command says what it had done by then
  pub memory : run.status ≡ 8 → WantsMemory run.words run.objects
  -- a command that uses no files leaves the folder and the pack as they were
  pub kept : (command : Command) → Asks run command → UsesNoFiles command → SameFiles run.objects.files
  -- one that makes no folder leaves the extract as it was
  pub kept_making : (command : Command) → Asks run command → MakesNoFolder command → run.objects.making.same
  -- and no command but `serve` touches the door
  pub kept_door : (command : Command) → Asks run command → UsesNoDoor command → run.objects.door.same_door
  -- nor any but `fetch`, `mirror` and `swarm` the dial
  pub kept_dial : (command : Command) → Asks run command → UsesNoDial command → run.objects.dial.same_dial
  -- status 6 of a command that uses no files comes where a fault of the input or of out was counted; at every other status of
  -- any command none was
  pub fault : (command : Command) → Asks run command → UsesNoFiles command → run.status ≡ 6
      → InputRose run.objects.input ⊎ OutputRose run.objects.out
  pub quiet_input : run.status ≢ 6 → InputQuiet run.objects.input
  pub quiet_output : run.status ≢ 6 → OutputQuiet run.objects.out
  -- status 7 of `check` and of `node`: the input goes on past the limit
  pub passed : (command : Command) → Asks run command → ReadsBlock command → run.status ≡ 7
      → PassedLimit run.objects.input × OutputUntouched run.objects.out

-- `check`
pub record CheckRun (cid : CidParts) (run : Run) : Type 0 where
  pub ends : Answers (CheckEnds cid run.objects.input run.objects.out) run.status run.err
  pub checked : run.status ≡ 0 → Checked cid run.objects.input run.objects.out
  pub other : run.status ≡ 3 → CheckedOther cid run.objects.input run.objects.out
  -- a CID that is trusted vouches for every byte that was put
  pub vouched : (block : List ℕ) → Names cid block → run.status ≡ 0 → Agrees block run.objects.input run.objects.out
  -- the status of an input that tells its bytes, where no fault is counted and memory is found
  pub answered : (bytes : List ℕ) → run.objects.input.left_old ≡ Some bytes → NoStreamRose run
      → (run.status ≡ 8) ⊎ CheckStatus cid bytes run.status

-- `node`
pub record NodeRun (cid : CidParts) (run : Run) : Type 0 where
  pub ends : Answers (NodeEnds cid run.objects.input run.objects.out) run.status run.err
  pub noded : run.status ≡ 0 → Noded cid run.objects.input run.objects.out
  pub other : run.status ≡ 3 → NodedOther cid run.objects.input run.objects.out
  pub answered : (bytes : List ℕ) → run.objects.input.left_old ≡ Some bytes → NoStreamRose run
      → (run.status ≡ 8) ⊎ NodeStatus cid bytes run.status

-- `cid CID`, and `cid --hex HEX`
pub record CidHexRun (cid : CidParts) (run : Run) : Type 0 where
  pub ends : EndsAs (CidToHex cid) run
  pub put : run.status ≡ 0 → PutsLine (HexLine cid) run.objects.out

pub record CidTextRun (cid : CidParts) (run : Run) : Type 0 where
  pub ends : EndsAs (CidToText cid) run
  pub put : run.status ≡ 0 → PutsLine (TextLine cid) run.objects.out

-- `export`: at 0 out grew by the CAR of what the query asks of the pack's content, as far as that is told; at 9 the
-- path leads nowhere
pub record ExportRun (parts : ExportParts) (run : Run) : Type 0 where
  pub ends : EndsAs (Export parts) run
  pub exported : run.status ≡ 0 → Exported parts.pack parts.query run.objects.files.pack run.objects.out
  pub nowhere : run.status ≡ 9 → ExportedNothing parts.query run.objects.files.pack run.objects.out
  -- and of a pack that tells its content nothing was put then
  pub nothing : run.status ≡ 9 → IsSome run.objects.files.pack.content_old → OutputUntouched run.objects.out
  -- where the content has all of it, none too deep, no fault is counted and memory is found, it is 0
  pub answered : HasAnswer parts.query run.objects.files.pack.content_old → (IsRisen run.objects.files.pack → ⊥)
      → (OutputRose run.objects.out → ⊥) → (run.status ≡ 8) ⊎ (run.status ≡ 0)
  -- of a pack that holds a sound DAG the CAR is that of its own traversal, which `verify` of the same query accepts, where
  -- the DAG passes none of its limits
  pub own_car : (d : Dag) (text : List ℕ) → HoldsDag run.objects.files.pack.content_old d → IsSound d
      → root_cid d ≡ parts.query.root → answer parts.query d ≡ Some text
      → IsWithinLimits parts.query standard d → run.status ≡ 0
      → (bytes : List ℕ) × Put bytes run.objects.out × IsItsCar parts.query d text bytes
  -- and it is done, where none of what is asked lies deeper than 512 blocks, no fault is counted and memory is found
  pub own_done : (d : Dag) (text : List ℕ) → HoldsDag run.objects.files.pack.content_old d → IsSound d
      → root_cid d ≡ parts.query.root → answer parts.query d ≡ Some text
      → (counts parts.query d).depth ≤ max_depth → (IsRisen run.objects.files.pack → ⊥)
      → (OutputRose run.objects.out → ⊥) → (run.status ≡ 8) ⊎ (run.status ≡ 0)

-- `import`: at 0 the pack is the CAR of a sound DAG that shows the folder, as far as they are told, in the importer's
-- layout, and out tells its root and what it holds
pub record ImportRun (parts : ImportParts) (run : Run) : Type 0 where
  pub ends : EndsAs (Import parts) run
  pub imported : run.status ≡ 0 → Imported parts run.objects.files run.objects.out
  -- of a good folder, where no fault is counted and memory is found, it is 0
  pub answered : IsGoodFolder (options_of parts) run.objects.files.folder.tree_new
      → (FolderRose run.objects.files.folder → ⊥)
      → (PackRose run.objects.files.pack → ⊥) → (OutputRose run.objects.out → ⊥) → (run.status ≡ 8) ⊎ (run.status ≡ 0)

-- `verify`: at 0 the whole input is a CAR of sections that fit the query, and out grew by their text
pub record VerifyRun (q : QueryParts) (run : Run) : Type 0 where
  pub ends : EndsAs (Verify q) run
  pub verified : run.status ≡ 0 → VerifiedInput q run.objects.input run.objects.out
  -- at 9 the path leads nowhere, and nothing was put
  pub nothing : run.status ≡ 9 → OutputUntouched run.objects.out
  -- a good CAR, where no fault is counted and memory is found, is accepted
  pub answered : (bytes : List ℕ) → run.objects.input.left_old ≡ Some bytes → IsGoodCar q bytes → NoStreamRose run
      → (run.status ≡ 8) ⊎ (run.status ≡ 0)
  -- of the CAR of a sound DAG's own traversal its answer is put
  pub own_answer : (d : Dag) (text bytes : List ℕ) → run.objects.input.left_old ≡ Some bytes → IsItsCar q d text bytes
      → run.status ≡ 0 → Put text run.objects.out
  -- for every sound DAG with the query's root, whatever the input: at 0 out grew by the DAG's answer, and else by a
  -- front of it, and what the line on err says of the DAG holds; or a received block and one of the DAG are different
  -- bytes with one SHA-256
  pub vouched_answer : (d : Dag) → IsSound d → root_cid d ≡ q.root
      → Vouched q d run.objects.input run.objects.out run.err run.status

-- `serve`: the line says the port to which the door is bound; then so many links were served, or fewer where the door gave no
-- more, in order, each by a session over what the pack's content holds, as far as it is told, and given back
pub record ServeRun (parts : ServeParts) (run : Run) : Type 0 where
  pub ends : EndsAs (Serve parts) run
  -- at 0 the door was asked to bind the port, on each link all that is sent for what was heard was said, and the peer said no more or the
  -- last reply closes, and no fault of the door was counted, but where it tells links and found no memory to tell of one
  pub served : run.status ≡ 0 → ServedWhole parts run.objects.files.pack run.objects.out run.objects.door
  -- at 5 the door couldn't be bound, or gave a link, or took one back, with a counted fault
  pub door_fault : run.status ≡ 5 → DoorRose run.objects.door.doorway
  -- where the pack is refused nothing, no fault is counted and memory is found, the status is 0, or 7 where on a link more bytes
  -- came than may be received
  pub answered : IsGoodPack run.objects.files.pack.content_old → (PackRose run.objects.files.pack → ⊥)
      → (DoorRose run.objects.door.doorway → ⊥) → (OutputRose run.objects.out → ⊥)
      → (run.status ≡ 8) ⊎ ((run.status ≡ 7) ⊎ (run.status ≡ 0))

-- `fetch`: one call to a gateway, what was said and heard in it, and what went to out
pub record FetchRun (parts : FetchParts) (run : Run) : Type 0 where
  -- no memory was found for the words, and nothing was done; or the call was made, and ended so
  pub ends : Answers (λ end. NoMemoryEnds run.objects end ⊎ CommandEnds (Fetch parts) run.objects end) run.status run.err
  -- but for want of memory the peer at the address was dialled, answered or not
  pub dialled : run.status ≢ 8 → run.objects.dial.dialling.dialled parts.addr
  -- at 0 what was heard begins with a reply that is the answer, and out grew by its text
  pub fetched : run.status ≡ 0 → Fetched parts run.objects.dial.dialling run.objects.out
  -- at 4 it is a reply of another status; at 5 a fault of the dial or of its link was counted
  pub other : run.status ≡ 4 → FetchedStatus parts run.objects.dial.dialling run.objects.out
  pub dial_fault : run.status ≡ 5 → DialRose run.objects.dial.dialling
  -- at 9 the path leads nowhere, and nothing was put
  pub nothing : run.status ≡ 9 → OutputUntouched run.objects.out
  -- a reply that carries the sections of a sound DAG's own traversal, or sections that fit, is accepted where no fault is
  -- counted and memory is found, and out grows by their text
  pub answered : (text : List ℕ) → IsGoodReply parts.query run.objects.dial.dialling text → (DialRose run.objects.dial.dialling → ⊥)
      → (OutputRose run.objects.out → ⊥) → (run.status ≡ 8) ⊎ ((run.status ≡ 0) × Put text run.objects.out)
  -- a reply that shows that a segment of the path leads nowhere ends with 9 and the line that names that segment, where no fault
  -- of the dial is counted and memory is found
  pub absent : (miss : Miss) → IsAbsentReply parts.query run.objects.dial.dialling miss → (DialRose run.objects.dial.dialling → ⊥)
      → (run.status ≡ 8) ⊎ ((run.status ≡ 9) × Says (Some (miss_refusal miss)) run.err)
  -- for every sound DAG with the query's root, whatever is heard, however it is cut: at 0 out grew by the DAG's answer, and else
  -- by a front of it, and what the line on err says of the DAG holds; or a received block and one of the DAG are different
  -- bytes with one SHA-256; but where no memory was found for the words, and nothing was done
  pub vouched_answer : (d : Dag) → IsSound d → root_cid d ≡ parts.query.root
      → ((run.status ≡ 8) × AllUntouched run.objects) ⊎ VouchedFetch parts d run.objects.dial.dialling run.objects.out run.err run.status

-- `fetch` with `--into`: one call to a gateway, and what was made of the answer
pub record FetchIntoRun (parts : FetchIntoParts) (run : Run) : Type 0 where
  -- no memory was found for the words, and nothing was done; or the path was free or not, the call made, and it ended so
  pub ends : Answers (λ end. NoMemoryEnds run.objects end ⊎ CommandEnds (FetchInto parts) run.objects end) run.status run.err
  -- at 0 out grew by the line that tells how much was made
  pub told : run.status ≡ 0 → PutAll (counts_line (counts_of (made_in run.objects.making))) run.objects.out
  -- at 5 a fault of the dial or of its link was counted; at 9 the path leads nowhere, and nothing was put
  pub dial_fault : run.status ≡ 5 → DialRose run.objects.dial.dialling
  pub nothing : run.status ≡ 9 → OutputUntouched run.objects.out
  -- for every sound DAG with the query's root, whatever is heard, however it is cut: at 0 what was made is the tree of files that the DAG
  -- shows at the path, and else a front of it, each file in it whole or its first bytes; or a received block and one of the DAG are different
  -- bytes with one SHA-256; but where nothing was done, for want of memory for the words, or since nothing could be made there
  pub vouched : (d : Dag) → IsSound d → IsMeasured d → root_cid d ≡ parts.query.root
      → ((run.status ≡ 8) × AllUntouched run.objects) ⊎ (IsUnmade run.objects.making run.status
      ⊎ VouchedFolder parts.query d parts.folder (HasPairHeard parts.query d run.objects.dial.dialling) run.objects.making run.err run.status)
  -- of a sound DAG whose records are made, whose own sections the reply carries, all is made, where no fault of the dial, the tree or out is
  -- counted and memory is found; or there is such a pair
  pub answered : (d : Dag) → IsReplyOf parts.query d run.objects.dial.dialling → (DialRose run.objects.dial.dialling → ⊥)
      → (TreeRose run.objects.making → ⊥) → (OutputRose run.objects.out → ⊥)
      → (run.status ≡ 8) ⊎ (((run.status ≡ 0) × IsPathMade parts.query d (made_in run.objects.making)) ⊎ HasPairHeard parts.query d run.objects.dial.dialling)

-- `verify` with `--into`: the CAR on input, and what was made of it
pub record VerifyIntoRun (parts : VerifyIntoParts) (run : Run) : Type 0 where
  pub ends : Answers (λ end. NoMemoryEnds run.objects end ⊎ CommandEnds (VerifyInto parts) run.objects end) run.status run.err
  pub told : run.status ≡ 0 → PutAll (counts_line (counts_of (made_in run.objects.making))) run.objects.out
  pub nothing : run.status ≡ 9 → OutputUntouched run.objects.out
  pub vouched : (d : Dag) → IsSound d → IsMeasured d → root_cid d ≡ parts.query.root
      → ((run.status ≡ 8) × AllUntouched run.objects) ⊎ (IsUnmade run.objects.making run.status
      ⊎ VouchedFolder parts.query d parts.folder (HasPairTaken d run.objects.input) run.objects.making run.err run.status)
  pub answered : (d : Dag) (bytes : List ℕ) → run.objects.input.left_old ≡ Some bytes → IsCarFor parts.query d bytes
      → (InputRose run.objects.input → ⊥) → (TreeRose run.objects.making → ⊥) → (OutputRose run.objects.out → ⊥)
      → (run.status ≡ 8) ⊎ (((run.status ≡ 0) × IsPathMade parts.query d (made_in run.objects.making)) ⊎ HasPairTaken d run.objects.input)

-- `mirror`: one call to a gateway, and what became of the pack
pub record MirrorRun (parts : MirrorParts) (run : Run) : Type 0 where
  pub ends : EndsAs (Mirror parts) run
  -- at 0 the reply was accepted, the pack, as far as it is told, is the CAR of its sections with that root, and out tells how many
  -- blocks it has
  pub mirrored : run.status ≡ 0 → IsMirroredInto parts run.objects.files.pack run.objects.dial.dialling run.objects.out
  -- for every sound DAG with the root, whatever was heard, however it was cut: the pack holds each of its blocks with sha2-256,
  -- and what it replies to a query for the root is what any store replies that holds the DAG; or a received block and one of the
  -- DAG, or two blocks of the DAG, are different bytes with one SHA-256
  pub vouched : (d : Dag) → IsSound d → root_cid d ≡ parts.root → run.status ≡ 0
      → VouchedMirror parts d run.objects.files.pack run.objects.dial.dialling
  -- at another status it is what it was, or isn't finished, or is whole, where the refusal came behind that
  pub left : run.status ≢ 0 → IsLeftMirror parts run.objects.files run.objects.dial.dialling
  -- at 5 a fault of the dial or of its link was counted, and at 6 one of the pack or of out
  pub dial_fault : run.status ≡ 5 → DialRose run.objects.dial.dialling
  pub fault : run.status ≡ 6 → PackRose run.objects.files.pack ⊎ OutputRose run.objects.out
  -- a reply that carries the sections of a sound DAG's own traversal, or sections that fit, is mirrored where no fault is counted
  -- and memory is found
  pub answered : IsGoodMirrorReply parts.root run.objects.dial.dialling → (DialRose run.objects.dial.dialling → ⊥)
      → (PackRose run.objects.files.pack → ⊥) → (OutputRose run.objects.out → ⊥) → (run.status ≡ 8) ⊎ (run.status ≡ 0)

-- `swarm`: calls to the gateways, by the root's block and then by parts, and what went to out
pub record SwarmRun (parts : SwarmParts) (run : Run) : Type 0 where
  pub ends : EndsAs (Swarm parts) run
  -- at 0 all of the file was put, each of its parts accepted of one of the peers
  pub swarmed : run.status ≡ 0 → IsWholeSwarm parts run.objects.dial.dialling run.objects.out
  -- at 9 the root is no file, and nothing was put
  pub nothing : run.status ≡ 9 → OutputUntouched run.objects.out
  -- each link that was made was given back, as far as the dial tells; of 8, where no memory was found before, it isn't said
  pub back : run.status ≢ 8 → AllBack run.objects.dial.dialling
  -- at 5 a fault of the dial or of a link was counted, and at 6 one of out
  pub dial_fault : run.status ≡ 5 → DialRose run.objects.dial.dialling
  pub fault : run.status ≡ 6 → OutputRose run.objects.out
  -- for every sound DAG with the root, whatever was heard, of whichever peers, however it was cut: at 0 out grew by the file, and else
  -- by a front of it; or a received block and one of the DAG are different bytes with one SHA-256; but where no memory was found,
  -- and nothing was done
  pub vouched : (d : Dag) → IsSound d → root_cid d ≡ parts.root
      → ((run.status ≡ 8) × AllUntouched run.objects) ⊎ VouchedSwarm parts d run.objects.dial.dialling run.objects.out run.err run.status
  -- one gateway that serves a sound DAG rightly whose root is a file is enough, whatever the others say: where no fault is counted and
  -- memory is found the file is put, or there is such a pair
  pub one_right : (d : Dag) (addr : List ℕ) → HasFileRoot d → root_total d ≤ standard.output
      → IsServedAt (swarm_setup parts) d addr run.objects.dial.dialling → (DialRose run.objects.dial.dialling → ⊥) → (OutputRose run.objects.out → ⊥)
      → (run.status ≡ 8) ⊎ (((run.status ≡ 0) × Put (content d) run.objects.out) ⊎ HasSwarmPair parts d run.objects.dial.dialling)
  -- where all peers serve a sound DAG rightly whose root is a file, no fault is counted and memory is found, the file is put
  pub answered : (d : Dag) → IsServed (swarm_setup parts) d run.objects.dial.dialling → (DialRose run.objects.dial.dialling → ⊥)
      → (OutputRose run.objects.out → ⊥) → (run.status ≡ 8) ⊎ ((run.status ≡ 0) × Put (content d) run.objects.out)

-- `audit`: nothing but out and err changed
pub record AuditRun (parts : AuditParts) (run : Run) : Type 0 where
  pub ends : EndsAs (Audit parts) run
  pub files : SameFiles run.objects.files
  pub input : InputUntouched run.objects.input
  -- at 0 the folder that the seed draws was imported, each query was asked of a session over its store by a client, every answer
  -- was the expected one, the name that isn't there was shown to be absent, and out grew by the text that tells it
  pub audited : run.status ≡ 0 → Audited parts.seed parts.files run.objects.out
  -- at 3 an answer was refused, or was another one, and nothing was put
  pub denied : run.status ≡ 3 → AuditDenied parts run.objects.out

-- `help` and `version`: out grows by the text, and nothing else changes; and they are done, where out counts no fault and memory
-- is found
pub record TextRun (command : Command) (text : List ℕ) (run : Run) : Type 0 where
  pub ends : EndsAs command run
  pub put : run.status ≡ 0 → PutAll text run.objects.out
  pub files : SameFiles run.objects.files
  pub input : InputUntouched run.objects.input
  pub answered : (OutputRose run.objects.out → ⊥) → (run.status ≡ 8) ⊎ (run.status ≡ 0)

-- what a run says, by the command that its words spell
pub record Runs (run : Run) : Type 0 where
  pub words : WordsRun run
  pub check : (cid : CidParts) → Asks run (Check cid) → CheckRun cid run
  pub node : (cid : CidParts) → Asks run (Node cid) → NodeRun cid run
  pub cid_hex : (cid : CidParts) → Asks run (CidToHex cid) → CidHexRun cid run
  pub cid_text : (cid : CidParts) → Asks run (CidToText cid) → CidTextRun cid run
  pub export : (parts : ExportParts) → Asks run (Export parts) → ExportRun parts run
  pub import : (parts : ImportParts) → Asks run (Import parts) → ImportRun parts run
  pub verify : (q : QueryParts) → Asks run (Verify q) → VerifyRun q run
  pub serve : (parts : ServeParts) → Asks run (Serve parts) → ServeRun parts run
  pub fetch : (parts : FetchParts) → Asks run (Fetch parts) → FetchRun parts run
  pub fetch_into : (parts : FetchIntoParts) → Asks run (FetchInto parts) → FetchIntoRun parts run
  pub verify_into : (parts : VerifyIntoParts) → Asks run (VerifyInto parts) → VerifyIntoRun parts run
  pub mirror : (parts : MirrorParts) → Asks run (Mirror parts) → MirrorRun parts run
  pub swarm : (parts : SwarmParts) → Asks run (Swarm parts) → SwarmRun parts run
  pub audit : (parts : AuditParts) → Asks run (Audit parts) → AuditRun parts run
  pub help : (topic : Option CommandName) → Asks run (Help topic) → TextRun (Help topic) (help_text topic) run
  pub version : Asks run Version → TextRun Version version_text run

-- ---- the program

-- nothing was done, as a standard stream is missing and can't be held, or no memory was found for the words, and err says so
pub record IsUnrun (objects : Objects) (err : Output) (status : ℕ) : Type 0 where
  pub untouched : AllUntouched objects
  pub why : ((status ≡ 6) × Says (Some FolderFault) err) ⊎ ((status ≡ 8) × Says (Some OutOfMemory) err)
