-- `fetch` and `verify` with `--into`: what an answer says is made into a folder, or into a file.
use Rattle.std.specs.Prelude.{All, Err, IfSome, IsSomeAnd, List, None, Ok, Option, Result, Some, [], ⊤, codes, decimal, length, ℕ, ◌++◌, ◌∷◌, ◌≡◌, ◌≤◌, ◌⊎◌}
use Rattle.tg_app.specs.Fetches.{FetchAnswers}
use Rattle.tg_app.specs.Makings.{Making, made_in, step_of}
use Rattle.tg_app.specs.Objects.{DialUse}
use Rattle.tg_bundles.specs.Laws.{AreRecordsOf}
use Rattle.tg_bundles.specs.Records.{Record, file, folder, link, records_of}
use Rattle.tg_bytes.specs.Ascii.{line_feed}
use Rattle.tg_client.specs.Received.{HasReceived}
use Rattle.tg_client.specs.Telling.{HasTold, telling}
use Rattle.tg_client.specs.declared.fault.ClientFault.{ClientFault}
use Rattle.tg_commands.specs.Blocks.{InputUntouched, OutputUntouched}
use Rattle.tg_commands.specs.Imports.{path_text}
use Rattle.tg_commands.specs.Lines.{PutEnds, Says, exit_status}
use Rattle.tg_commands.specs.Verify.{IsItsCar, IsNoAnswer, VerifyEnds}
use Rattle.tg_commands.specs.declared.fault.CommandFault.{CommandFault}
use Rattle.tg_commands.specs.declared.fault.CommandFault.TheVariants as refusals
use Rattle.tg_dials.specs.Dials.{Dialling}
use Rattle.tg_extract.specs.Answers.{IsAllMade, IsFrontMade, IsMeasured, IsPartOf, MadeAt}
use Rattle.tg_extract.specs.Counts.{counts_of}
use Rattle.tg_extract.specs.Extracts.{ExtractState, Extracts, Grows, HasCause, IsAtStage, IsGoodRecord, IsRead, IsStoppedAt, IsStuck, extract_sink, kind_of, link_at, records_made, text_of}
use Rattle.tg_extract.specs.Laws.{HasFirstBad, HasFirstLink}
use Rattle.tg_extract.specs.declared.counts.Counts.{Counts}
use Rattle.tg_extract.specs.declared.extract.Stage.{Stage}
use Rattle.tg_extract.specs.declared.fault.ExtractFault.{ExtractFault}
use Rattle.tg_extract.specs.declared.fault.ExtractFault.TheVariants as extracts
use Rattle.tg_faults.specs.Faults.{Rose}
use Rattle.tg_faults.specs.declared.calls.Failed.{Failed}
use Rattle.tg_fetch.specs.Laws.{TellsCarried}
use Rattle.tg_fetch.specs.Received.{AreReceived, HeardIn}
use Rattle.tg_fetch.specs.Telling.{CallTells}
use Rattle.tg_heard.specs.Exchanges.{HasOneBlockEach}
use Rattle.tg_model.specs.Dag.{Dag, Section, root_cid}
use Rattle.tg_model.specs.Fits.{CollisionPair}
use Rattle.tg_model.specs.LimitNumbers.{standard}
use Rattle.tg_model.specs.Lookup.{lookup_path}
use Rattle.tg_model.specs.Lookup as lookups
use Rattle.tg_model.specs.Queries.{QueryParts}
use Rattle.tg_model.specs.ShowsTree.{Shows}
use Rattle.tg_model.specs.Sound.{IsSound}
use Rattle.tg_model.specs.Traversal.{block_list}
use Rattle.tg_new_tree.specs.NewTrees.{BegunAt, NewTreeFailed, NewTreeMeaning, NewTreeQuiet, new_tree_step}
use Rattle.tg_new_tree.specs.declared.made.Made.{Made}
use Rattle.tg_streams.specs.Streams.{Input, Output, Took, into}
use Rattle.tg_tree.specs.declared.tree.Tree.{Tree}
use Rattle.tg_verify.specs.Laws.{IsWithinLimits}
use Rattle.tg_words.specs.IntoLines.{FetchIntoParts, VerifyIntoParts}

-- ---- an extract

-- it was begun at a path, and nothing came yet
pub record IsBegun {T : Type 0} (m : NewTreeMeaning T) (path : List ℕ) (old begun : ExtractState T) : Type 0 where
  pub at : BegunAt path (new_tree_step m old.tree begun.tree)
  pub quiet : NewTreeQuiet (new_tree_step m old.tree begun.tree)
  pub text : text_of m begun ≡ []
  pub kind : kind_of begun.stage ≡ None
  pub refused : begun.refused ≡ None
  pub calls : begun.faults ≡ 0

-- what goes into it, while it is told what the path leads to
abbrev pub into_extract : {T : Type 0} → NewTreeMeaning T → ExtractState T → ExtractState T → Output
into_extract m begun called = into (telling (extract_sink m) (Grows m)) begun called

-- all that came is read: nothing stops it; or it stopped, now or before
pub record IsFinished {T : Type 0} (m : NewTreeMeaning T) (called new : ExtractState T) : Type 0 where
  pub all : new.unread ≡ []
  pub read : IsRead new.stage
  pub going : IsStuck new.stage → ⊥
  pub refused : new.refused ≡ None

pub record HasStopped {T : Type 0} (m : NewTreeMeaning T) (called new : ExtractState T) : Type 0 where
  pub now : called.refused ≡ None → IsSomeAnd new.refused (HasCause new.stage (new_tree_step m called.tree new.tree))
  pub before : (fault : ExtractFault) → called.refused ≡ Some fault → new ≡ record called { faults = new.faults }

abbrev pub FinishedBy : {T : Type 0} → NewTreeMeaning T → ExtractState T → ExtractState T → Result ⊤ Failed → Type 0
FinishedBy m called new (Ok done) = IsFinished m called new
FinishedBy m called new (Err failed) = HasStopped m called new

pub record FinishEnds {T : Type 0} (m : NewTreeMeaning T) (called new : ExtractState T) (result : Result ⊤ Failed) : Type 0 where
  pub text : Extracts m called new []
  pub at : IsAtStage (m.made new.tree) new.stage
  pub stopped : IfSome new.refused (IsStoppedAt new.stage)
  pub ends : FinishedBy m called new result

-- ---- what out and err are told

-- how many files, folders and bytes were made
abbrev pub counts_line : Counts → List ℕ
counts_line counts = codes "files " ++ (decimal counts.files ++ (codes " folders " ++ (decimal counts.folders
    ++ (codes " bytes " ++ (decimal counts.bytes ++ line_feed ∷ [])))))

-- the refusal where the extract stopped: the tree failed; a symbolic link comes next, whose path is shown, for which memory may be
-- wanted; a record comes next that isn't made; or memory was wanted
abbrev pub IsLinkRefusal : Option (List (List ℕ)) → CommandFault → Type 0
IsLinkRefusal None refusal = ⊥
IsLinkRefusal (Some path) refusal = (refusal ≡ refusals.NotPlain (path_text path)) ⊎ (refusal ≡ refusals.OutOfMemory)

abbrev pub IsStopRefusal : Stage → Option ExtractFault → CommandFault → Type 0
IsStopRefusal stage (Some extracts.Tree) refusal = refusal ≡ refusals.FolderFault
IsStopRefusal stage (Some extracts.NotPlain) refusal = IsLinkRefusal (link_at stage) refusal
IsStopRefusal stage (Some extracts.BadText) refusal = refusal ≡ refusals.TooDeep
IsStopRefusal stage (Some extracts.OutOfMemory) refusal = refusal ≡ refusals.OutOfMemory
IsStopRefusal stage None refusal = refusal ≡ refusals.SinkFault

-- it stopped
pub record StopEnds {T : Type 0} (new : ExtractState T) (out : Output) (end : Option CommandFault) : Type 0 where
  pub refusal : CommandFault
  pub end_is : end ≡ Some refusal
  pub tells : IsStopRefusal new.stage new.refused refusal
  pub unput : OutputUntouched out

-- how it ends, by how it ended to put the answer into the extract, and to finish that: the answer was accepted, and all is made; or
-- accepted, or stopped by the extract, which has stopped; or refused
abbrev pub IntoEnds : {T : Type 0} → NewTreeMeaning T → ExtractState T → Option CommandFault → Result ⊤ Failed → Output → Option CommandFault → Type 0
IntoEnds m new None (Ok done) out end = PutEnds (counts_line (counts_of (m.made new.tree))) out end
IntoEnds m new None (Err failed) out end = StopEnds new out end
IntoEnds m new (Some refusals.SinkFault) finished out end = StopEnds new out end
IntoEnds m new (Some refusal) finished out end = (end ≡ Some refusal) × OutputUntouched out

-- ---- how the commands end

-- nothing can be made at the path, since something stands there, or the tree failed: nothing was done
pub record NoNewFolder (making : Making) (out : Output) (end : Option CommandFault) : Type 0 where
  pub failed : NewTreeFailed (step_of making)
  pub rest : making.new ≡ record making.old { tree = making.new.tree }
  pub unput : OutputUntouched out
  pub end_is : end ≡ Some refusals.FolderFault

-- the extract was begun, the reply to one call fetched into it, and it was finished
pub record FetchesInto (parts : FetchIntoParts) (dial : Dialling) (making : Making) (out : Output) (end : Option CommandFault) : Type 0 where
  pub begun : ExtractState making.Tree
  pub begins : IsBegun making.meaning parts.folder making.old begun
  pub called : ExtractState making.Tree
  pub inner : Option CommandFault
  pub fetch : FetchAnswers (record { addr = parts.addr; query = parts.query }) dial (into_extract making.meaning begun called) inner
  pub told : CallTells parts.query standard dial (λ t. kind_of called.stage ≡ t) fetch.result
  pub finished : Result ⊤ Failed
  pub finish : FinishEnds making.meaning called making.new finished
  pub ends : IntoEnds making.meaning making.new inner finished out end

abbrev pub FetchIntoAnswers : FetchIntoParts → DialUse → Making → Output → Option CommandFault → Type 0
FetchIntoAnswers parts dial making out end =
    (NoNewFolder making out end × dial.same_dial) ⊎ FetchesInto parts dial.dialling making out end

-- or the CAR on input verified into it
pub record VerifiesInto (parts : VerifyIntoParts) (input : Input) (making : Making) (out : Output) (end : Option CommandFault) : Type 0 where
  pub begun : ExtractState making.Tree
  pub begins : IsBegun making.meaning parts.folder making.old begun
  pub called : ExtractState making.Tree
  pub inner : Option CommandFault
  pub verify : VerifyEnds parts.query input (into_extract making.meaning begun called) inner
  pub result : Result ⊤ ClientFault
  pub told : HasTold parts.query standard input (λ t. kind_of called.stage ≡ t) result
  pub accepted : inner ≡ None → result ≡ Ok tt
  pub finished : Result ⊤ Failed
  pub finish : FinishEnds making.meaning called making.new finished
  pub ends : IntoEnds making.meaning making.new inner finished out end

abbrev pub VerifyIntoAnswers : VerifyIntoParts → Input → Making → Output → Option CommandFault → Type 0
VerifyIntoAnswers parts input making out end =
    (NoNewFolder making out end × InputUntouched input) ⊎ VerifiesInto parts input making out end

-- ---- what the statuses say

-- a block that was received, and one of the DAG, are a collision pair: received in what was heard in the call, or on the input
pub record HasPairHeard (q : QueryParts) (d : Dag) (dial : Dialling) : Type 0 where
  pub heard : List ℕ
  pub heard_in : HeardIn dial heard
  pub sections : List Section
  pub received : AreReceived standard.block heard q sections
  pub pair : CollisionPair sections d

pub record HasPairTaken (d : Dag) (input : Input) : Type 0 where
  pub heard : List ℕ
  pub unheard : List ℕ
  pub took : Took (heard ++ unheard) input
  pub sections : List Section
  pub received : HasReceived standard.block heard sections
  pub pair : CollisionPair sections d

-- just what stands at the query's path was made, in order: the tree of files that it shows; or the first of it, so that each folder, and
-- the first bytes of each file, stand in that tree
pub record IsPathMade (q : QueryParts) (d : Dag) (made : List Made) : Type 0 where
  pub at : Dag
  pub found : lookup_path q.path d ≡ lookups.found at
  pub all : IsAllMade made (records_of [] at)
  pub tree : (tree : Tree) → Shows at tree → AreRecordsOf (records_made made) tree

pub record IsPathBegun (q : QueryParts) (d : Dag) (made : List Made) : Type 0 where
  pub at : Dag
  pub found : lookup_path q.path d ≡ lookups.found at
  pub front : IsFrontMade made (records_of [] at)
  pub tree : (tree : Tree) → Shows at tree → IsPartOf made tree

abbrev pub IsFolderFront : QueryParts → Dag → List Made → Type 0
IsFolderFront q d made = (made ≡ []) ⊎ IsPathBegun q d made

-- what stopped it is behind what was made: a symbolic link at the path that the line shows, or a record that isn't made
abbrev pub IsStopOf : QueryParts → Dag → List Made → Option CommandFault → Type 0
IsStopOf q d made (Some (refusals.NotPlain text)) =
    (path : List (List ℕ)) × (text ≡ path_text path) × MadeAt q d (HasFirstLink made path)
IsStopOf q d made (Some refusals.TooDeep) = MadeAt q d (HasFirstBad made)
IsStopOf q d made end = ⊤

-- for a sound DAG with the query's root, whose blocks have lengths of at most 64 digits, once the extract was begun at the path that the
-- words name: at 0 what stands at the query's path was made, and at any other status a front of it; at 9 the path leads nowhere, and nothing was
-- made; and what stopped it is behind what was made; or there is such a pair
pub record VouchedFolder (q : QueryParts) (d : Dag) (path : List ℕ) (Pair : Type 0) (making : Making) (err : Output) (status : ℕ) : Type 0 where
  pub place : making.meaning.place making.new.tree ≡ Some path
  pub whole : status ≡ 0 → IsPathMade q d (made_in making) ⊎ Pair
  pub front : IsFolderFront q d (made_in making) ⊎ Pair
  pub nowhere : status ≡ 9 → (IsNoAnswer q d × (made_in making ≡ [])) ⊎ Pair
  pub end : Option CommandFault
  pub status_is : status ≡ exit_status end
  pub line : Says end err
  pub stop : IsStopOf q d (made_in making) end ⊎ Pair

-- nothing was made, since nothing could be at the path
pub record IsUnmade (making : Making) (status : ℕ) : Type 0 where
  pub failed : NewTreeFailed (step_of making)
  pub status_is : status ≡ 6

-- ---- a good answer

-- the records at the query's path are made: none is a symbolic link's, and each path has at most 128 names
abbrev pub IsMade : Record → Type 0
IsMade (folder path) = IsGoodRecord (folder path)
IsMade (file path bytes) = IsGoodRecord (file path bytes)
IsMade (link path target) = ⊥

pub record AreMadeAt (q : QueryParts) (d : Dag) : Type 0 where
  pub at : Dag
  pub found : lookup_path q.path d ≡ lookups.found at
  pub are : All IsMade (records_of [] at)

-- what was heard carries the sections of this DAG's own traversal, which is a sound DAG with the query's root, no two different blocks of it under
-- one CID, and none of the limits passed
pub record IsReplyOf (q : QueryParts) (d : Dag) (dial : Dialling) : Type 0 where
  pub sound : IsSound d
  pub root : root_cid d ≡ q.root
  pub measured : IsMeasured d
  pub one_each : HasOneBlockEach d
  pub within : IsWithinLimits q standard d
  pub made : AreMadeAt q d
  pub tells : TellsCarried q standard dial (block_list q d)

-- or the input is its CAR
pub record IsCarFor (q : QueryParts) (d : Dag) (bytes : List ℕ) : Type 0 where
  pub text : List ℕ
  pub car : IsItsCar q d text bytes
  pub few : length bytes ≤ standard.received
  pub measured : IsMeasured d
  pub made : AreMadeAt q d

-- a fault of the tree was counted
abbrev pub TreeRose : Making → Type 0
TreeRose making = Rose (making.meaning.faults making.old.tree) (making.meaning.faults making.new.tree)
