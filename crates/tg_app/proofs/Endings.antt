-- What each exit status says, from how the words end.
use Rattle.std.proofs.Common.{◌+◌, ◌≡◌, ◌≢◌, ℕ, ◌<◌, ◌≤◌, ◌⊎◌, inl, inr, List, [], ◌∷◌, ◌++◌, length, Option, Some, None, Err, refl, sym, ap, ◌∙◌, subst, arith, append-nil, length-append, nat_eq, false}
use Rattle.std.proofs.lemmas.Bool.Decides.{eqb_tells}
use Rattle.std.specs.Prelude.{IsSome, ⊤}
use Rattle.tg_bytes.specs.Told.{after_front, IsNothing}
use Rattle.tg_cid.specs.Cid.{CidParts}
use Rattle.tg_cid.specs.Names.{Names, IsDigestOf}
use Rattle.tg_cid.specs.declared.cid.HashKind.{HashKind}
use Rattle.tg_cid.specs.declared.cid.HashKind.TheVariants.{Sha256, Identity}
use Rattle.tg_words.specs.CommandLine.{CommandLine}
use Rattle.tg_words.specs.Help.{help_text, version_text}
use Rattle.tg_words.specs.ImportLines.{ImportParts}
use Rattle.tg_words.specs.declared.Command.{Command}
use Rattle.tg_words.specs.declared.Command.TheVariants.{Audit, Check, Node, CidToHex, CidToText, Export, Fetch, FetchInto, Help, Import, Mirror, Serve, Swarm, Verify, VerifyInto, Version}
use Rattle.tg_export.specs.Cars.{CarEnds}
use Rattle.tg_export.specs.Packed.{ExportEnds, HasPackedCause, IsExportedElse}
use Rattle.tg_export.specs.declared.fault.ExportFault.{ExportFault}
use Rattle.tg_export.specs.declared.fault.ExportFault.TheVariants as exports
use Rattle.tg_files.specs.Folders.{FolderRose}
use Rattle.tg_files.specs.Packs.{PackRose, PackStep}
use Rattle.tg_import.specs.declared.fault.ImportFault.{ImportFault}
use Rattle.tg_import.specs.declared.fault.ImportFault.TheVariants as imports
use Rattle.tg_import.specs.declared.summary.Options.{Options}
use Rattle.tg_import.specs.Packing.{IsPackingCause}
use Rattle.tg_model.specs.PathWalk.{not_folder, not_there}
use Rattle.tg_model.specs.Queries.{QueryParts}
use Rattle.tg_model.specs.Stores.{Store}
use Rattle.tg_model.specs.declared.stores.BlocksFault.TheVariants as stores
use Rattle.tg_store.specs.declared.fault.PackFault.TheVariants as packs
use Rattle.tg_walk.specs.declared.fault.ResolveFault.TheVariants as paths
use Rattle.tg_walk.specs.declared.fault.WalkFault.TheVariants as walks
use Rattle.tg_streams.specs.Streams.{Input, InputQuiet, Output, InputRose, OutputQuiet, OutputRose}
use Rattle.tg_cid.specs.Limits.{max_block_len}
use Rattle.tg_commands.specs.Lines.{PutAll, status_of, exit_status}
use Rattle.tg_commands.specs.Blocks.{OutputUntouched, PassedLimit, TookBlock}
use Rattle.tg_commands.specs.Check.{Checked, CheckedOther, CheckEnds, CollisionPair, Agrees, CheckStatus}
use Rattle.tg_commands.specs.Node.{Noded, NodedOther, NodeEnds, HasText, HasNoText, NodeStatus}
use Rattle.tg_commands.specs.CidLines.{HexLine, PrintEnds, PutsLine, TextLine}
use Rattle.tg_app.specs.Commands.{AllUntouched, CommandEnds, Ends, IsNoCommand, MakesNoFolder, NoCommandEnds, NoMemoryEnds, ReadsBlock, UsesNoDial, UsesNoDoor, UsesNoFiles, WantsMemory}
use Rattle.tg_commands.specs.Exports.{ExportAnswers, Exported, ExportedNothing, HasAnswer, IsExportRefusal, IsRisen, LeadsNowhere, TellsExport}
use Rattle.tg_commands.specs.Imports.{ImportAnswers, Imported, IsGoodFolder, IsImportRefusal, options_of, refusal_of_import}
use Rattle.tg_commands.specs.Files.{Files, SameFiles}
use Rattle.tg_app.specs.Objects.{Objects}
use Rattle.tg_commands.specs.declared.fault.CommandFault.{CommandFault}
use Rattle.tg_commands.specs.declared.fault.CommandFault.TheVariants.{Usage, BadDigest, BadBlock, BlockLimit, InputFault, NoPeerLeft, SinkFault, OutOfMemory}
use Rattle.tg_app.proofs.AuditEndings.{audit_own, audit_quiet, no_audit_usage, unaudited}
use Rattle.tg_app.proofs.ServeEndings.{no_serve_peers, no_serve_usage, serve_quiet}
use Rattle.tg_app.proofs.FetchEndings.{fetch_answers_own, fetch_fault, fetch_quiet, no_fetch_usage}
use Rattle.tg_app.proofs.IntoEndings.{fetch_into_own, fetch_into_quiet, no_fetch_into_usage, no_verify_into_usage, verify_into_own, verify_into_quiet}
use Rattle.tg_app.proofs.MirrorEndings.{mirror_own, mirror_quiet, no_mirror_usage}
use Rattle.tg_app.proofs.Refusals.{export_refusal_own, import_refusal_own, verify_own}
use Rattle.tg_app.proofs.Segments.{no_segment}
use Rattle.tg_app.proofs.Statuses.{IsOwn, IsPeersEnd, differs, eight_is, not_zero, two_is}
use Rattle.tg_app.proofs.SwarmEndings.{no_swarm_usage, swarm_fault, swarm_memory, swarm_quiet}
use Rattle.tg_app.proofs.VerifyEndings.{no_verify_usage, unverified, verify_fault, verify_quiet}

-- ---- the command that the words spell

unbegun : (step : PackStep) (same : Type 0) (out : Output) (path : List ℕ) (q : QueryParts) → same → OutputUntouched out → ExportAnswers path q step same out (Some OutOfMemory)
unbegun step same out path q it unput = inr (inr (record { same = it; unput = unput; is = refl }))

not_imported : (parts : ImportParts) (files : Files) (out : Output) → SameFiles files → OutputUntouched out → ImportAnswers parts files out (Some OutOfMemory)
not_imported parts files out same unput =
    inr (inr (record { same_folder = same.folder; same_pack = same.pack; unput = unput; is = refl }))

memory_ends : (words : List (List ℕ)) (command : Command) (objects : Objects) → UsesNoDial command × MakesNoFolder command → CommandLine words command → AllUntouched objects
    → CommandEnds command objects (Some OutOfMemory)
memory_ends words (Check cid) objects uses line all = (all.files, all.streams)
memory_ends words (Node cid) objects uses line all = (all.files, inl all.streams)
memory_ends words (CidToHex cid) objects uses line all = (all.files, all.streams.untaken, all.streams.unput)
memory_ends words (CidToText cid) objects uses line all = (all.files, all.streams.untaken, all.streams.unput)
memory_ends words (Export parts) objects uses line all =
    (all.files.folder, all.streams.untaken, unbegun objects.files.pack objects.files.same_pack objects.out parts.pack parts.query all.files.pack all.streams.unput)
memory_ends words (Import parts) objects uses line all = (all.streams.untaken, not_imported parts objects.files objects.out all.files all.streams.unput)
memory_ends words (Verify q) objects uses line all = (all.files, unverified q objects.input objects.out all.streams)
memory_ends words (Serve parts) objects uses line all =
    (all.files.folder, all.streams.untaken, inr (inr (record { same = all.files.pack; unput = all.streams.unput; same_door = all.door; end_is = refl })))
memory_ends words (Fetch parts) objects uses line all = absurd uses.0
memory_ends words (FetchInto parts) objects uses line all = absurd uses.0
memory_ends words (VerifyInto parts) objects uses line all = absurd uses.1
memory_ends words (Mirror parts) objects uses line all = absurd uses.0
memory_ends words (Swarm parts) objects uses line all = absurd uses.0
memory_ends words (Audit parts) objects uses line all = (all.files, all.streams.untaken, unaudited parts objects.out all.streams.unput)
memory_ends words (Help topic) objects uses line all = (all.files, all.streams.untaken, all.streams.unput)
memory_ends words Version objects uses line all = (all.files, all.streams.untaken, all.streams.unput)

-- a command that is handed no dial, and makes no folder, ends as itself where no memory is found for its words
pub ends_of : (words : List (List ℕ)) (command : Command) (objects : Objects) (end : Option CommandFault) → UsesNoDial command × MakesNoFolder command → CommandLine words command
    → Ends words objects end → CommandEnds command objects end
ends_of words command objects end uses line (inl none) = absurd (none.none command line)
ends_of words command objects end uses line (inr (inl memory)) =
    subst (CommandEnds command objects) (sym memory.end_is) (memory_ends words command objects uses line memory.untouched)
ends_of words command objects end uses line (inr (inr did)) = subst (λ (k : Command). CommandEnds k objects end) (did.the.only command line) did.ends

-- and each command ends as itself, or no memory was found for its words
pub did_of : (words : List (List ℕ)) (command : Command) (objects : Objects) (end : Option CommandFault) → CommandLine words command
    → Ends words objects end → NoMemoryEnds objects end ⊎ CommandEnds command objects end
did_of words command objects end line (inl none) = absurd (none.none command line)
did_of words command objects end line (inr (inl memory)) = inl memory
did_of words command objects end line (inr (inr did)) = inr (subst (λ (k : Command). CommandEnds k objects end) (did.the.only command line) did.ends)

-- ---- statuses that differ

usage_differs : (refusal : CommandFault) → nat_eq 2 (status_of refusal) ≡ false → Usage ≡ refusal → ⊥
usage_differs refusal apart e = differs 2 (status_of refusal) apart (ap status_of e)

nine_differs : (refusal given : CommandFault) → nat_eq (status_of given) 9 ≡ false → refusal ≡ given → status_of refusal ≡ 9 → ⊥
nine_differs refusal given apart is e = differs (status_of given) 9 apart (sym (ap status_of is) ∙ e)

-- no command ends as one that is none
no_export_tells : (fault : ExportFault) → TellsExport fault Usage → ⊥
no_export_tells (exports.Pack (packs.NotCar at)) h = usage_differs _ refl h
no_export_tells (exports.Pack (packs.BadDigest at)) h = usage_differs _ refl h
no_export_tells (exports.Pack packs.Unfinished) h = usage_differs _ refl h
no_export_tells (exports.Pack (packs.Truncated at)) h = usage_differs _ refl h
no_export_tells (exports.Pack packs.Failed) h = usage_differs _ refl h
no_export_tells (exports.Pack (packs.BlockLimit at)) h = usage_differs _ refl h
no_export_tells (exports.Pack packs.OutOfMemory) h = usage_differs _ refl h
no_export_tells (exports.Resolve paths.NoRoot) h = usage_differs _ refl h
no_export_tells (exports.Resolve (paths.NotThere segment)) h = usage_differs _ refl h
no_export_tells (exports.Resolve (paths.NotFolder segment)) h = usage_differs _ refl h
no_export_tells (exports.Resolve (paths.BadBlock cid fault)) (text, is_text, h) = usage_differs _ refl h
no_export_tells (exports.Resolve (paths.Gone cid)) (text, is_text, h) = usage_differs _ refl h
no_export_tells (exports.Resolve (paths.Store (stores.Changed want got))) h = usage_differs _ refl h
no_export_tells (exports.Resolve (paths.Store stores.Failed)) h = usage_differs _ refl h
no_export_tells (exports.Resolve (paths.Store stores.OutOfMemory)) h = usage_differs _ refl h
no_export_tells (exports.Resolve paths.OutOfMemory) h = usage_differs _ refl h
no_export_tells (exports.Walk (walks.NotThere segment)) h = usage_differs _ refl h
no_export_tells (exports.Walk (walks.NotFolder segment)) h = usage_differs _ refl h
no_export_tells (exports.Walk (walks.BadBlock cid fault)) (text, is_text, h) = usage_differs _ refl h
no_export_tells (exports.Walk (walks.Gone cid)) (text, is_text, h) = usage_differs _ refl h
no_export_tells (exports.Walk walks.TooDeep) h = usage_differs _ refl h
no_export_tells (exports.Walk (walks.Store (stores.Changed want got))) h = usage_differs _ refl h
no_export_tells (exports.Walk (walks.Store stores.Failed)) h = usage_differs _ refl h
no_export_tells (exports.Walk (walks.Store stores.OutOfMemory)) h = usage_differs _ refl h
no_export_tells (exports.Walk walks.OutOfMemory) h = usage_differs _ refl h
no_export_tells exports.SinkFault h = usage_differs _ refl h
no_export_tells exports.OutOfMemory h = usage_differs _ refl h

no_export_usage : (path : List ℕ) (q : QueryParts) (step : PackStep) (same : Type 0) (out : Output) → ExportAnswers path q step same out (Some Usage) → ⊥
no_export_usage path q step same out (inl refused) = elim refused.tells [ inl tells ↦ no_export_tells refused.fault tells | inr memory ↦ wrong memory.1 ]
  where
    wrong : Usage ≡ OutOfMemory → ⊥
    wrong e = cc
no_export_usage path q step same out (inr (inl none)) = let e = none.is in cc
no_export_usage path q step same out (inr (inr unbegun)) = let e = unbegun.is in cc

no_import_tells : (fault : ImportFault) → Usage ≡ refusal_of_import fault → ⊥
no_import_tells imports.Folder h = usage_differs _ refl h
no_import_tells imports.Keep h = usage_differs _ refl h
no_import_tells (imports.TooDeep path) h = usage_differs _ refl h
no_import_tells (imports.BadName path) h = usage_differs _ refl h
no_import_tells (imports.LongName path) h = usage_differs _ refl h
no_import_tells (imports.SameHash first second) h = usage_differs _ refl h
no_import_tells (imports.NotPlain path) h = usage_differs _ refl h
no_import_tells (imports.TooBig path) h = usage_differs _ refl h
no_import_tells imports.OutOfMemory h = usage_differs _ refl h

no_import_usage : (parts : ImportParts) (files : Files) (out : Output) → ImportAnswers parts files out (Some Usage) → ⊥
no_import_usage parts files out (inl (inl refused)) = elim refused.is [ inl tells ↦ no_import_tells refused.fault tells | inr memory ↦ wrong memory.1 ]
  where
    wrong : Usage ≡ OutOfMemory → ⊥
    wrong e = cc
no_import_usage parts files out (inr (inl none)) = let e = none.is in cc
no_import_usage parts files out (inl (inr (inl none))) = let e = none.is in cc
no_import_usage parts files out (inl (inr (inr (inl unput)))) = let e = unput.is in cc
no_import_usage parts files out (inl (inr (inr (inr unsaid)))) = let e = unsaid.is in cc
no_import_usage parts files out (inr (inr unbegun)) = let e = unbegun.is in cc

no_usage : (command : Command) (objects : Objects) → CommandEnds command objects (Some Usage) → ⊥
no_usage (Check cid) objects ends = absurd ends.1.0
no_usage (Node cid) objects ends = absurd ends.1.0
no_usage (CidToHex cid) objects ends = absurd ends.2
no_usage (CidToText cid) objects ends = absurd ends.2
no_usage (Export parts) objects ends = no_export_usage parts.pack parts.query objects.files.pack objects.files.same_pack objects.out ends.2
no_usage (Import parts) objects ends = no_import_usage parts objects.files objects.out ends.1
no_usage (Verify q) objects ends = no_verify_usage q objects.input objects.out ends.1
no_usage (Serve parts) objects ends = no_serve_usage parts objects.files.pack objects.files.same_pack objects.out objects.door ends.2
no_usage (Fetch parts) objects ends = no_fetch_usage parts objects.dial.dialling objects.out ends.2
no_usage (FetchInto parts) objects ends = no_fetch_into_usage parts objects.dial objects.making objects.out ends.2
no_usage (VerifyInto parts) objects ends = no_verify_into_usage parts objects.input objects.making objects.out ends.1
no_usage (Mirror parts) objects ends = no_mirror_usage parts objects.files objects.dial objects.out ends.2
no_usage (Swarm parts) objects ends = no_swarm_usage parts objects.dial objects.out (Some Usage) refl ends.2
no_usage (Audit parts) objects ends = no_audit_usage parts objects.out ends.2
no_usage (Help topic) objects ends = absurd ends.2
no_usage Version objects ends = absurd ends.2

-- ---- statuses of their own

export_own : (path : List ℕ) (q : QueryParts) (step : PackStep) (same : Type 0) (out : Output) (refusal : CommandFault) → ExportAnswers path q step same out (Some refusal) → IsOwn refusal
export_own path q step same out refusal (inl refused) = export_refusal_own refused.fault refusal refused.tells
export_own path q step same out refusal (inr (inl none)) = λ words status e. let is = none.is in cc
export_own path q step same out refusal (inr (inr unbegun)) = λ words status e. let is = unbegun.is in cc

import_own : (parts : ImportParts) (files : Files) (out : Output) (refusal : CommandFault) → ImportAnswers parts files out (Some refusal) → IsOwn refusal
import_own parts files out refusal (inl (inl refused)) = import_refusal_own refused.fault refusal refused.is
import_own parts files out refusal (inr (inl none)) = λ words status e. let is = none.is in cc
import_own parts files out refusal (inl (inr (inl none))) = λ words status e. let is = none.is in cc
import_own parts files out refusal (inl (inr (inr (inl unput)))) = λ words status e. let is = unput.is in cc
import_own parts files out refusal (inl (inr (inr (inr unsaid)))) = λ words status e. let is = unsaid.is in cc
import_own parts files out refusal (inr (inr unbegun)) = λ words status e. let is = unbegun.is in cc

-- no command but `swarm` ends as one whose peers were all refused
abbrev IsSwarm : Command → Type 0
IsSwarm (Swarm parts) = ⊤
IsSwarm other = ⊥

peers_of : (command : Command) (objects : Objects) (words : List ℕ) (status : ℕ) → CommandEnds command objects (Some (NoPeerLeft words status)) → IsSwarm command
peers_of (Check cid) objects words status ends = absurd ends.1.0
peers_of (Node cid) objects words status ends = absurd ends.1.0
peers_of (CidToHex cid) objects words status ends = absurd ends.2
peers_of (CidToText cid) objects words status ends = absurd ends.2
peers_of (Export parts) objects words status ends =
    export_own parts.pack parts.query objects.files.pack objects.files.same_pack objects.out (NoPeerLeft words status) ends.2 words status refl
peers_of (Import parts) objects words status ends = import_own parts objects.files objects.out (NoPeerLeft words status) ends.1 words status refl
peers_of (Verify q) objects words status ends = verify_own ends.1.fault (NoPeerLeft words status) ends.1.tells words status refl
peers_of (Serve parts) objects words status ends =
    no_serve_peers parts objects.files.pack objects.files.same_pack objects.out objects.door words status ends.2
peers_of (Fetch parts) objects words status ends = fetch_answers_own parts objects.dial.dialling objects.out (NoPeerLeft words status) ends.2 words status refl
peers_of (FetchInto parts) objects words status ends =
    fetch_into_own parts objects.dial objects.making objects.out (NoPeerLeft words status) ends.2 words status refl
peers_of (VerifyInto parts) objects words status ends =
    verify_into_own parts objects.input objects.making objects.out (NoPeerLeft words status) ends.1 words status refl
peers_of (Mirror parts) objects words status ends = mirror_own parts objects.files objects.dial objects.out (NoPeerLeft words status) ends.2 words status refl
peers_of (Swarm parts) objects words status ends = tt
peers_of (Audit parts) objects words status ends = audit_own parts objects.out (NoPeerLeft words status) ends.2 words status refl
peers_of (Help topic) objects words status ends = absurd ends.2
peers_of Version objects words status ends = absurd ends.2

peers_end : (command : Command) (objects : Objects) (end : Option CommandFault) → IsPeersEnd end → CommandEnds command objects end → IsSwarm command
peers_end command objects end (words, status, is) ends = peers_of command objects words status (subst (CommandEnds command objects) is ends)

-- ---- ends by their status

memory_is : (command : Command) (objects : Objects) (end : Option CommandFault) → exit_status end ≡ 8 → CommandEnds command objects end → end ≡ Some OutOfMemory
memory_is (Swarm parts) objects end e ends = swarm_memory parts objects.dial objects.out end e ends.2
memory_is command objects end e ends = elim (eight_is end e) [ inl is ↦ is | inr peers ↦ absurd (peers_end command objects end peers ends) ]

never_2 : (command : Command) (objects : Objects) (end : Option CommandFault) → exit_status end ≡ 2 → CommandEnds command objects end → ⊥
never_2 (Swarm parts) objects end e ends = no_swarm_usage parts objects.dial objects.out end e ends.2
never_2 command objects end e ends = elim (two_is end e) [
  | inl is ↦ no_usage command objects (subst (CommandEnds command objects) is ends)
  | inr peers ↦ absurd (peers_end command objects end peers ends)
]

usage_has_2 : (end : Option CommandFault) → end ≡ Some Usage → exit_status end ≡ 8 → ⊥
usage_has_2 end e eight = let two : exit_status (Some Usage) ≡ 8 = sym (ap exit_status e) ∙ eight in cc

pub memory_of : (words : List (List ℕ)) (objects : Objects) (end : Option CommandFault) → exit_status end ≡ 8 → Ends words objects end → WantsMemory words objects
memory_of words objects end e (inl none) = absurd (usage_has_2 end none.end_is e)
memory_of words objects end e (inr (inl memory)) = inl memory.untouched
memory_of words objects end e (inr (inr did)) =
    inr (did.command, did.the, subst (CommandEnds did.command objects) (memory_is did.command objects end e did.ends) did.ends)

memory_isnt_2 : (end : Option CommandFault) → end ≡ Some OutOfMemory → exit_status end ≡ 2 → ⊥
memory_isnt_2 end e two = let eight : exit_status (Some OutOfMemory) ≡ 2 = sym (ap exit_status e) ∙ two in cc

no_command_of : (words : List (List ℕ)) (objects : Objects) (end : Option CommandFault) → exit_status end ≡ 2 → Ends words objects end → NoCommandEnds words objects end
no_command_of words objects end e (inl none) = none
no_command_of words objects end e (inr (inl memory)) = absurd (memory_isnt_2 end memory.end_is e)
no_command_of words objects end e (inr (inr did)) = absurd (never_2 did.command objects end e did.ends)

pub usage_of : (words : List (List ℕ)) (objects : Objects) (end : Option CommandFault) → exit_status end ≡ 2 → Ends words objects end → IsNoCommand words
usage_of words objects end e ends = (no_command_of words objects end e ends).none

pub untouched_of : (words : List (List ℕ)) (objects : Objects) (end : Option CommandFault) → exit_status end ≡ 2 → Ends words objects end → AllUntouched objects
untouched_of words objects end e ends = (no_command_of words objects end e ends).untouched

pub refused_of : (words : List (List ℕ)) (objects : Objects) (end : Option CommandFault) → IsNoCommand words → Ends words objects end → (exit_status end ≡ 2) ⊎ (exit_status end ≡ 8)
refused_of words objects end never (inl none) = inl (ap exit_status none.end_is)
refused_of words objects end never (inr (inl memory)) = inr (ap exit_status memory.end_is)
refused_of words objects end never (inr (inr did)) = absurd (never did.command did.the.spelled)

-- ---- commands over blocks

command_kept : (command : Command) (objects : Objects) (end : Option CommandFault) → UsesNoFiles command → CommandEnds command objects end → SameFiles objects.files
command_kept (Check cid) objects end uses ends = ends.0
command_kept (Node cid) objects end uses ends = ends.0
command_kept (CidToHex cid) objects end uses ends = ends.0
command_kept (CidToText cid) objects end uses ends = ends.0
command_kept (Verify q) objects end uses ends = ends.0
command_kept (Export parts) objects end uses ends = absurd uses
command_kept (Import parts) objects end uses ends = absurd uses
command_kept (Serve parts) objects end uses ends = absurd uses
command_kept (Fetch parts) objects end uses ends = ends.0
command_kept (FetchInto parts) objects end uses ends = absurd uses
command_kept (VerifyInto parts) objects end uses ends = absurd uses
command_kept (Mirror parts) objects end uses ends = absurd uses
command_kept (Swarm parts) objects end uses ends = ends.0
command_kept (Audit parts) objects end uses ends = absurd uses
command_kept (Help topic) objects end uses ends = ends.0
command_kept Version objects end uses ends = ends.0

pub kept_of : (words : List (List ℕ)) (command : Command) (objects : Objects) (end : Option CommandFault) → CommandLine words command → UsesNoFiles command
    → Ends words objects end → SameFiles objects.files
kept_of words command objects end line uses ends =
    elim (did_of words command objects end line ends) [ inl memory ↦ memory.untouched.files | inr did ↦ command_kept command objects end uses did ]

-- a command that is handed no door leaves it as it was
pub kept_door_of : (words : List (List ℕ)) (command : Command) (objects : Objects) (end : Option CommandFault) → CommandLine words command → UsesNoDoor command
    → Ends words objects end → objects.door.same_door
kept_door_of words command objects end line uses (inl none) = none.untouched.door
kept_door_of words command objects end line uses (inr (inl memory)) = memory.untouched.door
kept_door_of words command objects end line uses (inr (inr did)) = did.door (subst UsesNoDoor (sym (did.the.only command line)) uses)

-- nor one that is handed no dial the dial
pub kept_dial_of : (words : List (List ℕ)) (command : Command) (objects : Objects) (end : Option CommandFault) → CommandLine words command → UsesNoDial command
    → Ends words objects end → objects.dial.same_dial
kept_dial_of words command objects end line uses (inl none) = none.untouched.dial
kept_dial_of words command objects end line uses (inr (inl memory)) = memory.untouched.dial
kept_dial_of words command objects end line uses (inr (inr did)) = did.dial (subst UsesNoDial (sym (did.the.only command line)) uses)

-- nor one that makes no folder the extract
pub kept_making_of : (words : List (List ℕ)) (command : Command) (objects : Objects) (end : Option CommandFault) → CommandLine words command → MakesNoFolder command
    → Ends words objects end → objects.making.same
kept_making_of words command objects end line uses (inl none) = none.untouched.making
kept_making_of words command objects end line uses (inr (inl memory)) = memory.untouched.making
kept_making_of words command objects end line uses (inr (inr did)) = did.making (subst MakesNoFolder (sym (did.the.only command line)) uses)

check_fault : (cid : CidParts) (input : Input) (out : Output) (end : Option CommandFault) → exit_status end ≡ 6 → CheckEnds cid input out end → InputRose input ⊎ OutputRose out
check_fault cid input out (Some InputFault) e ends = inl ends.0.rose
check_fault cid input out (Some SinkFault) e ends = inr ends.front.rose
check_fault cid input out (Some OutOfMemory) e ends = absurd (differs _ _ refl e)
check_fault cid input out (Some BlockLimit) e ends = absurd (differs _ _ refl e)
check_fault cid input out (Some (BadDigest text)) e ends = absurd (differs _ _ refl e)
check_fault cid input out None e ends = absurd (differs _ _ refl e)
check_fault cid input out (Some refusal) e ends = absurd ends.0

node_fault : (cid : CidParts) (input : Input) (out : Output) (end : Option CommandFault) → exit_status end ≡ 6 → NodeEnds cid input out end → InputRose input ⊎ OutputRose out
node_fault cid input out (Some InputFault) e ends = inl ends.0.rose
node_fault cid input out (Some SinkFault) e ends = inr ends.front.rose
node_fault cid input out (Some OutOfMemory) e ends = absurd (differs _ _ refl e)
node_fault cid input out (Some BlockLimit) e ends = absurd (differs _ _ refl e)
node_fault cid input out (Some (BadDigest text)) e ends = absurd (differs _ _ refl e)
node_fault cid input out (Some (BadBlock text fault)) e ends = absurd (differs _ _ refl e)
node_fault cid input out None e ends = absurd (differs _ _ refl e)
node_fault cid input out (Some refusal) e ends = absurd ends.0

print_fault : (IsLine : List ℕ → Type 0) (out : Output) (end : Option CommandFault) → exit_status end ≡ 6 → PrintEnds IsLine out end → OutputRose out
print_fault IsLine out (Some SinkFault) e ends = ends.front.rose
print_fault IsLine out (Some OutOfMemory) e ends = absurd (differs _ _ refl e)
print_fault IsLine out None e ends = absurd (differs _ _ refl e)
print_fault IsLine out (Some refusal) e ends = absurd ends

command_fault : (command : Command) (objects : Objects) (end : Option CommandFault) → UsesNoFiles command → exit_status end ≡ 6 → CommandEnds command objects end
    → InputRose objects.input ⊎ OutputRose objects.out
command_fault (Check cid) objects end uses e ends = check_fault cid objects.input objects.out end e ends.1
command_fault (Node cid) objects end uses e ends = node_fault cid objects.input objects.out end e ends.1
command_fault (CidToHex cid) objects end uses e ends = inr (print_fault (HexLine cid) objects.out end e ends.2)
command_fault (CidToText cid) objects end uses e ends = inr (print_fault (TextLine cid) objects.out end e ends.2)
command_fault (Verify q) objects end uses e ends = verify_fault q objects.input objects.out end e ends.1
command_fault (Export parts) objects end uses e ends = absurd uses
command_fault (Import parts) objects end uses e ends = absurd uses
command_fault (Serve parts) objects end uses e ends = absurd uses
command_fault (Fetch parts) objects end uses e ends = inr (fetch_fault parts objects.dial.dialling objects.out end e ends.2)
command_fault (FetchInto parts) objects end uses e ends = absurd uses
command_fault (VerifyInto parts) objects end uses e ends = absurd uses
command_fault (Mirror parts) objects end uses e ends = absurd uses
command_fault (Swarm parts) objects end uses e ends = inr (swarm_fault parts objects.dial objects.out end e ends.2)
command_fault (Audit parts) objects end uses e ends = absurd uses
command_fault (Help topic) objects end uses e ends = inr (print_fault (λ text. text ≡ help_text topic) objects.out end e ends.2)
command_fault Version objects end uses e ends = inr (print_fault (λ text. text ≡ version_text) objects.out end e ends.2)

-- want of memory has status 8
pub memory_isnt : (objects : Objects) (end : Option CommandFault) (n : ℕ) → nat_eq 8 n ≡ false → exit_status end ≡ n → NoMemoryEnds objects end → ⊥
memory_isnt objects end n apart e memory = differs 8 n apart (sym (ap exit_status memory.end_is) ∙ e)

pub fault_of : (words : List (List ℕ)) (command : Command) (objects : Objects) (end : Option CommandFault) → CommandLine words command → UsesNoFiles command → exit_status end ≡ 6
    → Ends words objects end → InputRose objects.input ⊎ OutputRose objects.out
fault_of words command objects end line uses e ends =
    elim (did_of words command objects end line ends) [ inl memory ↦ absurd (memory_isnt objects end 6 refl e memory) | inr did ↦ command_fault command objects end uses e did ]

check_passed : (cid : CidParts) (input : Input) (out : Output) (end : Option CommandFault) → exit_status end ≡ 7 → CheckEnds cid input out end → PassedLimit input × OutputUntouched out
check_passed cid input out (Some InputFault) e ends = absurd (differs _ _ refl e)
check_passed cid input out (Some SinkFault) e ends = absurd (differs _ _ refl e)
check_passed cid input out (Some OutOfMemory) e ends = absurd (differs _ _ refl e)
check_passed cid input out (Some BlockLimit) e ends = (ends.0, ends.1)
check_passed cid input out (Some (BadDigest text)) e ends = absurd (differs _ _ refl e)
check_passed cid input out None e ends = absurd (differs _ _ refl e)
check_passed cid input out (Some refusal) e ends = absurd ends.0

node_passed : (cid : CidParts) (input : Input) (out : Output) (end : Option CommandFault) → exit_status end ≡ 7 → NodeEnds cid input out end → PassedLimit input × OutputUntouched out
node_passed cid input out (Some InputFault) e ends = absurd (differs _ _ refl e)
node_passed cid input out (Some SinkFault) e ends = absurd (differs _ _ refl e)
node_passed cid input out (Some OutOfMemory) e ends = absurd (differs _ _ refl e)
node_passed cid input out (Some BlockLimit) e ends = (ends.0, ends.1)
node_passed cid input out (Some (BadDigest text)) e ends = absurd (differs _ _ refl e)
node_passed cid input out (Some (BadBlock text fault)) e ends = absurd (differs _ _ refl e)
node_passed cid input out None e ends = absurd (differs _ _ refl e)
node_passed cid input out (Some refusal) e ends = absurd ends.0

command_passed : (command : Command) (objects : Objects) (end : Option CommandFault) → ReadsBlock command → exit_status end ≡ 7 → CommandEnds command objects end
    → PassedLimit objects.input × OutputUntouched objects.out
command_passed (Check cid) objects end reads e ends = check_passed cid objects.input objects.out end e ends.1
command_passed (Node cid) objects end reads e ends = node_passed cid objects.input objects.out end e ends.1
command_passed (CidToHex cid) objects end reads e ends = absurd reads
command_passed (CidToText cid) objects end reads e ends = absurd reads
command_passed (Export parts) objects end reads e ends = absurd reads
command_passed (Import parts) objects end reads e ends = absurd reads
command_passed (Verify q) objects end reads e ends = absurd reads
command_passed (Serve parts) objects end reads e ends = absurd reads
command_passed (Fetch parts) objects end reads e ends = absurd reads
command_passed (FetchInto parts) objects end reads e ends = absurd reads
command_passed (VerifyInto parts) objects end reads e ends = absurd reads
command_passed (Mirror parts) objects end reads e ends = absurd reads
command_passed (Swarm parts) objects end reads e ends = absurd reads
command_passed (Audit parts) objects end reads e ends = absurd reads
command_passed (Help topic) objects end reads e ends = absurd reads
command_passed Version objects end reads e ends = absurd reads

pub passed_of : (words : List (List ℕ)) (command : Command) (objects : Objects) (end : Option CommandFault) → CommandLine words command → ReadsBlock command → exit_status end ≡ 7
    → Ends words objects end → PassedLimit objects.input × OutputUntouched objects.out
passed_of words command objects end line reads e ends =
    elim (did_of words command objects end line ends) [ inl memory ↦ absurd (memory_isnt objects end 7 refl e memory) | inr did ↦ command_passed command objects end reads e did ]

-- ---- faults that weren't counted

-- neither stream counted a fault
AreQuiet : Input → Output → Type 0
AreQuiet input out = InputQuiet input × OutputQuiet out

check_quiet : (cid : CidParts) (input : Input) (out : Output) (end : Option CommandFault) → exit_status end ≢ 6 → CheckEnds cid input out end → InputQuiet input × OutputQuiet out
check_quiet cid input out None ne ends = (ends.read.taken.quiet, ends.put.quiet)
check_quiet cid input out (Some SinkFault) ne ends = absurd (ne refl)
check_quiet cid input out (Some OutOfMemory) ne ends = (ends.untaken.quiet, ends.unput.quiet)
check_quiet cid input out (Some InputFault) ne ends = absurd (ne refl)
check_quiet cid input out (Some BlockLimit) ne ends = (ends.0.quiet, ends.1.quiet)
check_quiet cid input out (Some (BadDigest text)) ne ends = (ends.0.1.taken.quiet, ends.1.quiet)
check_quiet cid input out (Some refusal) ne ends = absurd ends.0

node_quiet : (cid : CidParts) (input : Input) (out : Output) (end : Option CommandFault) → exit_status end ≢ 6 → NodeEnds cid input out end → InputQuiet input × OutputQuiet out
node_quiet cid input out None ne ends = (ends.read.taken.quiet, ends.put.quiet)
node_quiet cid input out (Some SinkFault) ne ends = absurd (ne refl)
node_quiet cid input out (Some OutOfMemory) ne ends =
    elim ends [ inl untouched ↦ (untouched.untaken.quiet, untouched.unput.quiet) | inr read ↦ (read.read.taken.quiet, read.unput.quiet) ]
node_quiet cid input out (Some InputFault) ne ends = absurd (ne refl)
node_quiet cid input out (Some BlockLimit) ne ends = (ends.0.quiet, ends.1.quiet)
node_quiet cid input out (Some (BadDigest text)) ne ends = (ends.0.1.taken.quiet, ends.1.quiet)
node_quiet cid input out (Some (BadBlock text fault)) ne ends = (ends.1.read.taken.quiet, ends.1.unput.quiet)
node_quiet cid input out (Some refusal) ne ends = absurd ends.0

print_quiet : (IsLine : List ℕ → Type 0) (out : Output) (end : Option CommandFault) → exit_status end ≢ 6 → PrintEnds IsLine out end → OutputQuiet out
print_quiet IsLine out None ne ends = ends.put.quiet
print_quiet IsLine out (Some SinkFault) ne ends = absurd (ne refl)
print_quiet IsLine out (Some OutOfMemory) ne ends = ends.quiet
print_quiet IsLine out (Some refusal) ne ends = absurd ends

-- a CAR that doesn't end with a fault of out
car_quiet : (q : QueryParts) (told : Option Store) (out : Output) (fault : ExportFault) → (fault ≡ exports.SinkFault → ⊥) → CarEnds q told out (Err fault) → OutputQuiet out
car_quiet q told out (exports.Pack fault) never ends = absurd ends
car_quiet q told out (exports.Resolve fault) never ends = ends.0.quiet
car_quiet q told out (exports.Walk fault) never ends = ends.is_done.quiet
car_quiet q told out exports.SinkFault never ends = absurd (never refl)
car_quiet q told out exports.OutOfMemory never ends = elim ends [ inl nothing ↦ nothing.quiet | inr car ↦ car.is_done.quiet ]

export_ends_quiet : (q : QueryParts) (step : PackStep) (out : Output) (fault : ExportFault) → (fault ≡ exports.SinkFault → ⊥) → ExportEnds q step out (Err fault) → OutputQuiet out
export_ends_quiet q step out (exports.Pack fault) never ends = ends.1.quiet
export_ends_quiet q step out (exports.Resolve fault) never ends = car_quiet q ends.told out (exports.Resolve fault) never ends.ends
export_ends_quiet q step out (exports.Walk fault) never ends = car_quiet q ends.told out (exports.Walk fault) never ends.ends
export_ends_quiet q step out exports.SinkFault never ends = absurd (never refl)
export_ends_quiet q step out exports.OutOfMemory never ends =
    elim ends [ inl nothing ↦ nothing.quiet | inr attached ↦ car_quiet q attached.told out exports.OutOfMemory never attached.ends ]

-- a fault of out is refused with status 6
sink_is_6 : (fault : ExportFault) (refusal : CommandFault) → fault ≡ exports.SinkFault → IsExportRefusal fault refusal → status_of refusal ≡ 6
sink_is_6 fault refusal e h = by (subst (λ (f : ExportFault). IsExportRefusal f refusal) e h)
  where
    by : IsExportRefusal exports.SinkFault refusal → status_of refusal ≡ 6
    by (inl tells) = ap status_of tells
    by (inr memory) = absurd memory.0

export_quiet : (path : List ℕ) (q : QueryParts) (step : PackStep) (same : Type 0) (out : Output) (end : Option CommandFault) → exit_status end ≢ 6 → ExportAnswers path q step same out end → OutputQuiet out
export_quiet path q step same out None ne ends = ends.ends.ends.is_done.quiet
export_quiet path q step same out (Some refusal) ne (inl refused) =
    export_ends_quiet q step out refused.fault (λ sink. ne (sink_is_6 refused.fault refusal sink refused.tells)) refused.ends
export_quiet path q step same out (Some refusal) ne (inr (inl none)) = none.unput.quiet
export_quiet path q step same out (Some refusal) ne (inr (inr unbegun)) = unbegun.unput.quiet

import_quiet : (parts : ImportParts) (files : Files) (out : Output) (end : Option CommandFault) → exit_status end ≢ 6 → ImportAnswers parts files out end → OutputQuiet out
import_quiet parts files out None ne ends = ends.is_said.is_put.quiet
import_quiet parts files out (Some refusal) ne (inl (inl refused)) = refused.unput.quiet
import_quiet parts files out (Some refusal) ne (inr (inl none)) = none.unput.quiet
import_quiet parts files out (Some refusal) ne (inl (inr (inl none))) = none.unput.quiet
import_quiet parts files out (Some refusal) ne (inl (inr (inr (inl unput)))) = absurd (ne (ap status_of unput.is))
import_quiet parts files out (Some refusal) ne (inl (inr (inr (inr unsaid)))) = unsaid.in_pack.is_said.quiet
import_quiet parts files out (Some refusal) ne (inr (inr unbegun)) = unbegun.unput.quiet

command_quiet : (command : Command) (objects : Objects) (end : Option CommandFault) → exit_status end ≢ 6 → CommandEnds command objects end
    → InputQuiet objects.input × OutputQuiet objects.out
command_quiet (Check cid) objects end ne ends = check_quiet cid objects.input objects.out end ne ends.1
command_quiet (Node cid) objects end ne ends = node_quiet cid objects.input objects.out end ne ends.1
command_quiet (CidToHex cid) objects end ne ends = (ends.1.quiet, print_quiet (HexLine cid) objects.out end ne ends.2)
command_quiet (CidToText cid) objects end ne ends = (ends.1.quiet, print_quiet (TextLine cid) objects.out end ne ends.2)
command_quiet (Export parts) objects end ne ends = (ends.1.quiet, export_quiet parts.pack parts.query objects.files.pack objects.files.same_pack objects.out end ne ends.2)
command_quiet (Import parts) objects end ne ends = (ends.0.quiet, import_quiet parts objects.files objects.out end ne ends.1)
command_quiet (Verify q) objects end ne ends = verify_quiet q objects.input objects.out end ne ends.1
command_quiet (Serve parts) objects end ne ends = (ends.1.quiet, serve_quiet parts objects.files.pack objects.files.same_pack objects.out objects.door end ne ends.2)
command_quiet (Fetch parts) objects end ne ends = (ends.1.quiet, fetch_quiet parts objects.dial.dialling objects.out end ne ends.2)
command_quiet (FetchInto parts) objects end ne ends = (ends.1.quiet, fetch_into_quiet parts objects.dial objects.making objects.out end ne ends.2)
command_quiet (VerifyInto parts) objects end ne ends = verify_into_quiet parts objects.input objects.making objects.out end ne ends.1
command_quiet (Mirror parts) objects end ne ends = (ends.1.quiet, mirror_quiet parts objects.files objects.dial objects.out end ne ends.2)
command_quiet (Swarm parts) objects end ne ends = (ends.1.quiet, swarm_quiet parts objects.dial objects.out end ne ends.2)
command_quiet (Audit parts) objects end ne ends = (ends.1.quiet, audit_quiet parts objects.out end ne ends.2)
command_quiet (Help topic) objects end ne ends = (ends.1.quiet, print_quiet (λ text. text ≡ help_text topic) objects.out end ne ends.2)
command_quiet Version objects end ne ends = (ends.1.quiet, print_quiet (λ text. text ≡ version_text) objects.out end ne ends.2)

pub quiet_of : (words : List (List ℕ)) (objects : Objects) (end : Option CommandFault) → exit_status end ≢ 6 → Ends words objects end
    → InputQuiet objects.input × OutputQuiet objects.out
quiet_of words objects end ne (inl none) = (none.untouched.streams.untaken.quiet, none.untouched.streams.unput.quiet)
quiet_of words objects end ne (inr (inl memory)) = (memory.untouched.streams.untaken.quiet, memory.untouched.streams.unput.quiet)
quiet_of words objects end ne (inr (inr did)) = command_quiet did.command objects end ne did.ends

-- ---- `export`

pub exported_of : (path : List ℕ) (q : QueryParts) (step : PackStep) (same : Type 0) (out : Output) (end : Option CommandFault) → exit_status end ≡ 0 → ExportAnswers path q step same out end → Exported path q step out
exported_of path q step same out None e ends = ends
exported_of path q step same out (Some refusal) e ends = absurd (not_zero refusal (export_own path q step same out refusal ends) e)

tells_9 : (fault : ExportFault) (refusal : CommandFault) → status_of refusal ≡ 9 → TellsExport fault refusal → LeadsNowhere fault
tells_9 (exports.Pack (packs.NotCar at)) refusal e h = absurd (nine_differs _ _ refl h e)
tells_9 (exports.Pack (packs.BadDigest at)) refusal e h = absurd (nine_differs _ _ refl h e)
tells_9 (exports.Pack packs.Unfinished) refusal e h = absurd (nine_differs _ _ refl h e)
tells_9 (exports.Pack (packs.Truncated at)) refusal e h = absurd (nine_differs _ _ refl h e)
tells_9 (exports.Pack packs.Failed) refusal e h = absurd (nine_differs _ _ refl h e)
tells_9 (exports.Pack (packs.BlockLimit at)) refusal e h = absurd (nine_differs _ _ refl h e)
tells_9 (exports.Pack packs.OutOfMemory) refusal e h = absurd (nine_differs _ _ refl h e)
tells_9 (exports.Resolve (paths.Store (stores.Changed want got))) refusal e h = absurd (nine_differs _ _ refl h e)
tells_9 (exports.Resolve (paths.Store stores.Failed)) refusal e h = absurd (nine_differs _ _ refl h e)
tells_9 (exports.Resolve (paths.Store stores.OutOfMemory)) refusal e h = absurd (nine_differs _ _ refl h e)
tells_9 (exports.Resolve paths.OutOfMemory) refusal e h = absurd (nine_differs _ _ refl h e)
tells_9 (exports.Walk walks.TooDeep) refusal e h = absurd (nine_differs _ _ refl h e)
tells_9 (exports.Walk (walks.Store (stores.Changed want got))) refusal e h = absurd (nine_differs _ _ refl h e)
tells_9 (exports.Walk (walks.Store stores.Failed)) refusal e h = absurd (nine_differs _ _ refl h e)
tells_9 (exports.Walk (walks.Store stores.OutOfMemory)) refusal e h = absurd (nine_differs _ _ refl h e)
tells_9 (exports.Walk walks.OutOfMemory) refusal e h = absurd (nine_differs _ _ refl h e)
tells_9 exports.SinkFault refusal e h = absurd (nine_differs _ _ refl h e)
tells_9 exports.OutOfMemory refusal e h = absurd (nine_differs _ _ refl h e)
tells_9 (exports.Resolve (paths.BadBlock cid fault)) refusal e (text, is_text, h) = absurd (nine_differs _ _ refl h e)
tells_9 (exports.Resolve (paths.Gone cid)) refusal e (text, is_text, h) = absurd (nine_differs _ _ refl h e)
tells_9 (exports.Walk (walks.BadBlock cid fault)) refusal e (text, is_text, h) = absurd (nine_differs _ _ refl h e)
tells_9 (exports.Walk (walks.Gone cid)) refusal e (text, is_text, h) = absurd (nine_differs _ _ refl h e)
tells_9 (exports.Resolve paths.NoRoot) refusal e h = tt
tells_9 (exports.Resolve (paths.NotThere segment)) refusal e h = tt
tells_9 (exports.Resolve (paths.NotFolder segment)) refusal e h = tt
tells_9 (exports.Walk (walks.NotThere segment)) refusal e h = tt
tells_9 (exports.Walk (walks.NotFolder segment)) refusal e h = tt

nine_refused : (fault : ExportFault) (refusal : CommandFault) → status_of refusal ≡ 9 → IsExportRefusal fault refusal → LeadsNowhere fault
nine_refused fault refusal e (inl tells) = tells_9 fault refusal e tells
nine_refused fault refusal e (inr memory) = let k = sym (ap status_of memory.1) ∙ e in cc

pub nowhere_of : (path : List ℕ) (q : QueryParts) (step : PackStep) (same : Type 0) (out : Output) (end : Option CommandFault) → exit_status end ≡ 9 → ExportAnswers path q step same out end → ExportedNothing q step out
nowhere_of path q step same out None e ends = cc
nowhere_of path q step same out (Some refusal) e (inl refused) =
    record { fault = refused.fault; nowhere = nine_refused refused.fault refusal e refused.tells; ends = refused.ends }
nowhere_of path q step same out (Some refusal) e (inr (inl none)) = let k = sym (ap status_of none.is) ∙ e in cc
nowhere_of path q step same out (Some refusal) e (inr (inr unbegun)) = let k = sym (ap status_of unbegun.is) ∙ e in cc

-- of a pack that tells its content nothing was put
nothing_by : (q : QueryParts) (step : PackStep) (out : Output) (fault : ExportFault) → LeadsNowhere fault → IsSome step.content_old → ExportEnds q step out (Err fault) → OutputUntouched out
nothing_by q step out (exports.Resolve paths.NoRoot) nowhere told ends = record { unput = ends.ends.0.unput; quiet = ends.ends.0.quiet }
nothing_by q step out (exports.Resolve (paths.NotThere segment)) nowhere told ends = record { unput = ends.ends.0.unput; quiet = ends.ends.0.quiet }
nothing_by q step out (exports.Resolve (paths.NotFolder segment)) nowhere told ends = record { unput = ends.ends.0.unput; quiet = ends.ends.0.quiet }
nothing_by q step out (exports.Walk (walks.NotThere segment)) nowhere told ends =
    absurd (no_segment q ends.ends.sections (not_there segment) step.content_old ends.told (λ at. at) told ends.attached ends.ends.is_so)
nothing_by q step out (exports.Walk (walks.NotFolder segment)) nowhere told ends =
    absurd (no_segment q ends.ends.sections (not_folder segment) step.content_old ends.told (λ at. at) told ends.attached ends.ends.is_so)
nothing_by q step out fault nowhere told ends = absurd nowhere

pub export_nothing_of : (path : List ℕ) (q : QueryParts) (step : PackStep) (same : Type 0) (out : Output) (end : Option CommandFault) → exit_status end ≡ 9 → IsSome step.content_old
    → ExportAnswers path q step same out end → OutputUntouched out
export_nothing_of path q step same out end e told ends =
    let nothing = nowhere_of path q step same out end e ends in
    nothing_by q step out nothing.fault nothing.nowhere told nothing.ends

-- want of memory alone is left
else_8 : (q : QueryParts) (step : PackStep) (out : Output) (fault : ExportFault) (refusal : CommandFault) → (IsRisen step → ⊥) → (OutputRose out → ⊥)
    → IsExportedElse (Err fault) → IsExportRefusal fault refusal → ExportEnds q step out (Err fault) → HasPackedCause step (Err fault) → status_of refusal ≡ 8
else_8 q step out (exports.Pack packs.Failed) refusal no_pack no_out k tells ends cause = absurd (no_pack ends.0.rose)
else_8 q step out (exports.Resolve (paths.Store stores.Failed)) refusal no_pack no_out k tells ends cause = absurd (no_pack cause)
else_8 q step out (exports.Walk (walks.Store stores.Failed)) refusal no_pack no_out k tells ends cause = absurd (no_pack cause)
else_8 q step out exports.SinkFault refusal no_pack no_out k tells ends cause = absurd (no_out ends.ends.is_done.rose)
else_8 q step out exports.OutOfMemory refusal no_pack no_out k (inl tells) ends cause = ap status_of tells
else_8 q step out exports.OutOfMemory refusal no_pack no_out k (inr memory) ends cause = absurd memory.0
else_8 q step out fault refusal no_pack no_out k tells ends cause = absurd k

pub export_answered_of : (path : List ℕ) (q : QueryParts) (step : PackStep) (same : Type 0) (out : Output) (end : Option CommandFault) → HasAnswer q step.content_old
    → (IsRisen step → ⊥) → (OutputRose out → ⊥) → ExportAnswers path q step same out end → (exit_status end ≡ 8) ⊎ (exit_status end ≡ 0)
export_answered_of path q step same out None answer no_pack no_out ends = inr refl
export_answered_of path q step same out (Some refusal) answer no_pack no_out (inl refused) =
    inl (else_8 q step out refused.fault refusal no_pack no_out (refused.else answer) refused.tells refused.ends refused.cause)
export_answered_of path q step same out (Some refusal) answer no_pack no_out (inr (inl none)) = absurd (no_pack none.rose.rose)
export_answered_of path q step same out (Some refusal) answer no_pack no_out (inr (inr unbegun)) = inl (ap status_of unbegun.is)

-- ---- `import`

pub imported_of : (parts : ImportParts) (files : Files) (out : Output) (end : Option CommandFault) → exit_status end ≡ 0 → ImportAnswers parts files out end → Imported parts files out
imported_of parts files out None e ends = ends
imported_of parts files out (Some refusal) e ends = absurd (not_zero refusal (import_own parts files out refusal ends) e)

good_8 : (options : Options) (files : Files) (fault : ImportFault) (refusal : CommandFault) → IsGoodFolder options files.folder.tree_new
    → (FolderRose files.folder → ⊥) → (PackRose files.pack → ⊥) → IsPackingCause options files.folder.tree_new fault files.folder files.pack
    → IsImportRefusal fault refusal → status_of refusal ≡ 8
good_8 options files imports.Folder refusal good no_folder no_pack cause is = absurd (no_folder cause.0)
good_8 options files imports.Keep refusal good no_folder no_pack cause is = absurd (no_pack cause.1)
good_8 options files imports.OutOfMemory refusal good no_folder no_pack cause (inl is) = ap status_of is
good_8 options files imports.OutOfMemory refusal good no_folder no_pack cause (inr memory) = absurd memory.0
good_8 options files fault refusal good no_folder no_pack cause is = absurd (good fault cause.2)

pub import_answered_of : (parts : ImportParts) (files : Files) (out : Output) (end : Option CommandFault) → IsGoodFolder (options_of parts) files.folder.tree_new
    → (FolderRose files.folder → ⊥) → (PackRose files.pack → ⊥) → (OutputRose out → ⊥) → ImportAnswers parts files out end
    → (exit_status end ≡ 8) ⊎ (exit_status end ≡ 0)
import_answered_of parts files out None good no_folder no_pack no_out ends = inr refl
import_answered_of parts files out (Some refusal) good no_folder no_pack no_out (inl (inl refused)) =
    inl (good_8 (options_of parts) files refused.fault refusal good no_folder no_pack refused.cause refused.is)
import_answered_of parts files out (Some refusal) good no_folder no_pack no_out (inr (inl none)) = absurd (no_folder none.rose)
import_answered_of parts files out (Some refusal) good no_folder no_pack no_out (inl (inr (inl none))) = absurd (no_pack none.rose)
import_answered_of parts files out (Some refusal) good no_folder no_pack no_out (inl (inr (inr (inl unput)))) = absurd (no_out unput.in_pack.is_said.is_put.rose)
import_answered_of parts files out (Some refusal) good no_folder no_pack no_out (inl (inr (inr (inr unsaid)))) = inl (ap status_of unsaid.is)
import_answered_of parts files out (Some refusal) good no_folder no_pack no_out (inr (inr unbegun)) = inl (ap status_of unbegun.is)

-- ---- bytes that the input told

-- all of an input that told its bytes, once nothing is left
pub whole_is : (block bytes : List ℕ) (new : Option (List ℕ)) → Some bytes ≡ after_front block new → IsNothing new → block ≡ bytes
whole_is block bytes None e nothing = cc
whole_is block bytes (Some rest) e nothing =
    let all : Some bytes ≡ Some (block ++ []) = e ∙ ap (λ xs. Some (block ++ xs)) nothing in
    let same : bytes ≡ block ++ [] = cc in
    sym (same ∙ append-nil block)

block_is : (block bytes : List ℕ) (input : Input) → TookBlock block input → input.left_old ≡ Some bytes → block ≡ bytes
block_is block bytes input taken told = whole_is block bytes input.left_new (sym told ∙ taken.all.taken.left) taken.all.ended.nothing

-- an input that goes on past the limit has more bytes than it
longer : (taken bytes : List ℕ) (new : Option (List ℕ)) → Some bytes ≡ after_front taken new → length taken ≡ max_block_len + 1 → max_block_len < length bytes
longer taken bytes None e size = cc
longer taken bytes (Some rest) e size =
    let same : bytes ≡ taken ++ rest = cc in
    let count = ap length same ∙ length-append taken rest in
    omega arith

passed_limit : (bytes : List ℕ) (input : Input) → input.left_old ≡ Some bytes → PassedLimit input → max_block_len < length bytes
passed_limit bytes input told passed = longer passed.bytes bytes input.left_new (sym told ∙ passed.taken.left) passed.more

-- ---- `check`

pub checked_of : (cid : CidParts) (input : Input) (out : Output) (end : Option CommandFault) → exit_status end ≡ 0 → CheckEnds cid input out end → Checked cid input out
checked_of cid input out None e ends = ends
checked_of cid input out (Some (NoPeerLeft words status)) e ends = absurd ends.0
checked_of cid input out (Some refusal) e ends = cc

pub other_of : (cid : CidParts) (input : Input) (out : Output) (end : Option CommandFault) → exit_status end ≡ 3 → CheckEnds cid input out end → CheckedOther cid input out
other_of cid input out (Some (BadDigest text)) e ends = record { read = ends.0.1; unput = ends.1 }
other_of cid input out (Some InputFault) e ends = absurd (differs _ _ refl e)
other_of cid input out (Some SinkFault) e ends = absurd (differs _ _ refl e)
other_of cid input out (Some OutOfMemory) e ends = absurd (differs _ _ refl e)
other_of cid input out (Some BlockLimit) e ends = absurd (differs _ _ refl e)
other_of cid input out None e ends = absurd (differs _ _ refl e)
other_of cid input out (Some refusal) e ends = absurd ends.0

-- lists of numbers are equal or not
dec_cons : (x y : ℕ) (xs ys : List ℕ) → ((x ≡ y) ⊎ (x ≢ y)) → ((xs ≡ ys) ⊎ (xs ≢ ys)) → ((x ∷ xs) ≡ (y ∷ ys)) ⊎ ((x ∷ xs) ≢ (y ∷ ys))
dec_cons x y xs ys (inl e) (inl f) = inl (cc)
dec_cons x y xs ys (inl e) (inr f) = inr (λ g. f (cc))
dec_cons x y xs ys (inr e) f = inr (λ g. e (cc))

dec_nat : (x y : ℕ) → (x ≡ y) ⊎ (x ≢ y)
dec_nat x y = elim (eqb_tells x y) [ inl h ↦ inl h.1 | inr h ↦ inr h.1 ]

dec_list : (xs ys : List ℕ) → (xs ≡ ys) ⊎ (xs ≢ ys)
dec_list [] [] = inl refl
dec_list [] (y ∷ ys) = inr (λ g. cc)
dec_list (x ∷ xs) [] = inr (λ g. cc)
dec_list (x ∷ xs) (y ∷ ys) = dec_cons x y xs ys (dec_nat x y) (dec_list xs ys)

-- two blocks that a CID names are one, or have one hash
agree_by : (hash : HashKind) (digest received block : List ℕ) → IsDigestOf hash digest received → IsDigestOf hash digest block → (received ≡ block) ⊎ CollisionPair received block
agree_by Sha256 digest received block p q = elim (dec_list received block) [ inl e ↦ inl e | inr f ↦ inr (record { differ = f; one_hash = sym p ∙ q }) ]
agree_by Identity digest received block p q = inl (sym p ∙ q)

pub agrees : (cid : CidParts) (block : List ℕ) (input : Input) (out : Output) → Names cid block → Checked cid input out → Agrees block input out
agrees cid block input out named done = record {
  received = done.block;
  taken = done.read.taken;
  put = done.put;
  same = agree_by cid.hash cid.digest done.block block done.read.named named;
}

pub answered_of : (cid : CidParts) (bytes : List ℕ) (input : Input) (out : Output) (end : Option CommandFault) → input.left_old ≡ Some bytes
    → (InputRose input → ⊥) → (OutputRose out → ⊥) → CheckEnds cid input out end → (exit_status end ≡ 8) ⊎ CheckStatus cid bytes (exit_status end)
answered_of cid bytes input out None told no_in no_out done =
    let same = block_is done.block bytes input done.read.taken told in
    inr (inl (refl, subst (λ (b : List ℕ). length b ≤ max_block_len) same done.read.taken.within, subst (Names cid) same done.read.named))
answered_of cid bytes input out (Some Usage) told no_in no_out ends = absurd ends.0
answered_of cid bytes input out (Some (BadDigest text)) told no_in no_out ends =
    let other = ends.0.1 in
    let same = block_is other.block bytes input other.taken told in
    inr (inr (inl (refl, subst (λ (b : List ℕ). length b ≤ max_block_len) same other.taken.within, λ named. other.other (subst (Names cid) (sym same) named))))
answered_of cid bytes input out (Some (BadBlock text fault)) told no_in no_out ends = absurd ends.0
answered_of cid bytes input out (Some BlockLimit) told no_in no_out ends = inr (inr (inr (refl, passed_limit bytes input told ends.0)))
answered_of cid bytes input out (Some InputFault) told no_in no_out ends = absurd (no_in ends.0.rose)
answered_of cid bytes input out (Some SinkFault) told no_in no_out ends = absurd (no_out ends.front.rose)
answered_of cid bytes input out (Some OutOfMemory) told no_in no_out ends = inl refl
answered_of cid bytes input out (Some refusal) told no_in no_out ends = absurd ends.0

-- ---- `node`

pub noded_of : (cid : CidParts) (input : Input) (out : Output) (end : Option CommandFault) → exit_status end ≡ 0 → NodeEnds cid input out end → Noded cid input out
noded_of cid input out None e ends = ends
noded_of cid input out (Some (NoPeerLeft words status)) e ends = absurd ends.0
noded_of cid input out (Some refusal) e ends = cc

pub node_other_of : (cid : CidParts) (input : Input) (out : Output) (end : Option CommandFault) → exit_status end ≡ 3 → NodeEnds cid input out end → NodedOther cid input out
node_other_of cid input out (Some (BadDigest text)) e ends = inl (record { read = ends.0.1; unput = ends.1 })
node_other_of cid input out (Some (BadBlock text fault)) e ends = inr (fault, ends.1)
node_other_of cid input out (Some InputFault) e ends = absurd (differs _ _ refl e)
node_other_of cid input out (Some SinkFault) e ends = absurd (differs _ _ refl e)
node_other_of cid input out (Some OutOfMemory) e ends = absurd (differs _ _ refl e)
node_other_of cid input out (Some BlockLimit) e ends = absurd (differs _ _ refl e)
node_other_of cid input out None e ends = absurd (differs _ _ refl e)
node_other_of cid input out (Some refusal) e ends = absurd ends.0

no_text : (cid : CidParts) (bytes block : List ℕ) → block ≡ bytes → length block ≤ max_block_len → HasNoText cid block → NodeStatus cid bytes 3
no_text cid bytes block same within none = inr (inl (refl, subst (λ (b : List ℕ). length b ≤ max_block_len) same within, subst (HasNoText cid) same none))

pub node_answered_of : (cid : CidParts) (bytes : List ℕ) (input : Input) (out : Output) (end : Option CommandFault) → input.left_old ≡ Some bytes
    → (InputRose input → ⊥) → (OutputRose out → ⊥) → NodeEnds cid input out end → (exit_status end ≡ 8) ⊎ NodeStatus cid bytes (exit_status end)
node_answered_of cid bytes input out None told no_in no_out done =
    let same = block_is done.block bytes input done.read.taken told in
    let text : HasText cid done.block = ((done.text, done.text_is), done.good) in
    inr (inl (refl, subst (λ (b : List ℕ). length b ≤ max_block_len) same done.read.taken.within, subst (Names cid) same done.read.named, subst (HasText cid) same text))
node_answered_of cid bytes input out (Some Usage) told no_in no_out ends = absurd ends.0
node_answered_of cid bytes input out (Some (BadDigest text)) told no_in no_out ends =
    let other = ends.0.1 in
    inr (no_text cid bytes other.block (block_is other.block bytes input other.taken told) other.taken.within (inl other.other))
node_answered_of cid bytes input out (Some (BadBlock text fault)) told no_in no_out ends =
    let bad = ends.1 in
    inr (no_text cid bytes bad.block (block_is bad.block bytes input bad.read.taken told) bad.read.taken.within (inr (bad.read.named, bad.none, (fault, bad.cause))))
node_answered_of cid bytes input out (Some BlockLimit) told no_in no_out ends = inr (inr (inr (refl, passed_limit bytes input told ends.0)))
node_answered_of cid bytes input out (Some InputFault) told no_in no_out ends = absurd (no_in ends.0.rose)
node_answered_of cid bytes input out (Some SinkFault) told no_in no_out ends = absurd (no_out ends.front.rose)
node_answered_of cid bytes input out (Some OutOfMemory) told no_in no_out ends = inl refl
node_answered_of cid bytes input out (Some refusal) told no_in no_out ends = absurd ends.0

-- ---- `cid`

pub printed_of : (IsLine : List ℕ → Type 0) (out : Output) (end : Option CommandFault) → exit_status end ≡ 0 → PrintEnds IsLine out end → PutsLine IsLine out
printed_of IsLine out None e ends = ends
printed_of IsLine out (Some (NoPeerLeft words status)) e ends = absurd ends
printed_of IsLine out (Some refusal) e ends = cc

-- ---- `help` and `version`

pub text_put_of : (text : List ℕ) (out : Output) (end : Option CommandFault) → exit_status end ≡ 0 → PrintEnds (λ line. line ≡ text) out end → PutAll text out
text_put_of text out None e ends = subst (λ (line : List ℕ). PutAll line out) ends.line_is ends.put
text_put_of text out (Some (NoPeerLeft words status)) e ends = absurd ends
text_put_of text out (Some refusal) e ends = cc

pub text_answered_of : (text : List ℕ) (out : Output) (end : Option CommandFault) → (OutputRose out → ⊥) → PrintEnds (λ line. line ≡ text) out end
    → (exit_status end ≡ 8) ⊎ (exit_status end ≡ 0)
text_answered_of text out None no_out ends = inr refl
text_answered_of text out (Some SinkFault) no_out ends = absurd (no_out ends.front.rose)
text_answered_of text out (Some OutOfMemory) no_out ends = inl refl
text_answered_of text out (Some refusal) no_out ends = absurd ends
