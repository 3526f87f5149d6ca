-- `mirror`: a whole DAG goes from a gateway into a pack (Trustless Gateway specification, CAR responses; CARv1 specification).
use Rattle.std.specs.Prelude.{Err, IfSome, List, None, Ok, Option, Some, ℕ, true, ⊤, ◌++◌, ◌∷◌, ◌≡◌, ◌⊎◌, [], codes, decimal}
use Rattle.tg_app.specs.Fetches.{IsFetchRefusal}
use Rattle.tg_app.specs.Objects.{DialUse}
use Rattle.tg_bytes.specs.Ascii.{line_feed}
use Rattle.tg_cid.specs.Cid.{CidParts}
use Rattle.tg_commands.specs.Blocks.{OutputUntouched}
use Rattle.tg_commands.specs.CidLines.{TextLine}
use Rattle.tg_commands.specs.Files.{Files}
use Rattle.tg_commands.specs.Imports.{StopsWritingAt, WritesPackAt}
use Rattle.tg_commands.specs.Lines.{PutAll}
use Rattle.tg_commands.specs.declared.fault.CommandFault.{CommandFault}
use Rattle.tg_commands.specs.declared.fault.CommandFault.TheVariants as refusals
use Rattle.tg_dials.specs.Dials.{Dialling}
use Rattle.tg_fetch.specs.Calls.{FetchEnds}
use Rattle.tg_fetch.specs.Laws.{TellsCarried}
use Rattle.tg_fetch.specs.Received.{AreReceived, HeardIn}
use Rattle.tg_files.specs.Packs.{PackRose, PackQuiet, PackStep, SameContent}
use Rattle.tg_heard.specs.Exchanges.{HasOneBlockEach}
use Rattle.tg_mirror.specs.Mirrors.{HasMirrorCause, IsMirrored, MirrorCalls, ServesContent, StopsHolding, dropped, mirror_query}
use Rattle.tg_mirror.specs.declared.fault.MirrorFault.{MirrorFault}
use Rattle.tg_mirror.specs.declared.fault.MirrorFault.TheVariants as faults
use Rattle.tg_mirror.specs.declared.mirrored.Mirrored.{Mirrored}
use Rattle.tg_mirror_laws.specs.Mirrored.{CollisionWithin}
use Rattle.tg_model.specs.Answer.{answer}
use Rattle.tg_model.specs.Dag.{Dag, Section, root_cid}
use Rattle.tg_model.specs.Fits.{CollisionPair, Fits}
use Rattle.tg_model.specs.LimitNumbers.{standard}
use Rattle.tg_model.specs.Sound.{IsSound}
use Rattle.tg_model.specs.Traversal.{block_list}
use Rattle.tg_store.specs.Filling.{IsUnfinished}
use Rattle.tg_streams.specs.Streams.{Output, PutFront}
use Rattle.tg_verify.specs.Laws.{IsWithinLimits}
use Rattle.tg_words.specs.MirrorLines.{MirrorParts}

-- how many blocks were mirrored, and how many bytes they have
abbrev pub mirrored_line : Mirrored → List ℕ
mirrored_line mirrored = codes "blocks " ++ (decimal mirrored.blocks ++ (codes " bytes " ++ (decimal mirrored.bytes ++ line_feed ∷ [])))

-- the root's text on a line, and then that
pub record MirrorLines (root : CidParts) (mirrored : Mirrored) (text : List ℕ) : Type 0 where
  pub first : List ℕ
  pub first_is : TextLine root first
  pub whole : text ≡ first ++ mirrored_line mirrored

-- how it ends to put them: all of it was put, out failed after a front of it, or memory was wanted
pub record PutsMirror (root : CidParts) (mirrored : Mirrored) (put : List ℕ → Type 0) : Type 0 where
  pub text : List ℕ
  pub lines : MirrorLines root mirrored text
  pub is_put : put text

abbrev pub MirrorLinesEnd : CidParts → Mirrored → Output → Option CommandFault → Type 0
MirrorLinesEnd root mirrored out None = PutsMirror root mirrored (λ text. PutAll text out)
MirrorLinesEnd root mirrored out (Some refusals.SinkFault) = PutsMirror root mirrored (λ text. PutFront text out)
MirrorLinesEnd root mirrored out (Some refusals.OutOfMemory) = OutputUntouched out
MirrorLinesEnd root mirrored out (Some other) = ⊥

-- the pack is attached, made empty, at the path that the words name
abbrev pub IsPackAt : MirrorParts → PackStep → Type 0
IsPackAt parts pack = pack.place_new ≡ Some (record { path = parts.pack; fresh = true })

-- the DAG was mirrored into the pack: the reply was accepted, the pack is the CAR of its sections, which serves each sound DAG
-- with the root, or there is a collision; and of what was mirrored this holds
pub record IsInMirror (parts : MirrorParts) (pack : PackStep) (dial : Dialling) (said : Mirrored → Type 0) : Type 0 where
  pub mirrored : Mirrored
  pub place : IsPackAt parts pack
  pub called : FetchEnds (mirror_query parts.root) standard parts.addr dial dropped (Ok tt)
  pub is_mirrored : IsMirrored parts.root standard dial pack mirrored
  pub written : WritesPackAt parts.pack parts.root pack
  pub quiet : PackQuiet pack
  pub is_said : said mirrored

-- the refusal that tells why a DAG isn't mirrored
abbrev pub IsMirrorRefusal : MirrorFault → CommandFault → Type 0
IsMirrorRefusal (faults.Client fault) refusal = IsFetchRefusal fault refusal
IsMirrorRefusal (faults.Pack fault) refusal = refusal ≡ refusals.PackFault

-- the pack can't be attached, and nobody was dialled
pub record NoMirrorPack (pack : PackStep) (dial : DialUse) (out : Output) (refusal : CommandFault) : Type 0 where
  pub same : SameContent pack
  pub rose : PackRose pack
  pub undialled : dial.same_dial
  pub unput : OutputUntouched out
  pub is : refusal ≡ refusals.PackFault

-- it was refused; the pack, as far as it is told, isn't finished, and holds the sections that were kept until then
pub record MirrorRefused (parts : MirrorParts) (pack : PackStep) (dial : DialUse) (out : Output) (refusal : CommandFault) : Type 0 where
  pub fault : MirrorFault
  pub is : IsMirrorRefusal fault refusal
  pub place : IsPackAt parts pack
  pub called : MirrorCalls parts.root standard parts.addr dial.same_dial dial.dialling (Err fault)
  pub cause : HasMirrorCause pack (Err fault)
  pub holds : IfSome pack.content_new (StopsHolding parts.root standard dial.dialling fault)
  pub unfinished : IfSome pack.content_new IsUnfinished
  pub stopped : StopsWritingAt parts.pack pack
  pub unput : OutputUntouched out

-- memory was wanted for the lines behind a mirror that was done
pub record MirrorUnsaid (parts : MirrorParts) (pack : PackStep) (dial : Dialling) (out : Output) (refusal : CommandFault) : Type 0 where
  pub in_mirror : IsInMirror parts pack dial (λ mirrored. OutputUntouched out)
  pub is : refusal ≡ refusals.OutOfMemory

-- out failed in them
pub record MirrorUnput (parts : MirrorParts) (pack : PackStep) (dial : Dialling) (out : Output) (refusal : CommandFault) : Type 0 where
  pub in_mirror : IsInMirror parts pack dial (λ mirrored. PutsMirror parts.root mirrored (λ text. PutFront text out))
  pub is : refusal ≡ refusals.SinkFault

-- nothing was done for want of memory
pub record MirrorUnbegun (files : Files) (dial : DialUse) (out : Output) (refusal : CommandFault) : Type 0 where
  pub same_pack : files.same_pack
  pub undialled : dial.same_dial
  pub unput : OutputUntouched out
  pub is : refusal ≡ refusals.OutOfMemory

-- it was done
abbrev pub IsMirroredInto : MirrorParts → PackStep → Dialling → Output → Type 0
IsMirroredInto parts pack dial out = IsInMirror parts pack dial (λ mirrored. PutsMirror parts.root mirrored (λ text. PutAll text out))

-- how the mirror into a pack that is handed in ends, and `mirror`
abbrev pub MirrorEnds : MirrorParts → PackStep → DialUse → Output → Option CommandFault → Type 0
MirrorEnds parts pack dial out None = IsMirroredInto parts pack dial.dialling out
MirrorEnds parts pack dial out (Some refusal) =
    MirrorRefused parts pack dial out refusal
    ⊎ (NoMirrorPack pack dial out refusal
    ⊎ (MirrorUnput parts pack dial.dialling out refusal ⊎ MirrorUnsaid parts pack dial.dialling out refusal))

-- ---- a good reply

-- what was heard carries the sections of a sound DAG's own traversal, no two different blocks of it under one CID; or sections
-- that fit; none of the limits passed
pub record IsOwnMirrorReply (root : CidParts) (dial : Dialling) : Type 0 where
  pub d : Dag
  pub sound : IsSound d
  pub root_is : root_cid d ≡ root
  pub text : List ℕ
  pub answers : answer (mirror_query root) d ≡ Some text
  pub one_each : HasOneBlockEach d
  pub within : IsWithinLimits (mirror_query root) standard d
  pub tells : TellsCarried (mirror_query root) standard dial (block_list (mirror_query root) d)

pub record IsFittingMirrorReply (root : CidParts) (dial : Dialling) : Type 0 where
  pub d : Dag
  pub sections : List Section
  pub text : List ℕ
  pub fits : Fits d (mirror_query root) sections text
  pub within : IsWithinLimits (mirror_query root) standard d
  pub tells : TellsCarried (mirror_query root) standard dial sections

abbrev pub IsGoodMirrorReply : CidParts → Dialling → Type 0
IsGoodMirrorReply root dial = IsOwnMirrorReply root dial ⊎ IsFittingMirrorReply root dial

-- but for a fault of the peer, of the pack or of out, and for want of memory, it is done
abbrev pub IsDoneElse : Option CommandFault → Type 0
IsDoneElse None = ⊤
IsDoneElse (Some refusals.PeerFault) = ⊤
IsDoneElse (Some refusals.PackFault) = ⊤
IsDoneElse (Some refusals.SinkFault) = ⊤
IsDoneElse (Some refusals.OutOfMemory) = ⊤
IsDoneElse (Some other) = ⊥

pub record MirrorHandled (parts : MirrorParts) (pack : PackStep) (dial : DialUse) (out : Output) (end : Option CommandFault) : Type 0 where
  pub ends : MirrorEnds parts pack dial out end
  pub accepts : IsGoodMirrorReply parts.root dial.dialling → IsDoneElse end

abbrev pub MirrorAnswers : MirrorParts → Files → DialUse → Output → Option CommandFault → Type 0
MirrorAnswers parts files dial out end =
    MirrorHandled parts files.pack dial out end ⊎ ((refusal : CommandFault) × (end ≡ Some refusal) × MirrorUnbegun files dial out refusal)

-- ---- what the statuses say

-- beside a sound DAG with the root, at 0: these sections stand whole in what was heard in the call; the pack, as far as it is
-- told, holds each of the DAG's blocks with sha2-256, and serves as any store that holds the DAG; or a received block and one of
-- the DAG, or two blocks of the DAG, are different bytes with one SHA-256
pub record VouchedMirror (parts : MirrorParts) (d : Dag) (pack : PackStep) (dial : Dialling) : Type 0 where
  pub heard : List ℕ
  pub heard_in : HeardIn dial heard
  pub sections : List Section
  pub received : AreReceived standard.block heard (mirror_query parts.root) sections
  pub serves : IfSome pack.content_new (ServesContent d) ⊎ (CollisionPair sections d ⊎ CollisionWithin d)

-- what a pack holds behind another status, as far as it is told: what it held; a CAR that isn't finished; or the whole mirror,
-- where memory was wanted for the lines or out failed in them
abbrev pub IsLeftMirror : MirrorParts → Files → Dialling → Type 0
IsLeftMirror parts files dial =
    files.same_pack
    ⊎ (SameContent files.pack ⊎ (IfSome files.pack.content_new IsUnfinished ⊎ IsInMirror parts files.pack dial (λ mirrored. ⊤)))
