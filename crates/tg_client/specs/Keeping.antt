-- Which sections of a CAR are kept while it comes.
use Rattle.std.specs.Prelude.{All, Err, List, Option, Result, [], ℕ, ◌++◌, ◌∷◌, ◌≡◌}
use Rattle.tg_cid.specs.Cid.{CidParts}
use Rattle.tg_cid.specs.Names.{Names}
use Rattle.tg_client.specs.Body.{IsBody, IsStoppedAt}
use Rattle.tg_client.specs.Received.{HasReceived}
use Rattle.tg_client.specs.declared.body.CarBody.{CarBody}
use Rattle.tg_client.specs.declared.fault.ClientFault.{ClientFault}
use Rattle.tg_client.specs.declared.fault.ClientFault.TheVariants as faults
use Rattle.tg_model.specs.Dag.{Section}
use Rattle.tg_model.specs.LimitNumbers.{LimitNumbers}
use Rattle.tg_model.specs.Queries.{QueryParts}
use Rattle.tg_model.specs.Stores.{AreKeptAs, IsLeftAs, Keeping, KeepingQuiet, KeepingRose, Kept, Store}
use Rattle.tg_model_laws.specs.Stores.{MayKeep}
use Rattle.tg_streams.specs.Streams.{Output, Put}
use Rattle.tg_verify.specs.declared.fault.Refusal.TheVariants as refusals

-- these sections and no others were kept, in this order; the CID of each names its block
pub record AreKept (sections : List Section) (keeping : Keeping) : Type 0 where
  pub may : All MayKeep sections
  pub kept : Kept sections keeping
  pub quiet : KeepingQuiet keeping

-- and the keeper failed at the next one: it tells what it told with these, or nothing any more
pub record AreKeptUntilFault (sections : List Section) (keeping : Keeping) : Type 0 where
  pub may : All MayKeep sections
  pub moved : keeping.kept sections
  pub told : Option Store
  pub stored : AreKeptAs keeping.stored_old told sections
  pub left : IsLeftAs told keeping.stored_new
  pub rose : KeepingRose keeping

-- all of these sections but the last were kept, whose CID doesn't name its block
pub record AreKeptButLast (sections : List Section) (cid : CidParts) (keeping : Keeping) : Type 0 where
  pub named : List Section
  pub last : Section
  pub sections_are : sections ≡ named ++ last ∷ []
  pub kept : AreKept named keeping
  pub cid_is : cid ≡ last.cid
  pub misnamed : Names last.cid last.block → ⊥

-- which of these sections were kept at a fault: all; or all but the one that its CID doesn't name
abbrev pub AreKeptAt : ClientFault → List Section → Keeping → Type 0
AreKeptAt faults.KeepFault sections keeping = AreKeptUntilFault sections keeping
AreKeptAt (faults.Refused (refusals.BadDigest cid)) sections keeping = AreKeptButLast sections cid keeping
AreKeptAt fault sections keeping = AreKept sections keeping

-- behind what was heard before, in which these sections stand whole: a text was put, nothing was refused, and the sections
-- that came were kept
pub record WentOnKeeping (body : CarBody) (heard : List ℕ) (sections : List Section) (written : List ℕ) (out : Output) (keeping : Keeping) : Type 0 where
  pub came : List Section
  pub received : HasReceived body.verifier.limits.block heard (sections ++ came)
  pub kept : AreKept came keeping
  pub text : List ℕ
  pub put : Put text out
  pub is_body : IsBody body heard (sections ++ came) (written ++ text)

-- behind what was heard before, in which these sections stand whole: in the piece there was a refusal, and of the sections
-- that came up to there these were kept
pub record StoppedKeeping (q : QueryParts) (limits : LimitNumbers) (taken : ℕ) (heard piece : List ℕ) (sections : List Section) (written : List ℕ) (out : Output) (keeping : Keeping)
    (fault : ClientFault) : Type 0 where
  pub front : List ℕ
  pub unheard : List ℕ
  pub whole : piece ≡ front ++ unheard
  pub came : List Section
  pub stopped : IsStoppedAt q limits taken (heard ++ front) unheard (sections ++ came) written out fault
  pub kept : AreKeptAt fault came keeping

-- the keeper's fault comes where one was counted, and nowhere else
abbrev pub HasKeepCause : {A : Type 0} → Keeping → Result A ClientFault → Type 0
HasKeepCause keeping (Err faults.KeepFault) = KeepingRose keeping
HasKeepCause keeping result = KeepingQuiet keeping
