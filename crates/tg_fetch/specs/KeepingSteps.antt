-- Which sections are kept step by step, while a reply comes.
use Rattle.std.specs.Prelude.{Bool, Err, List, Ok, Result, [], false, take, true, ⊤, ℕ, ◌++◌, ◌≡◌, ◌⊎◌}
use Rattle.tg_bytes.specs.Told.{grown}
use Rattle.tg_client.specs.Keeping.{AreKept}
use Rattle.tg_client.specs.Received.{HasReceived}
use Rattle.tg_fetch.specs.Bodies.{FailsTaking, StopsTaking, TakesWhole}
use Rattle.tg_fetch.specs.Keeping.{AreKeptBy, HeardKeeping, KeepsBehind, KeptCut, KeptNone, KeptRefused, StandIn}
use Rattle.tg_fetch.specs.Replies.{HasAnswered}
use Rattle.tg_fetch.specs.declared.content.Move.{Move}
use Rattle.tg_fetch.specs.declared.content.Move.TheVariants as moves
use Rattle.tg_fetch.specs.declared.fault.FetchFault.{FetchFault}
use Rattle.tg_fetch.specs.declared.sections.Sections.{Sections}
use Rattle.tg_fetch.specs.declared.sections.Sections.TheVariants as takings
use Rattle.tg_http.specs.declared.reply.ReplyHead.{ReplyHead}
use Rattle.tg_links.specs.Steps.{LinkStep}
use Rattle.tg_model.specs.Dag.{Section}
use Rattle.tg_model.specs.LimitNumbers.{LimitNumbers}
use Rattle.tg_model.specs.Queries.{QueryParts}
use Rattle.tg_model.specs.Stores.{Keeping}
use Rattle.tg_streams.specs.Streams.{Output}

-- ---- a body

-- these sections of an answer's CAR stand whole in what came of the body; of any other body none are kept
abbrev pub TakenIn : Sections → LimitNumbers → List ℕ → List Section → Type 0
TakenIn (takings.Answer body) limits given before = HasReceived limits.block given before
TakenIn (takings.Absence body) limits given before = before ≡ []
TakenIn (takings.Block raw) limits given before = before ≡ []

-- those before them were kept before, and the others now
pub record KeptBehind (before all : List Section) (AreKeptNow : List Section → Keeping → Type 0) (keeping : Keeping) : Type 0 where
  pub came : List Section
  pub all_is : all ≡ before ++ came
  pub kept : AreKeptNow came keeping

abbrev pub KeptOf : Sections → List Section → List Section → (List Section → Keeping → Type 0) → Keeping → Type 0
KeptOf (takings.Answer body) before all AreKeptNow keeping = KeptBehind before all AreKeptNow keeping
KeptOf (takings.Absence body) before all AreKeptNow keeping = AreKept [] keeping
KeptOf (takings.Block raw) before all AreKeptNow keeping = AreKept [] keeping

pub record BodyGoesOnKeeping (sections : Sections) (limits : LimitNumbers) (given : List ℕ) (before : List Section) (keeping : Keeping) : Type 0 where
  pub came : List Section
  pub taken : TakenIn sections limits given (before ++ came)
  pub kept : AreKept came keeping

pub record BodyStopsKeeping (q : QueryParts) (limits : LimitNumbers) (head : ReplyHead) (sections : Sections) (given : List ℕ) (before : List Section) (written : List ℕ) (out : Output) (keeping : Keeping)
    (fault : FetchFault) : Type 0 where
  pub stops : StopsTaking q limits head given written out fault
  pub kept : KeptOf sections before stops.sections (AreKeptBy fault) keeping

abbrev pub BodyKeeps : QueryParts → LimitNumbers → ReplyHead → Sections → Sections → List ℕ → List Section → List ℕ → Output → Keeping → Result ⊤ FetchFault → Type 0
BodyKeeps q limits head old new given before written out keeping (Ok done) = BodyGoesOnKeeping new limits given before keeping
BodyKeeps q limits head old new given before written out keeping (Err fault) = BodyStopsKeeping q limits head old given before written out keeping fault

-- the body has ended
pub record BodyWholeKeeping (q : QueryParts) (limits : LimitNumbers) (head : ReplyHead) (sections : Sections) (given : List ℕ) (before : List Section) (written : List ℕ) (out : Output) (keeping : Keeping) : Type 0 where
  pub whole : TakesWhole q limits head given written out
  pub kept : KeptOf sections before whole.sections AreKept keeping

pub record BodyFailsKeeping (q : QueryParts) (limits : LimitNumbers) (head : ReplyHead) (sections : Sections) (given : List ℕ) (before : List Section) (written : List ℕ) (out : Output) (keeping : Keeping)
    (fault : FetchFault) : Type 0 where
  pub fails : FailsTaking q limits head given written out fault
  pub kept : KeptOf sections before fails.sections (AreKeptBy fault) keeping

abbrev pub BodyEndKeeps : QueryParts → LimitNumbers → ReplyHead → Sections → List ℕ → List Section → List ℕ → Output → Keeping → Result ⊤ FetchFault → Type 0
BodyEndKeeps q limits head old given before written out keeping (Ok done) = BodyWholeKeeping q limits head old given before written out keeping
BodyEndKeeps q limits head old given before written out keeping (Err fault) = BodyFailsKeeping q limits head old given before written out keeping fault

-- ---- a reply

-- behind these bytes it goes on, and the sections that came were kept
pub record StandsKeeping (q : QueryParts) (limits : LimitNumbers) (heard : List ℕ) (before : List Section) (keeping : Keeping) : Type 0 where
  pub came : List Section
  pub stand : StandIn q limits heard (before ++ came)
  pub kept : AreKept came keeping

-- or it is the answer
pub record AnsweredKeeping (q : QueryParts) (limits : LimitNumbers) (heard : List ℕ) (ended : Bool) (before : List Section) (written : List ℕ) (out : Output) (keeping : Keeping) : Type 0 where
  pub answered : HasAnswered q limits heard ended written out
  pub kept : KeepsBehind q heard before answered.sections AreKept keeping

abbrev pub ContentKeeps : QueryParts → LimitNumbers → List ℕ → List Section → List ℕ → Output → Keeping → Move → Type 0
ContentKeeps q limits heard before written out keeping moves.On = StandsKeeping q limits heard before keeping
ContentKeeps q limits heard before written out keeping moves.Wait = StandsKeeping q limits heard before keeping
ContentKeeps q limits heard before written out keeping moves.Done = AnsweredKeeping q limits heard false before written out keeping

abbrev pub ContentEndKeeps : QueryParts → LimitNumbers → List ℕ → List Section → List ℕ → Output → Keeping → Result ⊤ FetchFault → Type 0
ContentEndKeeps q limits heard before written out keeping (Ok done) = AnsweredKeeping q limits heard true before written out keeping
ContentEndKeeps q limits heard before written out keeping (Err fault) = KeptCut q limits heard before written out keeping fault

abbrev pub StepKeeps : QueryParts → LimitNumbers → List ℕ → List ℕ → List Section → List ℕ → Output → Keeping → Result (ℕ × Move) FetchFault → Type 0
StepKeeps q limits heard bytes before written out keeping (Ok (taken, told)) = ContentKeeps q limits (heard ++ take taken bytes) before written out keeping told
StepKeeps q limits heard bytes before written out keeping (Err fault) = KeptRefused q limits heard bytes before written out keeping fault

-- ---- over a link

-- this was heard, and of it these sections were kept
pub record HeardKeeps (q : QueryParts) (limits : LimitNumbers) (link : LinkStep) (out : Output) (keeping : Keeping) (result : Result ⊤ FetchFault) : Type 0 where
  pub heard : List ℕ
  pub is_heard : link.heard_new ≡ grown link.heard_old heard
  pub keeps : HeardKeeping q limits heard link.over_new out keeping result

-- or nothing was
abbrev pub LinkKeeps : QueryParts → LimitNumbers → LinkStep → Output → Keeping → Result ⊤ FetchFault → Type 0
LinkKeeps q limits link out keeping result = HeardKeeps q limits link out keeping result ⊎ KeptNone out keeping result
