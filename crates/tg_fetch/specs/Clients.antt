-- What a client stands for: what came of a reply, and what is written for it.
use Rattle.std.specs.Prelude.{Err, List, None, Ok, Result, [], length, take, true, false, ⊤, ℕ, ◌++◌, ◌≡◌, ◌≤◌}
use Rattle.tg_fetch.specs.Heads.{IsInHeads}
use Rattle.tg_fetch.specs.Replies.{HasAnswered, IsAnswered, IsInContent, IsRefused, IsShortIn}
use Rattle.tg_fetch.specs.declared.client.Client.{Client}
use Rattle.tg_fetch.specs.declared.client.Stage.{Stage}
use Rattle.tg_fetch.specs.declared.client.Stage.TheVariants as stages
use Rattle.tg_fetch.specs.declared.content.Move.{Move}
use Rattle.tg_fetch.specs.declared.content.Move.TheVariants as moves
use Rattle.tg_fetch.specs.declared.fault.FetchFault.{FetchFault}
use Rattle.tg_model.specs.Dag.{Section}
use Rattle.tg_model.specs.LimitNumbers.{LimitNumbers}
use Rattle.tg_model.specs.Queries.{QueryParts}
use Rattle.tg_streams.specs.Streams.{Output, Put}
use Rattle.tg_verify.specs.Sound.{ForEachSound, IsItsAnswer}
use Rattle.tg_verify.specs.declared.verifier.Progress.{Progress}
use Rattle.tg_verify.specs.declared.verifier.Progress.TheVariants as progresses

-- where it is in the reply
abbrev pub IsAt : QueryParts → LimitNumbers → Stage → List ℕ → List ℕ → Type 0
IsAt q limits (stages.Heads heads) heard written = IsInHeads heads heard × (written ≡ [])
IsAt q limits (stages.Content content) heard written = IsInContent q limits content heard written
IsAt q limits stages.Done heard written = ⊥

-- nothing was refused, and the reply isn't whole: these bytes of it came, and this is written for them
pub record IsOpen (client : Client) (heard written : List ℕ) : Type 0 where
  pub count : client.heard ≡ length heard
  pub within : length heard ≤ client.limits.received
  pub at : IsAt client.query client.limits client.stage heard written

pub record StandsFor (client : Client) (heard written : List ℕ) : Type 0 where
  pub unrefused : client.refused ≡ None
  pub is_open : IsOpen client heard written

-- a body of stated length isn't whole
abbrev pub IsShortAt : QueryParts → LimitNumbers → Stage → List ℕ → Type 0
IsShortAt q limits (stages.Content content) heard = IsShortIn q limits content heard
IsShortAt q limits (stages.Heads heads) heard = ⊤
IsShortAt q limits stages.Done heard = ⊤

-- ---- a piece is fed

-- a text was put, and the client goes on
pub record FedMore (client : Client) (heard written : List ℕ) (out : Output) : Type 0 where
  pub text : List ℕ
  pub put : Put text out
  pub is_open : IsOpen client heard (written ++ text)

-- a text was put, and with a front of the piece the reply is the answer; what follows that isn't looked at
pub record FedAll (q : QueryParts) (limits : LimitNumbers) (heard piece written : List ℕ) (out : Output) : Type 0 where
  pub front : List ℕ
  pub more : List ℕ
  pub whole : piece ≡ front ++ more
  pub text : List ℕ
  pub put : Put text out
  pub sections : List Section
  pub answered : IsAnswered q limits (heard ++ front) false sections (written ++ text)
  pub sound : ForEachSound q (λ d. IsItsAnswer q d sections (written ++ text))

abbrev pub FeedEnds : Client → List ℕ → List ℕ → List ℕ → Output → Result Progress FetchFault → Type 0
FeedEnds client heard piece written out (Ok progresses.More) = FedMore client (heard ++ piece) written out
FeedEnds client heard piece written out (Ok progresses.Done) =
    FedAll client.query client.limits heard piece written out × (client.stage ≡ stages.Done)
FeedEnds client heard piece written out (Err fault) = IsRefused client.query client.limits heard piece false written out fault

-- ---- a step

abbrev pub StepEnds : Client → List ℕ → List ℕ → List ℕ → Output → Result (ℕ × Move) FetchFault → Type 0
StepEnds client heard bytes written out (Ok (taken, moves.On)) = FedMore client (heard ++ take taken bytes) written out
StepEnds client heard bytes written out (Ok (taken, moves.Wait)) = (taken ≡ length bytes) × FedMore client (heard ++ bytes) written out
StepEnds client heard bytes written out (Ok (taken, moves.Done)) =
    HasAnswered client.query client.limits (heard ++ take taken bytes) false written out × (client.stage ≡ stages.Done)
StepEnds client heard bytes written out (Err fault) = IsRefused client.query client.limits heard bytes false written out fault

-- ---- the link has ended

pub record EndedWhole (q : QueryParts) (limits : LimitNumbers) (heard written : List ℕ) (out : Output) : Type 0 where
  pub text : List ℕ
  pub put : Put text out
  pub sections : List Section
  pub answered : IsAnswered q limits heard true sections (written ++ text)
  pub sound : ForEachSound q (λ d. IsItsAnswer q d sections (written ++ text))

abbrev pub EndEnds : QueryParts → LimitNumbers → List ℕ → List ℕ → Output → Result ⊤ FetchFault → Type 0
EndEnds q limits heard written out (Ok done) = EndedWhole q limits heard written out
EndEnds q limits heard written out (Err fault) = IsRefused q limits heard [] true written out fault
