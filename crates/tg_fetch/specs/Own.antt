-- A client that is fed what a gateway's session sends for its own request (RFC 9112, sections 2 to 7; Path Gateway and
-- Trustless Gateway specifications).
use Rattle.std.specs.Prelude.{Err, List, Ok, Result, Some, [], ⊤, ℕ, ◌++◌, ◌≡◌, ◌≢◌}
use Rattle.tg_heard.specs.Exchanges.{IsHeld, IsWithin}
use Rattle.tg_fetch.specs.Clients.{FeedEnds, IsShortAt}
use Rattle.tg_fetch.specs.Laws.{IsMissOrMemory}
use Rattle.tg_fetch.specs.declared.client.Client.{Client}
use Rattle.tg_fetch.specs.declared.fault.FetchFault.{FetchFault}
use Rattle.tg_fetch.specs.declared.fault.FetchFault.TheVariants as faults
use Rattle.tg_model.specs.Answer.{answer}
use Rattle.tg_model.specs.Dag.{Dag}
use Rattle.tg_model.specs.LimitNumbers.{LimitNumbers}
use Rattle.tg_model.specs.PathWalk.{stopped}
use Rattle.tg_model.specs.Queries.{QueryParts}
use Rattle.tg_model.specs.Stores.{Store}
use Rattle.tg_model.specs.Traversal.{traversal}
use Rattle.tg_model.specs.declared.queries.Form.TheVariants as forms
use Rattle.tg_query.specs.Laws.{IsPrintable}
use Rattle.tg_query.specs.Requests.{request_text}
use Rattle.tg_reply.specs.Sent.{Sent, SentFor, SentInFull, failed_in, sent_bytes}
use Rattle.tg_streams.specs.Streams.{Output, Put}
use Rattle.tg_model_laws.specs.Tasks.{Miss, stop_of}
use Rattle.tg_verify.specs.declared.fault.Refusal.TheVariants as refusals
use Rattle.tg_verify.specs.declared.verifier.Progress.{Progress}
use Rattle.tg_verify.specs.declared.verifier.Progress.TheVariants as progresses

-- what `Client::feed` says of a piece behind what was heard, before which this was written
pub record IsFed (client : Client) (heard piece written : List ℕ) (out : Output) (result : Result Progress FetchFault) : Type 0 where
  pub ends : FeedEnds client heard piece written out result
  pub short : result ≡ Ok progresses.More → IsShortAt client.query client.limits client.stage (heard ++ piece)

-- a fault of out or of a keeper, or want of memory
abbrev pub IsOutOrMemory : FetchFault → Type 0
IsOutOrMemory (faults.Refused refusals.SinkFault) = ⊤
IsOutOrMemory faults.KeepFault = ⊤
IsOutOrMemory faults.OutOfMemory = ⊤
IsOutOrMemory other = ⊥

-- Behind a piece of a reply, of which these bytes are still to come: more is wanted, and some is to come; or the answer is
-- written; or out failed or memory was wanted.
abbrev pub AnswerIsFed : List ℕ → List ℕ → List ℕ → Output → Result Progress FetchFault → Type 0
AnswerIsFed text written more out (Ok progresses.More) = more ≢ []
AnswerIsFed text written more out (Ok progresses.Done) = (put : List ℕ) × Put put out × (written ++ put ≡ text)
AnswerIsFed text written more out (Err fault) = IsOutOrMemory fault

-- the same where the path leads nowhere: it is refused at that segment, and never is the reply the answer
abbrev pub NowhereIsFed : Miss → List ℕ → Result Progress FetchFault → Type 0
NowhereIsFed miss more (Ok progresses.More) = more ≢ []
NowhereIsFed miss more (Ok progresses.Done) = ⊥
NowhereIsFed miss more (Err fault) = IsMissOrMemory miss fault

-- and nothing is written
pub record WritesNothing (written : List ℕ) (out : Output) : Type 0 where
  pub before : written ≡ []
  pub now : Put [] out

-- What a session sends for the request of a client, over a store that holds the blocks of a sound DAG and breaks off nowhere,
-- within the limits: handed to that client in any pieces, it is accepted, and the DAG's answer is written; and where the path
-- leads nowhere it is refused for that, with nothing written. Out's faults and want of memory are free.
abbrev pub OwnIsFed : Output → Type 0
OwnIsFed out = (store : Store) (q : QueryParts) (d : Dag) (limits : LimitNumbers) (addr next rest : List ℕ) (sent : List Sent) → IsHeld store q d
    → IsWithin q limits d → IsPrintable q addr → SentInFull (SentFor store) (request_text q addr ++ next) sent rest → failed_in sent ≡ 0
    → (client : Client) (heard piece more written : List ℕ) (result : Result Progress FetchFault) → client.query ≡ q
    → client.limits ≡ limits → sent_bytes sent ≡ heard ++ (piece ++ more) → IsFed client heard piece written out result
    → ((text : List ℕ) → answer q d ≡ Some text → AnswerIsFed text written more out result)
    × ((miss : Miss) → q.form ≡ forms.Car → (traversal q d).end ≡ stopped (stop_of miss)
    → NowhereIsFed miss more result × WritesNothing written out)
