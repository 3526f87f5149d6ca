-- However the bytes of a reply are cut, a client answers the same and has put the same (RFC 9112, sections 2 to 8; Trustless Gateway
-- specification).
use Rattle.std.specs.Prelude.{Bool, Err, List, Ok, Result, [], true, ⊤, ℕ, ◌++◌, ◌≡◌}
use Rattle.tg_cut_laws.specs.Bodies.{IsDueFault}
use Rattle.tg_fetch.specs.Calls.{HeardBy}
use Rattle.tg_fetch.specs.Clients.{EndEnds, FeedEnds}
use Rattle.tg_fetch.specs.declared.client.Client.{Client}
use Rattle.tg_fetch.specs.declared.fault.FetchFault.{FetchFault}
use Rattle.tg_model.specs.LimitNumbers.{LimitNumbers}
use Rattle.tg_model.specs.Queries.{QueryParts}
use Rattle.tg_streams.specs.Streams.{Output, Put}
use Rattle.tg_verify.specs.declared.verifier.Progress.TheVariants as progresses

-- Of a reply whose bytes these are a client answered so in its last call, before which this was written, and put what it says
-- of out: it was fed a piece behind what it had heard, and accepted or refused; or it was told that the link had ended behind
-- all of the reply; or it was called by `fetch`, which heard a front of the reply, and all of it where the link is over.
pub data AnswersIn (q : QueryParts) (limits : LimitNumbers) (bytes written : List ℕ) (out : Output) (result : Result ⊤ FetchFault) : Type 0 where
  accepts : (client : Client) (heard piece more : List ℕ) → client.query ≡ q → client.limits ≡ limits → bytes ≡ heard ++ (piece ++ more)
      → FeedEnds client heard piece written out (Ok progresses.Done) → result ≡ Ok tt → AnswersIn q limits bytes written out result
  refuses : (client : Client) (heard piece more : List ℕ) (fault : FetchFault) → client.query ≡ q → client.limits ≡ limits
      → bytes ≡ heard ++ (piece ++ more) → FeedEnds client heard piece written out (Err fault) → result ≡ Err fault
      → AnswersIn q limits bytes written out result
  ends : EndEnds q limits bytes written out result → AnswersIn q limits bytes written out result
  called : (heard left : List ℕ) (over : Bool) → bytes ≡ heard ++ left → (over ≡ true → left ≡ []) → written ≡ []
      → HeardBy q limits heard over out result → AnswersIn q limits bytes written out result

-- no fault of out or of the peer, and no want of memory
abbrev pub IsDueResult : Result ⊤ FetchFault → Type 0
IsDueResult (Ok done) = ⊤
IsDueResult (Err fault) = IsDueFault fault

-- with what was put before, the same text was put
pub record ArePutAlike (x : List ℕ) (out : Output) (y : List ℕ) (other : Output) : Type 0 where
  pub text : List ℕ
  pub put : Put text out
  pub other_text : List ℕ
  pub other_put : Put other_text other
  pub same : x ++ text ≡ y ++ other_text

-- two answers, of clients that put into these
abbrev pub AnsweredOnce : Output → Output → Type 0
AnsweredOnce out other = (q : QueryParts) (limits : LimitNumbers) (bytes x y : List ℕ) (result answer : Result ⊤ FetchFault) → IsDueResult result
    → IsDueResult answer → AnswersIn q limits bytes x out result → AnswersIn q limits bytes y other answer
    → (result ≡ answer) × ArePutAlike x out y other
