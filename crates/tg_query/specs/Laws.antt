-- The law of the printed request: it is one head, and what that head asks is the query.
use Rattle.httparse.specs.Grammar.{RequestHead as RequestTree}
use Rattle.std.specs.Prelude.{All, IsFalse, List, Ok, Result, codes, length, true, ℕ, ◌<◌, ◌≡◌, ◌≤◌}
use Rattle.tg_cid.specs.Spelling.{CidBytes}
use Rattle.tg_http.specs.Heads.{IsRequest, TellsRequest}
use Rattle.tg_http.specs.declared.request.RequestHead.{RequestHead}
use Rattle.tg_model.specs.Queries.{QueryParts, WellFormed}
use Rattle.tg_query.specs.Answers.{◌>>=◌}
use Rattle.tg_query.specs.declared.fault.QueryFault.{QueryFault}
use Rattle.tg_query.specs.Accepts.{accepted_of}
use Rattle.tg_query.specs.Joins.{join_of}
use Rattle.tg_query.specs.Requests.{IsAddr, request_text}
use Rattle.tg_query.specs.Targets.{target_of}

-- what the target and the `Accept` values of a head ask together
abbrev pub asked_by : List ℕ → List (List ℕ) → Result QueryParts QueryFault
asked_by target accept = target_of target >>= λ parts. join_of parts (accepted_of accept)

-- a well-formed query whose root is a CIDv1, of which the request for an address fits a head
pub record IsPrintable (q : QueryParts) (addr : List ℕ) : Type 0 where
  pub well_formed : WellFormed q
  pub version : q.root.version ≡ 1
  pub root_bytes : List ℕ
  pub root : CidBytes q.root root_bytes
  pub names : All (λ name. All (λ b. b < 256) name) q.path
  pub addr_is : IsAddr addr
  pub fits : length (request_text q addr) ≤ 16384

-- a head that asks for the query, by GET, once and without a body
pub record Asks (q : QueryParts) (size : ℕ) (head : RequestHead) : Type 0 where
  pub used : head.used ≡ size
  pub method : head.method ≡ codes "GET"
  pub minor : head.minor ≡ 1
  pub close : head.close ≡ true
  pub framed : IsFalse head.framed
  pub asked : asked_by head.target head.accept ≡ Ok q

-- the bytes are one head and nothing else, and all that is told of it asks for the query
pub record IsOneHead (q : QueryParts) (bytes : List ℕ) : Type 0 where
  pub tree : RequestTree
  pub whole : IsRequest bytes bytes tree
  pub told : (head : RequestHead) → TellsRequest tree (length bytes) head → Asks q (length bytes) head
