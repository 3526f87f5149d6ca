-- What the head of a request asks: a query, or its refusal, the first in the order of checks (RFC 9112, section 6; RFC
-- 9110, section 9; Path Gateway and Trustless Gateway specifications).
use Rattle.std.specs.Prelude.{Bool, Err, List, Ok, Result, bytes_eq, codes, if◌then◌else◌, ℕ, ◌||◌}
use Rattle.tg_http.specs.declared.request.RequestHead.{RequestHead}
use Rattle.tg_model.specs.Queries.{QueryParts}
use Rattle.tg_query.specs.declared.fault.QueryFault.{QueryFault}
use Rattle.tg_query.specs.Laws.{asked_by}
use Rattle.tg_reply.specs.declared.refusal.Refusal.{Refusal}
use Rattle.tg_reply.specs.declared.refusal.Refusal.TheVariants.{BadFraming, BadMethod, Query}

-- the methods GET and HEAD, which are compared with regard to case
abbrev pub is_get : List ℕ → Bool
is_get method = bytes_eq method (codes "GET")

abbrev pub is_head : List ℕ → Bool
is_head method = bytes_eq method (codes "HEAD")

-- a fault of a query as a refusal
abbrev pub or_refusal : Result QueryParts QueryFault → Result QueryParts Refusal
or_refusal (Ok q) = Ok q
or_refusal (Err fault) = Err (Query fault)

-- no body may be announced, the method is GET or HEAD, and the target and `Accept` ask for a query together
abbrev pub asked : RequestHead → Result QueryParts Refusal
asked head =
    if head.framed then Err BadFraming
    else (if is_get head.method || is_head head.method then or_refusal (asked_by head.target head.accept) else Err BadMethod)
