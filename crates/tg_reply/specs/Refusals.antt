-- The statuses of refusals, and the words of their bodies (Path Gateway and Trustless Gateway specifications, response
-- status codes; the words are this project's own).
use Rattle.std.specs.Prelude.{Bool, List, codes, false, true, ℕ}
use Rattle.tg_query.specs.declared.fault.QueryFault.{QueryFault}
use Rattle.tg_query.specs.declared.fault.QueryFault.TheVariants as faults
use Rattle.tg_reply.specs.declared.refusal.Refusal.{Refusal}
use Rattle.tg_reply.specs.declared.refusal.Refusal.TheVariants.{BadBlock, BadFraming, BadHead, BadMethod, Gone}
use Rattle.tg_reply.specs.declared.refusal.Refusal.TheVariants.{HeadLimit, NoRoot, Query, Store}
use Rattle.tg_reply.specs.declared.status.Status.{Status}
use Rattle.tg_reply.specs.declared.status.Status.TheVariants as statuses

-- parameters of a CAR that aren't served are not acceptable, all else of a query is a bad request; want of memory is no
-- fault of a request
abbrev pub query_status : QueryFault → Status
query_status faults.BadPath = statuses.BadRequest
query_status (faults.BadCid fault) = statuses.BadRequest
query_status faults.NoFormat = statuses.BadRequest
query_status faults.BadFormat = statuses.BadRequest
query_status faults.BadScope = statuses.BadRequest
query_status faults.BadRange = statuses.BadRequest
query_status faults.Doubled = statuses.BadRequest
query_status faults.BadParam = statuses.NotAcceptable
query_status faults.RawPath = statuses.BadRequest
query_status faults.OutOfMemory = statuses.ServerError

abbrev pub status_of : Refusal → Status
status_of HeadLimit = statuses.FieldsTooLarge
status_of BadHead = statuses.BadRequest
status_of BadFraming = statuses.BadRequest
status_of BadMethod = statuses.MethodNotAllowed
status_of (Query fault) = query_status fault
status_of NoRoot = statuses.NotFound
status_of Store = statuses.ServerError
status_of Gone = statuses.ServerError
status_of BadBlock = statuses.ServerError

-- the word of a refusal
abbrev pub query_word : QueryFault → List ℕ
query_word faults.BadPath = codes "BadPath"
query_word (faults.BadCid fault) = codes "BadCid"
query_word faults.NoFormat = codes "NoFormat"
query_word faults.BadFormat = codes "BadFormat"
query_word faults.BadScope = codes "BadScope"
query_word faults.BadRange = codes "BadRange"
query_word faults.Doubled = codes "Doubled"
query_word faults.BadParam = codes "BadParam"
query_word faults.RawPath = codes "RawPath"
query_word faults.OutOfMemory = codes "OutOfMemory"

abbrev pub word_of : Refusal → List ℕ
word_of HeadLimit = codes "HeadLimit"
word_of BadHead = codes "BadHead"
word_of BadFraming = codes "BadFraming"
word_of BadMethod = codes "BadMethod"
word_of (Query fault) = query_word fault
word_of NoRoot = codes "NoRoot"
word_of Store = codes "Store"
word_of Gone = codes "Gone"
word_of BadBlock = codes "BadBlock"

-- where a head ends, or a body begins, isn't known: the connection closes (RFC 9112, section 9.6)
abbrev pub ends_connection : Refusal → Bool
ends_connection HeadLimit = true
ends_connection BadHead = true
ends_connection BadFraming = true
ends_connection BadMethod = false
ends_connection (Query fault) = false
ends_connection NoRoot = false
ends_connection Store = false
ends_connection Gone = false
ends_connection BadBlock = false
