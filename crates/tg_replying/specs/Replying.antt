-- How the reply to one request ends that is put over a store (RFC 9112, section 9.3).
use Rattle.std.specs.Prelude.{Bool, Err, List, None, Ok, Option, Result, Some, [], false, if◌then◌else◌, take, true, ℕ, ⊤, ◌≡◌, ◌≢◌}
use Rattle.tg_cid.specs.Cid.{CidParts}
use Rattle.tg_cid.specs.declared.cid.HashKind.TheVariants.{Identity}
use Rattle.tg_http.specs.declared.request.RequestHead.{RequestHead}
use Rattle.tg_model.specs.PathWalk.{path_walk}
use Rattle.tg_model.specs.Queries.{QueryParts}
use Rattle.tg_model.specs.StoreView.{store_view}
use Rattle.tg_model.specs.Stores.{Lookups, LookupsQuiet, Store}
use Rattle.tg_model.specs.declared.stores.BlocksFault.{BlocksFault}
use Rattle.tg_model.specs.declared.stores.BlocksFault.TheVariants as store_faults
use Rattle.tg_reply.specs.Asked.{asked}
use Rattle.tg_reply.specs.Replies.{Reply, refused_request, reply, reply_bytes}
use Rattle.tg_reply.specs.declared.refusal.Refusal.{Refusal}
use Rattle.tg_reply.specs.declared.refusal.Refusal.TheVariants as refusals
use Rattle.tg_reply_writing.specs.declared.asking.AskFault.{AskFault}
use Rattle.tg_reply_writing.specs.declared.asking.AskFault.TheVariants as asks
use Rattle.tg_replying.specs.Bodies.{BrokeOver, FailsIn, Gives, Giving}
use Rattle.tg_replying.specs.declared.fault.ReplyFault.{ReplyFault}
use Rattle.tg_replying.specs.declared.fault.ReplyFault.TheVariants as faults
use Rattle.tg_replying.specs.declared.reply.Replied.{Replied}
use Rattle.tg_reply.specs.Sent.{Answering, Sent, SendsSections, is_broken, is_found, is_server_error}
use Rattle.tg_reply.specs.Shapes.{IsOfPath}
use Rattle.tg_streams.specs.Streams.{Output, OutputQuiet, Put, PutFront}
use Rattle.tg_walk.specs.Walks.{IsBlockOf}

-- a reply of status 500, or whose body was cut
abbrev pub is_broken_reply : Reply → Bool
is_broken_reply reply = if is_server_error reply.status then true else reply.cut

-- what is told of a reply that was sent
pub record TellsOf (sent : Sent) (replied : Replied) : Type 0 where
  pub closes : replied.closes ≡ sent.reply.closes
  pub broken : replied.broken ≡ is_broken_reply sent.reply
  pub failed : replied.failed ≡ is_broken sent.course

-- the store's count before and behind the reply
pub record HasCounts (lookups : Lookups) (sent : Sent) : Type 0 where
  pub before : sent.faults_before ≡ lookups.faults_old
  pub now : sent.faults_now ≡ lookups.faults_new

-- a reply is sent for the head that is told so, and with its bytes this was done
pub record HasReply (For : Answering) (head : RequestHead) (lookups : Lookups) (replied : Replied) (done : List ℕ → Type 0) : Type 0 where
  pub sent : Sent
  pub is_sent : For head sent
  pub counts : HasCounts lookups sent
  pub told : TellsOf sent replied
  pub is_done : done (reply_bytes sent.reply)

-- with the bytes of a reply that may be sent for the head this was done
pub record HasSome (For : Answering) (head : RequestHead) (done : List ℕ → Type 0) : Type 0 where
  pub sent : Sent
  pub is_sent : For head sent
  pub is_done : done (reply_bytes sent.reply)

-- how a reply ends that is given: it was given whole; or out failed in a front of it; or memory was wanted behind one
abbrev pub WrittenEnds : Answering → RequestHead → Lookups → Giving → Result Replied ReplyFault → Type 0
WrittenEnds For head lookups giving (Ok replied) = HasReply For head lookups replied (Gives giving)
WrittenEnds For head lookups giving (Err faults.SinkFault) = HasSome For head (FailsIn giving)
WrittenEnds For head lookups giving (Err faults.OutOfMemory) =
    HasSome For head (λ bytes. (count : ℕ) × Gives giving (take count bytes))

-- the bytes were put, and no fault of out was counted
pub record PutQuiet (out : Output) (bytes : List ℕ) : Type 0 where
  pub put : Put bytes out
  pub quiet : OutputQuiet out

-- how a reply ends that is put: it was put whole; or out failed in a front of it; or memory was wanted behind one
abbrev pub ReplyEnds : Answering → RequestHead → Lookups → Output → Result Replied ReplyFault → Type 0
ReplyEnds For head lookups out (Ok replied) = HasReply For head lookups replied (PutQuiet out)
ReplyEnds For head lookups out (Err faults.SinkFault) = HasSome For head (λ bytes. PutFront bytes out)
ReplyEnds For head lookups out (Err faults.OutOfMemory) =
    HasSome For head (λ bytes. (count : ℕ) × PutQuiet out (take count bytes))

-- ---- one reply that is known

-- it was given whole, and is told so; or out failed in a front of it; or memory was wanted behind one
abbrev pub GivesReply : Reply → Giving → Result Replied ReplyFault → Type 0
GivesReply reply giving (Ok replied) =
    Gives giving (reply_bytes reply) × (replied.closes ≡ reply.closes) × (replied.broken ≡ is_broken_reply reply)
GivesReply reply giving (Err faults.SinkFault) = FailsIn giving (reply_bytes reply)
GivesReply reply giving (Err faults.OutOfMemory) = (count : ℕ) × Gives giving (take count (reply_bytes reply))

-- whether the store broke it off, as it is told
abbrev pub IsToldFailed : Bool → Result Replied ReplyFault → Type 0
IsToldFailed failed (Ok replied) = replied.failed ≡ failed
IsToldFailed failed (Err fault) = ⊤

abbrev pub is_of_store_refusal : Refusal → Bool
is_of_store_refusal refusals.Store = true
is_of_store_refusal refusals.NoRoot = false
is_of_store_refusal refusals.Gone = false
is_of_store_refusal refusals.BadBlock = false
is_of_store_refusal refusals.HeadLimit = false
is_of_store_refusal refusals.BadHead = false
is_of_store_refusal refusals.BadFraming = false
is_of_store_refusal refusals.BadMethod = false
is_of_store_refusal (refusals.Query fault) = false

-- and the same of one that is put
abbrev pub PutEnds : Reply → Output → Result ⊤ ReplyFault → Type 0
PutEnds reply out (Ok done) = PutQuiet out (reply_bytes reply)
PutEnds reply out (Err faults.SinkFault) = PutFront (reply_bytes reply) out
PutEnds reply out (Err faults.OutOfMemory) = (count : ℕ) × PutQuiet out (take count (reply_bytes reply))

-- ---- where a path leads

-- to a terminal, or nowhere, which its blocks show
pub record LedIn (store : Store) (q : QueryParts) (found : Bool) : Type 0 where
  pub found_is : is_found (path_walk q.path (store_view store q.root)).end ≡ found
  pub sends : SendsSections (path_walk q.path (store_view store q.root)).end

-- a path without a segment leads to the root, whatever the store is
abbrev pub IsLed : QueryParts → Option Store → Bool → Type 0
IsLed q (Some store) found = LedIn store q found
IsLed q None found = found ≡ false → q.path ≢ []

-- the reply to each head that asks for the query is this refusal
abbrev pub IsRefusedOver : QueryParts → Option Store → Refusal → Type 0
IsRefusedOver q (Some store) refusal = (head : RequestHead) → asked head ≡ Ok q → reply store head ≡ refused_request head refusal
IsRefusedOver q None refusal = IsOfPath q refusal

-- a path leads to a terminal or nowhere; or it is refused; or the store broke off; or memory was wanted, and it broke off nowhere
abbrev pub LeadsOr : QueryParts → Option Store → Lookups → Result Bool AskFault → Type 0
LeadsOr q told lookups (Ok found) = IsLed q told found × LookupsQuiet lookups
LeadsOr q told lookups (Err (asks.Refused refusals.Store)) = BrokeOver told lookups
LeadsOr q told lookups (Err (asks.Refused refusal)) = IsRefusedOver q told refusal × LookupsQuiet lookups
LeadsOr q told lookups (Err asks.OutOfMemory) = LookupsQuiet lookups

-- ---- what a CID leads to

-- a block in the store, or none, as far as it is told; and of an identity CID its digest
pub record FindsBlock (cid : CidParts) (told : Option Store) (found : Option (List ℕ)) : Type 0 where
  pub block : IsBlockOf told cid found
  pub identity : cid.hash ≡ Identity → found ≡ Some cid.digest

-- a CID leads to a block, or to none; or the store broke off, which is the only refusal, and comes of no identity CID; or
-- memory was wanted, and no fault of the store was counted
abbrev pub FindsOr : CidParts → Option Store → Lookups → Result (Option (List ℕ)) AskFault → Type 0
FindsOr cid told lookups (Ok found) = FindsBlock cid told found × LookupsQuiet lookups
FindsOr cid told lookups (Err (asks.Refused refusal)) =
    (refusal ≡ refusals.Store) × (cid.hash ≢ Identity) × BrokeOver told lookups
FindsOr cid told lookups (Err asks.OutOfMemory) = LookupsQuiet lookups

-- a fault of the store; its want of memory is the reply's
abbrev pub ask_fault_of_store : BlocksFault → AskFault
ask_fault_of_store (store_faults.Changed want got) = asks.Refused refusals.Store
ask_fault_of_store store_faults.Failed = asks.Refused refusals.Store
ask_fault_of_store store_faults.OutOfMemory = asks.OutOfMemory
