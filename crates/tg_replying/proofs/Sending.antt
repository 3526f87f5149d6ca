-- What may be sent for a head, with the store's counts.
use Rattle.std.proofs.Common.{Bool, Err, None, Ok, Option, Some, [], ap, false, inr, refl, subst, sym, true, ℕ, ◌∙◌}
use Rattle.std.proofs.Common.{◌≡◌, ◌||◌}
use Rattle.std.specs.Prelude.{Result, if◌then◌else◌}
use Rattle.tg_http.specs.declared.request.RequestHead.{RequestHead}
use Rattle.tg_model.specs.Queries.{QueryParts}
use Rattle.tg_model.specs.Stores.{Lookups, LookupsQuiet, Store}
use Rattle.tg_query.specs.declared.fault.QueryFault.{QueryFault}
use Rattle.tg_query.specs.Laws.{asked_by}
use Rattle.tg_reply.specs.Asked.{asked, is_get, is_head, or_refusal}
use Rattle.tg_reply.specs.Replies.{Reply, refused_request, reply, reply_to}
use Rattle.tg_reply.specs.declared.refusal.Refusal.{Refusal}
use Rattle.tg_reply.specs.declared.refusal.Refusal.TheVariants as refusals
use Rattle.tg_reply_writing.specs.declared.asking.AskFault.TheVariants as asks
use Rattle.tg_replying.specs.Bodies.{BrokeOver, Gives, Giving}
use Rattle.tg_replying.specs.Replying.{GivesReply, IsRefusedOver, IsToldFailed, LeadsOr, WrittenEnds}
use Rattle.tg_replying.specs.Replying.{is_of_store_refusal}
use Rattle.tg_replying.specs.declared.fault.ReplyFault.{ReplyFault}
use Rattle.tg_replying.specs.declared.fault.ReplyFault.TheVariants as faults
use Rattle.tg_replying.specs.declared.reply.Replied.{Replied}
use Rattle.tg_reply.specs.Sent.{Answering, Course, Sent, SentFor, as_stored, before_head, broken_before, exact}
use Rattle.tg_reply.specs.Sent.{is_broken, quiet}
use Rattle.tg_reply.specs.Shapes.{SentOver, ShapedFor, broken_path, refused_ask, refused_path}

-- ---- a reply that is known

-- what is sent by its parts
abbrev pub made : Reply → Course → ℕ → ℕ → Sent
made reply course before now = record { reply = reply; course = course; faults_before = before; faults_now = now }

-- the reply may be sent for the head with these counts
pub record MaySend (For : Answering) (head : RequestHead) (lookups : Lookups) (reply : Reply)
    (failed : Bool) : Type 0 where
  pub course : Course
  pub is_sent : For head (made reply course lookups.faults_old lookups.faults_new)
  pub fails : is_broken course ≡ failed

-- where all was given and no fault was counted
pub may_send_quiet : (For : Answering) (head : RequestHead) (lookups : Lookups) (reply : Reply) → LookupsQuiet lookups
    → For head (quiet reply lookups.faults_old) → MaySend For head lookups reply false
may_send_quiet For head lookups reply still is = record {
  course = as_stored;
  is_sent = subst (λ (now : ℕ). For head (made reply as_stored lookups.faults_old now)) (sym still) is;
  fails = refl;
}

-- it is given, whole or in part
pub known_ends : (For : Answering) (head : RequestHead) (lookups : Lookups) (giving : Giving) (reply : Reply)
    (failed : Bool) (result : Result Replied ReplyFault)
    → MaySend For head lookups reply failed → GivesReply reply giving result → IsToldFailed failed result
    → WrittenEnds For head lookups giving result
known_ends For head lookups giving reply failed (Ok replied) may gives told = record {
  sent = made reply may.course lookups.faults_old lookups.faults_new;
  is_sent = may.is_sent;
  counts = record { before = refl; now = refl };
  told = record { closes = gives.1; broken = gives.2; failed = told ∙ sym may.fails };
  is_done = gives.0;
}
known_ends For head lookups giving reply failed (Err faults.SinkFault) may gives told = record {
  sent = made reply may.course lookups.faults_old lookups.faults_new;
  is_sent = may.is_sent;
  is_done = gives;
}
known_ends For head lookups giving reply failed (Err faults.OutOfMemory) may gives told = record {
  sent = made reply may.course lookups.faults_old lookups.faults_new;
  is_sent = may.is_sent;
  is_done = gives;
}

-- ---- counts since an earlier moment

-- behind look-ups that counted no fault
pub ends_since : (For : Answering) (head : RequestHead) (early late : Lookups) (giving : Giving)
    (result : Result Replied ReplyFault)
    → late.faults_old ≡ early.faults_old → late.faults_new ≡ early.faults_new
    → WrittenEnds For head late giving result → WrittenEnds For head early giving result
ends_since For head early late giving (Ok replied) old new h = record {
  sent = h.sent;
  is_sent = h.is_sent;
  counts = record { before = h.counts.before ∙ old; now = h.counts.now ∙ new };
  told = h.told;
  is_done = h.is_done;
}
ends_since For head early late giving (Err faults.SinkFault) old new h = h
ends_since For head early late giving (Err faults.OutOfMemory) old new h = h

-- ---- any reply

-- whatever is told, some reply may be sent for a head
pub record HasSent (For : Answering) (head : RequestHead) : Type 0 where
  pub sent : Sent
  pub is_sent : For head sent

shaped_for : (head : RequestHead) (ask : Result QueryParts Refusal) → asked head ≡ ask → HasSent ShapedFor head
shaped_for head (Ok q) is = record {
  sent = made (refused_request head refusals.Store) broken_before 0 0;
  is_sent = broken_path q 0 0 is (inr refl);
}
shaped_for head (Err refusal) is =
    record { sent = quiet (refused_request head refusal) 0; is_sent = refused_ask refusal 0 is }

has_sent : (told : Option Store) (head : RequestHead) → HasSent (SentOver told) head
has_sent (Some store) head = record { sent = quiet (reply store head) 0; is_sent = exact 0 }
has_sent None head = shaped_for head (asked head) refl

-- memory was wanted before anything was given
pub nothing_given : (told : Option Store) (head : RequestHead) (lookups : Lookups) (giving : Giving) → Gives giving []
    → WrittenEnds (SentOver told) head lookups giving (Err faults.OutOfMemory)
nothing_given told head lookups giving gives =
    let has = has_sent told head in
    record { sent = has.sent; is_sent = has.is_sent; is_done = (0, gives) }

-- ---- refusals

as_no_store : (r s : Refusal) → r ≡ s → is_of_store_refusal r ≡ false → is_of_store_refusal s ≡ false
as_no_store r s e same = sym (ap is_of_store_refusal e) ∙ same

-- what a head asks is never refused as the store's fault
refused_not_store : (framed served : Bool) (ask : Result QueryParts QueryFault) (refusal : Refusal)
    → (if framed then Err refusals.BadFraming else (if served then or_refusal ask else Err refusals.BadMethod))
    ≡ Err refusal
    → is_of_store_refusal refusal ≡ false
refused_not_store true served ask refusal e = as_no_store refusals.BadFraming refusal (cc) refl
refused_not_store false false ask refusal e = as_no_store refusals.BadMethod refusal (cc) refl
refused_not_store false true (Ok q) refusal e = absurd (cc)
refused_not_store false true (Err fault) refusal e = as_no_store (refusals.Query fault) refusal (cc) refl

ask_over : (told : Option Store) (head : RequestHead) (refusal : Refusal) (before : ℕ) → asked head ≡ Err refusal
    → SentOver told head (quiet (refused_request head refusal) before)
ask_over (Some store) head refusal before is =
    subst (λ (r : Reply). SentFor store head (quiet r before)) (ap (reply_to store head) is) (exact before)
ask_over None head refusal before is = refused_ask refusal before is

-- of what a head asks
pub ask_refused : (told : Option Store) (head : RequestHead) (lookups : Lookups) (refusal : Refusal)
    → asked head ≡ Err refusal → LookupsQuiet lookups
    → MaySend (SentOver told) head lookups (refused_request head refusal) (is_of_store_refusal refusal)
ask_refused told head lookups refusal is still =
    subst (MaySend (SentOver told) head lookups (refused_request head refusal))
    (sym (refused_not_store head.framed (is_get head.method || is_head head.method)
    (asked_by head.target head.accept) refusal is))
    (may_send_quiet (SentOver told) head lookups (refused_request head refusal) still
    (ask_over told head refusal lookups.faults_old is))

-- the store broke off
pub store_refused : (told : Option Store) (head : RequestHead) (lookups : Lookups) (q : QueryParts)
    → asked head ≡ Ok q → BrokeOver told lookups
    → MaySend (SentOver told) head lookups (refused_request head refusals.Store) true
store_refused (Some store) head lookups q is broke =
    let sent = before_head q lookups.faults_old lookups.faults_new is broke in
    record { course = broken_before; is_sent = sent; fails = refl }
store_refused None head lookups q is broke =
    let sent = broken_path q lookups.faults_old lookups.faults_new is broke in
    record { course = broken_before; is_sent = sent; fails = refl }

refused_over : (told : Option Store) (head : RequestHead) (q : QueryParts) (refusal : Refusal) (before : ℕ)
    → asked head ≡ Ok q → IsRefusedOver q told refusal
    → SentOver told head (quiet (refused_request head refusal) before)
refused_over (Some store) head q refusal before is refused =
    subst (λ (r : Reply). SentFor store head (quiet r before)) (refused head is) (exact before)
refused_over None head q refusal before is refused = refused_path q refusal before is refused

-- a block isn't stored or can't be read
pub block_refused : (told : Option Store) (head : RequestHead) (lookups : Lookups) (q : QueryParts)
    (refusal : Refusal) → asked head ≡ Ok q → IsRefusedOver q told refusal
    → LookupsQuiet lookups → MaySend (SentOver told) head lookups (refused_request head refusal) false
block_refused told head lookups q refusal is refused still =
    may_send_quiet (SentOver told) head lookups (refused_request head refusal) still
    (refused_over told head q refusal lookups.faults_old is refused)

-- of a path
pub path_refused : (told : Option Store) (head : RequestHead) (lookups : Lookups) (q : QueryParts)
    (refusal : Refusal) → asked head ≡ Ok q
    → LeadsOr q told lookups (Err (asks.Refused refusal))
    → MaySend (SentOver told) head lookups (refused_request head refusal) (is_of_store_refusal refusal)
path_refused told head lookups q refusals.Store is leads = store_refused told head lookups q is leads
path_refused told head lookups q refusals.NoRoot is leads =
    block_refused told head lookups q refusals.NoRoot is leads.0 leads.1
path_refused told head lookups q refusals.Gone is leads =
    block_refused told head lookups q refusals.Gone is leads.0 leads.1
path_refused told head lookups q refusals.BadBlock is leads =
    block_refused told head lookups q refusals.BadBlock is leads.0 leads.1
path_refused told head lookups q refusals.HeadLimit is leads =
    block_refused told head lookups q refusals.HeadLimit is leads.0 leads.1
path_refused told head lookups q refusals.BadHead is leads =
    block_refused told head lookups q refusals.BadHead is leads.0 leads.1
path_refused told head lookups q refusals.BadFraming is leads =
    block_refused told head lookups q refusals.BadFraming is leads.0 leads.1
path_refused told head lookups q refusals.BadMethod is leads =
    block_refused told head lookups q refusals.BadMethod is leads.0 leads.1
path_refused told head lookups q (refusals.Query fault) is leads =
    block_refused told head lookups q (refusals.Query fault) is leads.0 leads.1
