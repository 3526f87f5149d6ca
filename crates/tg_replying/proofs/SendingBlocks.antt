-- What may be sent for a head that asks for a raw block.
use Rattle.std.proofs.Common.{Err, List, None, Ok, Option, Some, [], false, inl, inr, refl, subst, sym, ℕ, ◌≡◌}
use Rattle.tg_answering.specs.StoredRoots.{StoredBlocks}
use Rattle.tg_cid.specs.Cid.{CidParts}
use Rattle.tg_cid.specs.declared.cid.HashKind.{HashKind}
use Rattle.tg_cid.specs.declared.cid.HashKind.TheVariants.{Identity, Sha256}
use Rattle.tg_http.specs.declared.request.RequestHead.{RequestHead}
use Rattle.tg_model.specs.Queries.{QueryParts}
use Rattle.tg_model.specs.Stores.{IsCauseOf, Lookups, LookupsQuiet, Store}
use Rattle.tg_model.specs.declared.queries.Form.TheVariants as forms
use Rattle.tg_model.specs.declared.stores.BlocksFault.{BlocksFault}
use Rattle.tg_model.specs.declared.stores.BlocksFault.TheVariants as store_faults
use Rattle.tg_reply.specs.Asked.{asked}
use Rattle.tg_reply.specs.Replies.{Reply, raw_reply, refused_request}
use Rattle.tg_reply.specs.declared.refusal.Refusal.{Refusal}
use Rattle.tg_reply.specs.declared.refusal.Refusal.TheVariants as refusals
use Rattle.tg_replying.proofs.Sending.{MaySend, block_refused, may_send_quiet, store_refused}
use Rattle.tg_replying.specs.Bodies.{BrokeOver}
use Rattle.tg_replying.specs.Replying.{FindsOr, IsRefusedOver, ask_fault_of_store, is_of_store_refusal}
use Rattle.tg_reply.specs.Sent.{SentFor, exact, quiet}
use Rattle.tg_reply.specs.Shapes.{SentOver, raw_block}
use Rattle.tg_walk.specs.Walks.{IsBlockOf}

-- the head asks for the raw block of the query
pub record AsksRaw (head : RequestHead) (q : QueryParts) : Type 0 where
  pub asked_is : asked head ≡ Ok q
  pub raw : q.form ≡ forms.Raw
  pub pathless : q.path ≡ []

block_over : (told : Option Store) (head : RequestHead) (q : QueryParts) (block : List ℕ) (before : ℕ) → StoredBlocks
    → AsksRaw head q
    → IsBlockOf told q.root (Some block) → SentOver told head (quiet (raw_reply head q block) before)
block_over (Some store) head q block before law asks is =
    subst (λ (r : Reply). SentFor store head (quiet r before))
    ((law store head q asks.raw asks.pathless asks.asked_is).0 block (sym is.stored)) (exact before)
block_over None head q block before law asks is = raw_block q block before asks.asked_is asks.raw is.named

-- the block
pub block_sent : (told : Option Store) (head : RequestHead) (lookups : Lookups) (q : QueryParts) (block : List ℕ)
    → StoredBlocks → AsksRaw head q
    → IsBlockOf told q.root (Some block) → LookupsQuiet lookups
    → MaySend (SentOver told) head lookups (raw_reply head q block) false
block_sent told head lookups q block law asks is still =
    may_send_quiet (SentOver told) head lookups (raw_reply head q block) still
    (block_over told head q block lookups.faults_old law asks is)

-- an identity CID has a block
not_identity : (kind : HashKind) (digest : List ℕ) → (kind ≡ Identity → None ≡ Some digest) → kind ≡ Sha256
not_identity Sha256 digest has = refl
not_identity Identity digest has =
    let e : None ≡ Some digest = has refl in
    absurd (cc)

none_over : (told : Option Store) (q : QueryParts) → StoredBlocks → q.form ≡ forms.Raw → q.path ≡ []
    → IsBlockOf told q.root None
    → (q.root.hash ≡ Identity → None ≡ Some q.root.digest) → IsRefusedOver q told refusals.NoRoot
none_over (Some store) q law raw pathless is has = λ head asks. (law store head q raw pathless asks).1 (sym is.stored)
none_over None q law raw pathless is has = not_identity q.root.hash q.root.digest has

-- or the refusal where there is none
pub none_sent : (told : Option Store) (head : RequestHead) (lookups : Lookups) (q : QueryParts) → StoredBlocks
    → AsksRaw head q
    → IsBlockOf told q.root None → (q.root.hash ≡ Identity → None ≡ Some q.root.digest) → LookupsQuiet lookups
    → MaySend (SentOver told) head lookups (refused_request head refusals.NoRoot) false
none_sent told head lookups q law asks is has still =
    block_refused told head lookups q refusals.NoRoot asks.asked_is
    (none_over told q law asks.raw asks.pathless is has) still

changed_over : (told : Option Store) (cid : CidParts) (want got : List ℕ) (lookups : Lookups)
    → IsCauseOf told cid lookups.faults_old lookups.faults_new (store_faults.Changed want got) → BrokeOver told lookups
changed_over (Some store) cid want got lookups cause =
    let e : Some store ≡ None = cause.0 in
    absurd (cc)
changed_over None cid want got lookups cause = inr cause.2

failed_over : (told : Option Store) (cid : CidParts) (lookups : Lookups)
    → IsCauseOf told cid lookups.faults_old lookups.faults_new store_faults.Failed
    → BrokeOver told lookups
failed_over (Some store) cid lookups cause = cause
failed_over None cid lookups cause = inl cause

-- a fault of the store comes as it came
pub fault_over : (told : Option Store) (cid : CidParts) (lookups : Lookups) (fault : BlocksFault)
    → IsCauseOf told cid lookups.faults_old lookups.faults_new fault
    → (cid.hash ≡ Identity → fault ≡ store_faults.OutOfMemory) → FindsOr cid told lookups (Err (ask_fault_of_store fault))
fault_over told cid lookups (store_faults.Changed want got) cause own =
    (refl, λ is. (let e = own is in cc), changed_over told cid want got lookups cause)
fault_over told cid lookups store_faults.Failed cause own =
    (refl, λ is. (let e = own is in cc), failed_over told cid lookups cause)
fault_over told cid lookups store_faults.OutOfMemory cause own = cause

-- or where the store broke off
pub break_sent : (told : Option Store) (head : RequestHead) (lookups : Lookups) (q : QueryParts) (refusal : Refusal)
    → asked head ≡ Ok q → refusal ≡ refusals.Store → BrokeOver told lookups
    → MaySend (SentOver told) head lookups (refused_request head refusal) (is_of_store_refusal refusal)
break_sent told head lookups q refusal asks is broke =
    subst (λ (refusal : Refusal). MaySend (SentOver told) head lookups (refused_request head refusal)
    (is_of_store_refusal refusal)) (sym is) (store_refused told head lookups q asks broke)
