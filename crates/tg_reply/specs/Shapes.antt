-- What is sent over a store that tells nothing: the shape of a reply, its blocks named by their CIDs.
use Rattle.std.specs.Prelude.{All, Bool, Err, List, None, Ok, Option, Some, [], false, length, true, ℕ, ◌≡◌, ◌≢◌, ◌⊎◌}
use Rattle.tg_cid.specs.declared.cid.HashKind.TheVariants as hashes
use Rattle.tg_faults.specs.Faults.{Rose}
use Rattle.tg_http.specs.declared.request.RequestHead.{RequestHead}
use Rattle.tg_model.specs.Dag.{Section}
use Rattle.tg_model.specs.Queries.{QueryParts}
use Rattle.tg_model.specs.Stores.{IsNamedBlock, Store}
use Rattle.tg_model.specs.Traversal.{is_asked}
use Rattle.tg_model.specs.declared.queries.Form.TheVariants as forms
use Rattle.tg_reply.specs.Asked.{asked, is_head}
use Rattle.tg_reply.specs.Replies.{car_reply, raw_reply, refused_request}
use Rattle.tg_reply.specs.declared.refusal.Refusal.{Refusal}
use Rattle.tg_reply.specs.declared.refusal.Refusal.TheVariants as refusals
use Rattle.tg_reply.specs.Sent.{Answering, Sent, SentBy, SentFor, broken_before, broken_behind, quiet}

-- the refusals that come of what is stored: that the root isn't, whose CID is then no identity CID; and of a path that a block
-- of it isn't stored or can't be read
abbrev pub IsOfPath : QueryParts → Refusal → Type 0
IsOfPath q refusals.NoRoot = q.root.hash ≡ hashes.Sha256
IsOfPath q refusals.Gone = q.path ≢ []
IsOfPath q refusals.BadBlock = q.path ≢ []
IsOfPath q refusals.Store = ⊥
IsOfPath q refusals.HeadLimit = ⊥
IsOfPath q refusals.BadHead = ⊥
IsOfPath q refusals.BadFraming = ⊥
IsOfPath q refusals.BadMethod = ⊥
IsOfPath q (refusals.Query fault) = ⊥

-- the block is asked for, and named by its CID
abbrev pub IsGood : QueryParts → Section → Type 0
IsGood q section = (is_asked q section.cid ≡ true) × IsNamedBlock section.cid (Some section.block)

-- the store failed and counted it, or a stored block had changed, which isn't counted
abbrev pub HasBroken : ℕ → ℕ → Type 0
HasBroken before now = Rose before now ⊎ (now ≡ before)

-- What is sent for a head: the refusal of what it asks; that of a path; a raw block or a CAR of blocks that their CIDs
-- name; or, where the store broke off, the refusal `Store`, or such a CAR that is cut.
pub data ShapedFor (head : RequestHead) : Sent → Type 0 where
  refused_ask : (refusal : Refusal) (before : ℕ) → asked head ≡ Err refusal
      → ShapedFor head (quiet (refused_request head refusal) before)
  refused_path : (q : QueryParts) (refusal : Refusal) (before : ℕ) → asked head ≡ Ok q → IsOfPath q refusal
      → ShapedFor head (quiet (refused_request head refusal) before)
  raw_block : (q : QueryParts) (block : List ℕ) (before : ℕ) → asked head ≡ Ok q → q.form ≡ forms.Raw
      → IsNamedBlock q.root (Some block) → ShapedFor head (quiet (raw_reply head q block) before)
  car_of : (q : QueryParts) (found cut : Bool) (sections : List Section) (before : ℕ) → asked head ≡ Ok q
      → q.form ≡ forms.Car → (found ≡ false → q.path ≢ []) → All (IsGood q) sections → ShapedFor head (quiet (car_reply head found q sections cut) before)
  broken_path : (q : QueryParts) (before now : ℕ) → asked head ≡ Ok q → HasBroken before now
      → ShapedFor head (record { reply = refused_request head refusals.Store; course = broken_before; faults_before = before; faults_now = now })
  broken_car : (q : QueryParts) (found : Bool) (sections : List Section) (before now : ℕ) → asked head ≡ Ok q
      → q.form ≡ forms.Car → is_head head.method ≡ false → (found ≡ false → q.path ≢ []) → All (IsGood q) sections → HasBroken before now
      → ShapedFor head (record { reply = car_reply head found q sections true; course = broken_behind (length sections); faults_before = before; faults_now = now })

-- ---- a store that is told or not

-- what is sent for a head over a store: over one that tells its blocks, and over one that tells nothing
abbrev pub SentOver : Option Store → Answering
SentOver (Some store) = SentFor store
SentOver None = ShapedFor

-- ---- one request after another

abbrev pub ShapedAll : List ℕ → List Sent → List ℕ → Type 0
ShapedAll = SentBy ShapedFor
