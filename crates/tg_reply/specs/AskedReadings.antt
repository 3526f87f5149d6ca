-- What a reader makes of the replies to GET for what is asked, over a store of bytes.
use Rattle.std.specs.Prelude.{All, List, Ok, Some, [], codes, false, if◌then◌else◌, length, ℕ, ◌<◌, ◌==◌, ◌≡◌, ◌≤◌}
use Rattle.tg_bytes.specs.Lists.{joined}
use Rattle.tg_cid.specs.Cid.{CidParts}
use Rattle.tg_cid.specs.Spelling.{CidBytes}
use Rattle.tg_http.specs.declared.framing.Framing.{Framing}
use Rattle.tg_http.specs.declared.framing.Framing.TheVariants.{Chunked, Length, UntilClose}
use Rattle.tg_http.specs.declared.request.RequestHead.{RequestHead}
use Rattle.tg_model.specs.Answer.{block_of}
use Rattle.tg_model.specs.Dag.{Dag, Section}
use Rattle.tg_model.specs.PathWalk.{PathEnd, Stop, bad_block, gone, not_folder, not_reached, not_there, path_walk, terminal}
use Rattle.tg_model.specs.Queries.{QueryParts}
use Rattle.tg_model.specs.StoreView.{block_at, store_view}
use Rattle.tg_model.specs.Stores.{IsStore, Store}
use Rattle.tg_model.specs.Traversal.{block_list}
use Rattle.tg_model.specs.declared.queries.Form.{Form}
use Rattle.tg_model.specs.declared.queries.Form.TheVariants as forms
use Rattle.tg_query.specs.Accepts.{raw_type}
use Rattle.tg_query.specs.Requests.{car_with_dups}
use Rattle.tg_reply.specs.Asked.{asked}
use Rattle.tg_reply.specs.Bodies.{IsCar, IsSpelled}
use Rattle.tg_reply.specs.CarBytes.{car_parts}
use Rattle.tg_reply.specs.Heads.{text_of, text_type}
use Rattle.tg_reply.specs.Readings.{Reads}
use Rattle.tg_reply.specs.Replies.{Reply, gone_refusal, reply, sent_dag}
use Rattle.tg_reply.specs.Streams.{BeginsRequest}
use Rattle.tg_reply.specs.declared.refusal.Refusal.{Refusal}
use Rattle.tg_reply.specs.declared.refusal.Refusal.TheVariants.{BadBlock}

-- ---- what stands of what is asked

-- the root is spelled, and the names are bytes
pub record IsSpelledQuery (q : QueryParts) : Type 0 where
  pub name : List ℕ
  pub root : CidBytes q.root name
  pub names : All (λ name. All (λ b. b < 256) name) q.path

-- a query that a target of bytes asks is spelled
abbrev pub AskedSpells : Type 0
AskedSpells =
    (head : RequestHead) (q : QueryParts) → All (λ b. b < 256) head.target → asked head ≡ Ok q → IsSpelledQuery q

-- and one for a raw block has no path
abbrev pub AskedRawHasNoPath : Type 0
AskedRawHasNoPath = (head : RequestHead) (q : QueryParts) → asked head ≡ Ok q → q.form ≡ forms.Raw → q.path ≡ []

-- the target of a request is bytes
abbrev pub TargetsAreBytes : Type 0
TargetsAreBytes =
    (bytes rest : List ℕ) (head : RequestHead) → BeginsRequest bytes head rest → All (λ b. b < 256) head.target

-- a store whose blocks are bytes
pub record IsByteStore (store : Store) : Type 0 where
  pub store_is : IsStore store
  pub bytes : (cid : CidParts) (block : List ℕ) → store cid ≡ Some block → All (λ b. b < 256) block

-- the sections that it gives for a query are spelled, where the root is: each is the root's, or its CID was read from a
-- link
abbrev pub SentSpelled : Type 0
SentSpelled = (store : Store) (q : QueryParts) (name : List ℕ) → IsByteStore store → CidBytes q.root name → All IsSpelled (block_list q (sent_dag store q.root))

-- ---- what is read of the reply

-- the reply of a refusal is its text
abbrev pub TextIsRead : Reply → Refusal → Type 0
TextIsRead reply refusal = Reads reply text_type (Length (length (text_of refusal))) (text_of refusal)

-- the reply with a CAR is the CAR with these sections
pub record CarIsRead (reply : Reply) (q : QueryParts) (sections : List Section) (framing : Framing) : Type 0 where
  pub reads : Reads reply (car_with_dups q.dups) framing (joined (car_parts q.root sections))
  pub car : IsCar q.root sections

-- in chunks, or to HTTP/1.0 until the connection closes
abbrev pub car_framing : ℕ → Framing
car_framing minor = if minor == 0 then UntilClose else Chunked

-- the reply with a terminal: the block, or the CAR where it isn't cut
abbrev pub FoundIsRead : Store → RequestHead → QueryParts → Dag → Form → Type 0
FoundIsRead store head q d forms.Raw = Reads (reply store head) raw_type (Length (length (block_of d))) (block_of d)
FoundIsRead store head q d forms.Car =
    (reply store head).cut ≡ false → CarIsRead (reply store head) q (block_list q (sent_dag store q.root)) (car_framing head.minor)

-- the reply where the path leads to none: the CAR of the blocks on it where it leads nowhere and isn't cut, and else the
-- text of the refusal
abbrev pub AbsenceIsRead : Store → RequestHead → QueryParts → Type 0
AbsenceIsRead store head q =
    (reply store head).cut ≡ false → CarIsRead (reply store head) q (block_list q (sent_dag store q.root)) (car_framing head.minor)

abbrev pub MissIsRead : Store → RequestHead → QueryParts → Stop → Type 0
MissIsRead store head q (not_there i) = AbsenceIsRead store head q
MissIsRead store head q (not_folder i) = AbsenceIsRead store head q
MissIsRead store head q (gone spot) = TextIsRead (reply store head) (gone_refusal (block_at store q.root))
MissIsRead store head q (bad_block spot fault) = TextIsRead (reply store head) BadBlock

-- by the end of the path
abbrev pub EndIsRead : Store → RequestHead → QueryParts → PathEnd → Type 0
EndIsRead store head q (terminal d) = FoundIsRead store head q d q.form
EndIsRead store head q (not_reached stop) = MissIsRead store head q stop

-- a request at the front of bytes asks for a query by GET, and the head of the reply fits a head
pub record IsAskedByGet (store : Store) (head : RequestHead) (q : QueryParts) : Type 0 where
  pub bytes : List ℕ
  pub rest : List ℕ
  pub begins : BeginsRequest bytes head rest
  pub method : head.method ≡ codes "GET"
  pub asked_is : asked head ≡ Ok q
  pub fits : length (reply store head).head ≤ 16384

abbrev pub AskedRepliesRead : Type 0
AskedRepliesRead = (store : Store) (head : RequestHead) (q : QueryParts) → IsByteStore store → IsAskedByGet store head q
    → EndIsRead store head q (path_walk q.path (store_view store q.root)).end
