-- What is written for the printed request carries the sections of the DAG's own traversal.
use Rattle.std.proofs.Common.{All, Bool, List, Option, [], ap, arith, length, refl, subst, sym, true, ℕ, ◌++◌, ◌∙◌, ◌∷◌, ◌≡◌, ◌≤◌}
use Rattle.std.proofs.lemmas.List.Elements.{All-head}
use Rattle.tg_answering.specs.OwnReplies.{OwnSections}
use Rattle.tg_cid.specs.Cid.{CidParts}
use Rattle.tg_cid.specs.Limits.{max_block_len}
use Rattle.tg_heard.specs.Laws.{CarriedBy, CarsCarry, RawsCarry}
use Rattle.tg_http.specs.declared.request.RequestHead.{RequestHead}
use Rattle.tg_model.specs.Answer.{answer, answer_at, block_of}
use Rattle.tg_model.specs.Counts.{counts}
use Rattle.tg_model.specs.Dag.{Dag, IsWhole, Section, bare, node, root_cid, unopened}
use Rattle.tg_model.specs.LimitNumbers.{LimitNumbers}
use Rattle.tg_model.specs.Lookup.{lookup_path}
use Rattle.tg_model.specs.Queries.{IsRawQuery, QueryParts, SpanParts}
use Rattle.tg_model.specs.Sound.{IsSound}
use Rattle.tg_model.specs.Stores.{Store}
use Rattle.tg_model.specs.Traversal.{block_list}
use Rattle.tg_model.specs.declared.queries.Form.{Form}
use Rattle.tg_model.specs.declared.queries.Form.TheVariants as forms
use Rattle.tg_model.specs.declared.queries.Scope.{Scope}
use Rattle.tg_model.specs.declared.queries.Scope.TheVariants as scopes
use Rattle.tg_query.specs.Laws.{IsPrintable}
use Rattle.tg_query.specs.Requests.{request_text}
use Rattle.tg_reply.specs.Asked.{is_head}
use Rattle.tg_reply.specs.AskedReadings.{SentSpelled}
use Rattle.tg_reply.specs.Bodies.{IsSpelled}
use Rattle.tg_reply.specs.Readings.{IsGet}
use Rattle.tg_reply.specs.Replies.{Reply, asks_close, reply, reply_bytes}
use Rattle.tg_reply.specs.Streams.{BeginsRequest, OneWriting, Replies, closes}
use Rattle.tg_walk.specs.Walks.{max_depth}
use Rattle.tg_heard.specs.Exchanges.{AnswerableIsAnswered, IsCarried, IsHeld, IsOwnHead, IsWithin, OwnRepliesCarry, OwnReply, OwnReplyCarries, PrintedIsRead, is_answer, own_reply}

-- ---- the root's block

-- the root of a DAG with its block
abbrev root_of : Dag → Section
root_of d = record { cid = root_cid d; block = block_of d }

-- a query by its parts
abbrev made : CidParts → List (List ℕ) → Form → Scope → Option SpanParts → Bool → QueryParts
made root path form scope span dups = record { root = root; path = path; form = form; scope = scope; span = span; dups = dups }

-- a query for a raw block has no path, and asks for a block alone, with repeats
made_raw : (root : CidParts) (path : List (List ℕ)) (form : Form) (scope : Scope) (span : Option SpanParts) (dups : Bool) → path ≡ [] → form ≡ forms.Raw
    → scope ≡ scopes.Block → dups ≡ true → made root path form scope span dups ≡ made root [] forms.Raw scopes.Block span true
made_raw root path form scope span dups p f s u = rw (p, f, s, u) refl

-- for it just the root is sent
root_sent : (root : CidParts) (span : Option SpanParts) (d : Dag) → IsWhole d → block_list (made root [] forms.Raw scopes.Block span true) d ≡ root_of d ∷ []
root_sent root span (unopened cid) w = absurd w
root_sent root span (bare section fault) w = absurd w
root_sent root span (node section kind children) w = refl

-- so it is for any query for a raw block
raw_list : (q : QueryParts) (d : Dag) → q.form ≡ forms.Raw → IsRawQuery q → IsWhole d → block_list q d ≡ root_of d ∷ []
raw_list q d f r w =
    ap (λ (x : QueryParts). block_list x d) (made_raw q.root q.path q.form q.scope q.span q.dups r.path f r.scope r.dups)
    ∙ root_sent q.root q.span d w

-- such a query has an answer
raw_answer : (q : QueryParts) (d : Dag) → IsRawQuery q → is_answer (answer q d) ≡ true
raw_answer q d r = ap (λ (path : List (List ℕ)). is_answer (answer_at q (lookup_path path d))) r.path

-- ---- what is written

-- the laws of requests and replies
pub record CarriedLaws : Type 0 where
  pub requests : PrintedIsRead
  pub own : OwnReply
  pub sections : OwnSections
  pub cars : CarsCarry
  pub raws : RawsCarry
  pub spelled : SentSpelled
  pub one : OneWriting

-- the request asks for a close
pub close_asked : (q : QueryParts) (head : RequestHead) → IsOwnHead q head → asks_close head ≡ true
close_asked q head own = rw (own.minor, own.close) refl

-- so the reply closes
pub reply_closes : (q : QueryParts) (d : Dag) (head : RequestHead) (form : Form) → IsOwnHead q head → (own_reply head q d form).closes ≡ true
reply_closes q d head forms.Raw own = close_asked q head own
reply_closes q d head forms.Car own = rw (close_asked q head own) refl

module _ (laws : CarriedLaws) (q : QueryParts) (d : Dag) (limits : LimitNumbers) (addr : List ℕ) (head : RequestHead) (sound : IsSound d)
    (root : root_cid d ≡ q.root) (spelled : All IsSpelled (block_list q d)) (within : IsWithin q limits d) (p : IsPrintable q addr) (own : IsOwnHead q head) where
  -- the request is by GET for a query that is spelled
  by_get : IsGet head q
  by_get = record { method = ap is_head own.method; name = p.root_bytes; root = p.root; names = p.names }

  -- the reply's head fits a head
  head_fits : (form : Form) → q.form ≡ form → length (own_reply head q d form).head ≤ 16384
  head_fits form f = subst (λ (x : Form). length (own_reply head q d x).head ≤ 16384) f (within.head head own)

  -- the root's block alone is sent of a query for a raw block, so that it isn't too large
  raw_small : q.form ≡ forms.Raw → length (block_of d) ≤ max_block_len
  raw_small f =
      (All-head IsSpelled (root_of d) [] (subst (All IsSpelled) (raw_list q d f (p.well_formed.raw f) sound.whole) spelled)).small

  -- the reply carries the sections, by the form
  by_form : (form : Form) → q.form ≡ form → (behind : List ℕ) (ended : Bool)
      → CarriedBy (is_answer (answer q d)) (reply_bytes (own_reply head q d form) ++ behind) ended q (block_list q d)
  by_form forms.Raw f behind ended =
      let raw = p.well_formed.raw f in
      let list : block_list q d ≡ record { cid = q.root; block = block_of d } ∷ [] =
      raw_list q d f raw sound.whole ∙ ap (λ (cid : CidParts). record { cid = cid; block = block_of d } ∷ []) root in
      subst (λ (found : Bool). CarriedBy found (reply_bytes (own_reply head q d forms.Raw) ++ behind) ended q (block_list q d)) (sym (raw_answer q d raw))
      (subst (λ (sections : List Section). CarriedBy true (reply_bytes (own_reply head q d forms.Raw) ++ behind) ended q sections) (sym list)
      (laws.raws head q (block_of d) by_get f (omega (arith, raw_small f)) (head_fits forms.Raw f) behind ended))
  by_form forms.Car f behind ended =
      (laws.cars head (is_answer (answer q d)) q (block_list q d) by_get f spelled (head_fits forms.Car f)).0 own.minor behind ended

  -- and may be received
  own_carried : IsCarried q limits d (reply_bytes (own_reply head q d q.form))
  own_carried = record { carries = by_form q.form refl; few = within.received head own }

-- so it is for any query and DAG
pub own_reply_carries : CarriedLaws → OwnReplyCarries
own_reply_carries laws q d limits addr head sound root spelled within p own = own_carried laws q d limits addr head sound root spelled within p own

-- what is written for a request of such a head, whatever follows it, is the DAG's own reply
pub is_own : OwnReply → OneWriting → (store : Store) (q : QueryParts) (d : Dag) (bytes more written : List ℕ) (head : RequestHead) → IsHeld store q d
    → (counts q d).depth ≤ max_depth → Replies store bytes written → BeginsRequest bytes head more → IsOwnHead q head
    → written ≡ reply_bytes (own_reply head q d q.form)
is_own law one store q d bytes more written head held shallow writes begins own =
    let same : reply store head ≡ own_reply head q d q.form = law store q d head held shallow own in
    one store bytes written (reply_bytes (reply store head)) writes
    (closes bytes more head begins (ap (λ (r : Reply). r.closes) same ∙ reply_closes q d head q.form own))
    ∙ ap reply_bytes same

module _ (laws : CarriedLaws) (store : Store) (q : QueryParts) (d : Dag) (limits : LimitNumbers) (addr more written : List ℕ) (held : IsHeld store q d)
    (within : IsWithin q limits d) (p : IsPrintable q addr) (writes : Replies store (request_text q addr ++ more) written)
    (head : RequestHead) (begins : BeginsRequest (request_text q addr ++ more) head more) (own : IsOwnHead q head) where
  -- the sections are spelled
  spelled_by_store : All IsSpelled (block_list q d)
  spelled_by_store =
      subst (All IsSpelled)
      (laws.sections store d q head
      (record { sound = held.sound; root = held.root; holds = held.holds; shallow = within.shallow; asked_is = own.asked_is }))
      (laws.spelled store q p.root_bytes held.store_is p.root)

  -- so what is written carries them
  carried : IsCarried q limits d written
  carried =
      subst (IsCarried q limits d)
      (sym (is_own laws.own laws.one store q d (request_text q addr ++ more) more written head held within.shallow writes begins own))
      (own_reply_carries laws q d limits addr head held.sound held.root spelled_by_store within p own)

-- so it is for the head of the printed request
pub own_replies_carry : CarriedLaws → OwnRepliesCarry
own_replies_carry laws store q d limits addr more written held within p writes =
    let read = laws.requests q addr more p in
    carried laws store q d limits addr more written held within p writes read.0.0 read.0.1 (read.1 read.0.0 more read.0.1).0

-- so an answerable query is answered, as its answer is some text
pub answerable : CarriedLaws → AnswerableIsAnswered
answerable laws store q d limits addr more written held within has printable w behind ended =
    subst (λ (a : Option (List ℕ)). CarriedBy (is_answer a) (written ++ behind) ended q (block_list q d)) has.answer_is
    ((own_replies_carry laws store q d limits addr more written held within printable w).carries behind ended)
