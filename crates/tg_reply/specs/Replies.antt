-- The reply of a gateway over a store to the head of a request (Path Gateway and Trustless Gateway specifications; RFC
-- 9110, sections 9 and 15; RFC 9112, sections 6, 7 and 9).
use Rattle.std.specs.Prelude.{Bool, Err, List, None, Ok, Option, Result, Some, [], false, if◌then◌else◌, length, not}
use Rattle.std.specs.Prelude.{true, ℕ, ◌&&◌, ◌++◌, ◌==◌, ◌||◌, ◌≡◌, ◌⊎◌}
use Rattle.tg_bytes.specs.Lists.{joined}
use Rattle.tg_cid.specs.Cid.{CidParts}
use Rattle.tg_http.specs.declared.request.RequestHead.{RequestHead}
use Rattle.tg_model_laws.specs.Depths.{down_to}
use Rattle.tg_model.specs.Answer.{block_of}
use Rattle.tg_model.specs.Dag.{Dag, Section}
use Rattle.tg_model.specs.PathWalk.{PathEnd, Stop, TraversalEnd, bad_block, gone, not_folder, not_reached, not_there}
use Rattle.tg_model.specs.PathWalk.{path_walk, stopped, terminal, whole}
use Rattle.tg_model.specs.Queries.{QueryParts}
use Rattle.tg_model.specs.StoreView.{block_at, store_view}
use Rattle.tg_model.specs.Stores.{Store}
use Rattle.tg_model.specs.Traversal.{block_list, traversal}
use Rattle.tg_model.specs.declared.queries.Form.{Form}
use Rattle.tg_model.specs.declared.queries.Form.TheVariants as forms
use Rattle.tg_reply.specs.Asked.{asked, is_head}
use Rattle.tg_reply.specs.CarBytes.{car_parts, chunked}
use Rattle.tg_reply.specs.Heads.{car_head, car_status, raw_head, refusal_head, text_of}
use Rattle.tg_reply.specs.Refusals.{ends_connection, status_of}
use Rattle.tg_reply.specs.declared.refusal.Refusal.{Refusal}
use Rattle.tg_reply.specs.declared.refusal.Refusal.TheVariants.{BadBlock, Gone, NoRoot}
use Rattle.tg_reply.specs.declared.status.Status.{Status}
use Rattle.tg_reply.specs.declared.status.Status.TheVariants as statuses

-- a reply: its status, its head, its body as it is framed, whether the body was cut before its end, and whether the
-- connection closes behind it
pub record Reply : Type 0 where
  pub status : Status
  pub head : List ℕ
  pub body : List ℕ
  pub cut : Bool
  pub closes : Bool

-- the bytes of a reply
abbrev pub reply_bytes : Reply → List ℕ
reply_bytes reply = reply.head ++ reply.body

-- a request of HTTP/1.0, or with the token `close`, closes the connection (RFC 9112, section 9.3)
abbrev pub asks_close : RequestHead → Bool
asks_close head = head.minor == 0 || head.close

-- a reply to HEAD has the head that GET would get, and no body (RFC 9110, section 9.3.2)
abbrev pub unless_head : RequestHead → List ℕ → List ℕ
unless_head head body = if is_head head.method then [] else body

-- ---- refusals

abbrev pub refused : Refusal → Bool → List ℕ → Reply
refused refusal closes body =
    record { status = status_of refusal; head = refusal_head refusal closes; body = body; cut = false; closes = closes }

-- the reply to a request that is refused
abbrev pub refused_request : RequestHead → Refusal → Reply
refused_request head refusal =
    refused refusal (asks_close head || ends_connection refusal) (unless_head head (text_of refusal))

-- and to bytes that are no head, of whatever method
abbrev pub refused_bytes : Refusal → Reply
refused_bytes refusal = refused refusal (ends_connection refusal) (text_of refusal)

-- a block of the path isn't stored: the root, or another one
abbrev pub gone_refusal : Option (List ℕ) → Refusal
gone_refusal None = NoRoot
gone_refusal (Some block) = Gone

-- ---- a raw block

abbrev pub raw_reply : RequestHead → QueryParts → List ℕ → Reply
raw_reply head q block =
    record { status = statuses.Ok; head = raw_head q (length block) (asks_close head); body = unless_head head block; cut = false; closes = asks_close head }

-- ---- a CAR

-- what a store shows of a root, the blocks deeper than 512 unopened (this project's own limit)
abbrev pub sent_dag : Store → CidParts → Dag
sent_dag store root = down_to 512 1 (store_view store root)

-- a traversal that stopped leaves the body without its end
abbrev pub is_cut : TraversalEnd → Bool
is_cut whole = false
is_cut (stopped stop) = true

-- the parts in chunks, or as they are to a request of HTTP/1.0
abbrev pub framed_body : ℕ → Bool → List (List ℕ) → List ℕ
framed_body minor cut parts = if minor == 0 then joined parts else chunked cut parts

-- the sections in order, cut or not, by whether the path leads to a terminal; to HEAD the sections aren't looked at
abbrev pub car_reply : RequestHead → Bool → QueryParts → List Section → Bool → Reply
car_reply head found q sections cut =
    let is_sent = not (is_head head.method) in
    record {
      status = car_status found;
      head = car_head found q head.minor (asks_close head);
      body = unless_head head (framed_body head.minor cut (car_parts q.root sections));
      cut = is_sent && cut;
      closes = asks_close head || is_sent && cut;
    }

-- ---- the reply

-- a path that stopped so leads nowhere
abbrev pub LeadsNowhere : Stop → Type 0
LeadsNowhere stop = ((i : ℕ) × (stop ≡ not_there i)) ⊎ ((i : ℕ) × (stop ≡ not_folder i))

-- to a query whose path leads to a terminal
abbrev pub found_reply : Store → RequestHead → QueryParts → Dag → Form → Reply
found_reply store head q d forms.Raw = raw_reply head q (block_of d)
found_reply store head q d forms.Car =
    car_reply head true q (block_list q (sent_dag store q.root)) (is_cut (traversal q (sent_dag store q.root)).end)

-- to a query whose path leads nowhere: the blocks on the path, which show it, cut where they lie deeper than is sent
abbrev pub is_cut_on_path : TraversalEnd → Bool
is_cut_on_path whole = false
is_cut_on_path (stopped (not_there i)) = false
is_cut_on_path (stopped (not_folder i)) = false
is_cut_on_path (stopped (gone spot)) = true
is_cut_on_path (stopped (bad_block spot fault)) = true

abbrev pub absence_reply : Store → RequestHead → QueryParts → Reply
absence_reply store head q =
    car_reply head false q (block_list q (sent_dag store q.root)) (is_cut_on_path (traversal q (sent_dag store q.root)).end)

-- to a query whose path leads to no terminal; a raw query has no path, so that of it the root alone may be missing
abbrev pub missed_reply : Store → RequestHead → QueryParts → Stop → Reply
missed_reply store head q (not_there i) = absence_reply store head q
missed_reply store head q (not_folder i) = absence_reply store head q
missed_reply store head q (gone spot) = refused_request head (gone_refusal (block_at store q.root))
missed_reply store head q (bad_block spot fault) = refused_request head BadBlock

-- to a query, by the end of its path
abbrev pub reply_at : Store → RequestHead → QueryParts → PathEnd → Reply
reply_at store head q (terminal d) = found_reply store head q d q.form
reply_at store head q (not_reached stop) = missed_reply store head q stop

-- to what is asked
abbrev pub reply_to : Store → RequestHead → Result QueryParts Refusal → Reply
reply_to store head (Err refusal) = refused_request head refusal
reply_to store head (Ok q) = reply_at store head q (path_walk q.path (store_view store q.root)).end

abbrev pub reply : Store → RequestHead → Reply
reply store head = reply_to store head (asked head)
