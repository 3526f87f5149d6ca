-- The printed request is read, whatever follows it.
use Rattle.std.proofs.Common.{List, Ok, [], ap, refl, subst, sym, ℕ, ◌++◌, ◌∙◌, ◌≡◌, length}
use Rattle.std.proofs.lemmas.List.{append_cancel_left}
use Rattle.httparse.proofs.GrammarLemmas.{request_unique}
use Rattle.httparse.specs.Grammar.{ReadsRequest, RequestHead as RequestTree}
use Rattle.tg_http.specs.Heads.{IsRequest, RequestStays, TellsRequest}
use Rattle.tg_http.specs.OneHead.{limit_only, one_beginning}
use Rattle.tg_http.specs.declared.request.RequestHead.{RequestHead}
use Rattle.tg_model.specs.Queries.{QueryParts}
use Rattle.tg_query.specs.Laws.{Asks, IsOneHead, IsPrintable}
use Rattle.tg_query.specs.Requests.{request_text}
use Rattle.tg_reply.specs.Asked.{asked}
use Rattle.tg_reply.specs.FirstHead.{First, FirstHeads, IsFirst, begins, first_head, no_head, passes_limit, waits}
use Rattle.tg_reply.specs.Streams.{BeginsRequest}
use Rattle.tg_heard.specs.Exchanges.{IsOwnHead, PrintedIsRead}

-- a head that asks for the query by GET, once and without a body, is one that a client sends
own_head : (q : QueryParts) (size : ℕ) (head : RequestHead) → Asks q size head → IsOwnHead q head
own_head q size head a = record { asked_is = asked_is; method = a.method; minor = a.minor; close = a.close }
  where
    asked_is : asked head ≡ Ok q
    asked_is = rw (a.framed, a.method, a.asked) refl

module _ (q : QueryParts) (text more : List ℕ) (one : IsOneHead q text) (stays : RequestStays) where
  -- the text is a request at the front of the bytes
  whole : IsRequest (text ++ more) text one.tree
  whole = stays.0 text more text one.tree one.whole

  -- any request at their front is the text, and its head asks for the query
  told : (head : RequestHead) (rest : List ℕ) → BeginsRequest (text ++ more) head rest → IsOwnHead q head × (rest ≡ more)
  told head rest b =
      let same : b.text ≡ text = (one_beginning (text ++ more) b.text text b.is_request.count whole.count b.is_request.begins whole.begins).0 in
      let tree : b.tree ≡ one.tree =
      (request_unique text b.tree one.tree [] [] (subst (λ (l : List ℕ). ReadsRequest l b.tree []) same b.is_request.reads) whole.reads).0 in
      let here : TellsRequest one.tree (length text) head =
      subst (λ (t : RequestTree). TellsRequest t (length text) head) tree (subst (λ (l : List ℕ). TellsRequest b.tree (length l) head) same b.told) in (
        own_head q (length text) head (one.told head here),
        append_cancel_left text rest more (ap (λ (l : List ℕ). l ++ rest) (sym same) ∙ sym b.whole),
      )

  -- whatever is first in the bytes is a request
  found : (first : First) → IsFirst (text ++ more) first → (head : RequestHead) × BeginsRequest (text ++ more) head more
  found waits w = absurd (w.none text whole.count whole.begins)
  found passes_limit l = absurd (limit_only (text ++ more) text whole.count l whole.begins whole.few)
  found no_head n =
      let same : n.0 ≡ text = (one_beginning (text ++ more) n.0 text n.1 whole.count n.2 whole.begins).0 in
      absurd (n.4 one.tree (subst (λ (l : List ℕ). ReadsRequest l one.tree []) (sym same) whole.reads))
  found (begins head rest) b = (head, subst (BeginsRequest (text ++ more) head) (told head rest b.0).1 b.0)

-- so it is for what is printed
pub printed_is_read : ((q : QueryParts) (addr : List ℕ) → IsPrintable q addr → IsOneHead q (request_text q addr)) → FirstHeads → RequestStays → PrintedIsRead
printed_is_read printed heads stays q addr more p =
    let text = request_text q addr in
    let one = printed q addr p in
    (found q text more one stays (first_head (text ++ more)) (heads (text ++ more)), told q text more one stays)
