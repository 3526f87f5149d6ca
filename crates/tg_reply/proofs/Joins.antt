-- What was sent for bytes, and for bytes that go on.
use Rattle.std.proofs.Common.{◌≡◌, ℕ, true, false, Bool, List, [], ◌∷◌, ◌++◌, refl, sym, ap, ◌∙◌, append_assoc}
use Rattle.tg_http.specs.Heads.{HasWholeText, IsNoRequest, PassesLimit, RequestStays}
use Rattle.tg_http.specs.declared.fault.HttpFault.TheVariants as http_faults
use Rattle.tg_http.specs.declared.request.RequestHead.{RequestHead}
use Rattle.tg_reply.specs.Streams.{BeginsRequest}
use Rattle.tg_reply.specs.Sent.{Answering, Sent, SentBy, bad_head, closed_by, last, limit, next, no_more}

-- ---- closing

-- true isn't false
pub true_false : true ≡ false → ⊥
true_false e = cc

-- nor false true
pub false_true : false ≡ true → ⊥
false_true e = cc

-- behind a reply that leaves the connection open the later ones say whether it closes
pub closed_below : (sent : Sent) (more : List Sent) (c : Bool) → sent.reply.closes ≡ false → closed_by (sent ∷ more) ≡ c → closed_by more ≡ c
closed_below sent more c e closed = rw e at closed

-- a reply that closes closes the connection, whatever follows
pub closed_here : (sent : Sent) (more : List Sent) → sent.reply.closes ≡ true → closed_by (sent ∷ more) ≡ true
closed_here sent more e = rw e refl

-- ---- bytes that go on

module _ (stays : RequestStays) where
  -- a request at the front of bytes is at the front of these with a piece
  pub longer : (bytes rest piece : List ℕ) (head : RequestHead) → BeginsRequest bytes head rest → BeginsRequest (bytes ++ piece) head (rest ++ piece)
  longer bytes rest piece head h = record {
    text = h.text;
    tree = h.tree;
    is_request = stays.0 bytes piece h.text h.tree h.is_request;
    told = h.told;
    whole = ap (λ (l : List ℕ). l ++ piece) h.whole ∙ append_assoc h.text rest piece;
  }

  -- bytes that pass the limit pass it with a piece
  pub limit_longer : (bytes piece : List ℕ) → PassesLimit bytes → PassesLimit (bytes ++ piece)
  limit_longer bytes piece h = stays.1 bytes piece http_faults.HeadLimit h

  -- and a text that is no request stays one
  pub none_longer : (bytes piece : List ℕ) → HasWholeText IsNoRequest bytes → HasWholeText IsNoRequest (bytes ++ piece)
  none_longer bytes piece h = stays.1 bytes piece http_faults.BadHead h

  -- what was sent for a front, and for the rest and a piece, is sent for both
  pub joins : (For : Answering) (fed piece rest behind : List ℕ) (sent more : List Sent) → SentBy For fed sent rest → closed_by sent ≡ false
      → SentBy For (rest ++ piece) more behind → SentBy For (fed ++ piece) (sent ++ more) behind
  joins For fed piece rest behind sent more (no_more b) open_is after = after
  joins For fed piece rest behind sent more (limit b before h) open_is after = absurd (true_false open_is)
  joins For fed piece rest behind sent more (bad_head b before h) open_is after = absurd (true_false open_is)
  joins For fed piece rest behind sent more (last b r head s begins f e) open_is after =
      absurd (true_false (sym (closed_here s [] e) ∙ open_is))
  joins For fed piece rest behind sent more (next b r left head s below begins f e all) open_is after =
      next (b ++ piece) (r ++ piece) behind head s (below ++ more) (longer b r piece head begins) f e
      (joins For r piece rest behind below more all (closed_below s below false e open_is) after)

  -- behind a close nothing more is sent
  pub closed_stays : (For : Answering) (fed piece rest : List ℕ) (sent : List Sent) → SentBy For fed sent rest → closed_by sent ≡ true
      → SentBy For (fed ++ piece) sent rest
  closed_stays For fed piece rest sent (no_more b) closed = absurd (false_true closed)
  closed_stays For fed piece rest sent (limit b before h) closed = limit (b ++ piece) before (limit_longer b piece h)
  closed_stays For fed piece rest sent (bad_head b before h) closed = bad_head (b ++ piece) before (none_longer b piece h)
  closed_stays For fed piece rest sent (last b r head s begins f e) closed = last (b ++ piece) (r ++ piece) head s (longer b r piece head begins) f e
  closed_stays For fed piece rest sent (next b r left head s below begins f e all) closed =
      next (b ++ piece) (r ++ piece) rest head s below (longer b r piece head begins) f e
      (closed_stays For r piece rest below all (closed_below s below true e closed))
