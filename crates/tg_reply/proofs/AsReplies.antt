-- What is sent where the store doesn't break off: the replies.
use Rattle.std.proofs.Common.{◌≡◌, ℕ, zero, suc, ◌<◌, Bool, true, false, List, [], ◌∷◌, ◌++◌, inl, inr, length, refl, sym, ap, subst, ◌∙◌, arith}
use Rattle.std.proofs.lemmas.List.{append-nil}
use Rattle.tg_http.specs.declared.request.RequestHead.{RequestHead}
use Rattle.tg_model.specs.Stores.{Store}
use Rattle.tg_reply.specs.FirstHead.{First, FirstHeads, IsFirst, first_head}
use Rattle.tg_reply.specs.FirstHead as firsts
use Rattle.tg_reply.specs.Replies.{Reply, refused_bytes, reply, reply_bytes}
use Rattle.tg_reply.specs.Streams as streams
use Rattle.tg_reply.specs.Streams.{BeginsRequest, OneWriting, Replies}
use Rattle.tg_reply.specs.Written.{WritingComputes, replies_for}
use Rattle.tg_reply.specs.declared.refusal.Refusal.TheVariants.{BadHead, HeadLimit}
use Rattle.tg_reply.specs.SentLaws.{SentAsReplies, SomeSent}
use Rattle.tg_reply.specs.Sent.{CountsBetween, Course, IsSettled, Sent, SentAll, SentFor, SentInFull, as_stored, bad_head, before_head, behind_sections, broken_before, broken_behind, count_if, exact, failed_in, is_broken, last, limit, next, no_more, quiet, sent_bytes}
use Rattle.tg_reply.proofs.Joins.{closed_below, closed_here, false_true}
use Rattle.tg_reply.proofs.OneReply.{stored_not_before, stored_not_behind}

-- ---- where the store doesn't break off

-- where it broke off at none it didn't at the first, nor later
none_failed : (course : Course) (n : ℕ) → count_if (is_broken course) n ≡ 0 → (course ≡ as_stored) × (n ≡ 0)
none_failed as_stored n e = (refl, e)
none_failed broken_before n e = absurd (omega (arith, e))
none_failed (broken_behind count) n e = absurd (omega (arith, e))

-- then what is sent for a head is the reply
is_exact : (store : Store) (head : RequestHead) (s : Sent) → SentFor store head s → s.course ≡ as_stored → s.reply ≡ reply store head
is_exact store head s (exact before) e = refl
is_exact store head s (before_head q before now a r) e = absurd (stored_not_before (sym e))
is_exact store head s (behind_sections q count before now b r) e = absurd (stored_not_behind count (sym e))

-- so it is for the first head
exact_here : (store : Store) (head : RequestHead) (s : Sent) (more : List Sent) → SentFor store head s → failed_in (s ∷ more) ≡ 0 → s.reply ≡ reply store head
exact_here store head s more f none = is_exact store head s f (none_failed s.course (failed_in more) none).0

-- and at the later heads it broke off at none
none_below : (s : Sent) (more : List Sent) → failed_in (s ∷ more) ≡ 0 → failed_in more ≡ 0
none_below s more none = (none_failed s.course (failed_in more) none).1

-- what is sent closes where the reply does
closes_as : (store : Store) (head : RequestHead) (s : Sent) (c : Bool) → s.reply ≡ reply store head → s.reply.closes ≡ c → (reply store head).closes ≡ c
closes_as store head s c same e = ap (λ (x : Reply). x.closes) (sym same) ∙ e

-- what is settled is settled without the first reply, where that leaves the connection open
settled_below : (rest : List ℕ) (s : Sent) (more : List Sent) → s.reply.closes ≡ false → IsSettled rest (s ∷ more) → IsSettled rest more
settled_below rest s more e (inl w) = inl w
settled_below rest s more e (inr c) = inr (closed_below s more true e c)

-- and with one more
pub settled_above : (rest : List ℕ) (s : Sent) (more : List Sent) → s.reply.closes ≡ false → IsSettled rest more → IsSettled rest (s ∷ more)
settled_above rest s more e (inl w) = inl w
settled_above rest s more e (inr c) = inr (rw e c)

module _ (store : Store) where
  -- the bytes that are sent are those that the definition of replies says
  agrees : (fed rest : List ℕ) (sent : List Sent) → SentAll store fed sent rest → IsSettled rest sent → failed_in sent ≡ 0 → Replies store fed (sent_bytes sent)
  agrees fed rest sent (no_more b) (inl w) none = streams.waits b w
  agrees fed rest sent (no_more b) (inr c) none = absurd (false_true c)
  agrees fed rest sent (limit b before h) settled none =
      subst (Replies store b) (sym (append-nil (reply_bytes (refused_bytes HeadLimit)))) (streams.passes_limit b h)
  agrees fed rest sent (bad_head b before h) settled none =
      subst (Replies store b) (sym (append-nil (reply_bytes (refused_bytes BadHead)))) (streams.no_head b h)
  agrees fed rest sent (last b r head s begins f e) settled none =
      let same = exact_here store head s [] f none in
      subst (λ (x : Reply). Replies store b (reply_bytes x ++ [])) (sym same)
      (subst (Replies store b) (sym (append-nil (reply_bytes (reply store head)))) (streams.closes b r head begins (closes_as store head s true same e)))
  agrees fed rest sent (next b r behind head s more begins f e below) settled none =
      let same = exact_here store head s more f none in
      subst (λ (x : Reply). Replies store b (reply_bytes x ++ sent_bytes more)) (sym same)
      (streams.goes_on b r (sent_bytes more) head begins (closes_as store head s false same e)
      (agrees r rest more below (settled_below rest s more e settled) (none_below s more none)))

-- and so those that it computes
pub as_replies : OneWriting → WritingComputes → SentAsReplies
as_replies one computes store bytes rest sent all none =
    let written = agrees store bytes rest sent all.sent_is all.settled none in
    (written, one store bytes (sent_bytes sent) (replies_for store bytes) written (computes store bytes))

-- ---- for any bytes something is sent

-- all that is sent where the store doesn't break off, whose count stays
abbrev Some : Store → ℕ → List ℕ → Type 0
Some store before bytes = (sent : List Sent) × (rest : List ℕ) × SentInFull (SentFor store) bytes sent rest × (failed_in sent ≡ 0) × CountsBetween before sent before

module _ (store : Store) (before : ℕ) where
  -- for a request, and what follows where its reply leaves the connection open
  by_request : (bytes rest : List ℕ) (head : RequestHead) → BeginsRequest bytes head rest → Some store before rest → Some store before bytes
  by_request bytes rest head b below = by_close (reply store head).closes refl
    where
      by_close : (c : Bool) → (reply store head).closes ≡ c → Some store before bytes
      by_close true e = (
        quiet (reply store head) before ∷ [],
        [],
        record { sent_is = last bytes rest head (quiet (reply store head) before) b (exact before) e; settled = inr (closed_here (quiet (reply store head) before) [] e) },
        refl,
        (omega arith, omega arith, omega arith),
      )
      by_close false e = (
        quiet (reply store head) before ∷ below.0,
        below.1,
        record {
          sent_is = next bytes rest below.1 head (quiet (reply store head) before) below.0 b (exact before) e below.2.sent_is;
          settled = settled_above below.1 (quiet (reply store head) before) below.0 e below.2.settled;
        },
        below.3,
        (omega arith, omega arith, below.4),
      )

  -- for whichever is at the front
  by_first : (bytes : List ℕ) (first : First) → IsFirst bytes first → ((rest : List ℕ) → length rest < length bytes → Some store before rest) → Some store before bytes
  by_first bytes firsts.waits h below = ([], bytes, record { sent_is = no_more bytes; settled = inl h }, refl, omega arith)
  by_first bytes firsts.passes_limit h below =
      (quiet (refused_bytes HeadLimit) before ∷ [], [], record { sent_is = limit bytes before h; settled = inr refl }, refl, (omega arith, omega arith, omega arith))
  by_first bytes firsts.no_head h below =
      (quiet (refused_bytes BadHead) before ∷ [], [], record { sent_is = bad_head bytes before h; settled = inr refl }, refl, (omega arith, omega arith, omega arith))
  by_first bytes (firsts.begins head rest) h below = by_request bytes rest head h.0 (below rest h.1)

  -- for no more than so many bytes
  by_size : FirstHeads → (most : ℕ) (bytes : List ℕ) → length bytes < most → Some store before bytes
  by_size heads zero bytes small = absurd (omega (arith, small))
  by_size heads (suc most) bytes small = by_first bytes (first_head bytes) (heads bytes) (λ rest less. by_size heads most rest (omega (arith, small, less)))

-- for any bytes something is sent
pub some_sent : FirstHeads → SomeSent
some_sent heads store bytes before = by_size store before heads (suc (length bytes)) bytes (omega arith)
