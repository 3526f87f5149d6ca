-- What is written for bytes is determined by them.
use Rattle.std.proofs.Common.{◌≡◌, ℕ, true, false, List, [], ◌++◌, refl, sym, ap, ap₂, subst, ◌∙◌}
use Rattle.tg_http.specs.Heads.{HasWholeText, IsNoRequest, IsWaiting, PassesLimit}
use Rattle.tg_http.specs.OneHead.{limit_not_waiting}
use Rattle.tg_http.specs.declared.request.RequestHead.{RequestHead}
use Rattle.tg_model.specs.Stores.{Store}
use Rattle.tg_reply.specs.Replies.{refused_bytes, reply, reply_bytes}
use Rattle.tg_reply.specs.Streams.{BeginsRequest, OneWriting, Replies, closes, goes_on, no_head, passes_limit, waits}
use Rattle.tg_reply.specs.declared.refusal.Refusal.TheVariants.{BadHead, HeadLimit}
use Rattle.tg_reply.proofs.OneHead.{limit_not_request, limit_not_text, none_not_request, one_request, waits_not_request, waits_not_text}

module _ (store : Store) where
  after_waiting : (bytes other : List ℕ) → IsWaiting bytes → Replies store bytes other → [] ≡ other
  after_waiting bytes other w (waits b h) = refl
  after_waiting bytes other w (passes_limit b h) = absurd (limit_not_waiting bytes h w)
  after_waiting bytes other w (no_head b h) = absurd (waits_not_text bytes IsNoRequest w h)
  after_waiting bytes other w (closes b rest head h e) = absurd (waits_not_request bytes rest head w h)
  after_waiting bytes other w (goes_on b rest written head h e more) = absurd (waits_not_request bytes rest head w h)

  after_limit : (bytes other : List ℕ) → PassesLimit bytes → Replies store bytes other → reply_bytes (refused_bytes HeadLimit) ≡ other
  after_limit bytes other l (waits b h) = absurd (limit_not_waiting bytes l h)
  after_limit bytes other l (passes_limit b h) = refl
  after_limit bytes other l (no_head b h) = absurd (limit_not_text bytes IsNoRequest l h)
  after_limit bytes other l (closes b rest head h e) = absurd (limit_not_request bytes rest head l h)
  after_limit bytes other l (goes_on b rest written head h e more) = absurd (limit_not_request bytes rest head l h)

  after_none : (bytes other : List ℕ) → HasWholeText IsNoRequest bytes → Replies store bytes other → reply_bytes (refused_bytes BadHead) ≡ other
  after_none bytes other n (waits b h) = absurd (waits_not_text bytes IsNoRequest h n)
  after_none bytes other n (passes_limit b h) = absurd (limit_not_text bytes IsNoRequest h n)
  after_none bytes other n (no_head b h) = refl
  after_none bytes other n (closes b rest head h e) = absurd (none_not_request bytes rest head n h)
  after_none bytes other n (goes_on b rest written head h e more) = absurd (none_not_request bytes rest head n h)

  differ : (a b : RequestHead) → a ≡ b → (reply store a).closes ≡ true → (reply store b).closes ≡ false → ⊥
  differ a b same t f =
      let both : true ≡ false = sym t ∙ ap (λ (h : RequestHead). (reply store h).closes) same ∙ f in
      cc

  after_last : (bytes other next : List ℕ) (first : RequestHead) → BeginsRequest bytes first next → (reply store first).closes ≡ true → Replies store bytes other
      → reply_bytes (reply store first) ≡ other
  after_last bytes other next first r t (waits b h) = absurd (waits_not_request bytes next first h r)
  after_last bytes other next first r t (passes_limit b h) = absurd (limit_not_request bytes next first h r)
  after_last bytes other next first r t (no_head b h) = absurd (none_not_request bytes next first h r)
  after_last bytes other next first r t (closes b rest head h e) =
      ap (λ (x : RequestHead). reply_bytes (reply store x)) (one_request bytes next rest first head r h).0
  after_last bytes other next first r t (goes_on b rest written head h e more) =
      absurd (differ first head (one_request bytes next rest first head r h).0 t e)

  after_more : (bytes other next more : List ℕ) (first : RequestHead) → BeginsRequest bytes first next → (reply store first).closes ≡ false
      → ((found : List ℕ) → Replies store next found → more ≡ found) → Replies store bytes other → reply_bytes (reply store first) ++ more ≡ other
  after_more bytes other next more first r f same (waits b h) = absurd (waits_not_request bytes next first h r)
  after_more bytes other next more first r f same (passes_limit b h) = absurd (limit_not_request bytes next first h r)
  after_more bytes other next more first r f same (no_head b h) = absurd (none_not_request bytes next first h r)
  after_more bytes other next more first r f same (closes b rest head h e) =
      absurd (differ head first (sym (one_request bytes next rest first head r h).0) e f)
  after_more bytes other next more first r f same (goes_on b rest written head h e below) =
      let one = one_request bytes next rest first head r h in
      ap₂ (λ (x : RequestHead) (l : List ℕ). reply_bytes (reply store x) ++ l) one.0
      (same written (subst (λ (l : List ℕ). Replies store l written) (sym one.1) below))

  pub one_writing : (bytes written other : List ℕ) → Replies store bytes written → Replies store bytes other → written ≡ other
  one_writing bytes written other (waits b h) second = after_waiting bytes other h second
  one_writing bytes written other (passes_limit b h) second = after_limit bytes other h second
  one_writing bytes written other (no_head b h) second = after_none bytes other h second
  one_writing bytes written other (closes b rest head h e) second = after_last bytes other rest head h e second
  one_writing bytes written other (goes_on b rest more head h e below) second =
      after_more bytes other rest more head h e (λ found other_below. one_writing rest more found below other_below) second

pub one_writing_each : OneWriting
one_writing_each store bytes written other first second = one_writing store bytes written other first second
