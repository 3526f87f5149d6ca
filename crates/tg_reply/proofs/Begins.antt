-- What is sent for bytes begins with what was sent for a front of them, where the same happened, and so is one.
use Rattle.std.proofs.Common.{◌≡◌, ℕ, Bool, true, false, List, [], ◌∷◌, ◌++◌, length, map, refl, sym, ap, ap₂, subst, ◌∙◌, arith}
use Rattle.std.specs.Prelude.{take}
use Rattle.std.proofs.lemmas.Grind.{flat_map-append}
use Rattle.std.proofs.lemmas.List.{append-nil, length-append, length-map, take_all}
use Rattle.tg_http.specs.Heads.{HasWholeText, IsNoRequest, PassesLimit, RequestStays}
use Rattle.tg_http.specs.declared.request.RequestHead.{RequestHead}
use Rattle.tg_model.specs.Stores.{Store}
use Rattle.tg_reply.specs.Replies.{Reply, refused_bytes, reply_bytes}
use Rattle.tg_reply.specs.Streams.{BeginsRequest, OneRequest}
use Rattle.tg_reply.specs.declared.refusal.Refusal.TheVariants.{BadHead, HeadLimit}
use Rattle.tg_reply.specs.SentLaws.{SentBegins, SentIsDetermined}
use Rattle.tg_reply.specs.Sent.{Happening, Sent, SentAll, SentFor, bad_head, closed_by, happening_of, last, limit, next, no_more, quiet, sent_bytes}
use Rattle.tg_reply.proofs.Joins.{closed_below, closed_here, false_true, limit_longer, longer, none_longer, true_false}
use Rattle.tg_reply.proofs.OneSentHead.{limit_not_request, limit_not_text, none_not_request}
use Rattle.tg_reply.proofs.OneReply.{one_sent_for, same_before}

-- ---- lists of what is sent

-- one thing and more are not nothing
cons_nil : {A : Type 0} (x : A) (l : List A) → x ∷ l ≡ [] → ⊥
cons_nil x l e = cc

-- equal lists have equal firsts
same_first : {A : Type 0} (x y : A) (l m : List A) → x ∷ l ≡ y ∷ m → x ≡ y
same_first x y l m e = cc

-- and equal rests
same_later : {A : Type 0} (x y : A) (l m : List A) → x ∷ l ≡ y ∷ m → l ≡ m
same_later x y l m e = cc

-- ---- what is sent begins with what was sent

-- the same happened at these as at the first of those
abbrev SameHappened : List Sent → List Sent → Type 0
SameHappened sent other = map happening_of sent ≡ map happening_of (take (length sent) other)

-- those are these and more; and where these leave the connection open the more is sent for the rest and the piece
abbrev Goes : Store → List ℕ → List Sent → List ℕ → List Sent → List ℕ → Type 0
Goes store piece sent rest other behind =
    (more : List Sent) × (other ≡ sent ++ more) × (closed_by sent ≡ false → SentAll store (rest ++ piece) more behind)

module _ (stays : RequestStays) (one : OneRequest) (store : Store) (piece : List ℕ) where
  -- equal replies that close, and nothing behind them
  closes_so : (s t : Sent) (rest behind : List ℕ) → s ≡ t → s.reply.closes ≡ true → Goes store piece (s ∷ []) rest (t ∷ []) behind
  closes_so s t rest behind same e =
      ([], ap (λ (x : Sent). x ∷ []) (sym same), λ open_is. absurd (true_false (sym (closed_here s [] e) ∙ open_is)))

  -- of the refusals of bytes the count alone is to be compared
  same_refusal : (reply : Reply) (before at : ℕ) (below more : List Sent) → SameHappened (quiet reply before ∷ below) (quiet reply at ∷ more)
      → quiet reply before ≡ quiet reply at
  same_refusal reply before at below more e =
      ap (λ (n : ℕ). quiet reply n)
      (same_before (happening_of (quiet reply before)) (happening_of (quiet reply at))
      (same_first (happening_of (quiet reply before)) (happening_of (quiet reply at)) (map happening_of below) (map happening_of (take (length below) more)) e))

  -- of two heads at the front of bytes, at which the same happened, the same was sent
  same_sent : (bytes r q : List ℕ) (head first : RequestHead) (s t : Sent) (below more : List Sent) → BeginsRequest bytes head r → BeginsRequest bytes first q
      → SentFor store head s → SentFor store first t → SameHappened (s ∷ below) (t ∷ more) → s ≡ t
  same_sent bytes r q head first s t below more b d f g e =
      one_sent_for store first s t (subst (λ (h : RequestHead). SentFor store h s) (one bytes r q head first b d).0 f) g
      (same_first (happening_of s) (happening_of t) (map happening_of below) (map happening_of (take (length below) more)) e)

  -- one that closes isn't one that doesn't
  differ : (s t : Sent) → s ≡ t → s.reply.closes ≡ true → t.reply.closes ≡ false → ⊥
  differ s t same e d = true_false (sym e ∙ ap (λ (x : Sent). x.reply.closes) same ∙ d)

  -- behind the refusal of bytes that pass the limit
  after_limit : (bytes behind : List ℕ) (before : ℕ) (other : List Sent) → PassesLimit bytes → SentAll store bytes other behind
      → SameHappened (quiet (refused_bytes HeadLimit) before ∷ []) other → Goes store piece (quiet (refused_bytes HeadLimit) before ∷ []) [] other behind
  after_limit bytes behind before other h (no_more b) e = absurd (cons_nil (happening_of (quiet (refused_bytes HeadLimit) before)) [] e)
  after_limit bytes behind before other h (limit b at k) e =
      closes_so (quiet (refused_bytes HeadLimit) before) (quiet (refused_bytes HeadLimit) at) [] behind (same_refusal (refused_bytes HeadLimit) before at [] [] e) refl
  after_limit bytes behind before other h (bad_head b at k) e = absurd (limit_not_text bytes IsNoRequest h k)
  after_limit bytes behind before other h (last b r head s begins f c) e = absurd (limit_not_request bytes r head h begins)
  after_limit bytes behind before other h (next b r left head s below begins f c all) e = absurd (limit_not_request bytes r head h begins)

  -- behind that of a text that is no request
  after_none : (bytes behind : List ℕ) (before : ℕ) (other : List Sent) → HasWholeText IsNoRequest bytes → SentAll store bytes other behind
      → SameHappened (quiet (refused_bytes BadHead) before ∷ []) other → Goes store piece (quiet (refused_bytes BadHead) before ∷ []) [] other behind
  after_none bytes behind before other h (no_more b) e = absurd (cons_nil (happening_of (quiet (refused_bytes BadHead) before)) [] e)
  after_none bytes behind before other h (limit b at k) e = absurd (limit_not_text bytes IsNoRequest k h)
  after_none bytes behind before other h (bad_head b at k) e =
      closes_so (quiet (refused_bytes BadHead) before) (quiet (refused_bytes BadHead) at) [] behind (same_refusal (refused_bytes BadHead) before at [] [] e) refl
  after_none bytes behind before other h (last b r head s begins f c) e = absurd (none_not_request bytes r head h begins)
  after_none bytes behind before other h (next b r left head s below begins f c all) e = absurd (none_not_request bytes r head h begins)

  -- behind a reply that closes
  after_last : (bytes r behind : List ℕ) (head : RequestHead) (s : Sent) (other : List Sent) → BeginsRequest bytes head r → SentFor store head s
      → s.reply.closes ≡ true → SentAll store bytes other behind → SameHappened (s ∷ []) other → Goes store piece (s ∷ []) [] other behind
  after_last bytes r behind head s other b f c (no_more d) e = absurd (cons_nil (happening_of s) [] e)
  after_last bytes r behind head s other b f c (limit d at k) e = absurd (limit_not_request bytes r head k b)
  after_last bytes r behind head s other b f c (bad_head d at k) e = absurd (none_not_request bytes r head k b)
  after_last bytes r behind head s other b f c (last d q first t begins g x) e =
      closes_so s t [] behind (same_sent bytes r q head first s t [] [] b begins f g e) c
  after_last bytes r behind head s other b f c (next d q left first t more begins g x all) e =
      absurd (differ s t (same_sent bytes r q head first s t [] more b begins f g e) c x)

  -- and behind one that doesn't, where it goes on for the rest
  after_next : (bytes r left behind : List ℕ) (head : RequestHead) (s : Sent) (below other : List Sent) → BeginsRequest bytes head r → SentFor store head s
      → s.reply.closes ≡ false
      → ((found : List Sent) → SentAll store r found behind → SameHappened below found → Goes store piece below left found behind)
      → SentAll store bytes other behind → SameHappened (s ∷ below) other → Goes store piece (s ∷ below) left other behind
  after_next bytes r left behind head s below other b f c go (no_more d) e = absurd (cons_nil (happening_of s) (map happening_of below) e)
  after_next bytes r left behind head s below other b f c go (limit d at k) e = absurd (limit_not_request bytes r head k b)
  after_next bytes r left behind head s below other b f c go (bad_head d at k) e = absurd (none_not_request bytes r head k b)
  after_next bytes r left behind head s below other b f c go (last d q first t begins g x) e =
      absurd (differ t s (sym (same_sent bytes r q head first s t below [] b begins f g e)) x c)
  after_next bytes r left behind head s below other b f c go (next d q last_rest first t more begins g x all) e =
      let same = same_sent bytes r q head first s t below more b begins f g e in
      let rest = (one bytes r q head first b begins).1 in
      let later = same_later (happening_of s) (happening_of t) (map happening_of below) (map happening_of (take (length below) more)) e in
      let gone = go more (subst (λ (l : List ℕ). SentAll store l more behind) (sym rest) all) later in
      (gone.0, ap₂ (λ (x : Sent) (l : List Sent). x ∷ l) (sym same) gone.1, λ open_is. gone.2 (closed_below s below false c open_is))

  -- what is sent for bytes that go on begins with what was sent for these
  goes : (fed rest behind : List ℕ) (sent other : List Sent) → SentAll store fed sent rest → SentAll store (fed ++ piece) other behind
      → SameHappened sent other → Goes store piece sent rest other behind
  goes fed rest behind sent other (no_more b) all e = (other, refl, λ open_is. all)
  goes fed rest behind sent other (limit b before h) all e = after_limit (b ++ piece) behind before other (limit_longer stays b piece h) all e
  goes fed rest behind sent other (bad_head b before h) all e = after_none (b ++ piece) behind before other (none_longer stays b piece h) all e
  goes fed rest behind sent other (last b r head s begins f c) all e =
      after_last (b ++ piece) (r ++ piece) behind head s other (longer stays b r piece head begins) f c all e
  goes fed rest behind sent other (next b r left head s below begins f c under) all e =
      after_next (b ++ piece) (r ++ piece) left behind head s below other (longer stays b r piece head begins) f c
      (λ found found_all found_same. goes r left behind below found under found_all found_same) all e

-- in objects and in bytes
pub sent_begins : RequestStays → OneRequest → SentBegins
sent_begins stays one store fed piece rest behind sent other s all e =
    let gone = goes stays one store piece fed rest behind sent other s all e in
    (gone.0, gone.1, ap sent_bytes gone.1 ∙ flat_map-append (λ (x : Sent). reply_bytes x.reply) sent gone.0, gone.2)

-- ---- it is one

-- behind a close no bytes are left
closed_rest : (store : Store) (fed rest : List ℕ) (sent : List Sent) → SentAll store fed sent rest → closed_by sent ≡ true → rest ≡ []
closed_rest store fed rest sent (no_more b) closed = absurd (false_true closed)
closed_rest store fed rest sent (limit b before h) closed = refl
closed_rest store fed rest sent (bad_head b before h) closed = refl
closed_rest store fed rest sent (last b r head s begins f e) closed = refl
closed_rest store fed rest sent (next b r left head s below begins f e all) closed =
    closed_rest store r left below all (closed_below s below true e closed)

-- where nothing is sent all bytes are left
nothing_rest : (store : Store) (fed rest : List ℕ) (sent : List Sent) → SentAll store fed sent rest → sent ≡ [] → fed ≡ rest
nothing_rest store fed rest sent (no_more b) e = refl
nothing_rest store fed rest sent (limit b before h) e = absurd (cons_nil (quiet (refused_bytes HeadLimit) before) [] e)
nothing_rest store fed rest sent (bad_head b before h) e = absurd (cons_nil (quiet (refused_bytes BadHead) before) [] e)
nothing_rest store fed rest sent (last b r head s begins f c) e = absurd (cons_nil s [] e)
nothing_rest store fed rest sent (next b r left head s below begins f c all) e = absurd (cons_nil s below e)

-- what has no length is nothing
no_length : (l : List Sent) → length l ≡ 0 → l ≡ []
no_length [] e = refl
no_length (s ∷ l) e = absurd (omega (arith, e))

-- what is sent is determined by the bytes and by what happened, as it begins with itself and has no more
pub determined : RequestStays → OneRequest → SentIsDetermined
determined stays one store bytes rest behind sent other first second e = (same, by_close (closed_by sent) refl)
  where
    lengths : length other ≡ length sent
    lengths = sym (length-map other happening_of) ∙ ap (λ (l : List Happening). length l) (sym e) ∙ length-map sent happening_of

    gone : Goes store [] sent rest other behind
    gone =
        goes stays one store [] bytes rest behind sent other first (subst (λ (l : List ℕ). SentAll store l other behind) (sym (append-nil bytes)) second)
        (e ∙ ap (λ (l : List Sent). map happening_of l) (sym (take_all (length sent) other (omega (arith, lengths)))))

    none_more : gone.0 ≡ []
    none_more =
        no_length gone.0
        (omega (arith, lengths, ap (λ (l : List Sent). length l) gone.1, length-append sent gone.0))

    same : sent ≡ other
    same = sym (append-nil sent) ∙ ap (λ (l : List Sent). sent ++ l) (sym none_more) ∙ sym gone.1

    by_close : (c : Bool) → closed_by sent ≡ c → rest ≡ behind
    by_close true closed =
        closed_rest store bytes rest sent first closed
        ∙ sym (closed_rest store bytes behind other second (ap closed_by (sym same) ∙ closed))
    by_close false open_is = sym (append-nil rest) ∙ nothing_rest store (rest ++ []) behind gone.0 (gone.2 open_is) none_more
