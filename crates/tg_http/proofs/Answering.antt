-- What is told of bytes by the head text at their front.
use Rattle.std.proofs.Common.{◌≡◌, ℕ, ◌≤◌, ◌⊎◌, List, [], length, Ok, Err, Result, ap, refl, sym, ◌∙◌, subst, inl, inr, arith}
use Rattle.std.specs.Prelude.{IsErrAnd, MatchResult}
use Rattle.std.proofs.lemmas.Result.{err_from_is_err_and}
use Rattle.httparse.specs.Grammar.{RequestHead as RequestTree, ResponseHead as ReplyTree, ReadsRequest, ReadsResponse}
use Rattle.httparse.proofs.GrammarLemmas.{request_unique, response_unique}
use Rattle.tg_http.specs.declared.fault.HttpFault.{HttpFault}
use Rattle.tg_http.specs.declared.fault.HttpFault.TheVariants as faults
use Rattle.tg_http.specs.declared.request.RequestHead.{RequestHead}
use Rattle.tg_http.specs.declared.reply.ReplyHead.{ReplyHead}
use Rattle.tg_http.specs.HeadText.{BeginsHead, HeadText}
use Rattle.tg_http.specs.Heads.{IsWaiting, PassesLimit, HasHeadCause, IsRequest, IsReply, IsNoRequest, IsNoReply, TellsParts, TellsReplyParts, TellsRequest, TellsReply}
use Rattle.tg_http.specs.OneHead.{limit_not_waiting, limit_only, one_beginning}
use Rattle.tg_http.proofs.Grammar.{whole_request, whole_reply}

-- the bytes begin with this head text, of at most 64 fields
abbrev pub Here : List ℕ → List ℕ → Type 0
Here bytes text = (count : ℕ) × BeginsHead bytes text count × (count ≤ 64)

-- what a refusal of a whole head text says
abbrev pub Refuses : HttpFault → Type 0 → Type 0 → Type 0
Refuses told R N = ((told ≡ faults.OutOfMemory) × R) ⊎ ((told ≡ faults.BadHead) × N)

-- a refusal that is handed on
pub handed_on : {T : Type 0} {told fault : HttpFault} (r : Result T HttpFault) → IsErrAnd r (λ y. y ≡ told) → told ≡ fault → r ≡ Err fault
handed_on r is same = let p = err_from_is_err_and r is in p.1 ∙ ap Err (p.2 ∙ same)

module _ (none : List ℕ → Type 0) where
  pub limit_given : (bytes : List ℕ) (fault : HttpFault) → PassesLimit bytes → HasHeadCause none bytes fault → fault ≡ faults.HeadLimit
  limit_given bytes faults.HeadLimit l h = refl
  limit_given bytes faults.BadHead l h = absurd (limit_only bytes h.0 h.1 l h.2 h.3)
  limit_given bytes faults.BadFraming l h = absurd h
  limit_given bytes faults.OutOfMemory l h = absurd h

  pub waiting_given : (bytes : List ℕ) (fault : HttpFault) → IsWaiting bytes → HasHeadCause none bytes fault → ⊥
  waiting_given bytes faults.HeadLimit w h = limit_not_waiting bytes h w
  waiting_given bytes faults.BadHead w h = w.none h.0 h.1 h.2
  waiting_given bytes faults.BadFraming w h = h
  waiting_given bytes faults.OutOfMemory w h = h

  pub whole_given : (bytes text : List ℕ) (count : ℕ) (fault : HttpFault) → BeginsHead bytes text count → count ≤ 64 → HasHeadCause none bytes fault
      → (fault ≡ faults.BadHead) × none text
  whole_given bytes text count faults.HeadLimit b few h = absurd (limit_only bytes text count h b few)
  whole_given bytes text count faults.BadHead b few h = (refl, subst none (one_beginning bytes h.0 text h.1 count h.2 b).0 h.4)
  whole_given bytes text count faults.BadFraming b few h = absurd h
  whole_given bytes text count faults.OutOfMemory b few h = absurd h

  -- the answers where the limits are passed, where a whole head text is refused, and where it is read
  pub limit_answer : {T : Type 0} {told : HttpFault} (bytes : List ℕ) (fault : HttpFault) (r : Result T HttpFault) → IsErrAnd r (λ y. y ≡ told)
      → (told ≡ faults.HeadLimit) × PassesLimit bytes → HasHeadCause none bytes fault → r ≡ Err fault
  limit_answer bytes fault r is l h = handed_on r is (l.0 ∙ sym (limit_given bytes fault l.1 h))

  pub refused_answer : {T R : Type 0} {told : HttpFault} (bytes text : List ℕ) (fault : HttpFault) (r : Result T HttpFault) → Here bytes text
      → (none text → R → ⊥) → IsErrAnd r (λ y. y ≡ told) → Refuses told R (none text) → HasHeadCause none bytes fault → r ≡ Err fault
  refused_answer {R = R} {told = told} bytes text fault r here never is cause h = by_cause cause
    where
      given : (fault ≡ faults.BadHead) × none text
      given = whole_given bytes text here.0 fault here.1 here.2 h

      by_cause : Refuses told R (none text) → r ≡ Err fault
      by_cause (inl memory) = absurd (never given.1 memory.1)
      by_cause (inr bad) = handed_on r is (bad.0 ∙ sym given.0)

  pub read_given : (bytes text : List ℕ) (fault : HttpFault) → Here bytes text → (none text → ⊥) → HasHeadCause none bytes fault → ⊥
  read_given bytes text fault here never h = never (whole_given bytes text here.0 fault here.1 here.2 h).1

-- the same parts
pub same_parts : (used : ℕ) (m m' t t' : List ℕ) (v v' : ℕ) (fs fs' : List (List ℕ × List ℕ)) (head : RequestHead)
    → m ≡ m' → t ≡ t' → v ≡ v' → fs ≡ fs' → TellsParts used m t v fs head → TellsParts used m' t' v' fs' head
same_parts used m m' t t' v v' fs fs' head em et ev ef p =
    subst (λ (s : List ℕ). TellsParts used s t' v' fs' head) em
    (subst (λ (s : List ℕ). TellsParts used m s v' fs' head) et
    (subst (λ (n : ℕ). TellsParts used m t n fs' head) ev
    (subst (λ (s : List (List ℕ × List ℕ)). TellsParts used m t v s head) ef p)))

pub same_reply_parts : (used n n' : ℕ) (fs fs' : List (List ℕ × List ℕ)) (head : ReplyHead)
    → n ≡ n' → fs ≡ fs' → TellsReplyParts used n fs head → TellsReplyParts used n' fs' head
same_reply_parts used n n' fs fs' head en ef p =
    subst (λ (k : ℕ). TellsReplyParts used k fs' head) en (subst (λ (s : List (List ℕ × List ℕ)). TellsReplyParts used n s head) ef p)

pub here_not_waiting : {bytes text : List ℕ} → Here bytes text → IsWaiting bytes → ⊥
here_not_waiting {text = text} here w = w.none text here.0 here.1

-- a grammar of heads, in which a text is at most one head, and what is told of a head
module _ {Tree Head : Type 0} (Reads : List ℕ → Tree → Type 0) (unique : (text : List ℕ) (tree other : Tree) → Reads text tree → Reads text other → tree ≡ other)
    (Tells : Tree → ℕ → Head → Type 0) where
  head_only : (bytes text other : List ℕ) (asked : Tree) (head : Head) (number : ℕ) → Here bytes text
      → (tree : Tree) × Reads text tree × Tells tree (length text) head → BeginsHead bytes other number → Reads other asked → Tells asked (length other) head
  head_only bytes text other asked head number here read begins reads =
      let same = (one_beginning bytes text other here.0 number here.1 begins).0 in
      let tree_same = unique other read.0 asked (subst (λ (s : List ℕ). Reads s read.0) same read.1) reads in
      subst (λ (s : List ℕ). Tells asked (length s) head) same (subst (λ (t : Tree). Tells t (length text) head) tree_same read.2)

  head_read : (bytes text other : List ℕ) (asked : Tree) (number : ℕ) → Here bytes text → BeginsHead bytes other number → Reads other asked
      → ((tree : Tree) → Reads text tree → ⊥) → ⊥
  head_read bytes text other asked number here begins reads none =
      none asked (subst (λ (s : List ℕ). Reads s asked) (sym (one_beginning bytes text other here.0 number here.1 begins).0) reads)

abbrev RequestReads : List ℕ → RequestTree → Type 0
RequestReads text tree = ReadsRequest text tree []

one_request : (text : List ℕ) (tree other : RequestTree) → RequestReads text tree → RequestReads text other → tree ≡ other
one_request text tree other r i = (request_unique text tree other [] [] r i).0

pub request_only : (bytes text other : List ℕ) (asked : RequestTree) (head : RequestHead) → Here bytes text
    → (tree : RequestTree) × ReadsRequest text tree [] × TellsRequest tree (length text) head → IsRequest bytes other asked → TellsRequest asked (length other) head
request_only bytes text other asked head here read i = head_only RequestReads one_request TellsRequest bytes text other asked head i.count here read i.begins i.reads

pub request_read : (bytes text other : List ℕ) (asked : RequestTree) → Here bytes text → IsRequest bytes other asked → IsNoRequest text → ⊥
request_read bytes text other asked here i none = head_read RequestReads one_request TellsRequest bytes text other asked i.count here i.begins i.reads none

abbrev ReplyReads : List ℕ → ReplyTree → Type 0
ReplyReads text tree = ReadsResponse text tree []

one_reply : (text : List ℕ) (tree other : ReplyTree) → ReplyReads text tree → ReplyReads text other → tree ≡ other
one_reply text tree other r i = (response_unique text tree other [] [] r i).0

pub reply_only : (bytes text other : List ℕ) (asked : ReplyTree) (head : ReplyHead) → Here bytes text
    → (tree : ReplyTree) × ReadsResponse text tree [] × TellsReply tree (length text) head → IsReply bytes other asked → TellsReply asked (length other) head
reply_only bytes text other asked head here read i = head_only ReplyReads one_reply TellsReply bytes text other asked head i.count here read i.begins i.reads

pub reply_read : (bytes text other : List ℕ) (asked : ReplyTree) → Here bytes text → IsReply bytes other asked → IsNoReply text → ⊥
reply_read bytes text other asked here i none = head_read ReplyReads one_reply TellsReply bytes text other asked i.count here i.begins i.reads none

-- what a refusal of a whole head text is, where the text is a head or isn't one
pub only_refused : {T R N : Type 0} {told : HttpFault} (P : T → Type 0) (r : Result T HttpFault) → IsErrAnd r (λ y. y ≡ told) → Refuses told R N
    → (N → ⊥) → MatchResult r P (λ fault. fault ≡ faults.OutOfMemory)
only_refused P (Ok x) is cause read = absurd is
only_refused P (Err y) is (inl memory) read = is ∙ memory.0
only_refused P (Err y) is (inr bad) read = absurd (read bad.1)

-- a head text is no head where the parser, which has room for 64 fields, finds none at its front
module _ {Tree : Type 0} (Reads : List ℕ → Tree → List ℕ → Type 0) (fields : Tree → ℕ)
    (whole : (text rest : List ℕ) (tree : Tree) (count : ℕ) → HeadText text count → Reads text tree rest → Reads text tree [] × (fields tree ≡ count)) where
  unread : (text : List ℕ) → (count : ℕ) × HeadText text count × (count ≤ 64) → ((tree : Tree) (rest : List ℕ) → Reads text tree rest → fields tree ≤ 64 → ⊥)
      → (tree : Tree) → Reads text tree [] → ⊥
  unread text is never tree r = never tree [] r (omega (arith, (whole text [] tree is.0 is.1 r).1, is.2))

pub no_request : (text : List ℕ) → (count : ℕ) × HeadText text count × (count ≤ 64)
    → ((tree : RequestTree) (rest : List ℕ) → ReadsRequest text tree rest → length tree.fields ≤ 64 → ⊥) → IsNoRequest text
no_request = unread ReadsRequest (λ tree. length tree.fields) whole_request

pub no_reply : (text : List ℕ) → (count : ℕ) × HeadText text count × (count ≤ 64)
    → ((tree : ReplyTree) (rest : List ℕ) → ReadsResponse text tree rest → length tree.fields ≤ 64 → ⊥) → IsNoReply text
no_reply = unread ReadsResponse (λ tree. length tree.fields) whole_reply
