-- A call to a gateway: what was said, what was heard, and what was written (RFC 9112).
use Rattle.std.specs.Prelude.{Bool, Err, List, Ok, Result, [], length, take, true, ⊤, ℕ, ◌++◌, ◌≡◌, ◌≤◌, ◌⊎◌}
use Rattle.tg_dials.specs.Dials.{DialRose, Dialling, IsHungUp, KeepsCalls, KeepsComing, KeepsMissed}
use Rattle.tg_faults.specs.Faults.{counted}
use Rattle.tg_fetch.specs.Bodies.{FrontAndSays}
use Rattle.tg_fetch.specs.Replies.{IsAnswered, IsOpenReply, RefusedBy}
use Rattle.tg_fetch.specs.declared.fault.FetchFault.{FetchFault}
use Rattle.tg_fetch.specs.declared.fault.FetchFault.TheVariants as faults
use Rattle.tg_links.specs.Steps.{LinkQuiet, LinkRose, LinkStep, Spoke}
use Rattle.tg_links.specs.Views.{IsFirst, IsNew, LinkView, between}
use Rattle.tg_model.specs.Dag.{Section}
use Rattle.tg_model.specs.LimitNumbers.{LimitNumbers}
use Rattle.tg_model.specs.Queries.{QueryParts}
use Rattle.tg_query.specs.Requests.{request_text}
use Rattle.tg_streams.specs.Streams.{Output, Put}
use Rattle.tg_verify.specs.Sound.{ForEachSound, IsItsAnswer, IsItsFront}

-- ---- what was heard of a reply

-- the reply, of which a front of what was heard is all, is the answer, and its text was put
pub record HeardAnswer (q : QueryParts) (limits : LimitNumbers) (heard : List ℕ) (over : Bool) (out : Output) : Type 0 where
  pub front : List ℕ
  pub more : List ℕ
  pub whole : heard ≡ front ++ more
  pub ended : Bool
  pub is_over : ended ≡ true → (over ≡ true) × (more ≡ [])
  pub sections : List Section
  pub text : List ℕ
  pub put : Put text out
  pub answered : IsAnswered q limits front ended sections text
  pub sound : ForEachSound q (λ d. IsItsAnswer q d sections text)

-- the reply is refused behind a front of what was heard, which is no more than may be received, and this text was put before
pub record HeardRefused (q : QueryParts) (limits : LimitNumbers) (heard : List ℕ) (over : Bool) (out : Output) (fault : FetchFault) : Type 0 where
  pub front : List ℕ
  pub more : List ℕ
  pub whole : heard ≡ front ++ more
  pub ended : Bool
  pub is_over : ended ≡ true → (over ≡ true) × (more ≡ [])
  pub sections : List Section
  pub text : List ℕ
  pub put : Put text out
  pub within : length front ≤ limits.received
  pub refused : RefusedBy q limits front more ended sections text fault
  pub sound : ForEachSound q (FrontAndSays q sections text fault)

-- of the reply this was heard, and nothing is refused of it; this text was put for its sections
pub record HeardOpen (q : QueryParts) (limits : LimitNumbers) (heard : List ℕ) (out : Output) : Type 0 where
  pub sections : List Section
  pub text : List ℕ
  pub put : Put text out
  pub is_open : IsOpenReply q limits heard sections text
  pub sound : ForEachSound q (λ d. IsItsFront q d sections text)

abbrev pub HeardBy : QueryParts → LimitNumbers → List ℕ → Bool → Output → Result ⊤ FetchFault → Type 0
HeardBy q limits heard over out (Ok done) = HeardAnswer q limits heard over out
HeardBy q limits heard over out (Err faults.PeerFault) = HeardOpen q limits heard out
HeardBy q limits heard over out (Err fault) = HeardRefused q limits heard over out fault

-- whether a link's count rose
abbrev pub RoseAtPeerFault : LinkStep → Result ⊤ FetchFault → Type 0
RoseAtPeerFault link (Err faults.PeerFault) = LinkRose link
RoseAtPeerFault link result = LinkQuiet link

-- nothing was said any more, and this was heard
pub record LinkHeard (q : QueryParts) (limits : LimitNumbers) (link : LinkStep) (out : Output) (result : Result ⊤ FetchFault) : Type 0 where
  pub heard : List ℕ
  pub spoke : Spoke link heard []
  pub ends : HeardBy q limits heard link.over_new out result
  pub rose : RoseAtPeerFault link result

-- ---- a link over which a call was made

-- the request was said, and this heard behind it
pub record CalledWhole (q : QueryParts) (limits : LimitNumbers) (addr : List ℕ) (link : LinkStep) (out : Output) (result : Result ⊤ FetchFault) : Type 0 where
  pub heard : List ℕ
  pub spoke : Spoke link heard (request_text q addr)
  pub ends : HeardBy q limits heard link.over_new out result
  pub rose : RoseAtPeerFault link result

-- a front of the request was said, as the link failed, or nothing for want of memory; nothing was heard or put
abbrev pub IsUncalled : LinkStep → Result ⊤ FetchFault → Type 0
IsUncalled link (Err faults.PeerFault) = LinkRose link
IsUncalled link (Err faults.OutOfMemory) = LinkQuiet link × Spoke link [] []
IsUncalled link result = ⊥

pub record CalledFront (q : QueryParts) (addr : List ℕ) (link : LinkStep) (out : Output) (result : Result ⊤ FetchFault) : Type 0 where
  pub count : ℕ
  pub spoke : Spoke link [] (take count (request_text q addr))
  pub unput : Put [] out
  pub why : IsUncalled link result

abbrev pub LinkCalled : QueryParts → LimitNumbers → List ℕ → LinkStep → Output → Result ⊤ FetchFault → Type 0
LinkCalled q limits addr link out result = CalledWhole q limits addr link out result ⊎ CalledFront q addr link out result

-- ---- a call by a dial

-- the peer at the address was dialled, and a link was made, to the next of the peers to come, and given back: what went through
-- it is told behind the other calls
pub record HasCalled (q : QueryParts) (limits : LimitNumbers) (addr : List ℕ) (dial : Dialling) (out : Output) (result : Result ⊤ FetchFault) : Type 0 where
  pub dialled : dial.dialled addr
  pub made : LinkView
  pub is_new : IsNew made
  pub comes : IsFirst dial.coming_old dial.coming_new made.left
  pub link : LinkView
  pub hung_up : IsHungUp link dial
  pub missed : KeepsMissed dial
  pub called : LinkCalled q limits addr (between made link) out result

-- the peer at the address was dialled, and didn't answer
pub record IsMissed (addr : List ℕ) (dial : Dialling) (out : Output) (result : Result ⊤ FetchFault) : Type 0 where
  pub dialled : dial.dialled addr
  pub result_is : result ≡ Err faults.PeerFault
  pub missed : dial.missed_new ≡ counted dial.missed_old
  pub calls : KeepsCalls dial
  pub coming : KeepsComing dial
  pub rose : DialRose dial
  pub unput : Put [] out

abbrev pub FetchEnds : QueryParts → LimitNumbers → List ℕ → Dialling → Output → Result ⊤ FetchFault → Type 0
FetchEnds q limits addr dial out result = HasCalled q limits addr dial out result ⊎ IsMissed addr dial out result
