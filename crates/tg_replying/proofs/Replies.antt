-- One reply that is known, given or put.
use denote.Enum.Bare.{sameb}
use Rattle.std.proofs.Common.{Bool, Err, List, Ok, [], ap, append-nil, false, if◌then◌else◌, length, not, refl, subst}
use Rattle.std.proofs.Common.{sym, true, ℕ, ◌&&◌, ◌++◌, ◌∙◌, ◌≡◌, ◌||◌}
use Rattle.std.proofs.Math.Bool.{or-false}
use Rattle.std.specs.Prelude.{Result, ⊤}
use Rattle.std.specs.Result.{IsErrAnd}
use Rattle.tg_http.specs.declared.request.RequestHead.{RequestHead}
use Rattle.tg_model.specs.Dag.{Section}
use Rattle.tg_model.specs.Queries.{QueryParts}
use Rattle.tg_reply.specs.Asked.{is_head}
use Rattle.tg_reply.specs.CarBytes.{car_parts}
use Rattle.tg_reply.specs.Heads.{car_head, car_status, raw_head, refusal_head, text_of}
use Rattle.tg_reply.specs.Refusals.{ends_connection}
use Rattle.tg_reply.specs.Replies.{Reply, asks_close, car_reply, framed_body, raw_reply, refused_bytes, refused_request}
use Rattle.tg_reply.specs.Replies.{reply_bytes, unless_head}
use Rattle.tg_reply.specs.declared.refusal.Refusal.{Refusal}
use Rattle.tg_reply.specs.contracts.status.Status.{the_type}
use Rattle.tg_reply.specs.declared.status.Status.{Status}
use Rattle.tg_reply.specs.declared.status.Status.TheVariants as statuses
use Rattle.tg_replying.specs.Bodies.{FailsIn, Gives, Giving, giving_in}
use Rattle.tg_replying.specs.Replying.{GivesReply, PutEnds, PutQuiet, is_broken_reply}
use Rattle.tg_replying.specs.declared.fault.ReplyFault.{ReplyFault}
use Rattle.tg_replying.specs.declared.fault.ReplyFault.TheVariants as faults
use Rattle.tg_replying.specs.declared.reply.Replied.{Replied}
use Rattle.tg_reply.specs.Sent.{is_server_error}
use Rattle.tg_streams.specs.Gathering.{gave_front_out, gave_nothing, gave_put}
use Rattle.tg_streams.specs.Joining.{SinkJoins}
use Rattle.tg_streams.specs.Streams.{Output, OutputQuiet, Put, PutFront, SinkMeaning, into}

-- ---- how a reply that is given ends

-- memory was wanted before anything was given
pub wants_first : {S : Type 0} (m : SinkMeaning S) (a : S) (gathered : List ℕ) (reply : Reply)
    (result : Result Replied ReplyFault) → m.wrote a a [] → IsErrAnd result (λ fault. fault ≡ faults.OutOfMemory)
    → GivesReply reply (giving_in m gathered gathered a a) result
wants_first m a gathered reply (Ok replied) rests e = absurd e
wants_first m a gathered reply (Err fault) rests e =
    subst (λ (fault : ReplyFault). GivesReply reply (giving_in m gathered gathered a a) (Err fault)) (sym e)
    (0, gave_nothing _ m a gathered rests)

-- out failed in a front of these bytes, which are the reply's
pub fails_so : (giving : Giving) (reply : Reply) (bytes : List ℕ) (result : Result Replied ReplyFault)
    → bytes ≡ reply_bytes reply → FailsIn giving bytes → IsErrAnd result (λ fault. fault ≡ faults.SinkFault)
    → GivesReply reply giving result
fails_so giving reply bytes (Ok replied) is front e = absurd e
fails_so giving reply bytes (Err fault) is front e =
    subst (λ (fault : ReplyFault). GivesReply reply giving (Err fault)) (sym e)
    (subst (λ (bytes : List ℕ). FailsIn giving bytes) is front)

-- these bytes were given, which are the reply's
pub gives_so : (giving : Giving) (reply : Reply) (bytes : List ℕ) (replied : Replied) → bytes ≡ reply_bytes reply
    → Gives giving bytes → replied.closes ≡ reply.closes → replied.broken ≡ is_broken_reply reply
    → GivesReply reply giving (Ok replied)
gives_so giving reply bytes replied is given closes broken = (
  subst (λ (bytes : List ℕ). Gives giving bytes) is given,
  closes,
  broken,
)

-- ---- how a reply that is put ends, where nothing was gathered before it

-- out failed where the bytes were given
pub put_fails : (out : Output) (reply : Reply) (gathered bytes : List ℕ) (result : Result ⊤ ReplyFault) → gathered ≡ []
    → bytes ≡ reply_bytes reply → PutFront (gathered ++ bytes) out → IsErrAnd result (λ fault. fault ≡ faults.SinkFault)
    → PutEnds reply out result
put_fails out reply gathered bytes (Ok done) none is front e = absurd e
put_fails out reply gathered bytes (Err fault) none is front e =
    subst (λ (fault : ReplyFault). PutEnds reply out (Err fault)) (sym e)
    (subst (λ (bytes : List ℕ). PutFront bytes out) is
    (subst (λ (gathered : List ℕ). PutFront (gathered ++ bytes) out) none front))

-- out failed where they were put
pub put_out_fails : {S : Type 0} (m : SinkMeaning S) (a b c : S) (reply : Reply) (g0 g1 bytes : List ℕ)
    (result : Result ⊤ ReplyFault) → SinkJoins S m → g0 ≡ [] → bytes ≡ reply_bytes reply
    → Gives (giving_in m g0 g1 a b) bytes → PutFront g1 (into m b c)
    → IsErrAnd result (λ fault. fault ≡ faults.SinkFault) → PutEnds reply (into m a c) result
put_out_fails m a b c reply g0 g1 bytes result joins none is given front e =
    put_fails (into m a c) reply g0 bytes result none is (gave_front_out _ m a b c bytes g0 g1 joins given front) e

-- they were put
pub put_so : {S : Type 0} (m : SinkMeaning S) (a b c : S) (reply : Reply) (g0 g1 bytes : List ℕ) → SinkJoins S m
    → g0 ≡ [] → bytes ≡ reply_bytes reply → Gives (giving_in m g0 g1 a b) bytes → Put g1 (into m b c)
    → OutputQuiet (into m b c) → PutQuiet (into m a c) (reply_bytes reply)
put_so m a b c reply g0 g1 bytes joins none is given put quiet =
    let both = gave_put _ m a b c bytes g0 g1 joins given put quiet in
    subst (λ (bytes : List ℕ). PutQuiet (into m a c) bytes) is
    (subst (λ (gathered : List ℕ). PutQuiet (into m a c) (gathered ++ bytes)) none
    (record { put = both.0; quiet = both.1 }))

-- ---- what is told of a refusal

-- whether its status is 500
pub is_broken_refusal : (status : Status) (same : Bool) → same ≡ sameb the_type status statuses.ServerError
    → same ≡ (if is_server_error status then true else false)
is_broken_refusal statuses.Ok same e = e
is_broken_refusal statuses.BadRequest same e = e
is_broken_refusal statuses.NotFound same e = e
is_broken_refusal statuses.MethodNotAllowed same e = e
is_broken_refusal statuses.NotAcceptable same e = e
is_broken_refusal statuses.FieldsTooLarge same e = e
is_broken_refusal statuses.ServerError same e = e

-- ---- the bytes of replies

-- a body that is left out to `HEAD`
unless : (to_head : Bool) (body : List ℕ) → (if not to_head then body else []) ≡ (if to_head then [] else body)
unless true body = refl
unless false body = refl

-- these bytes, which are this text, are the reply's
pub refusal_is : (head : RequestHead) (refusal : Refusal) (closes to_head : Bool) (text bytes : List ℕ)
    → closes ≡ (asks_close head || ends_connection refusal) → to_head ≡ is_head head.method
    → text ≡ refusal_head refusal closes ++ (if not to_head then text_of refusal else []) → bytes ≡ text
    → bytes ≡ reply_bytes (refused_request head refusal)
refusal_is head refusal closes to_head text bytes e f is same =
    same ∙ is ∙ ap (λ (body : List ℕ). refusal_head refusal closes ++ body) (unless to_head (text_of refusal))
    ∙ ap (λ (to_head : Bool). refusal_head refusal closes ++ (if to_head then [] else text_of refusal)) f
    ∙ ap (λ (closes : Bool). refusal_head refusal closes ++ unless_head head (text_of refusal)) e

pub refusal_bytes_are : (refusal : Refusal) (closes : Bool) (text bytes : List ℕ) → closes ≡ ends_connection refusal
    → text ≡ refusal_head refusal closes ++ text_of refusal → bytes ≡ text → bytes ≡ reply_bytes (refused_bytes refusal)
refusal_bytes_are refusal closes text bytes e is same =
    same ∙ is ∙ ap (λ (closes : Bool). refusal_head refusal closes ++ text_of refusal) e

-- the body of a reply to `HEAD`, and to other requests
unless_to_head : (head : RequestHead) (body : List ℕ) → is_head head.method ≡ true → unless_head head body ≡ []
unless_to_head head body e = ap (λ (to_head : Bool). if to_head then [] else body) e

unless_to_get : (head : RequestHead) (body : List ℕ) → is_head head.method ≡ false → unless_head head body ≡ body
unless_to_get head body e = ap (λ (to_head : Bool). if to_head then [] else body) e

-- the head of a reply with a raw block, and its body
pub raw_is : (head : RequestHead) (q : QueryParts) (block : List ℕ) (closes : Bool) (text bytes : List ℕ)
    → closes ≡ asks_close head → text ≡ raw_head q (length block) closes → bytes ≡ text
    → bytes ++ unless_head head block ≡ reply_bytes (raw_reply head q block)
raw_is head q block closes text bytes e is same =
    ap (λ (bytes : List ℕ). bytes ++ unless_head head block)
    (same ∙ is ∙ ap (λ (closes : Bool). raw_head q (length block) closes) e)

-- the head alone to `HEAD`, and to other requests the head and the block
pub raw_is_head : (head : RequestHead) (q : QueryParts) (block : List ℕ) (closes : Bool) (text bytes : List ℕ)
    → is_head head.method ≡ true → closes ≡ asks_close head → text ≡ raw_head q (length block) closes → bytes ≡ text
    → bytes ≡ reply_bytes (raw_reply head q block)
raw_is_head head q block closes text bytes to_head e is same =
    sym (append-nil bytes) ∙ ap (λ (body : List ℕ). bytes ++ body) (sym (unless_to_head head block to_head))
    ∙ raw_is head q block closes text bytes e is same

pub raw_is_both : (head : RequestHead) (q : QueryParts) (block : List ℕ) (closes : Bool) (text bytes : List ℕ)
    → is_head head.method ≡ false → closes ≡ asks_close head → text ≡ raw_head q (length block) closes → bytes ≡ text
    → bytes ++ block ≡ reply_bytes (raw_reply head q block)
raw_is_both head q block closes text bytes to_get e is same =
    ap (λ (body : List ℕ). bytes ++ body) (sym (unless_to_get head block to_get))
    ∙ raw_is head q block closes text bytes e is same

-- the head alone of a reply with a CAR to `HEAD`
pub car_is : (head : RequestHead) (found : Bool) (q : QueryParts) (sections : List Section) (cut closes : Bool)
    (text bytes : List ℕ) → is_head head.method ≡ true → closes ≡ asks_close head
    → text ≡ car_head found q head.minor closes → bytes ≡ text
    → bytes ≡ reply_bytes (car_reply head found q sections cut)
car_is head found q sections cut closes text bytes to_head e is same =
    same ∙ is ∙ ap (λ (closes : Bool). car_head found q head.minor closes) e
    ∙ sym (append-nil (car_head found q head.minor (asks_close head)))
    ∙ ap (λ (body : List ℕ). car_head found q head.minor (asks_close head) ++ body)
    (sym (unless_to_head head (framed_body head.minor cut (car_parts q.root sections)) to_head))

-- ---- what is told of a reply to `HEAD`

pub car_closes : (head : RequestHead) (cut closes : Bool) → is_head head.method ≡ true → closes ≡ asks_close head
    → closes ≡ (asks_close head || not (is_head head.method) && cut)
car_closes head cut closes to_head e =
    e ∙ sym (or-false (asks_close head)) ∙ ap (λ (to_head : Bool). asks_close head || not to_head && cut) (sym to_head)

not_server_error : (found to_head cut : Bool) → to_head ≡ true
    → false ≡ (if is_server_error (car_status found) then true else (not to_head && cut))
not_server_error true to_head cut e = ap (λ (to_head : Bool). not to_head && cut) (sym e)
not_server_error false to_head cut e = ap (λ (to_head : Bool). not to_head && cut) (sym e)

pub car_is_whole : (head : RequestHead) (found : Bool) (q : QueryParts) (sections : List Section) (cut : Bool)
    → is_head head.method ≡ true → false ≡ is_broken_reply (car_reply head found q sections cut)
car_is_whole head found q sections cut to_head = not_server_error found (is_head head.method) cut to_head
