-- What a session has sent for the bytes that it was fed, reply by reply, with what happened while each request was
-- answered (RFC 9112, sections 2.2 and 9.3).
use Rattle.std.specs.List.{flat_map}
use Rattle.std.specs.Prelude.{Bool, List, Ok, [], false, if◌then◌else◌, length, map, take, true, ℕ, ⊤, ◌+◌, ◌≡◌, ◌≤◌, ◌∷◌, ◌⊎◌}
use Rattle.tg_faults.specs.Faults.{Rose}
use Rattle.tg_http.specs.Heads.{HasWholeText, IsNoRequest, IsWaiting, PassesLimit}
use Rattle.tg_http.specs.declared.request.RequestHead.{RequestHead}
use Rattle.tg_model.specs.PathWalk.{PathEnd, bad_block, gone, not_folder, not_reached, not_there, path_walk, terminal}
use Rattle.tg_model.specs.Queries.{QueryParts}
use Rattle.tg_model.specs.StoreView.{store_view}
use Rattle.tg_model.specs.Stores.{Store}
use Rattle.tg_model.specs.Traversal.{block_list}
use Rattle.tg_model.specs.declared.queries.Form.TheVariants as forms
use Rattle.tg_reply.specs.Asked.{asked, is_head}
use Rattle.tg_reply.specs.Replies.{Reply, car_reply, refused_bytes, refused_request, reply, reply_bytes, sent_dag}
use Rattle.tg_reply.specs.Streams.{BeginsRequest}
use Rattle.tg_reply.specs.declared.refusal.Refusal.TheVariants as refusals
use Rattle.tg_reply.specs.declared.status.Status.{Status}
use Rattle.tg_reply.specs.declared.status.Status.TheVariants as statuses

-- ---- one request

-- what happened while a request was answered: the store gave what was looked up; or it broke off, as it failed or a
-- stored block had changed, before the reply's head was sent, or behind so many sections of its body
pub data Course : Type 0 where
  as_stored : Course
  broken_before : Course
  broken_behind : ℕ → Course

-- a reply that was sent, what happened at its request, and the store's count of faults before and behind it
pub record Sent : Type 0 where
  pub reply : Reply
  pub course : Course
  pub faults_before : ℕ
  pub faults_now : ℕ

-- all that the store had a part in
pub record Happening : Type 0 where
  pub course : Course
  pub faults_before : ℕ
  pub faults_now : ℕ

abbrev pub happening_of : Sent → Happening
happening_of sent =
    record { course = sent.course; faults_before = sent.faults_before; faults_now = sent.faults_now }

-- while nothing was looked up, or all that was looked up was given, no fault was counted
abbrev pub quiet : Reply → ℕ → Sent
quiet reply before =
    record { reply = reply; course = as_stored; faults_before = before; faults_now = before }

-- whether a path leads to a terminal
abbrev pub is_found : PathEnd → Bool
is_found (terminal d) = true
is_found (not_reached stop) = false

-- sections are sent where it does, and where it leads nowhere
abbrev pub SendsSections : PathEnd → Type 0
SendsSections (terminal d) = ⊤
SendsSections (not_reached (not_there i)) = ⊤
SendsSections (not_reached (not_folder i)) = ⊤
SendsSections (not_reached (gone spot)) = ⊥
SendsSections (not_reached (bad_block spot fault)) = ⊥

-- a reply with a CAR broke off behind the first so many of its sections
pub record BreaksBehind (store : Store) (head : RequestHead) (q : QueryParts) (count : ℕ) : Type 0 where
  pub asked_is : asked head ≡ Ok q
  pub car : q.form ≡ forms.Car
  pub by_get : is_head head.method ≡ false
  pub sends : SendsSections (path_walk q.path (store_view store q.root)).end
  pub within : count ≤ length (block_list q (sent_dag store q.root))

abbrev pub broken_reply : Store → RequestHead → QueryParts → ℕ → Reply
broken_reply store head q count =
    car_reply head (is_found (path_walk q.path (store_view store q.root)).end) q
    (take count (block_list q (sent_dag store q.root))) true

-- What is sent for a head over a store: the reply; or, where the store failed and counted it, the refusal `Store`, or a CAR
-- that is cut behind whole sections.
pub data SentFor (store : Store) (head : RequestHead) : Sent → Type 0 where
  exact : (before : ℕ) → SentFor store head (quiet (reply store head) before)
  before_head : (q : QueryParts) (before now : ℕ) → asked head ≡ Ok q → Rose before now
      → SentFor store head (record { reply = refused_request head refusals.Store; course = broken_before; faults_before = before; faults_now = now })
  behind_sections : (q : QueryParts) (count before now : ℕ) → BreaksBehind store head q count → Rose before now
      → SentFor store head (record { reply = broken_reply store head q count; course = broken_behind count; faults_before = before; faults_now = now })

-- ---- one request after another

-- what may be sent for a head
abbrev pub Answering : Type 1
Answering = RequestHead → Sent → Type 0

-- What was sent for the heads at the front of bytes, in order, each as is said of its head, none but the last of which
-- closes; and the bytes behind these heads. Behind a close no byte is looked at.
pub data SentBy (For : Answering) : List ℕ → List Sent → List ℕ → Type 0 where
  no_more : (bytes : List ℕ) → SentBy For bytes [] bytes
  limit : (bytes : List ℕ) (before : ℕ) → PassesLimit bytes
      → SentBy For bytes (quiet (refused_bytes refusals.HeadLimit) before ∷ []) []
  bad_head : (bytes : List ℕ) (before : ℕ) → HasWholeText IsNoRequest bytes
      → SentBy For bytes (quiet (refused_bytes refusals.BadHead) before ∷ []) []
  last : (bytes rest : List ℕ) (head : RequestHead) (sent : Sent) → BeginsRequest bytes head rest → For head sent
      → sent.reply.closes ≡ true → SentBy For bytes (sent ∷ []) []
  next : (bytes rest behind : List ℕ) (head : RequestHead) (sent : Sent) (more : List Sent) → BeginsRequest bytes head rest
      → For head sent → sent.reply.closes ≡ false → SentBy For rest more behind → SentBy For bytes (sent ∷ more) behind

-- over a store
abbrev pub SentAll : Store → List ℕ → List Sent → List ℕ → Type 0
SentAll store = SentBy (SentFor store)

abbrev pub sent_bytes : List Sent → List ℕ
sent_bytes sent = flat_map (λ s. reply_bytes s.reply) sent

abbrev pub replies_sent : List Sent → List Reply
replies_sent sent = map (λ s. s.reply) sent

-- the store's count while nothing else uses the store: it is at each request what it was behind the one before
abbrev pub CountsFollow : ℕ → List Sent → ℕ → Type 0
CountsFollow before [] now = now ≡ before
CountsFollow before (s ∷ more) now =
    (s.faults_before ≡ before) × (before ≤ s.faults_now) × CountsFollow s.faults_now more now

-- and while something else may use it between requests
abbrev pub CountsBetween : ℕ → List Sent → ℕ → Type 0
CountsBetween before [] now = before ≤ now
CountsBetween before (s ∷ more) now =
    (before ≤ s.faults_before) × (s.faults_before ≤ s.faults_now) × CountsBetween s.faults_now more now

-- ---- the numbers that are told, and whether the connection closes

-- the store broke off
abbrev pub is_broken : Course → Bool
is_broken as_stored = false
is_broken broken_before = true
is_broken (broken_behind count) = true

abbrev pub is_server_error : Status → Bool
is_server_error statuses.ServerError = true
is_server_error statuses.Ok = false
is_server_error statuses.BadRequest = false
is_server_error statuses.NotFound = false
is_server_error statuses.MethodNotAllowed = false
is_server_error statuses.NotAcceptable = false
is_server_error statuses.FieldsTooLarge = false

abbrev pub count_if : Bool → ℕ → ℕ
count_if true n = n + 1
count_if false n = n

-- how many replies have status 500 or a body that was cut
abbrev pub broken_in : List Sent → ℕ
broken_in [] = 0
broken_in (s ∷ more) = count_if (if is_server_error s.reply.status then true else s.reply.cut) (broken_in more)

-- at how many of them the store broke off
abbrev pub failed_in : List Sent → ℕ
failed_in [] = 0
failed_in (s ∷ more) = count_if (is_broken s.course) (failed_in more)

abbrev pub closed_by : List Sent → Bool
closed_by [] = false
closed_by (s ∷ more) = if s.reply.closes then true else closed_by more

-- nothing more is sent before more bytes come: those behind the heads are no whole head, or the connection is closed
abbrev pub IsSettled : List ℕ → List Sent → Type 0
IsSettled rest sent = IsWaiting rest ⊎ (closed_by sent ≡ true)

-- all that is sent for bytes, and the bytes behind it
pub record SentInFull (For : Answering) (bytes : List ℕ) (sent : List Sent) (rest : List ℕ) : Type 0 where
  pub sent_is : SentBy For bytes sent rest
  pub settled : IsSettled rest sent
