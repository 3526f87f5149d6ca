-- Faults for which no reply to a query with no path is refused.
use Rattle.std.proofs.Common.{Err, List, [], ap, inl, inr, refl, subst, sym, ℕ, ◌∙◌, ◌≡◌, ◌≢◌, ◌∷◌}
use Rattle.std.specs.Prelude.{Bool, ⊤}
use Rattle.tg_cid.specs.Cid.{CidParts}
use Rattle.tg_client.specs.Ends.{EndsBy}
use Rattle.tg_client.specs.declared.fault.ClientFault.{ClientFault}
use Rattle.tg_client.specs.declared.fault.ClientFault.TheVariants as clients
use Rattle.tg_fetch.specs.Bodies.{BodyFails, BodyStops, IsBlockFault}
use Rattle.tg_fetch.specs.Faults.{absence_fault, fault_of_client, fault_of_refusal}
use Rattle.tg_fetch.specs.Replies.{HeadStops, RefusedBy}
use Rattle.tg_fetch.specs.declared.fault.FetchFault.{FetchFault}
use Rattle.tg_fetch.specs.declared.fault.FetchFault.TheVariants as fetches
use Rattle.tg_http.specs.declared.reply.ReplyHead.{ReplyHead}
use Rattle.tg_model.specs.Dag.{Dag, Section, bare, node, unopened}
use Rattle.tg_model.specs.LimitNumbers.{LimitNumbers}
use Rattle.tg_model.specs.PathWalk.{not_reached, path_walk}
use Rattle.tg_model.specs.Queries.{QueryParts}
use Rattle.tg_model_laws.specs.TakenBlocks.{root_cids_at}
use Rattle.tg_model_laws.specs.Tasks.{Miss, Task, give_entries, give_text, mapped, no_directory, no_entry, open_block, stop_at, stop_of}
use Rattle.tg_streams.specs.Streams.{Input}
use Rattle.tg_verify.specs.Absences.{path_limits, path_query}
use Rattle.tg_verify.specs.Refusals.{HasRefused}
use Rattle.tg_verify.specs.Taken.{IsNowhere}
use Rattle.tg_verify.specs.declared.fault.Refusal.{Refusal}
use Rattle.tg_verify.specs.declared.fault.Refusal.TheVariants as verifiers

-- a walk along no path stops at no segment
pathless_walk : (d : Dag) (miss : Miss) → (path_walk [] d).end ≡ not_reached (stop_of miss) → ⊥
pathless_walk (unopened cid) (no_entry i) e = cc
pathless_walk (unopened cid) (no_directory i) e = cc
pathless_walk (bare section fault) miss e = cc
pathless_walk (node section kind children) miss e = cc

-- DAGs of which nothing is opened at the places that are to come
unopened_at : (tasks : List (Task CidParts)) → root_cids_at (mapped (λ w cid. unopened cid) tasks) ≡ tasks
unopened_at [] = refl
unopened_at (open_block w cid ∷ tasks) = ap (λ (more : List (Task CidParts)). open_block w cid ∷ more) (unopened_at tasks)
unopened_at (give_text text ∷ tasks) = ap (λ (more : List (Task CidParts)). give_text text ∷ more) (unopened_at tasks)
unopened_at (give_entries met ∷ tasks) = ap (λ (more : List (Task CidParts)). give_entries met ∷ more) (unopened_at tasks)
unopened_at (stop_at miss ∷ tasks) = ap (λ (more : List (Task CidParts)). stop_at miss ∷ more) (unopened_at tasks)

-- that a segment leads nowhere, want of memory as a refusal of the bytes, and a fault of the peer
abbrev pub IsNoReplyFault : FetchFault → Type 0
IsNoReplyFault (fetches.Refused (verifiers.NotFolder segment)) = ⊤
IsNoReplyFault (fetches.Refused (verifiers.NotThere segment)) = ⊤
IsNoReplyFault (fetches.Refused verifiers.OutOfMemory) = ⊤
IsNoReplyFault fetches.PeerFault = ⊤
IsNoReplyFault other = ⊥

absence_client : (cause : ClientFault) → IsNoReplyFault (absence_fault cause) → IsNoReplyFault (fault_of_client cause)
absence_client (clients.Refused (verifiers.Extra number)) never = never
absence_client (clients.Refused fault) never = never
absence_client cause never = never

no_head : (q : QueryParts) (head : ReplyHead) (fault : FetchFault) → IsNoReplyFault fault → HeadStops q head fault → ⊥
no_head q head (fetches.Refused fault) never stops = stops
no_head q head fetches.PeerFault never stops = stops
no_head q head fault never stops = never

no_block : (limits : LimitNumbers) (bytes : List ℕ) (fault : FetchFault) → IsNoReplyFault fault → IsBlockFault limits bytes fault → ⊥
no_block limits bytes (fetches.Refused (verifiers.Limit kind number)) never stops = never
no_block limits bytes (fetches.Refused fault) never stops = stops
no_block limits bytes fetches.PeerFault never stops = stops
no_block limits bytes fault never stops = never

module _ (q : QueryParts) (limits : LimitNumbers) (sections : List Section) (text : List ℕ) (none : q.path ≡ []) where
  no_miss : (miss : Miss) → IsNowhere q limits sections text miss → ⊥
  no_miss miss h =
      let nodes : List (Task Dag) = stop_at miss ∷ mapped (λ w cid. unopened cid) h.later in
      let opens = h.verified.opening nodes (unopened_at (stop_at miss ∷ h.later)) in
      elim opens.way [ inl way ↦ pathless_walk opens.s miss (sym (ap (λ (path : List (List ℕ)). (path_walk path opens.s).end) none) ∙ way.0) | inr below ↦ below.1 ]

  no_refusal : (cause : Refusal) → IsNoReplyFault (fault_of_refusal cause) → HasRefused q limits sections text cause → ⊥
  no_refusal (verifiers.NotFolder segment) never refused = no_miss (no_directory segment) refused
  no_refusal (verifiers.NotThere segment) never refused = no_miss (no_entry segment) refused
  no_refusal cause never refused = never

  no_client : (input : Input) (heard unheard : List ℕ) (cause : ClientFault) → cause ≢ clients.InputFault → IsNoReplyFault (fault_of_client cause)
      → EndsBy q limits input heard unheard sections text (Err cause) → ⊥
  no_client input heard unheard (clients.Refused (verifiers.NotFolder segment)) given never ends = no_miss (no_directory segment) ends
  no_client input heard unheard (clients.Refused (verifiers.NotThere segment)) given never ends = no_miss (no_entry segment) ends
  no_client input heard unheard (clients.Refused verifiers.OutOfMemory) given never ends = ends
  no_client input heard unheard (clients.Refused fault) given never ends = never
  no_client input heard unheard clients.InputFault given never ends = given refl
  no_client input heard unheard cause given never ends = never

module _ (q : QueryParts) (limits : LimitNumbers) (sections : List Section) (text : List ℕ) (fault : FetchFault)
    (none : q.path ≡ []) (never : IsNoReplyFault fault) where
  never_is : (other : FetchFault) → fault ≡ other → IsNoReplyFault other
  never_is other is = subst IsNoReplyFault is never

  no_stop : (head : ReplyHead) (bytes : List ℕ) → BodyStops q limits head bytes sections text fault → ⊥
  no_stop head bytes (BodyStops.answer h) =
      no_client q limits sections text none _ h.are_heard.heard h.are_heard.unheard h.cause h.not_input (never_is _ h.fault_is) h.ends
  no_stop head bytes (BodyStops.absence h) =
      no_client (path_query q) (path_limits limits) sections h.said none _ h.are_heard.heard h.are_heard.unheard h.cause h.not_input
      (absence_client h.cause (never_is _ h.fault_is)) h.ends
  no_stop head bytes (BodyStops.reaches h) = never_is _ h.fault_is
  no_stop head bytes (BodyStops.block h) = no_block limits bytes fault never h.cause

  no_end : (head : ReplyHead) (body : List ℕ) → BodyFails q limits head body sections text fault → ⊥
  no_end head body (BodyFails.answer h) = never_is _ h.fault_is
  no_end head body (BodyFails.absence h) = never_is _ h.fault_is
  no_end head body (BodyFails.reaches h) = never_is _ h.fault_is
  no_end head body (BodyFails.block h) = no_refusal q limits sections text none h.cause (never_is _ h.fault_is) h.refused

  pub no_reply : (heard unheard : List ℕ) (ended : Bool) → RefusedBy q limits heard unheard ended sections text fault → ⊥
  no_reply heard unheard ended (RefusedBy.bad_head is bad no_section no_text) = never_is _ is
  no_reply heard unheard ended (RefusedBy.cut_head is over no_more front no_section no_text) = never_is _ is
  no_reply heard unheard ended (RefusedBy.at_head h no_section no_text) = no_head q h.head fault never h.stops
  no_reply heard unheard ended (RefusedBy.in_body h) = no_stop h.head h.given h.stops
  no_reply heard unheard ended (RefusedBy.at_end h) = no_end h.head h.given h.fails
  no_reply heard unheard ended (RefusedBy.breaks is h) = never_is _ is
  no_reply heard unheard ended (RefusedBy.cut_body is over no_more h) = never_is _ is
  no_reply heard unheard ended (RefusedBy.past is h) = never_is _ is
  no_reply heard unheard ended (RefusedBy.memory is h) = never_is _ is
