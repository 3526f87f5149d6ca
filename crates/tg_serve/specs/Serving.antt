-- Links that are served one after another over one store, and what a door tells of them (RFC 9112, section 9.3).
use Rattle.std.specs.List.{list_any}
use Rattle.std.specs.Prelude.{Bool, Err, IsSome, List, None, Ok, Option, Result, Some, [], drop, false, length, map, option_map, suc, take, true, zero, ⊤, ℕ}
use Rattle.std.specs.Prelude.{◌++◌, ◌<◌, ◌∷◌, ◌≡◌, ◌≤◌, ◌⊎◌, ◌||◌}
use Rattle.tg_doors.specs.Doors.{DoorQuiet, DoorRose, Doorway}
use Rattle.tg_links.specs.Views.{and_call}
use Rattle.tg_faults.specs.declared.calls.Failed.{Failed}
use Rattle.tg_gateway.specs.Links.{IsServed}
use Rattle.tg_gateway.specs.declared.fault.GatewayFault.{GatewayFault}
use Rattle.tg_gateway.specs.declared.fault.GatewayFault.TheVariants as faults
use Rattle.tg_gateway.specs.declared.session.Served.{Served}
use Rattle.tg_links.specs.Links.{LinkMeaning}
use Rattle.tg_links.specs.Steps.{IsHeardOf}
use Rattle.tg_links.specs.declared.call.Call.{Call}
use Rattle.tg_model.specs.Stores.{Lookups, LookupsQuiet, Store}
use Rattle.tg_reply.specs.Sent.{CountsBetween, Sent, SentBy, SentInFull, closed_by, sent_bytes}
use Rattle.tg_reply.specs.Shapes.{SentOver}
use Rattle.tg_serve.specs.declared.Happened.{Happened}

-- ---- one link

-- a link that was served: what was heard and what was said, whether the peer said no more, whether a call of the link
-- failed, the numbers of the replies, how its session ended, and the store's count before and behind it
pub record LinkRun : Type 0 where
  pub heard : List ℕ
  pub said : List ℕ
  pub over : Bool
  pub failed : Bool
  pub served : Served
  pub end : Result ⊤ GatewayFault
  pub faults_before : ℕ
  pub faults_now : ℕ

-- all that is sent for what was heard was said; and the peer said no more, or the last reply closes
pub record SaidAll (told : Option Store) (run : LinkRun) : Type 0 where
  pub sent : List Sent
  pub rest : List ℕ
  pub sent_is : SentInFull (SentOver told) run.heard sent rest
  pub said_is : run.said ≡ sent_bytes sent
  pub ended : (run.over ≡ true) ⊎ (closed_by sent ≡ true)
  pub numbers : IsServed run.served sent
  pub counts : CountsBetween run.faults_before sent run.faults_now
  pub unfailed : run.failed ≡ false

-- more was heard than this number of bytes, and what is sent for so many was said, and leaves the connection open
pub record SaidUpTo (told : Option Store) (number : ℕ) (run : LinkRun) : Type 0 where
  pub past : number < length run.heard
  pub sent : List Sent
  pub rest : List ℕ
  pub sent_is : SentInFull (SentOver told) (take number run.heard) sent rest
  pub left_open : closed_by sent ≡ false
  pub said_is : run.said ≡ sent_bytes sent
  pub numbers : IsServed run.served sent
  pub counts : CountsBetween run.faults_before sent run.faults_now
  pub unfailed : run.failed ≡ false

-- of what is sent for what was heard a front was said: these replies whole, which were counted, and a front of the next
pub record SaidFront (told : Option Store) (run : LinkRun) : Type 0 where
  pub sent : List Sent
  pub next : List Sent
  pub rest : List ℕ
  pub sent_is : SentBy (SentOver told) run.heard (sent ++ next) rest
  pub at_most_one : length next ≤ 1
  pub left_open : closed_by sent ≡ false
  pub count : ℕ
  pub said_is : run.said ≡ sent_bytes sent ++ take count (sent_bytes next)
  pub numbers : IsServed run.served sent
  pub counts : CountsBetween run.faults_before sent run.faults_now

-- what was said is what is sent, by how the session ended
abbrev pub SaidBy : Option Store → ℕ → LinkRun → Result ⊤ GatewayFault → Type 0
SaidBy told most run (Ok done) = SaidAll told run
SaidBy told most run (Err (faults.Limit number)) = (number ≡ most) × SaidUpTo told number run
SaidBy told most run (Err faults.LinkFault) = SaidFront told run × (run.failed ≡ true)
SaidBy told most run (Err faults.OutOfMemory) = SaidFront told run × (run.failed ≡ false)

abbrev pub IsServedRun : Option Store → ℕ → LinkRun → Type 0
IsServedRun told most run = SaidBy told most run run.end

-- ---- one link after another

-- each was served, while the store's count went from one number to another
abbrev pub AreServed : Option Store → ℕ → ℕ → List LinkRun → ℕ → Type 0
AreServed told most before [] now = before ≤ now
AreServed told most before (run ∷ runs) now =
    IsServedRun told most run × (before ≤ run.faults_before) × (run.faults_before ≤ run.faults_now)
    × AreServed told most run.faults_now runs now

-- ---- what happened

abbrev pub is_memory : Result ⊤ GatewayFault → Bool
is_memory (Err faults.OutOfMemory) = true
is_memory (Err faults.LinkFault) = false
is_memory (Err (faults.Limit number)) = false
is_memory (Ok done) = false

abbrev pub is_limit : Result ⊤ GatewayFault → Bool
is_limit (Err (faults.Limit number)) = true
is_limit (Err faults.LinkFault) = false
is_limit (Err faults.OutOfMemory) = false
is_limit (Ok done) = false

abbrev pub is_positive : ℕ → Bool
is_positive zero = false
is_positive (suc n) = true

abbrev pub is_link_fault : Result ⊤ GatewayFault → Bool
is_link_fault (Err faults.LinkFault) = true
is_link_fault (Err faults.OutOfMemory) = false
is_link_fault (Err (faults.Limit number)) = false
is_link_fault (Ok done) = false

abbrev pub happened_with : Happened → Served → Result ⊤ GatewayFault → Happened
happened_with happened served end = record {
  memory = happened.memory || is_memory end;
  store = happened.store || is_positive served.store;
  fault = happened.fault || is_link_fault end;
  limit = happened.limit || is_limit end;
}

-- over all links: memory was wanted; the store broke off a reply; a link failed, or the last `admit`; more came than may
-- be received
pub record HasHappened (runs : List LinkRun) (unadmitted : Bool) (happened : Happened) : Type 0 where
  pub memory : happened.memory ≡ list_any (λ run. is_memory run.end) runs
  pub store : happened.store ≡ list_any (λ run. is_positive run.served.store) runs
  pub fault : happened.fault ≡ (unadmitted || list_any (λ run. run.failed) runs)
  pub limit : happened.limit ≡ list_any (λ run. is_limit run.end) runs

-- ---- the door

-- a kind of link that tells what it heard and said
abbrev pub LinksTell : {L : Type 0} → LinkMeaning L → Type 0
LinksTell {L} m = (link : L) → IsSome (m.heard link) × IsSome (m.said link)

-- what is told of a link that was given back
abbrev pub call_of : LinkRun → Call
call_of run = record { heard = run.heard; said = run.said; over = run.over; failed = run.failed }

abbrev pub and_calls : Option (List Call) → List LinkRun → Option (List Call)
and_calls None runs = None
and_calls (Some calls) runs = Some (calls ++ map call_of runs)

-- on each link a front was heard of what its peer will say, in order, as far as that is told, and all of it where the peer said
-- no more
abbrev pub AreHeardOf : Option (List (List ℕ)) → List LinkRun → Type 0
AreHeardOf None runs = ⊤
AreHeardOf (Some coming) [] = ⊤
AreHeardOf (Some []) (run ∷ runs) = ⊥
AreHeardOf (Some (first ∷ coming)) (run ∷ runs) = IsHeardOf first run.heard run.over × AreHeardOf (Some coming) runs

-- no fault of the door was counted; or it told the links that were given back, and no memory was found to tell of one
abbrev pub QuietWhileTold : Doorway → Type 0
QuietWhileTold door = DoorQuiet door ⊎ (IsSome door.served_old × (door.served_new ≡ None) × DoorRose door)

-- how links were served through a door that may give so many: these came, in order, on each a front was heard of what its
-- peer says, and each was given back, which the door tells where the links tell it, or else it counted a fault; so many came,
-- or the door gave no more, as it failed or none is to come; and the store's count went from one number to another
pub record ServesDoor (told : Option Store) (most count : ℕ) (tell : Type 0) (before now : ℕ) (door : Doorway) (happened : Happened) : Type 0 where
  pub runs : List LinkRun
  pub served : AreServed told most before runs now
  pub told_are : tell → (door.served_new ≡ and_calls door.served_old runs) ⊎ ((door.served_new ≡ None) × DoorRose door)
  pub coming : door.coming_new ≡ option_map (drop (length runs)) door.coming_old
  pub heard : AreHeardOf door.coming_old runs
  pub unadmitted : Bool
  pub shut : unadmitted ≡ true → (door.shut_new ≡ true) × DoorRose door
  pub ended : (length runs ≡ count) ⊎ ((length runs < count) × (door.shut_new ≡ true))
  pub none_left : length runs < count → unadmitted ≡ false → door.coming_new ≡ Some []
  pub has_happened : HasHappened runs unadmitted happened
  pub failed : happened.fault ≡ true → DoorRose door
  pub quiet : happened.fault ≡ false → QuietWhileTold door
  pub port : door.port_new ≡ door.port_old
  pub counted : door.faults_old ≤ door.faults_new

-- ---- the next link

-- it came and was given back
pub record ServesLink (told : Option Store) (most : ℕ) (tell : Type 0) (lookups : Lookups) (door : Doorway) (served : Served) (end : Result ⊤ GatewayFault) : Type 0 where
  pub run : LinkRun
  pub served_is : run.served ≡ served
  pub end_is : run.end ≡ end
  pub is_served : IsServedRun told most run
  pub before : run.faults_before ≡ lookups.faults_old
  pub now : run.faults_now ≡ lookups.faults_new
  pub rises : lookups.faults_old ≤ lookups.faults_new
  pub told_is : tell → (door.served_new ≡ and_call door.served_old (Some (call_of run))) ⊎ ((door.served_new ≡ None) × DoorRose door)
  pub coming : door.coming_new ≡ option_map (drop 1) door.coming_old
  pub heard : AreHeardOf door.coming_old (run ∷ [])
  pub untold : door.served_old ≡ None → door.served_new ≡ None
  pub failed : run.failed ≡ true → DoorRose door
  pub quiet : run.failed ≡ false → QuietWhileTold door
  pub port : door.port_new ≡ door.port_old
  pub counted : door.faults_old ≤ door.faults_new

-- none came, and nothing was looked up
pub record ServesNone (lookups : Lookups) (door : Doorway) : Type 0 where
  pub served : door.served_new ≡ door.served_old
  pub coming : door.coming_new ≡ door.coming_old
  pub shut : door.shut_new ≡ true
  pub port : door.port_new ≡ door.port_old
  pub quiet : LookupsQuiet lookups
  pub counted : door.faults_old ≤ door.faults_new

abbrev pub ServesNext : Option Store → ℕ → Type 0 → Lookups → Doorway → Result (Option (Served × Result ⊤ GatewayFault)) Failed → Type 0
ServesNext told most tell lookups door (Ok (Some ran)) = ServesLink told most tell lookups door ran.0 ran.1
ServesNext told most tell lookups door (Ok None) = ServesNone lookups door × (door.coming_new ≡ Some []) × DoorQuiet door
ServesNext told most tell lookups door (Err fault) = ServesNone lookups door × DoorRose door
