-- What holds between the turns of serving links side by side: which came, which stand in a lane still, and which were given
-- back.
use Rattle.std.specs.Option.{option_map}
use Rattle.std.specs.Prelude.{All, Bool, IsPermutation, List, None, Option, Result, Some, [], drop, false, if◌then◌else◌, length, map, replicate, slice_get, true, ⊤, ℕ, ◌*◌, ◌+◌, ◌++◌, ◌-◌, ◌<◌, ◌==◌, ◌∷◌, ◌≡◌, ◌≤◌, ◌⊎◌}
use Rattle.tg_doors.specs.Doors.{DoorMeaning, DoorRose, Doorway, at_door}
use Rattle.tg_gateway.specs.Links.{served_of}
use Rattle.tg_gateway.specs.Sessions.{SessionView, new_session}
use Rattle.tg_gateway.specs.declared.fault.GatewayFault.{GatewayFault}
use Rattle.tg_lanes.specs.History.{Fed, LanesStandFor, Move, fed_in, own_of, since_of, written_in}
use Rattle.tg_lanes.specs.Lanes.{LanesView}
use Rattle.tg_links.specs.Links.{LinkMeaning}
use Rattle.tg_links.specs.Steps.{IsHeardOf, Spoke, link_step}
use Rattle.tg_links.specs.Views.{IsNew, view_of}
use Rattle.tg_model.specs.Stores.{BlocksMeaning, Store}
use Rattle.tg_serve.specs.Serving.{AreServed, HasHappened, LinkRun, LinksTell, QuietWhileTold, and_calls, happened_with}
use Rattle.tg_serve.specs.SideBySide.{IsServedWithin}
use Rattle.tg_serve.specs.declared.Happened.{Happened}
use Rattle.tg_streams.specs.Streams.{SourceMeaning}

-- ---- what came

-- a link that came: it stands in a lane, and this is what its peer says, told or not; or it was given back
pub data Admission : Type 0 where
  in_lane : ℕ → Option (List ℕ) → Admission
  given_back : LinkRun → Admission

-- how many stand in a lane
abbrev pub number_in : ℕ → List Admission → ℕ
number_in lane [] = 0
number_in lane (in_lane other left ∷ more) = if other == lane then number_in lane more + 1 else number_in lane more
number_in lane (given_back run ∷ more) = number_in lane more

-- what the peer says of those that stand in a lane
abbrev pub AreOf : ℕ → Option (List ℕ) → List Admission → Type 0
AreOf lane left [] = ⊤
AreOf lane left (in_lane other said ∷ more) = (other ≡ lane → said ≡ left) × AreOf lane left more
AreOf lane left (given_back run ∷ more) = AreOf lane left more

-- those that were given back, as they came
abbrev pub runs_in : List Admission → List LinkRun
runs_in [] = []
runs_in (in_lane lane left ∷ more) = runs_in more
runs_in (given_back run ∷ more) = run ∷ runs_in more

-- of the links that were to come these are the first, as far as that is told
abbrev pub AreFirst : Option (List (List ℕ)) → List Admission → Type 0
AreFirst None all = ⊤
AreFirst (Some coming) [] = ⊤
AreFirst (Some []) (one ∷ all) = ⊥
AreFirst (Some (first ∷ coming)) (in_lane lane left ∷ all) = (left ≡ Some first) × AreFirst (Some coming) all
AreFirst (Some (first ∷ coming)) (given_back run ∷ all) = IsHeardOf first run.heard run.over × AreFirst (Some coming) all

-- ---- the lanes

-- how many links a lane has: none or one
abbrev pub number_at : {K : Type 0} → Option (Option K) → ℕ
number_at None = 0
number_at (Some None) = 0
number_at (Some (Some link)) = 1

-- the link of a lane, of which all was fed to its session that was heard, and all was said that the session wrote
pub record IsInLane {K : Type 0} (m : LinkMeaning K) (source : SourceMeaning K) (most : ℕ) (moves : List Move) (admissions : List Admission) (lane : ℕ) (session : SessionView) (link : K) : Type 0 where
  pub begun : K
  pub new : IsNew (view_of m source begun)
  pub spoke : Spoke (link_step m source begun link) (fed_in (own_of lane moves)) (written_in (own_of lane moves))
  pub unfailed : source.faults link ≡ 0
  pub left_is : AreOf lane (m.left begun) admissions
  pub open_is : session.state.closed ≡ false
  pub unrefused : session.refused ≡ None
  pub most_is : session.state.most ≡ most

-- one lane: those that came were given back in their order, but for the last, which may stand in it still; each was served
-- behind the one before
abbrev pub last_in : Option (Option (List ℕ)) → List Admission
last_in None = []
last_in (Some left) = in_lane 0 left ∷ []

abbrev pub IsBehind : Option (Option (List ℕ)) → ℕ → ℕ → Type 0
IsBehind None number since = ⊤
IsBehind (Some left) number since = number ≤ since

pub record InOrder (told : Option Store) (most before now since : ℕ) (admissions : List Admission) (runs : List LinkRun) : Type 0 where
  pub last : Option (Option (List ℕ))
  pub admissions_are : admissions ≡ map given_back runs ++ last_in last
  pub number : ℕ
  pub in_turn : AreServed told most before runs number
  pub until : number ≤ now
  pub behind : IsBehind last number since

-- ---- how many more may come

-- so many more may; or the door gave no more, as none is to come, or as it failed
pub data MayCome (count left number : ℕ) (door : Doorway) : Bool → Type 0 where
  some_more : number + left ≡ count → MayCome count left number door false
  none_comes : left ≡ 0 → number < count → door.shut_new ≡ true → door.coming_new ≡ Some [] → MayCome count left number door false
  none_came : left ≡ 0 → number < count → door.shut_new ≡ true → DoorRose door → MayCome count left number door true

-- ---- between two turns

pub record LanesGo {K : Type 0} (m : LinkMeaning K) (source : SourceMeaning K) (told : Option Store) (most count before now : ℕ) (sessions : List SessionView) (links : List (Option K)) (left : ℕ) (door : Doorway) (happened : Happened) : Type 0 where
  pub moves : List Move
  pub stand : LanesStandFor sessions told before now moves
  pub rises : before ≤ now
  pub begun : (lane : ℕ) → before ≤ since_of lane before moves
  pub as_many : length sessions ≡ length links
  pub admissions : List Admission
  pub numbers : (lane : ℕ) → number_in lane admissions ≡ number_at (slice_get links lane)
  pub busy : (lane : ℕ) (session : SessionView) (link : K) → slice_get sessions lane ≡ Some session → slice_get links lane ≡ Some (Some link)
      → IsInLane m source most moves admissions lane session link
  pub runs : List LinkRun
  pub served : All (IsServedWithin told most before now) runs
  pub order : IsPermutation (runs_in admissions) runs
  pub one_lane : length links ≡ 1 → InOrder told most before now (since_of 0 before moves) admissions runs
  pub told_are : LinksTell m → (door.served_new ≡ and_calls door.served_old runs) ⊎ ((door.served_new ≡ None) × DoorRose door)
  pub coming : door.coming_new ≡ option_map (drop (length admissions)) door.coming_old
  pub heard : AreFirst door.coming_old admissions
  pub unadmitted : Bool
  pub may_come : MayCome count left (length admissions) door unadmitted
  pub has_happened : HasHappened runs unadmitted happened
  pub untold : door.served_old ≡ None → door.served_new ≡ None
  pub failed : happened.fault ≡ true → DoorRose door
  pub quiet : happened.fault ≡ false → QuietWhileTold door
  pub port : door.port_new ≡ door.port_old
  pub counted : door.faults_old ≤ door.faults_new

-- ---- one moment and a later one

-- what lanes hold, the store's count and the door at one moment
pub record Moment (D K : Type 0) : Type 0 where
  pub faults : ℕ
  pub sessions : List SessionView
  pub links : List (Option K)
  pub left : ℕ
  pub happened : Happened
  pub door : D

abbrev pub moment_of : {B D K : Type 0} → BlocksMeaning B → LanesView B → List (Option K) → ℕ → Happened → D → Moment D K
moment_of blocks lanes links left happened door = record {
  faults = blocks.faults lanes.blocks;
  sessions = lanes.sessions;
  links = links;
  left = left;
  happened = happened;
  door = door;
}

-- so lanes go at a moment, since the door was what it was when the first link could come
abbrev pub GoAt : {D K : Type 0} → DoorMeaning D → LinkMeaning K → SourceMeaning K → Option Store → ℕ → ℕ → ℕ → D → Moment D K → Type 0
GoAt d m source told most count before first at =
    LanesGo m source told most count before at.faults at.sessions at.links at.left (at_door d first at.door) at.happened

-- ---- how much may happen still

-- what lanes with links may receive still, and one for each of these links
abbrev pub weights : {K : Type 0} → List SessionView → List (Option K) → ℕ
weights [] links = 0
weights (session ∷ sessions) [] = 0
weights (session ∷ sessions) (None ∷ links) = weights sessions links
weights (session ∷ sessions) (Some link ∷ links) = (session.state.most - session.state.received + 1) + weights sessions links

-- and of links that may come still
abbrev pub weight : {K : Type 0} → ℕ → ℕ → List SessionView → List (Option K) → ℕ
weight most left sessions links = left * (most + 2) + weights sessions links

-- lanes that went go on, and less may happen; or nothing changed
abbrev pub GoOn : {D K : Type 0} → DoorMeaning D → LinkMeaning K → SourceMeaning K → Option Store → ℕ → Moment D K → Moment D K → Type 0
GoOn {D} d m source told most old new = (first : D) (count before : ℕ) → GoAt d m source told most count before first old
    → GoAt d m source told most count before first new × (weight most new.left new.sessions new.links < weight most old.left old.sessions old.links)

abbrev pub MayGoOn : {D K : Type 0} → DoorMeaning D → LinkMeaning K → SourceMeaning K → Option Store → ℕ → Bool → Moment D K → Moment D K → Type 0
MayGoOn d m source told most true old new = GoOn d m source told most old new
MayGoOn d m source told most false old new = new ≡ old

-- how many lanes have a link
abbrev pub busy_in : {K : Type 0} → List (Option K) → ℕ
busy_in [] = 0
busy_in (None ∷ links) = busy_in links
busy_in (Some link ∷ links) = busy_in links + 1

-- 1 to 64 lanes, of which so many have a link; of as many it is known whether the door marked them; and there is room for a
-- byte at least
pub record AreLanes {K : Type 0} (links : List (Option K)) (sessions busy ready room : ℕ) : Type 0 where
  pub as_many : sessions ≡ length links
  pub some : 1 ≤ length links
  pub most : length links ≤ 64
  pub counted : busy ≡ busy_in links
  pub marked : ready ≡ length links
  pub place : 0 < room

-- what happened with a link more, whose lane's session has these numbers and ended so
pub record HappensWith (sessions : List SessionView) (lane : ℕ) (old new : Happened) (end : Result ⊤ GatewayFault) : Type 0 where
  pub session : SessionView
  pub session_is : slice_get sessions lane ≡ Some session
  pub with_is : new ≡ happened_with old (served_of session.state) end

-- lanes that are new, none of which has a link, while nothing happened
pub record AreNew {K : Type 0} (sessions : List SessionView) (most : ℕ) (links : List (Option K)) (busy ready room : ℕ) (happened : Happened) : Type 0 where
  pub some : 1 ≤ length sessions
  pub most_lanes : length sessions ≤ 64
  pub new : sessions ≡ replicate (length sessions) (new_session most)
  pub free : links ≡ replicate (length sessions) None
  pub ready_are : ready ≡ length sessions
  pub place : 0 < room
  pub idle : busy ≡ 0
  pub has_happened : HasHappened [] false happened
