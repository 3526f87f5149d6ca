-- Links that are served side by side over one store, and what a door tells of them (RFC 9112, section 9.3).
use Rattle.std.specs.Option.{option_map}
use Rattle.std.specs.Prelude.{All, Bool, IsPermutation, List, None, Option, Some, [], drop, false, length, true, ℕ, ◌<◌, ◌≡◌, ◌≤◌, ◌⊎◌}
use Rattle.tg_doors.specs.Doors.{DoorRose, Doorway}
use Rattle.tg_model.specs.Stores.{Store}
use Rattle.tg_serve.specs.Serving.{AreHeardOf, AreServed, HasHappened, IsServedRun, LinkRun, QuietWhileTold, and_calls}
use Rattle.tg_serve.specs.declared.Happened.{Happened}

-- a link was served, while the store's count went from one number to another, no sooner than it was this number and no later
-- than that one
pub record IsServedWithin (told : Option Store) (most before now : ℕ) (run : LinkRun) : Type 0 where
  pub served : IsServedRun told most run
  pub behind : before ≤ run.faults_before
  pub rises : run.faults_before ≤ run.faults_now
  pub until : run.faults_now ≤ now

-- one link after another: they were given back as they came, and each was served behind the one before
pub record IsOneByOne (told : Option Store) (most before now : ℕ) (admitted runs : List LinkRun) : Type 0 where
  pub same_order : admitted ≡ runs
  pub in_turn : AreServed told most before runs now

-- how links were served side by side, in so many lanes, through a door that may give so many: these were given back, in this
-- order, which the door tells where the links tell it, or else it counted a fault; they came in that one, and on each a front
-- was heard of what its peer says; so many came, or the door gave no more, as it failed or none is to come
pub record ServesLanes (told : Option Store) (most count lanes : ℕ) (tell : Type 0) (before now : ℕ) (door : Doorway) (happened : Happened) : Type 0 where
  pub runs : List LinkRun
  pub served : All (IsServedWithin told most before now) runs
  pub told_are : tell → (door.served_new ≡ and_calls door.served_old runs) ⊎ ((door.served_new ≡ None) × DoorRose door)
  pub admitted : List LinkRun
  pub order : IsPermutation admitted runs
  pub one_lane : lanes ≡ 1 → IsOneByOne told most before now admitted runs
  pub coming : door.coming_new ≡ option_map (drop (length admitted)) door.coming_old
  pub heard : AreHeardOf door.coming_old admitted
  pub unadmitted : Bool
  pub shut : unadmitted ≡ true → (door.shut_new ≡ true) × DoorRose door
  pub ended : (length admitted ≡ count) ⊎ ((length admitted < count) × (door.shut_new ≡ true))
  pub none_left : length admitted < count → unadmitted ≡ false → door.coming_new ≡ Some []
  pub has_happened : HasHappened runs unadmitted happened
  pub failed : happened.fault ≡ true → DoorRose door
  pub quiet : happened.fault ≡ false → QuietWhileTold door
  pub port : door.port_new ≡ door.port_old
  pub rises : before ≤ now
  pub counted : door.faults_old ≤ door.faults_new
