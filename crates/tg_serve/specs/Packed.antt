-- A pack that is served through a door (this project's own; RFC 9112, section 9.3).
use Rattle.std.specs.Prelude.{Err, List, Ok, Option, Result, Some, [], codes, decimal, false, ⊤, ℕ, ◌++◌, ◌∷◌, ◌≡◌, ◌≢◌}
use Rattle.tg_bytes.specs.Ascii.{line_feed}
use Rattle.tg_doors.specs.Doors.{DoorRose, Doorway, KeepsComing, KeepsPort, KeepsServed, KeepsShut}
use Rattle.tg_files.specs.Packs.{PackStep}
use Rattle.tg_model.specs.Stores.{Store}
use Rattle.tg_serve.specs.SideBySide.{ServesLanes}
use Rattle.tg_serve.specs.declared.Happened.{Happened}
use Rattle.tg_serve.specs.declared.packed.ServeFault.{ServeFault}
use Rattle.tg_serve.specs.declared.packed.ServeFault.TheVariants as faults
use Rattle.tg_store.specs.AttachedPacks.{IsAttachedIn}
use Rattle.tg_store.specs.Attaching.{IsRefusal}
use Rattle.tg_store.specs.declared.fault.PackFault.{PackFault}
use Rattle.tg_store.specs.declared.fault.PackFault.TheVariants as packs
use Rattle.tg_store.specs.declared.fault.PackRefused.{PackRefused}
use Rattle.tg_streams.specs.Streams.{Output, OutputQuiet, Put, PutFront, Unput}

-- the line that says to which port the door is bound
abbrev pub serving_line : ℕ → List ℕ
serving_line port = codes "serving 127.0.0.1:" ++ (decimal port ++ line_feed ∷ [])

-- nothing was put, and no fault of out was counted
pub record OutUntouched (out : Output) : Type 0 where
  pub unput : Unput out
  pub quiet : OutputQuiet out

-- no link came, and none was given back
pub record NoLinks (door : Doorway) : Type 0 where
  pub coming : KeepsComing door
  pub served : KeepsServed door

-- the door couldn't be bound
pub record Unbound (out : Output) (door : Doorway) : Type 0 where
  pub untouched : OutUntouched out
  pub links : NoLinks door
  pub port : KeepsPort door
  pub shut : KeepsShut door
  pub rose : DoorRose door

-- the line couldn't be written
pub record Unsaid (asked : ℕ) (out : Output) (door : Doorway) : Type 0 where
  pub port : ℕ
  pub port_is : asked ≢ 0 → port ≡ asked
  pub bound : door.port_new ≡ Some port
  pub line : PutFront (serving_line port) out
  pub links : NoLinks door

-- the door behind `bind`
abbrev pub behind_bind : Doorway → ℕ → Doorway
behind_bind door port = record door { port_old = Some port; shut_old = false }

-- the door was bound, the line was written, and links were served
pub record HasServed (told : Option Store) (most asked count lanes : ℕ) (tell : Type 0) (before now : ℕ) (out : Output) (door : Doorway) (happened : Happened) : Type 0 where
  pub port : ℕ
  pub port_is : asked ≢ 0 → port ≡ asked
  pub bound : door.port_new ≡ Some port
  pub line : Put (serving_line port) out
  pub quiet : OutputQuiet out
  pub serves : ServesLanes told most count lanes tell before now (behind_bind door port) happened

-- how a store is served
abbrev pub StoreServed : Option Store → ℕ → ℕ → ℕ → ℕ → Type 0 → ℕ → ℕ → Output → Doorway → Type 0 → Result Happened ServeFault → Type 0
StoreServed told most asked count lanes tell before now out door same_door (Ok happened) =
    HasServed told most asked count lanes tell before now out door happened
StoreServed told most asked count lanes tell before now out door same_door (Err faults.DoorFault) = Unbound out door × (now ≡ before)
StoreServed told most asked count lanes tell before now out door same_door (Err faults.SinkFault) = Unsaid asked out door × (now ≡ before)
StoreServed told most asked count lanes tell before now out door same_door (Err faults.OutOfMemory) = OutUntouched out × same_door × (now ≡ before)
StoreServed told most asked count lanes tell before now out door same_door (Err (faults.Pack fault)) = ⊥

-- the pack was attached as a store, which was served so
pub record AttachedServed (most asked count lanes : ℕ) (tell : Type 0) (step : PackStep) (out : Output) (door : Doorway) (same_door : Type 0) (end : Result Happened ServeFault) : Type 0 where
  pub told : Option Store
  pub attached : IsAttachedIn step.content_old told
  pub served : StoreServed told most asked count lanes tell step.faults_old step.faults_new out door same_door end

-- how a pack is served: it is refused, or no memory is found, and nothing is done; or it is attached
abbrev pub PackServed : ℕ → ℕ → ℕ → ℕ → Type 0 → PackStep → Output → Doorway → Type 0 → Result Happened ServeFault → Type 0
PackServed most asked count lanes tell step out door same_door (Err (faults.Pack fault)) = IsRefusal step fault × OutUntouched out × same_door
PackServed most asked count lanes tell step out door same_door (Err faults.OutOfMemory) = OutUntouched out × same_door × (step.faults_new ≡ step.faults_old)
PackServed most asked count lanes tell step out door same_door end = AttachedServed most asked count lanes tell step out door same_door end

-- the door was asked to bind the port, unless the pack was refused before, or no memory was found for it
abbrev pub AskedBy : Type 0 → Result Happened ServeFault → Type 0
AskedBy asked (Ok happened) = asked
AskedBy asked (Err (faults.Pack fault)) = ⊤
AskedBy asked (Err faults.DoorFault) = asked
AskedBy asked (Err faults.SinkFault) = asked
AskedBy asked (Err faults.OutOfMemory) = ⊤

-- a refusal of a pack; want of memory is the command's own
abbrev pub fault_of_pack : PackFault → ServeFault
fault_of_pack packs.OutOfMemory = faults.OutOfMemory
fault_of_pack fault = faults.Pack fault

-- a refused pack is given back with the fault of its refusal, and with no other
abbrev pub GivesBack : {P : Type 0} → P → Result Happened ServeFault → PackRefused P → Type 0
GivesBack pack end refused = (pack ≡ refused.pack) × (end ≡ Err (fault_of_pack refused.fault))
