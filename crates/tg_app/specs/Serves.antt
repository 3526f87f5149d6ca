-- `serve`: a pack is served through a door.
use Rattle.std.specs.Prelude.{All, Err, List, None, Ok, Option, Result, Some, if◌then◌else◌, ℕ, ◌≡◌, ◌⊎◌}
use Rattle.tg_commands.specs.Blocks.{OutputUntouched}
use Rattle.tg_commands.specs.Exports.{IsAttachedPack, NotAttached, pack_refusal}
use Rattle.tg_app.specs.Objects.{Entrance}
use Rattle.tg_commands.specs.declared.fault.CommandFault.{CommandFault}
use Rattle.tg_commands.specs.declared.fault.CommandFault.TheVariants as refusals
use Rattle.tg_files.specs.Packs.{PackStep}
use Rattle.tg_model.specs.LimitNumbers.{standard}
use Rattle.tg_model.specs.Stores.{Store}
use Rattle.tg_model.specs.declared.limits.LimitKind.TheVariants as kinds
use Rattle.tg_serve.specs.Packed.{AskedBy, HasServed, PackServed}
use Rattle.tg_serve.specs.Serving.{QuietWhileTold, SaidAll}
use Rattle.tg_serve.specs.declared.Happened.{Happened}
use Rattle.tg_serve.specs.declared.packed.ServeFault.{ServeFault}
use Rattle.tg_serve.specs.declared.packed.ServeFault.TheVariants as faults
use Rattle.tg_store.specs.AttachedPacks.{IsAttachedIn}
use Rattle.tg_store.specs.Attaching.{IsAttached}
use Rattle.tg_streams.specs.Streams.{Output}
use Rattle.tg_words.specs.ServeLines.{ServeParts}

-- what happened behind the line, by the first of these: want of memory, a reply that the store broke off, a fault of the door or
-- of a link, a link that gave more than may be received
abbrev pub happened_end : Happened → Option CommandFault
happened_end happened =
    if happened.memory then Some refusals.OutOfMemory
    else (if happened.store then Some refusals.StoreFault
    else (if happened.fault then Some refusals.DoorFault
    else (if happened.limit then Some (refusals.Limit kinds.Received standard.received) else None)))

abbrev pub serve_end : Result Happened ServeFault → Option CommandFault
serve_end (Ok happened) = happened_end happened
serve_end (Err (faults.Pack fault)) = Some (pack_refusal fault)
serve_end (Err faults.DoorFault) = Some refusals.DoorFault
serve_end (Err faults.SinkFault) = Some refusals.SinkFault
serve_end (Err faults.OutOfMemory) = Some refusals.OutOfMemory

-- the pack was attached at its path, and served so
pub record ServeEnded (parts : ServeParts) (step : PackStep) (out : Output) (door : Entrance) (end : Option CommandFault) : Type 0 where
  pub attached : IsAttachedPack parts.pack step
  pub result : Result Happened ServeFault
  pub served : PackServed standard.received parts.port parts.count parts.lanes door.links_tell step out door.doorway door.same_door result
  pub asked : AskedBy (door.asked parts.port) result
  pub end_is : end ≡ serve_end result

-- the pack can't be attached at its path
pub record ServeUnattached (step : PackStep) (out : Output) (door : Entrance) (end : Option CommandFault) : Type 0 where
  pub refusal : CommandFault
  pub end_is : end ≡ Some refusal
  pub unattached : NotAttached step out refusal
  pub same_door : door.same_door

-- nothing was done for want of memory
pub record ServeUnbegun (same_pack : Type 0) (out : Output) (door : Entrance) (end : Option CommandFault) : Type 0 where
  pub same : same_pack
  pub unput : OutputUntouched out
  pub same_door : door.same_door
  pub end_is : end ≡ Some refusals.OutOfMemory

-- how `serve` of the pack at a path of the system ends
abbrev pub ServeAnswers : ServeParts → PackStep → Type 0 → Output → Entrance → Option CommandFault → Type 0
ServeAnswers parts step same_pack out door end =
    ServeEnded parts step out door end ⊎ (ServeUnattached step out door end ⊎ ServeUnbegun same_pack out door end)

-- the door was asked to bind the port, the line was written and links were served, over what the pack's content holds as far as it is told
pub record ServedLinks (parts : ServeParts) (step : PackStep) (out : Output) (door : Entrance) : Type 0 where
  pub attached : IsAttachedPack parts.pack step
  pub told : Option Store
  pub store : IsAttachedIn step.content_old told
  pub happened : Happened
  pub asked : door.asked parts.port
  pub served : HasServed told standard.received parts.port parts.count parts.lanes door.links_tell step.faults_old step.faults_new out door.doorway happened

-- and on each link all that is sent for what was heard was said; and no fault of the door was counted, but where it tells the links
-- that were given back and no memory was found to tell of one
pub record ServedWhole (parts : ServeParts) (step : PackStep) (out : Output) (door : Entrance) : Type 0 where
  pub links : ServedLinks parts step out door
  pub each : All (SaidAll links.told) links.served.serves.runs
  pub quiet : QuietWhileTold door.doorway

-- the content is told, and can be attached as a store
abbrev pub IsGoodPack : Option (List ℕ) → Type 0
IsGoodPack content = (bytes : List ℕ) × (store : Store) × (content ≡ Some bytes) × IsAttached bytes store
