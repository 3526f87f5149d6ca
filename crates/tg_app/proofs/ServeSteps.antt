-- A pack that is served, and before it attached: together one step.
use Rattle.std.proofs.Common.{◌≡◌, ◌∙◌, ℕ, List, Option, Ok, Err, subst}
use Rattle.std.specs.Prelude.{Result}
use Rattle.tg_commands.specs.PackSteps.{refusal_moved}
use Rattle.tg_commands.specs.Exports.{IsAttachedPack}
use Rattle.tg_app.specs.Objects.{Entrance}
use Rattle.tg_app.specs.Serves.{ServeEnded, serve_end}
use Rattle.tg_commands.specs.declared.fault.CommandFault.{CommandFault}
use Rattle.tg_doors.specs.Doors.{Doorway}
use Rattle.tg_files.specs.Packs.{PackMeaning, pack_step}
use Rattle.tg_model.specs.LimitNumbers.{LimitNumbers, standard}
use Rattle.tg_serve.specs.Packed.{AskedBy, AttachedServed, PackServed, StoreServed}
use Rattle.tg_serve.specs.declared.Happened.{Happened}
use Rattle.tg_serve.specs.declared.packed.ServeFault.{ServeFault}
use Rattle.tg_serve.specs.declared.packed.ServeFault.TheVariants as faults
use Rattle.tg_store.specs.AttachedPacks.{IsAttachedIn}
use Rattle.tg_streams.specs.Streams.{Output}
use Rattle.tg_words.specs.ServeLines.{ServeParts}

module _ {P : Type 0} (m : PackMeaning P) (a b c : P) (same : m.content b ≡ m.content a) (quiet : m.faults b ≡ m.faults a) where
  attached_moved : (most asked count lanes : ℕ) (tell : Type 0) (out : Output) (door : Doorway) (same_door : Type 0) (end : Result Happened ServeFault) → AttachedServed most asked count lanes tell (pack_step m b c) out door same_door end
      → AttachedServed most asked count lanes tell (pack_step m a c) out door same_door end
  attached_moved most asked count lanes tell out door same_door end h = record {
    told = h.told;
    attached = subst (λ (content : Option (List ℕ)). IsAttachedIn content h.told) same h.attached;
    served = subst (λ (n : ℕ). StoreServed h.told most asked count lanes tell n (m.faults c) out door same_door end) quiet h.served;
  }

  served_moved : (most asked count lanes : ℕ) (tell : Type 0) (out : Output) (door : Doorway) (same_door : Type 0) (result : Result Happened ServeFault)
      → PackServed most asked count lanes tell (pack_step m b c) out door same_door result → PackServed most asked count lanes tell (pack_step m a c) out door same_door result
  served_moved most asked count lanes tell out door same_door (Ok happened) h = attached_moved most asked count lanes tell out door same_door (Ok happened) h
  served_moved most asked count lanes tell out door same_door (Err (faults.Pack fault)) h = (refusal_moved m a b c same quiet fault h.0, h.1, h.2)
  served_moved most asked count lanes tell out door same_door (Err faults.DoorFault) h = attached_moved most asked count lanes tell out door same_door (Err faults.DoorFault) h
  served_moved most asked count lanes tell out door same_door (Err faults.SinkFault) h = attached_moved most asked count lanes tell out door same_door (Err faults.SinkFault) h
  served_moved most asked count lanes tell out door same_door (Err faults.OutOfMemory) h = (h.0, h.1, h.2 ∙ quiet)

  pub served_step : (parts : ServeParts) (limits : LimitNumbers) (out : Output) (door : Entrance) (result : Result Happened ServeFault) (end : Option CommandFault)
      → limits ≡ standard → IsAttachedPack parts.pack (pack_step m a c)
      → PackServed limits.received parts.port parts.count parts.lanes door.links_tell (pack_step m b c) out door.doorway door.same_door result
      → AskedBy (door.asked parts.port) result → end ≡ serve_end result → ServeEnded parts (pack_step m a c) out door end
  served_step parts limits out door result end are attached served asked is = record {
    attached = attached;
    result = result;
    served = served_moved standard.received parts.port parts.count parts.lanes door.links_tell out door.doorway door.same_door result
        (subst (λ (l : LimitNumbers). PackServed l.received parts.port parts.count parts.lanes door.links_tell (pack_step m b c) out door.doorway door.same_door result) are served);
    asked = asked;
    end_is = is;
  }
