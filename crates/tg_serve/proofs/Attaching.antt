-- How a pack is served, by what came of attaching it.
use Rattle.std.proofs.Common.{Err, List, Ok, [], refl, subst, sym, ℕ, ◌++◌, ◌∙◌, ◌≡◌}
use Rattle.std.specs.Prelude.{IfErr, IfOk, Result}
use Rattle.tg_doors.specs.Doors.{Doorway}
use Rattle.tg_files.specs.Packs.{Did, PackMeaning, PackWrite, did_joins, pack_step}
use Rattle.tg_serve.specs.Packed.{AskedBy, AttachedServed, GivesBack, OutUntouched, PackServed, StoreServed, fault_of_pack}
use Rattle.tg_serve.specs.declared.Happened.{Happened}
use Rattle.tg_serve.specs.declared.packed.ServeFault.{ServeFault}
use Rattle.tg_serve.specs.declared.packed.ServeFault.TheVariants as faults
use Rattle.tg_store.specs.AttachedPacks.{HasAttached, HasRefused}
use Rattle.tg_store.specs.Attaching.{IsRefusal}
use Rattle.tg_store.specs.Packs.{PackStoreState, stored_in}
use Rattle.tg_store.specs.declared.fault.PackFault.{PackFault}
use Rattle.tg_store.specs.declared.fault.PackFault.TheVariants as packs
use Rattle.tg_store.specs.declared.fault.PackRefused.{PackRefused}
use Rattle.tg_streams.specs.Streams.{Output}

-- want of memory is the command's own, and each other refusal the pack's
by_fault : (holds : ServeFault → Type 0) (fault : PackFault) → (fault ≡ packs.OutOfMemory → holds faults.OutOfMemory)
    → holds (faults.Pack fault) → holds (fault_of_pack fault)
by_fault holds (packs.NotCar at) memory pack = pack
by_fault holds (packs.BadDigest at) memory pack = pack
by_fault holds packs.Unfinished memory pack = pack
by_fault holds (packs.Truncated at) memory pack = pack
by_fault holds packs.Failed memory pack = pack
by_fault holds (packs.BlockLimit at) memory pack = pack
by_fault holds packs.OutOfMemory memory pack = memory refl

module _ {P : Type 0} (m : PackMeaning P) (pack now : P) where
  -- nothing was done to the pack
  pub pack_kept : ((a b c : P) (u v : List PackWrite) → m.did a b u → m.did b c v → m.did a c (u ++ v))
      → (attached : Result (PackStoreState P) (PackRefused P)) (end : Result Happened ServeFault)
      → IfOk attached (λ (store : PackStoreState P). HasAttached m pack store)
      → IfErr attached (λ (refused : PackRefused P). HasRefused m pack refused)
      → IfOk attached (λ (store : PackStoreState P). Did [] (pack_step m store.pack now))
      → IfErr attached (λ (refused : PackRefused P). GivesBack now end refused) → Did [] (pack_step m pack now)
  pack_kept joins (Ok store) end has was did gives = did_joins m joins pack store.pack now [] [] has.did did
  pack_kept joins (Err refused) end has was did gives =
      subst (λ (now : P). Did [] (pack_step m pack now)) (sym gives.0) was.did

  module _ (most asked count lanes : ℕ) (tell : Type 0) (out : Output) (door : Doorway) (same_door : Type 0) where
    abbrev ServesStore : Result Happened ServeFault → PackStoreState P → Type 0
    ServesStore end store =
        StoreServed (stored_in (m.content store.pack) store.places) most asked count lanes tell (m.faults store.pack) (m.faults now) out door same_door end

    attached_served : (store : PackStoreState P) (end : Result Happened ServeFault) → HasAttached m pack store → ServesStore end store
        → AttachedServed most asked count lanes tell (pack_step m pack now) out door same_door end
    attached_served store end has served = record {
      told = stored_in (m.content store.pack) store.places;
      attached = has.stored;
      served = subst (λ (before : ℕ). StoreServed (stored_in (m.content store.pack) store.places) most asked count lanes tell before (m.faults now) out door same_door end)
          has.quiet served;
    }

    store_served : (store : PackStoreState P) (end : Result Happened ServeFault) → HasAttached m pack store → ServesStore end store
        → PackServed most asked count lanes tell (pack_step m pack now) out door same_door end
    store_served store (Ok happened) has served = attached_served store (Ok happened) has served
    store_served store (Err faults.DoorFault) has served = attached_served store (Err faults.DoorFault) has served
    store_served store (Err faults.SinkFault) has served = attached_served store (Err faults.SinkFault) has served
    store_served store (Err faults.OutOfMemory) has served = (served.0, served.1, served.2 ∙ has.quiet)
    store_served store (Err (faults.Pack fault)) has served = absurd served

    -- its store was served, or it was refused and nothing done
    pub pack_served : (attached : Result (PackStoreState P) (PackRefused P)) (end : Result Happened ServeFault)
        → IfOk attached (λ (store : PackStoreState P). HasAttached m pack store)
        → IfErr attached (λ (refused : PackRefused P). HasRefused m pack refused)
        → IfOk attached (λ (store : PackStoreState P). ServesStore end store)
        → IfErr attached (λ (refused : PackRefused P). GivesBack now end refused)
        → IfErr attached (λ (refused : PackRefused P). OutUntouched out × same_door)
        → PackServed most asked count lanes tell (pack_step m pack now) out door same_door end
    pack_served (Ok store) end has was served gives untouched = store_served store end has served
    pack_served (Err refused) end has was served gives untouched =
        let cause = subst (λ (now : P). IsRefusal (pack_step m pack now) refused.fault) (sym gives.0) was.cause in
        subst (λ (end : Result Happened ServeFault). PackServed most asked count lanes tell (pack_step m pack now) out door same_door end) (sym gives.1)
        (by_fault (λ (fault : ServeFault). PackServed most asked count lanes tell (pack_step m pack now) out door same_door (Err fault)) refused.fault
        (λ is. (untouched.0, untouched.1, subst (λ (fault : PackFault). IsRefusal (pack_step m pack now) fault) is cause))
        (cause, untouched.0, untouched.1))

-- the door was asked, unless the pack was refused, or no memory was found
pub pack_asked : {P : Type 0} (asks : Type 0) (now : P) (attached : Result (PackStoreState P) (PackRefused P)) (end : Result Happened ServeFault)
    → IfOk attached (λ (store : PackStoreState P). AskedBy asks end)
    → IfErr attached (λ (refused : PackRefused P). GivesBack now end refused) → AskedBy asks end
pack_asked asks now (Ok store) end did gives = did
pack_asked asks now (Err refused) end did gives =
    subst (λ (end : Result Happened ServeFault). AskedBy asks end) (sym gives.1)
    (by_fault (λ (fault : ServeFault). AskedBy asks (Err fault)) refused.fault (λ is. tt) tt)
