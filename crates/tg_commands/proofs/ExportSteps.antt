-- An export from a pack, and before it the pack attached: together one step.
use Rattle.std.proofs.Common.{◌≡◌, ℕ, inl, inr, [], ◌∷◌, List, Option, Some, Ok, Err, sym, ◌∙◌, subst, ◌++◌, ◌≤◌}
use Rattle.std.specs.Prelude.{false, ⊤, ◌⊎◌}
use Rattle.tg_commands.specs.Exports.{ExportRefused, Exported, IsAttachedPack, IsExportRefusal}
use Rattle.tg_commands.specs.PackSteps.{quiet_moved, refusal_moved}
use Rattle.tg_commands.specs.declared.fault.CommandFault.{CommandFault}
use Rattle.tg_export.specs.Packed.{ExportEnds, HasPackedCause, IsExportedElse, IsStoreCause, StoreEnds}
use Rattle.tg_export.specs.declared.fault.ExportFault.{ExportFault}
use Rattle.tg_export.specs.declared.fault.ExportFault.TheVariants as faults
use Rattle.tg_faults.specs.Faults.{Rose}
use Rattle.tg_files.specs.Packs.{Did, PackMeaning, PackQuiet, PackRose, PackWrite, did_joins, pack_step}
use Rattle.tg_files.specs.Packs.PackWrite.{attach}
use Rattle.tg_model.specs.Dag.{Section}
use Rattle.tg_model.specs.PathWalk.{whole}
use Rattle.tg_model.specs.Queries.{QueryParts}
use Rattle.tg_model.specs.Stores.{Store}
use Rattle.tg_model.specs.declared.stores.BlocksFault.{BlocksFault}
use Rattle.tg_model.specs.declared.stores.BlocksFault.TheVariants as stores
use Rattle.tg_store.specs.Attaching.{HasCauseIn, IsAttached, IsRefusal}
use Rattle.tg_store.specs.declared.fault.PackFault.{PackFault}
use Rattle.tg_store.specs.declared.fault.PackFault.TheVariants as packs
use Rattle.tg_streams.specs.Streams.{Output}
use Rattle.tg_walk.specs.Walks.{HasEnded, max_depth}
use Rattle.tg_walk.specs.declared.fault.ResolveFault.TheVariants as paths
use Rattle.tg_walk.specs.declared.fault.WalkFault.TheVariants as walks

module _ {P : Type 0} (m : PackMeaning P) (a b c : P) (same : m.content b ≡ m.content a) (quiet : m.faults b ≡ m.faults a) where
  ends_moved : (q : QueryParts) (out : Output) (fault : ExportFault) → ExportEnds q (pack_step m b c) out (Err fault) → ExportEnds q (pack_step m a c) out (Err fault)
  ends_moved q out (faults.Pack fault) h = (refusal_moved m a b c same quiet fault h.0, h.1)
  ends_moved q out (faults.Resolve fault) h = subst (λ (content : Option (List ℕ)). StoreEnds q content out (Err (faults.Resolve fault))) same h
  ends_moved q out (faults.Walk fault) h = subst (λ (content : Option (List ℕ)). StoreEnds q content out (Err (faults.Walk fault))) same h
  ends_moved q out faults.SinkFault h = subst (λ (content : Option (List ℕ)). StoreEnds q content out (Err faults.SinkFault)) same h
  ends_moved q out faults.OutOfMemory (inl nothing) = inl nothing
  ends_moved q out faults.OutOfMemory (inr h) = inr (subst (λ (content : Option (List ℕ)). StoreEnds q content out (Err faults.OutOfMemory)) same h)

  store_cause_moved : (fault : BlocksFault) → IsStoreCause (pack_step m b c) fault → IsStoreCause (pack_step m a c) fault
  store_cause_moved (stores.Changed want got) h = (sym same ∙ h.0, h.1, quiet_moved m a b c same quiet h.2)
  store_cause_moved stores.Failed h = subst (λ (n : ℕ). Rose n (m.faults c)) quiet h
  store_cause_moved stores.OutOfMemory h = quiet_moved m a b c same quiet h

  sink_cause_moved : PackQuiet (pack_step m b c) ⊎ ((fault : BlocksFault) × IsStoreCause (pack_step m b c) fault) → PackQuiet (pack_step m a c) ⊎ ((fault : BlocksFault) × IsStoreCause (pack_step m a c) fault)
  sink_cause_moved (inl still) = inl (quiet_moved m a b c same quiet still)
  sink_cause_moved (inr (fault, cause)) = inr (fault, store_cause_moved fault cause)

  cause_moved : (fault : ExportFault) → HasPackedCause (pack_step m b c) (Err fault) → HasPackedCause (pack_step m a c) (Err fault)
  cause_moved (faults.Pack fault) h = h
  cause_moved (faults.Resolve (paths.Store fault)) h = store_cause_moved fault h
  cause_moved (faults.Resolve paths.NoRoot) h = quiet_moved m a b c same quiet h
  cause_moved (faults.Resolve (paths.NotThere segment)) h = quiet_moved m a b c same quiet h
  cause_moved (faults.Resolve (paths.NotFolder segment)) h = quiet_moved m a b c same quiet h
  cause_moved (faults.Resolve (paths.BadBlock cid fault)) h = quiet_moved m a b c same quiet h
  cause_moved (faults.Resolve (paths.Gone cid)) h = quiet_moved m a b c same quiet h
  cause_moved (faults.Resolve paths.OutOfMemory) h = quiet_moved m a b c same quiet h
  cause_moved (faults.Walk (walks.Store fault)) h = store_cause_moved fault h
  cause_moved (faults.Walk (walks.BadBlock cid fault)) h = quiet_moved m a b c same quiet h
  cause_moved (faults.Walk (walks.Gone cid)) h = quiet_moved m a b c same quiet h
  cause_moved (faults.Walk walks.TooDeep) h = quiet_moved m a b c same quiet h
  cause_moved (faults.Walk (walks.NotThere segment)) h = quiet_moved m a b c same quiet h
  cause_moved (faults.Walk (walks.NotFolder segment)) h = quiet_moved m a b c same quiet h
  cause_moved (faults.Walk walks.OutOfMemory) h = quiet_moved m a b c same quiet h
  cause_moved faults.SinkFault h = sink_cause_moved h
  cause_moved faults.OutOfMemory h = quiet_moved m a b c same quiet h

  pub refused_step : (path : List ℕ) (q : QueryParts) (out : Output) (fault : ExportFault) (refusal : CommandFault) → IsAttachedPack path (pack_step m a c) → IsExportRefusal fault refusal
      → ExportEnds q (pack_step m b c) out (Err fault) → HasPackedCause (pack_step m b c) (Err fault)
      → ((content : List ℕ) (store : Store) (sections : List Section) → m.content b ≡ Some content → IsAttached content store → HasEnded q store max_depth sections whole
      → IsExportedElse (Err fault)) → ExportRefused path q (pack_step m a c) out refusal
  refused_step path q out fault refusal attached tells ends cause answered = record {
    attached = attached;
    fault = fault;
    tells = tells;
    ends = ends_moved q out fault ends;
    cause = cause_moved fault cause;
    else = λ answer. answered answer.bytes answer.store answer.sections (same ∙ answer.told) answer.attached answer.ended;
  }

  pub done_step : (path : List ℕ) (q : QueryParts) (out : Output) (done : ⊤) → IsAttachedPack path (pack_step m a c) → ExportEnds q (pack_step m b c) out (Ok done)
      → HasPackedCause (pack_step m b c) (Ok done) → Exported path q (pack_step m a c) out
  done_step path q out done attached ends cause = record {
    attached = attached;
    done = done;
    ends = subst (λ (content : Option (List ℕ)). StoreEnds q content out (Ok done)) same ends;
    quiet = quiet_moved m a b c same quiet cause;
  }
