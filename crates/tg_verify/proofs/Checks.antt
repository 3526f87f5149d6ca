-- The checks of a block that is read at the wanted place.
use Rattle.std.proofs.Common.{Err, List, None, Ok, Option, Result, Some, ap, inl, inr, refl, subst, sym, true, ℕ, ◌∙◌, ◌≡◌, ◌⊎◌, ◌≤◌}
use Rattle.std.proofs.lemmas.Option.{same_Some}
use Rattle.tg_cid.specs.Cid.{CidParts}
use Rattle.tg_traversal.specs.Left.{IsReadAs, LeftState, WantedAt, told_wanted}
use Rattle.tg_traversal.specs.PlaceTexts.{IsBlockHere, IsSizeFault}
use Rattle.tg_traversal.specs.SaidFaults.{either_said}
use Rattle.tg_traversal.specs.declared.position.Wanted.{Wanted}
use Rattle.tg_model.specs.Computed.{read}
use Rattle.tg_model.specs.LimitNumbers.{LimitNumbers}
use Rattle.tg_model.specs.Placed.{StandsForKind}
use Rattle.tg_model.specs.Queries.{QueryParts}
use Rattle.tg_model.specs.declared.fault.BlockFault.{BlockFault}
use Rattle.tg_model.specs.declared.kinds.Kind.{Kind}
use Rattle.tg_model.specs.declared.placed.PlacedKind.{PlacedKind}
use Rattle.tg_model_laws.specs.Tasks.{depth_of, fault_at, is_read_at, position_of}
use Rattle.tg_verify.specs.Opening.{IsReadBlock}
use Rattle.tg_verify.specs.Refusals.{refusal_of_block}
use Rattle.tg_verify.specs.Steps.{HasCheckCause, IsCheckedAt, section_with}
use Rattle.tg_verify.specs.declared.fault.Refusal.{Refusal}
use Rattle.tg_verify.specs.declared.fault.Refusal.TheVariants as refusals

-- one place is wanted
pub wanted_cid : (w : Option WantedAt) (cid : CidParts) (at : WantedAt) → ((here : WantedAt) × (w ≡ Some here) × (here.cid ≡ cid)) → w ≡ Some at → cid ≡ at.cid
wanted_cid w cid at (here, is_here, cid_is) e = sym cid_is ∙ ap (λ (x : WantedAt). x.cid) (same_Some _ _ (sym is_here ∙ e))

module _ (q : QueryParts) (limits : LimitNumbers) (at : WantedAt) (cid : CidParts) (block : List ℕ) (shallow : depth_of at.want ≤ limits.depth)
    (is_read : is_read_at q at.want ≡ true) (same : cid ≡ at.cid) where
  -- under its own CID, which is the wanted one
  own : (result : Result Kind BlockFault) → read at.cid block ≡ result → read cid block ≡ result
  own result e = ap (λ (c : CidParts). read c block) same ∙ e

  own_cause : (fault : BlockFault) → (read at.cid block ≡ Err fault) ⊎ ((kind : Kind) × (read at.cid block ≡ Ok kind) × (fault_at q at.want kind ≡ Some fault))
      → (read cid block ≡ Err fault) ⊎ ((kind : Kind) × (read cid block ≡ Ok kind) × (fault_at q at.want kind ≡ Some fault))
  own_cause fault (inl e) = inl (own (Err fault) e)
  own_cause fault (inr (kind, e, f)) = inr (kind, own (Ok kind) e, f)

  told : (fault : BlockFault) (cause : (read at.cid block ≡ Err fault) ⊎ ((kind : Kind) × (read at.cid block ≡ Ok kind) × (fault_at q at.want kind ≡ Some fault)))
      → (refusal_of_block cid fault ≡ refusals.OutOfMemory) ⊎ (refusal_of_block cid fault ≡ refusals.BadBlock cid fault)
      → HasCheckCause q limits at (section_with cid block) (refusal_of_block cid fault)
  told fault cause (inl e) = subst (λ (r : Refusal). HasCheckCause q limits at (section_with cid block) r) (sym e) tt
  told fault cause (inr e) =
      subst (λ (r : Refusal). HasCheckCause q limits at (section_with cid block) r) (sym e)
      (refl, record { shallow = shallow; is_read = is_read; cause = own_cause fault cause })

  pub read_bad : (fault : BlockFault) → IsReadAs q at block (Err fault) → HasCheckCause q limits at (section_with cid block) (refusal_of_block cid fault)
  read_bad fault (inl e) =
      subst (λ (f : BlockFault). HasCheckCause q limits at (section_with cid block) (refusal_of_block cid f)) (sym e) tt
  read_bad fault (inr cause) = told fault cause (either_said refusals.OutOfMemory refusals.BadBlock cid fault)

  read_block : (kind : Kind) → read at.cid block ≡ Ok kind → fault_at q at.want kind ≡ None → IsReadBlock q limits at (section_with cid block) kind
  read_block kind reads fits = record { shallow = shallow; is_read = is_read; reads = own (Ok kind) reads; fits = fits }

  -- its sizes
  module _ (state : LeftState) (same_query : state.query ≡ q) (at_is : state.wanted ≡ Some at) (found : PlacedKind) (reads : IsReadAs q at block (Ok found)) where
    here : (kind : Kind) → fault_at q at.want kind ≡ None → StandsForKind block found kind → IsBlockHere state at (section_with cid block) kind found block
    here kind fits stands = record {
      wanted = at_is;
      fits = subst (λ (p : QueryParts). fault_at p at.want kind ≡ None) (sym same_query) fits;
      block_at = record { block_is = refl; stands = stands };
    }

    pub read_good : ((kind : Kind) → IsBlockHere state at (section_with cid block) kind found block → IsSizeFault (position_of at.want) (section_with cid block) kind None)
        → IsCheckedAt q limits at (section_with cid block) (Ok (Some found))
    read_good sized =
        (Some reads.0, record { passes = (read_block reads.0 reads.1 reads.2, sized reads.0 (here reads.0 reads.2 reads.3)); stands = reads.3 })

-- a place that is told is wanted
pub told_at : (w : Option WantedAt) (x : Wanted) → told_wanted w ≡ Some x → (at : WantedAt) × (w ≡ Some at) × (x ≡ record { cid = at.cid; depth = depth_of at.want })
told_at None x e = absurd (cc e)
told_at (Some at) x e = (at, refl, sym (same_Some _ _ e))
