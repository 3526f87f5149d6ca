-- Blocks that have no kind, can't stand where they are wanted, or have wrong sizes aren't read there.
use Rattle.std.proofs.Common.{◌≡◌, ◌⊎◌, ◌↔◌, ◌<◌, ℕ, true, All, Err, List, None, Ok, Option, Some, inl, inr, sym, ap, ◌∙◌, subst}
use Rattle.std.specs.Prelude.{IfSome}
use Rattle.tg_cid.specs.Cid.{CidParts}
use Rattle.tg_traversal.specs.FaultLaws.{fault_same}
use Rattle.tg_traversal.specs.Left.{WantedAt}
use Rattle.tg_traversal.specs.PlaceTexts.{IsOther, IsSizeFault, part_size, told_size}
use Rattle.tg_traversal.specs.declared.text.SizeFault.{SizeFault}
use Rattle.tg_model.specs.Computed.{read}
use Rattle.tg_model.specs.Dag.{Section, total_of}
use Rattle.tg_model.specs.LimitNumbers.{LimitNumbers}
use Rattle.tg_model.specs.Queries.{QueryParts}
use Rattle.tg_model.specs.Reading.{Reads}
use Rattle.tg_model.specs.Sound.{IsOfSize, Position, TellsSize, child, part, position_fault, top}
use Rattle.tg_model.specs.declared.fault.BlockFault.{BlockFault}
use Rattle.tg_model.specs.declared.kinds.Kind.{Kind}
use Rattle.tg_model.specs.declared.kinds.Kind.TheVariants.{Basic, File, Raw, Shard, Symlink}
use Rattle.tg_model_laws.specs.TakenBlocks.{IsReadAt}
use Rattle.tg_model_laws.specs.Tasks.{fault_at, is_read_at, position_of}
use Rattle.tg_verify.specs.Refusals.{IsBadBlock, IsMissized}

-- of a block of bytes the kind is computed
abbrev pub Computes : Type 0
Computes = (cid : CidParts) (block : List ℕ) (kind : Kind) → All (λ b. b < 256) block → (read cid block ≡ Ok kind) ↔ Reads cid block kind

-- ---- a size that isn't the block's own

other_part : (position : Position) (total : ℕ) (fault : SizeFault) → IsOther (part_size position) total fault → IsOfSize position total → ⊥
other_part top total fault h size = absurd (let e = h.declared in cc)
other_part (part told) total fault h size = let e = h.declared in let same : fault.declared ≡ told = cc in h.differs (same ∙ sym size)
other_part (child above) total fault h size = absurd (let e = h.declared in cc)

other_told : (kind : Kind) (total : ℕ) (fault : SizeFault) → IsOther (told_size kind) total fault → TellsSize kind total → ⊥
other_told Raw total fault h size = absurd (let e = h.declared in cc)
other_told (File inline filesize parts) total fault h size = h.differs (subst (λ (told : Option ℕ). IfSome told (λ size. size ≡ total)) h.declared size)
other_told (Basic entries) total fault h size = absurd (let e = h.declared in cc)
other_told (Shard slots) total fault h size = absurd (let e = h.declared in cc)
other_told (Symlink target) total fault h size = absurd (let e = h.declared in cc)

other_size : (position : Position) (section : Section) (kind : Kind) (fault : SizeFault) → IsSizeFault position section kind (Some fault) → IsReadAt position section kind → ⊥
other_size position section kind fault (inl h) here = other_part position (total_of section kind) fault h here.of_size
other_size position section kind fault (inr h) here = other_told kind (total_of section kind) fault h.1 here.tells_size

-- ---- such a block isn't read there

module _ (computes : Computes) (q : QueryParts) (limits : LimitNumbers) (at : WantedAt) (section : Section) (bytes : All (λ b. b < 256) section.block) where
  is_computed : (kind : Kind) → IsReadAt (position_of at.want) section kind → read section.cid section.block ≡ Ok kind
  is_computed kind here = (computes section.cid section.block kind bytes).1 here.reads

  by_cause : (fault : BlockFault) (kind : Kind) → is_read_at q at.want ≡ true → IsReadAt (position_of at.want) section kind
      → (read section.cid section.block ≡ Err fault) ⊎ ((other : Kind) × (read section.cid section.block ≡ Ok other) × (fault_at q at.want other ≡ Some fault)) → ⊥
  by_cause fault kind is_read here (inl e) = let both : Err fault ≡ Ok kind = sym e ∙ is_computed kind here in absurd (cc both)
  by_cause fault kind is_read here (inr (other, e, at_fault)) =
      let mine = is_computed kind here in
      let same : other ≡ kind = cc in
      let none : fault_at q at.want other ≡ None = fault_same q at.want other is_read ∙ ap (position_fault (position_of at.want)) same ∙ here.stands in
      let never : Some fault ≡ None = sym at_fault ∙ none in
      absurd (cc never)

  pub bad_isnt_read : (fault : BlockFault) → IsBadBlock q limits at section fault → (kind : Kind) → IsReadAt (position_of at.want) section kind → ⊥
  bad_isnt_read fault h kind here = by_cause fault kind h.is_read here h.cause

  pub missized_isnt_read : (fault : SizeFault) → IsMissized q limits at section fault → (kind : Kind) → IsReadAt (position_of at.want) section kind → ⊥
  missized_isnt_read fault h kind here =
      let mine = is_computed kind here in
      let reads = h.block.reads in
      let same : kind ≡ h.kind = cc in
      other_size (position_of at.want) section h.kind fault h.size (subst (λ (kind : Kind). IsReadAt (position_of at.want) section kind) same here)
