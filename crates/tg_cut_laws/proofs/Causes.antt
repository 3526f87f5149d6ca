-- Of the causes why a section, or a block at its place, is refused at most one holds.
use Rattle.std.proofs.Common.{◌≡◌, ◌≢◌, ◌⊎◌, ◌<◌, ◌≤◌, ℕ, Err, None, Ok, Option, Some, length, inl, inr, refl, sym, ap, ap₂, ◌∙◌, subst, arith}
use Rattle.tg_cid.specs.Names.{Names}
use Rattle.tg_traversal.specs.Left.{WantedAt}
use Rattle.tg_traversal.specs.PlaceTexts.{IsOther, IsSizeFault, part_size, told_size}
use Rattle.tg_traversal.specs.declared.text.SizeFault.{SizeFault}
use Rattle.tg_model.specs.Computed.{read}
use Rattle.tg_model.specs.Dag.{Section, total_of}
use Rattle.tg_model.specs.LimitNumbers.{LimitNumbers}
use Rattle.tg_model.specs.Queries.{QueryParts}
use Rattle.tg_model.specs.Sound.{IsOfSize, Position, TellsSize, child, part, top}
use Rattle.tg_model.specs.declared.fault.BlockFault.{BlockFault}
use Rattle.tg_model.specs.declared.kinds.Kind.{Kind}
use Rattle.tg_model.specs.declared.kinds.Kind.TheVariants.{Basic, File, Raw, Shard, Symlink}
use Rattle.tg_model.specs.declared.limits.LimitKind.TheVariants as kinds
use Rattle.tg_model_laws.specs.Tasks.{depth_of, fault_at, position_of}
use Rattle.tg_verify.specs.Opening.{IsReadBlock, PassesAs}
use Rattle.tg_verify.specs.Refusals.{HasReceiptCause, IsBadBlock, IsMissized, IsNamedBlock, IsWantedBlock}
use Rattle.tg_verify.specs.declared.fault.Refusal.{Refusal}
use Rattle.tg_verify.specs.declared.fault.Refusal.TheVariants as refusals

-- ---- why a section isn't the wanted one

-- each cause, with its refusal
pub data ReceiptCause (limits : LimitNumbers) (at : WantedAt) (section : Section) (fault : Refusal) : Type 0 where
  too_large : limits.block < length section.block → fault ≡ refusals.Limit kinds.Block limits.block → ReceiptCause limits at section fault
  misnamed : length section.block ≤ limits.block → (Names section.cid section.block → ⊥) → fault ≡ refusals.BadDigest section.cid → ReceiptCause limits at section fault
  unwanted : IsNamedBlock limits section → section.cid ≢ at.cid → fault ≡ refusals.WrongBlock at.cid section.cid → ReceiptCause limits at section fault

-- each that is said
pub receipt_cause : (limits : LimitNumbers) (at : WantedAt) (section : Section) (fault : Refusal) → HasReceiptCause limits at section fault → ReceiptCause limits at section fault
receipt_cause limits at section (refusals.Limit kinds.Block number) h =
    let large = h.large in
    let e = h.number_is in
    too_large (omega (arith, large, e)) (ap (refusals.Limit kinds.Block) e)
receipt_cause limits at section (refusals.BadDigest cid) h = misnamed h.1.small h.1.misnamed (ap refusals.BadDigest h.0)
receipt_cause limits at section (refusals.WrongBlock want got) h = unwanted h.2.block h.2.other (ap₂ refusals.WrongBlock h.0 h.1)
receipt_cause limits at section other h = absurd h

-- two are one
pub one_receipt : (limits : LimitNumbers) (at : WantedAt) (section : Section) (f g : Refusal) → ReceiptCause limits at section f → ReceiptCause limits at section g → f ≡ g
one_receipt limits at section f g (too_large a e) (too_large b d) = e ∙ sym d
one_receipt limits at section f g (too_large a e) (misnamed b n d) = absurd (omega (arith, a, b))
one_receipt limits at section f g (too_large a e) (unwanted b n d) = let small = b.small in absurd (omega (arith, a, small))
one_receipt limits at section f g (misnamed a m e) (too_large b d) = absurd (omega (arith, a, b))
one_receipt limits at section f g (misnamed a m e) (misnamed b n d) = e ∙ sym d
one_receipt limits at section f g (misnamed a m e) (unwanted b n d) = absurd (m b.named)
one_receipt limits at section f g (unwanted a m e) (too_large b d) = let small = a.small in absurd (omega (arith, b, small))
one_receipt limits at section f g (unwanted a m e) (misnamed b n d) = absurd (n a.named)
one_receipt limits at section f g (unwanted a m e) (unwanted b n d) = e ∙ sym d

-- and none holds of the wanted one
pub no_receipt : (limits : LimitNumbers) (at : WantedAt) (section : Section) (f : Refusal) → IsWantedBlock limits at section → ReceiptCause limits at section f → ⊥
no_receipt limits at section f w (too_large a e) = let small = w.block.small in omega (arith, a, small)
no_receipt limits at section f w (misnamed a m e) = m w.block.named
no_receipt limits at section f w (unwanted a m e) = m w.same

-- ---- sizes that are told

-- a declared size that is another isn't the block's own
same_part : (position : Position) (total : ℕ) (f : SizeFault) → IsOfSize position total → IsOther (part_size position) total f → ⊥
same_part top total f h other = let e = other.declared in cc
same_part (child above) total f h other = let e = other.declared in cc
same_part (part size) total f h other = let e = other.declared in other.differs cc

-- nor is one that a file tells
same_told : (kind : Kind) (total : ℕ) (f : SizeFault) → TellsSize kind total → IsOther (told_size kind) total f → ⊥
same_told Raw total f h other = let e = other.declared in cc
same_told (File inline None parts) total f h other = let e = other.declared in cc
same_told (File inline (Some size) parts) total f h other = let e = other.declared in other.differs cc
same_told (Basic entries) total f h other = let e = other.declared in cc
same_told (Shard slots) total f h other = let e = other.declared in cc
same_told (Symlink target) total f h other = let e = other.declared in cc

-- two of one told size are one
one_other : (told : Option ℕ) (total : ℕ) (f g : SizeFault) → IsOther told total f → IsOther told total g → (f.declared ≡ g.declared) × (f.actual ≡ g.actual)
one_other told total f g a b =
    let e = a.declared in
    let d = b.declared in
    (cc, a.actual_is ∙ sym b.actual_is)

-- two faults of a block's sizes are one
one_size : (position : Position) (section : Section) (kind : Kind) (f g : SizeFault) → IsSizeFault position section kind (Some f) → IsSizeFault position section kind (Some g)
    → (f.declared ≡ g.declared) × (f.actual ≡ g.actual)
one_size position section kind f g (inl a) (inl b) = one_other (part_size position) (total_of section kind) f g a b
one_size position section kind f g (inl a) (inr b) = absurd (same_part position (total_of section kind) f b.0 a)
one_size position section kind f g (inr a) (inl b) = absurd (same_part position (total_of section kind) g a.0 b)
one_size position section kind f g (inr a) (inr b) = one_other (told_size kind) (total_of section kind) f g a.1 b.1

-- and right sizes have none
no_size : (position : Position) (section : Section) (kind : Kind) (f : SizeFault) → IsSizeFault position section kind None → IsSizeFault position section kind (Some f) → ⊥
no_size position section kind f h (inl a) = same_part position (total_of section kind) f h.0 a
no_size position section kind f h (inr a) = same_told kind (total_of section kind) f h.1 a.1

-- ---- why a block can't be opened at its place

-- each cause, with its refusal
pub data PlaceCause (q : QueryParts) (limits : LimitNumbers) (at : WantedAt) (section : Section) (fault : Refusal) : Type 0 where
  too_deep : limits.depth < depth_of at.want → fault ≡ refusals.Limit kinds.Depth limits.depth → PlaceCause q limits at section fault
  bad : (cause : BlockFault) → IsBadBlock q limits at section cause → fault ≡ refusals.BadBlock section.cid cause → PlaceCause q limits at section fault
  missized : (size : SizeFault) → IsMissized q limits at section size → fault ≡ refusals.BadSize size.declared size.actual → PlaceCause q limits at section fault

-- the block has one kind there
one_read : (q : QueryParts) (limits : LimitNumbers) (at : WantedAt) (section : Section) (a b : Kind) → IsReadBlock q limits at section a → IsReadBlock q limits at section b → a ≡ b
one_read q limits at section a b x y =
    let e = x.reads in
    let d = y.reads in
    cc

-- a bad block has none
not_bad : (q : QueryParts) (limits : LimitNumbers) (at : WantedAt) (section : Section) (kind : Kind) (f : BlockFault) → IsReadBlock q limits at section kind
    → IsBadBlock q limits at section f → ⊥
not_bad q limits at section kind f x h = by h.cause
  where
    by : (read section.cid section.block ≡ Err f) ⊎ ((other : Kind) × (read section.cid section.block ≡ Ok other) × (fault_at q at.want other ≡ Some f)) → ⊥
    by (inl e) = let d = x.reads in absurd (cc (sym d ∙ e))
    by (inr (other, e, fault)) =
        let d = x.reads in
        let same : kind ≡ other = cc in
        let fits = x.fits in
        let both : fault_at q at.want kind ≡ Some f = subst (λ (k : Kind). fault_at q at.want k ≡ Some f) (sym same) fault in
        absurd (cc (sym fits ∙ both))

-- and is bad in one way
one_bad : (q : QueryParts) (limits : LimitNumbers) (at : WantedAt) (section : Section) (f g : BlockFault) → IsBadBlock q limits at section f → IsBadBlock q limits at section g → f ≡ g
one_bad q limits at section f g a b = by a.cause b.cause
  where
    by : (read section.cid section.block ≡ Err f) ⊎ ((kind : Kind) × (read section.cid section.block ≡ Ok kind) × (fault_at q at.want kind ≡ Some f))
        → (read section.cid section.block ≡ Err g) ⊎ ((kind : Kind) × (read section.cid section.block ≡ Ok kind) × (fault_at q at.want kind ≡ Some g)) → f ≡ g
    by (inl e) (inl d) = cc
    by (inl e) (inr (kind, d, fault)) = absurd (cc (sym e ∙ d))
    by (inr (kind, e, fault)) (inl d) = absurd (cc (sym e ∙ d))
    by (inr (kind, e, fault)) (inr (other, d, again)) =
        let same : kind ≡ other = cc in
        let both : fault_at q at.want kind ≡ Some g = subst (λ (k : Kind). fault_at q at.want k ≡ Some g) (sym same) again in
        cc

-- two causes are one
pub one_place : (q : QueryParts) (limits : LimitNumbers) (at : WantedAt) (section : Section) (f g : Refusal) → PlaceCause q limits at section f → PlaceCause q limits at section g → f ≡ g
one_place q limits at section f g (too_deep a e) (too_deep b d) = e ∙ sym d
one_place q limits at section f g (too_deep a e) (bad x b d) = let shallow = b.shallow in absurd (omega (arith, a, shallow))
one_place q limits at section f g (too_deep a e) (missized s b d) = let shallow = b.block.shallow in absurd (omega (arith, a, shallow))
one_place q limits at section f g (bad x a e) (too_deep b d) = let shallow = a.shallow in absurd (omega (arith, b, shallow))
one_place q limits at section f g (bad x a e) (bad y b d) = e ∙ ap (refusals.BadBlock section.cid) (one_bad q limits at section x y a b) ∙ sym d
one_place q limits at section f g (bad x a e) (missized s b d) = absurd (not_bad q limits at section b.kind x b.block a)
one_place q limits at section f g (missized s a e) (too_deep b d) = let shallow = a.block.shallow in absurd (omega (arith, b, shallow))
one_place q limits at section f g (missized s a e) (bad y b d) = absurd (not_bad q limits at section a.kind y a.block b)
one_place q limits at section f g (missized s a e) (missized r b d) =
    let same = one_read q limits at section a.kind b.kind a.block b.block in
    let size = subst (λ (k : Kind). IsSizeFault (position_of at.want) section k (Some s)) same a.size in
    let both = one_size (position_of at.want) section b.kind s r size b.size in
    e ∙ ap₂ refusals.BadSize both.0 both.1 ∙ sym d

-- and none holds of a block that passes
pub no_place : (q : QueryParts) (limits : LimitNumbers) (at : WantedAt) (section : Section) (kind : Option Kind) (f : Refusal) → PassesAs q limits at section kind
    → PlaceCause q limits at section f → ⊥
no_place q limits at section None f h (too_deep a e) = let shallow = h.0 in omega (arith, a, shallow)
no_place q limits at section None f h (bad x a e) = let reads = a.is_read in absurd (cc (sym reads ∙ h.1))
no_place q limits at section None f h (missized s a e) = let reads = a.block.is_read in absurd (cc (sym reads ∙ h.1))
no_place q limits at section (Some kind) f h (too_deep a e) = let shallow = h.0.shallow in omega (arith, a, shallow)
no_place q limits at section (Some kind) f h (bad x a e) = not_bad q limits at section kind x h.0 a
no_place q limits at section (Some kind) f h (missized s a e) =
    let same = one_read q limits at section a.kind kind a.block h.0 in
    no_size (position_of at.want) section kind s h.1 (subst (λ (k : Kind). IsSizeFault (position_of at.want) section k (Some s)) same a.size)

-- which passes as one kind, or as none
pub one_kind : (q : QueryParts) (limits : LimitNumbers) (at : WantedAt) (section : Section) (a b : Option Kind) → PassesAs q limits at section a → PassesAs q limits at section b → a ≡ b
one_kind q limits at section None None x y = refl
one_kind q limits at section None (Some b) x y = let reads = y.0.is_read in absurd (cc (sym reads ∙ x.1))
one_kind q limits at section (Some a) None x y = let reads = x.0.is_read in absurd (cc (sym reads ∙ y.1))
one_kind q limits at section (Some a) (Some b) x y = ap (λ (k : Kind). Some k) (one_read q limits at section a b x.0 y.0)
