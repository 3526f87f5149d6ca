use Rattle.std.proofs.Common.{Ok, Option, Result, Some, refl, subst, sym, true, ◌≡◌, ◌≤◌}
use Rattle.tg_traversal.specs.Left.{IsReadAs, WantedAt}
use Rattle.tg_traversal.specs.PlaceTexts.{IsSizeFault}
use Rattle.tg_traversal.specs.declared.text.SizeFault.{SizeFault}
use Rattle.tg_model.specs.declared.fault.BlockFault.{BlockFault}
use Rattle.tg_model.specs.declared.placed.PlacedKind.{PlacedKind}
use Rattle.tg_model_laws.specs.Tasks.{depth_of, is_read_at, position_of}
use Rattle.tg_verify.proofs.Checks.{read_bad, read_good, wanted_cid}
use Rattle.tg_verify.specs.State.{OpenerState}
use Rattle.tg_verify.specs.Steps.{HasCheckCause, IsCheckedAt, section_with}
use Rattle.tg_verify.specs.declared.fault.Refusal.{Refusal}
use Rattle.tg_verify.proofs.opener.Opener.read.Goals as goal

pub returns-in-Err : goal.returns-in-Err
returns-in-Err c =
    subst (λ (v : OpenerState). ((at : WantedAt) × (v.left.wanted ≡ Some at) × (at.cid ≡ c.args.cid.now)) → (at : WantedAt) → v.left.wanted ≡ Some at → is_read_at v.left.query at.want ≡ true
    → depth_of at.want ≤ v.limits.depth → HasCheckCause v.left.query v.limits at (section_with c.args.cid.now c.args.block.now) c.refusal_of_block.result) c.self.view_is
    (λ one at w r shallow.
    subst (λ (x : Refusal). HasCheckCause c.self.inside.frames.query c.self.inside.limits at (section_with c.args.cid.now c.args.block.now) x) (sym c.refusal_of_block.ensures)
    (read_bad c.self.inside.frames.query c.self.inside.limits at c.args.cid.now c.args.block.now shallow r (wanted_cid c.self.inside.frames.wanted c.args.cid.now at one w) c.in-Err.fault
    (subst (λ (x : Result PlacedKind BlockFault). IsReadAs c.self.inside.frames.query at c.args.block.now x) c.in-Err.is (c.read.ensures at w r)))) c.requires

pub returns : goal.returns
returns c =
    subst (λ (v : OpenerState). ((at : WantedAt) × (v.left.wanted ≡ Some at) × (at.cid ≡ c.args.cid.now)) → (at : WantedAt) → v.left.wanted ≡ Some at → is_read_at v.left.query at.want ≡ true
    → depth_of at.want ≤ v.limits.depth → IsCheckedAt v.left.query v.limits at (section_with c.args.cid.now c.args.block.now) (Ok (Some c.in-Ok.found))) c.self.view_is
    (λ one at w r shallow.
    read_good c.self.inside.frames.query c.self.inside.limits at c.args.cid.now c.args.block.now shallow r (wanted_cid c.self.inside.frames.wanted c.args.cid.now at one w)
    c.self.inside.frames refl w c.in-Ok.found
    (subst (λ (x : Result PlacedKind BlockFault). IsReadAs c.self.inside.frames.query at c.args.block.now x) c.in-Ok.is (c.read.ensures at w r))
    (λ kind here. subst (λ (x : Option SizeFault). IsSizeFault (position_of at.want) (section_with c.args.cid.now c.args.block.now) kind x) c.in_default.is
    (c.size_fault.ensures at (section_with c.args.cid.now c.args.block.now) kind here))) c.requires
