use Rattle.std.proofs.Common.{List, subst, sym, ℕ, ◌∙◌}
use Rattle.tg_walk.proofs.OpenedHere.{Reading, bad_here, may_open}
use Rattle.tg_walk.proofs.walk.open.Goals as goal

pub returns-in-Err-clause-opened : goal.returns-in-Err-clause-opened
returns-in-Err-clause-opened c =
    bad_here c.args.frames.now c.args.cid c.args.block.now c.in-Err.fault c.read.result c.fault_of_block.result c.requires
    (subst (λ (b : List ℕ). Reading c.args.frames.now b c.read.result) c.as_slice.ensures c.read.ensures)
    (λ at w. sym (c.is_read.ensures at w) ∙ c.if-not-is_read.false) c.in-Err.is c.fault_of_block.ensures

pub open-requires : goal.open-requires
open-requires c = record {
  here = may_open c.args.frames.now c.args.cid c.args.block.now c.in-Ok.found c.read.result c.requires
      (subst (λ (b : List ℕ). Reading c.args.frames.now b c.read.result) c.as_slice.ensures c.read.ensures)
      (λ at w. sym (c.is_read.ensures at w) ∙ c.if-not-is_read.false) c.in-Ok.is;
}
