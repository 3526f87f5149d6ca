-- By the heads that the tests name.
use Rattle.tg_cid.specs.declared.cid.Codec.TheVariants.{DagPb, Raw}
use Rattle.tg_cid.proofs.Heads.{by_none, by_one, by_zero, other_with}
use Rattle.tg_cid.proofs.front.by_sha256_head.Goals as goal

pub returns-then-agrees : goal.returns-then-agrees
returns-then-agrees c =
    by_zero c.args.bytes.now (other_with c.args.bytes.now c.requires.raw c.requires.dag_pb) (c.agrees.ensures.0 c.if-agrees.true)

pub returns-then-agrees-2 : goal.returns-then-agrees-2
returns-then-agrees-2 c =
    by_one c.args.bytes.now Raw (other_with c.args.bytes.now c.requires.raw c.requires.dag_pb) (λ h. let t = c.agrees.ensures.1 h in cc)
    (c.agrees-2.ensures.0 c.if-agrees-2.true)

pub returns-then-agrees-3 : goal.returns-then-agrees-3
returns-then-agrees-3 c =
    by_one c.args.bytes.now DagPb (other_with c.args.bytes.now c.requires.raw c.requires.dag_pb) (λ h. let t = c.agrees.ensures.1 h in cc)
    (c.agrees-3.ensures.0 c.if-agrees-3.true)

pub returns : goal.returns
returns c =
    by_none c.args.bytes.now (other_with c.args.bytes.now c.requires.raw c.requires.dag_pb) (λ h. let t = c.agrees.ensures.1 h in cc)
    (λ h. let t = c.agrees-2.ensures.1 h in cc) (λ h. let t = c.agrees-3.ensures.1 h in cc)
