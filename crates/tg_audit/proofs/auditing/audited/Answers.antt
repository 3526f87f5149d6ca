use Rattle.std.proofs.Common.{subst, sym}
use Rattle.tg_audit.proofs.AuditSteps.{audited_as}
use Rattle.tg_audit_texts.specs.Expected.{AreExpected}
use Rattle.tg_audit.proofs.auditing.audited.Goals as goal

pub returns : goal.returns
returns c =
    audited_as c.args.seed c.args.files c.in_ok-tree_of.field-0 c.as_slice.result.now
    (record {
      drawn = c.in_ok-drawn.drawn;
      drawn_is = c.in_ok-drawn.ensures;
      tree_is = c.in_ok-tree_of.ensures.tree;
      expected_are = subst (AreExpected c.in_ok-drawn.drawn) (sym c.as_slice.ensures.value) c.in_ok-expected.ensures;
    })
    c.in_ok-packed.packed c.in_ok-packed.ensures c.answered.result c.answered.ensures
