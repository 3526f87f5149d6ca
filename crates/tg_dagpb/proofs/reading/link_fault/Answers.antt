use Rattle.tg_dagpb.proofs.Checking.{link_verdict}
use Rattle.tg_dagpb.proofs.reading.link_fault.Goals as goal

pub returns : goal.returns
returns c = link_verdict c.args.bytes.now c.args.field.now c.in_ok-start.start c.in_ok-start.end c.link_between.result c.err.result c.err.ensures.value c.in_ok-start.ensures c.link_between.ensures
