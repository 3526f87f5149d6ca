use Rattle.tg_extract.proofs.Sizes.{cut_none, cut_some}
use Rattle.tg_extract.proofs.extract.line_end.Goals as goal

pub returns-in-Some : goal.returns-in-Some
returns-in-Some c =
    let cut = cut_some c.cuts_read.ensures.cut 10 c.args.bytes.now c.cut_first.result.0.now c.cut_first.result.1 c.in-Some.field-0 c.cut_first.ensures c.in-Some.is in
    record { no_end = cut.none; rest = c.in-Some.field-0.now; whole = cut.whole }

pub returns-in-None : goal.returns-in-None
returns-in-None c = cut_none c.cuts_read.ensures.cut 10 c.args.bytes.now c.cut_first.result.0.now c.cut_first.result.1 c.cut_first.ensures c.in-None.is
