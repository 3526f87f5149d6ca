use Rattle.std.proofs.Common.{refl}
use Rattle.tg_gateway.proofs.Hearing.{hears_nothing}
use Rattle.tg_gateway.proofs.link.serve_link.Goals as goal

pub returns-in-Err-clause-ends : goal.returns-in-Err-clause-ends
returns-in-Err-clause-ends g c =
    (hears_nothing g.B.Blocks.blocks g.K.Link.link g.K.Source.source g.met.K.Link.hears c.none.result c.args.blocks.now c.args.link.now c.none.ensures, refl)
