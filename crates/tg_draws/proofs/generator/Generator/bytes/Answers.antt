use Rattle.tg_draws.proofs.Draws.{no_bytes, one_byte_more}
use Rattle.tg_draws.proofs.generator.Generator.bytes.Goals as goal

pub loop-init : goal.loop-init
loop-init c = no_bytes c.args.self.now.state _ c.in_ok-bytes.ensures.items

pub loop-preserved : goal.loop-preserved
loop-preserved c =
    one_byte_more _ c.loop.counter c.loop.bytes.items c.loop.self.state c.next.result _ _ c.loop.invariant c.next.ensures.number
    c.next.ensures.state c.in_ok-push.ensures.items
