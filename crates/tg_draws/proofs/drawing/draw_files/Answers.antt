use Rattle.std.proofs.Common.{◌%◌, ℕ, ap}
use Rattle.tg_draws.proofs.Draws.{no_files, one_file_more}
use Rattle.tg_draws.proofs.drawing.draw_files.Goals as goal

pub loop-init : goal.loop-init
loop-init c = no_files c.args.generator.now.state _ c.new-many.ensures

pub loop-preserved : goal.loop-preserved
loop-preserved c =
    one_file_more _ c.loop.counter c.loop.many c.loop.generator.state (c.next-size.result % 65536) _ c.in_ok-bytes.field-0 _ _ c.loop.invariant
    (ap (λ (d : ℕ). d % 65536) c.next-size.ensures.number) c.next-size.ensures.state c.in_ok-bytes.ensures c.in_ok-push.ensures.ok
