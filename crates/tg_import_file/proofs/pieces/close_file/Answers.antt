use Rattle.std.proofs.lemmas.Result.{IfOk-weaker, on_err_weaker}
use Rattle.tg_import_file.proofs.Closing.{makes_file, stops_last}
use Rattle.tg_node_writing.specs.KeepingSteps.{counted_behind}
use Rattle.tg_import_file.proofs.pieces.close_file.Goals as goal

pub returns-clause-made : goal.returns-clause-made
returns-clause-made g c =
    IfOk-weaker c.finish.result _ _
    (λ made h. makes_file g.K.Keep.keeper g.met.K.Keep.joins c.kept_sections.ensures.joins c.args.keep.now c.link_last.new.keep c.finish.new.keep
    c.args.chunker.now c.args.balanced.now c.link_last.new.balanced made c.in_ok-link_last.ensures.width c.in_ok-link_last.ensures.linked h)
    c.finish.ensures.made

pub returns-clause-stops : goal.returns-clause-stops
returns-clause-stops g c =
    stops_last c.kept_in_order.ensures g.K.Keep.keeper g.met.K.Keep.joins c.kept_sections.ensures.joins c.args.keep.now c.link_last.new.keep c.finish.new.keep
    c.args.chunker.now c.args.balanced.now c.link_last.new.balanced c.finish.result c.in_ok-link_last.ensures.linked c.finish.ensures.stops

pub returns-clause-err_counted : goal.returns-clause-err_counted
returns-clause-err_counted g c =
    let first = c.in_ok-link_last.ensures.linked c.requires.bytes c.requires.kept c.requires.taken in
    on_err_weaker c.finish.result (λ h. counted_behind _ _ _ first.1.quiet h) c.finish.ensures.err_counted
