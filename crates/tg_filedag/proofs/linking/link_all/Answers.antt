use Rattle.std.proofs.Common.{sym, ◌∙◌, arith}
use Rattle.std.proofs.lemmas.List.{nil_from_length}
use Rattle.std.proofs.lemmas.Result.{IfErr-weaker, IfOk-weaker}
use Rattle.std.proofs.lemmas.Bool.{eqb-true}
use Rattle.tg_filedag.proofs.Runs.{at_once, empty_made}
use Rattle.tg_filedag.proofs.linking.link_all.Goals as goal
use Rattle.tg_model.specs.Stores.{kept_in}

pub returns-then-is_empty-clause-made : goal.returns-then-is_empty-clause-made
returns-then-is_empty-clause-made g c =
    let zero = eqb-true c.args.subtrees.now.len 0 (sym c.is_empty.ensures ∙ c.if-is_empty.true) in
    let none = nil_from_length c.args.subtrees.now.items (omega arith) in
    IfOk-weaker c.keep_leaf.result _ _
    (λ made h. empty_made c.args.width c.args.subtrees.now.items made (kept_in g.K.Keep.keeper c.args.keep.now c.keep_leaf.new.keep) none h.0 h.1)
    c.keep_leaf.ensures.made

pub returns-then-is_empty-clause-stops : goal.returns-then-is_empty-clause-stops
returns-then-is_empty-clause-stops g c =
    IfErr-weaker c.keep_leaf.result _ _
    (λ fault h. at_once g.K.Keep.keeper c.args.keep.now c.keep_leaf.new.keep c.args.width c.args.subtrees.now.items fault h)
    c.keep_leaf.ensures.stops
