use Rattle.std.proofs.Common.{refl, sym, ◌∙◌, arith}
use Rattle.tg_words.proofs.Once.{found_here, not_here, none_left}
use Rattle.tg_words.proofs.operands.find_option.Goals as goal

pub loop-option-init : goal.loop-option-init
loop-option-init c = refl

pub returns-then-eq : goal.returns-then-eq
returns-then-eq c =
    found_here c.args.options.now c.args.name.now c.loop-option.option-index _ c.loop-option-test.true (sym c.eq.ensures ∙ c.if-eq.true) c.loop-option.invariant

pub loop-option-preserved : goal.loop-option-preserved
loop-option-preserved c =
    not_here c.args.options.now c.args.name.now c.loop-option.option-index _ _ c.loop-option-test.true (sym c.eq.ensures ∙ c.if-eq.false) c.loop-option.invariant (omega arith)

pub returns : goal.returns
returns c = none_left c.args.options.now c.args.name.now c.loop-option.option-index c.loop-option-test.false c.loop-option.invariant
