-- By the first byte.
use Rattle.std.proofs.Common.{ap, sym, ◌∙◌, option_copied}
use Rattle.tg_cid.proofs.Heads.{long_size, no_size, no_size_yet, none_first, short_size, some_first}
use Rattle.tg_cid.proofs.front.by_size.Goals as goal

pub returns-in_default : goal.returns-in_default
returns-in_default c =
    no_size_yet c.args.size.now (none_first c.args.size.now (sym c.first.ensures.value ∙ ap option_copied c.in_default.is))

pub returns-then-first-lt128 : goal.returns-then-first-lt128
returns-then-first-lt128 c =
    let rest = some_first c.args.size.now c.in-Some.first.now (sym c.first.ensures.value ∙ ap option_copied c.in-Some.is) in
    short_size c.args.size.now c.in-Some.first.now rest.0 rest.1 c.if-first-lt128.true

pub returns-then-agrees : goal.returns-then-agrees
returns-then-agrees c =
    let rest = some_first c.args.size.now c.in-Some.first.now (sym c.first.ensures.value ∙ ap option_copied c.in-Some.is) in
    long_size c.args.size.now c.in-Some.first.now rest.0 rest.1 c.if-first-lt128.false (c.agrees.ensures.0 c.if-agrees.true)

pub returns : goal.returns
returns c =
    let rest = some_first c.args.size.now c.in-Some.first.now (sym c.first.ensures.value ∙ ap option_copied c.in-Some.is) in
    no_size c.args.size.now c.in-Some.first.now rest.0 rest.1 c.if-first-lt128.false (λ h. let t = c.agrees.ensures.1 h in cc)
