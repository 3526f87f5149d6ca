use Rattle.std.proofs.Common.{ap, ap₂, option_copied, sym, ◌∙◌}
use Rattle.tg_query.specs.Spans.{span_by, span_with}
use Rattle.tg_query.proofs.SpanTexts.{parts_span}
use Rattle.tg_query.proofs.spans.parse_span.Goals as goal

pub returns-in-None : goal.returns-in-None
returns-in-None c =
    let from = c.cut_first.result.0.now in
    ap (λ o. span_by from (option_copied o)) (sym c.in-None.is) ∙ parts_span c.args.text.now from _ c.cut_first.ensures

pub returns-in-Some : goal.returns-in-Some
returns-in-Some c =
    let from = c.cut_first.result.0.now in
    c.span_with.ensures ∙ ap₂ span_with c.from_of.ensures.from c.to_of.ensures.to
    ∙ ap (λ o. span_by from (option_copied o)) (sym c.in-Some.is)
    ∙ parts_span c.args.text.now from _ c.cut_first.ensures
