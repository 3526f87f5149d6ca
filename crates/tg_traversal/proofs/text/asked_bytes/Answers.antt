use Rattle.std.proofs.Common.{◌∙◌, Option, ap, sym}
use Rattle.tg_traversal.proofs.OwnTexts.{no_content_asked, no_range_asked, range_asked}
use Rattle.tg_model.specs.Queries.{SpanParts}
use Rattle.tg_model.specs.Sound.{top}
use Rattle.tg_model.specs.Traversal.{entity_reach, text_before}
use Rattle.tg_traversal.proofs.text.asked_bytes.Goals as goal

pub returns-in_default : goal.returns-in_default
returns-in_default c = λ section kind here.
    c.own_bytes-bytes.ensures section kind here ∙ (no_range_asked section kind
    ∙ ap (λ (span : Option SpanParts). text_before (entity_reach span section kind) top section kind) (sym c.in_default.is))

pub returns-in_default-content_size : goal.returns-in_default-content_size
returns-in_default-content_size c = λ section kind here.
    c.own_bytes-bytes.ensures section kind here
    ∙ no_content_asked c.args.span section kind (sym (c.content_size.ensures section kind here) ∙ c.in_default-content_size.is)

pub returns : goal.returns
returns c = λ section kind here.
    c.between.ensures ∙ (range_asked c.in-Some.span section kind c.in-Some-content_size.total c.resolve_span-low.result.0 c.resolve_span-low.result.1 c.own_bytes-bytes.result.now
    (sym (c.content_size.ensures section kind here) ∙ c.in-Some-content_size.is) c.resolve_span-low.ensures.low c.resolve_span-low.ensures.high (c.own_bytes-bytes.ensures section kind here)
    ∙ ap (λ (span : Option SpanParts). text_before (entity_reach span section kind) top section kind) (sym c.in-Some.is))
