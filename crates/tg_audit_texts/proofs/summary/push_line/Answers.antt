use Rattle.std.proofs.Common.{ap, codes, decimal, ◌∙◌}
use Rattle.tg_audit_texts.proofs.SummaryTexts.{line_from}
use Rattle.tg_audit_texts.proofs.summary.push_line.Goals as goal
use Rattle.tg_audit_texts.specs.Expected.{raw_cid_of}
use Rattle.tg_cid.specs.Cid.{CidParts}
use Rattle.tg_cid.specs.Computed.{cid_text}
use Rattle.tg_cid.specs.TextLaws.{text_is}

pub returns : goal.returns
returns c =
    let hashed = c.args.hashed.now in
    let text = text_is c.one_spelling.ensures.one_text c.computes.ensures.text c.raw_cid.result c.in_ok-cid.cid c.in_ok-cid.ensures in
    let shown = c.as_slice.ensures ∙ text ∙ ap (λ (cid : CidParts). cid_text cid) c.raw_cid.ensures in
    line_from c.args.text.now _ _ _ _ _ (codes "query ") (decimal c.args.query) (decimal hashed.size) (cid_text (raw_cid_of hashed.digest)) _
    c.in_ok-push_number.ensures c.in_ok-push_number-2.ensures c.in_ok-push_all.ensures.ok c.in_ok-push_all-2.ensures.ok shown c.in_ok-push_all-3.ensures.ok
