use Rattle.std.proofs.Common.{List, ap, arith, ℕ, ◌++◌, ◌∙◌}
use Rattle.std.proofs.lemmas.List.{take_all}
use Rattle.tg_audit_texts.proofs.SummaryTexts.{ends_text, head_from, lines_more}
use Rattle.tg_audit_texts.proofs.summary.summary_text.Goals as goal
use Rattle.tg_audit_texts.specs.Summary.{files_line, hashed_lines, last_lines, root_line}
use Rattle.tg_audit_texts.specs.declared.hashing.Hashed.{Hashed}
use Rattle.tg_cid.specs.TextLaws.{text_is}

pub loop-i-init : goal.loop-i-init
loop-i-init c =
    let text = text_is c.one_spelling.ensures.one_text c.computes.ensures.text c.args.root.now c.in_ok-cid.cid c.in_ok-cid.ensures in
    head_from c.args.root.now c.args.summary.now _ _ _ _ _ _ _ c.new-text.ensures c.in_ok-push_all.ensures.ok c.in_ok-push_all-2.ensures.ok
    (c.as_slice.ensures ∙ text) c.in_ok-push_number.ensures c.in_ok-push_number-2.ensures c.in_ok-push_all-3.ensures.ok

pub loop-i-preserved : goal.loop-i-preserved
loop-i-preserved c =
    c.in_ok-push_line.ensures
    ∙ lines_more c.args.found.now c.loop-i.i _ (root_line c.args.root.now ++ files_line c.args.summary.now) c.loop-i.text (omega arith) c.loop-i.invariant

pub returns : goal.returns
returns c =
    let head = root_line c.args.root.now ++ files_line c.args.summary.now in
    c.in_ok-push_all-4.ensures.ok
    ∙ ap (λ (l : List ℕ). l ++ last_lines)
    (c.loop-i.invariant ∙ ap (λ (hs : List Hashed). head ++ hashed_lines 1 hs) (take_all c.loop-i.i c.args.found.now (omega arith)))
    ∙ ends_text (root_line c.args.root.now) (files_line c.args.summary.now) (hashed_lines 1 c.args.found.now) last_lines
