use Rattle.std.proofs.Common.{List, [], ◌∷◌, ◌++◌, take, sym, ap, ◌∙◌, subst, append_assoc, arith}
use Rattle.std.proofs.lemmas.List.{take_more, take_all}
use Rattle.std.proofs.lemmas.Result.{err_from_is_err_and}
use Rattle.tg_dagpb.specs.declared.Link.{Link}
use Rattle.tg_node.specs.NodeTexts.{LinkLines, HasLinkCause, IsCaused}
use Rattle.tg_node.proofs.NodeLines.{lines_more, bad_there}
use Rattle.tg_node.proofs.text.push_links.Goals as goal

pub loop-link-preserved : goal.loop-link-preserved
loop-link-preserved c =
    let so_far = c.loop-link.invariant in
    let here = c.in_ok-push_link.ensures.line in
    let links = c.args.links.now in
    let i = c.loop-link.link-index in
    let item = c.link-item.result in
    let more = take_more links i item (omega arith) ∙ ap (λ (x : Link). take i links ++ x ∷ []) (sym c.link-item.is) in (
      so_far.0 ++ here.0,
      subst (λ (ls : List Link). LinkLines ls (so_far.0 ++ here.0)) (sym more) (lines_more (take i links) item so_far.0 here.0 so_far.1 here.1),
      here.2 ∙ ap (λ t. t ++ here.0) so_far.2 ∙ append_assoc c.args.text.now so_far.0 here.0,
    )

pub returns-in_err-push_link : goal.returns-in_err-push_link
returns-in_err-push_link c =
    let p = err_from_is_err_and c.from_residual.result c.from_residual.ensures.1 in
    let e = c.in_err-push_link.field-0.0 in
    rw (p.1, p.2) (bad_there c.args.links.now c.loop-link.link-index c.link-item.result e (omega arith)
    (subst (λ (x : Link). IsCaused (HasLinkCause (x ∷ [])) e) c.link-item.is c.in_err-push_link.ensures.line))

pub returns : goal.returns
returns c =
    let so_far = c.loop-link.invariant in
    (so_far.0, subst (λ (ls : List Link). LinkLines ls so_far.0) (take_all c.loop-link.link-index c.args.links.now c.loop-link-test.false) so_far.1, so_far.2)
