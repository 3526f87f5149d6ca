use Rattle.std.proofs.Common.{List, [], ◌∷◌, ◌++◌, take, sym, ap, ◌∙◌, subst, arith}
use Rattle.std.proofs.lemmas.List.{take_more, take_all}
use Rattle.tg_dagpb.specs.declared.Link.{Link}
use Rattle.tg_dagpb.proofs.Encoding.{HasLinks, one_link_more, node_written}
use Rattle.tg_dagpb.proofs.writing.encode.Goals as goal

pub loop-link-preserved : goal.loop-link-preserved
loop-link-preserved c =
    let links = c.as_slice-link-items.result.now in
    let i = c.loop-link.link-index in
    let item = c.link-item.result in
    subst (λ (ls : List Link). HasLinks ls c.put_link.new.text.items)
    (sym (take_more links i item (omega arith) ∙ ap (λ (x : Link). take i links ++ x ∷ []) (sym c.link-item.is)))
    (one_link_more (take i links) item c.loop-link.text.items c.put_link.new.text.items c.loop-link.invariant c.in_ok-put_link.ensures)

pub returns : goal.returns
returns c =
    let all = take_all c.loop-link.link-index c.as_slice-link-items.result.now c.loop-link-test.false ∙ c.as_slice-link-items.ensures in
    let links = subst (λ (ls : List Link). HasLinks ls c.loop-link.text.items) all c.loop-link.invariant in
    rw c.from.ensures (node_written c.table_laws.ensures c.args.node.now _ _ links c.in_ok-put_optional.ensures)
