use Rattle.std.proofs.Common.{◌≡◌, ◌+◌, List, [], ◌∷◌, ◌++◌, take, sym, ap, ◌∙◌, subst, arith}
use Rattle.std.proofs.lemmas.List.{take_more}
use Rattle.tg_dagpb.specs.declared.Link.{Link}
use Rattle.tg_model.specs.declared.kinds.NewEntry.{NewEntry}
use Rattle.tg_node_writing.proofs.NodeLinks.{are_links_push}
use Rattle.tg_node_writing.proofs.nodes.node_block.Goals as goal
use Rattle.tg_node_writing.specs.Nodes.{AreLinksFor}

pub loop-entry-preserved : goal.loop-entry-preserved
loop-entry-preserved c =
    let entries = c.args.entries.now in
    let i = c.loop-entry.entry-index in
    let item = c.entry-item.result in
    let all = are_links_push (take i entries) c.loop-entry.links.items item c.in_ok-link_for.field-0 c.loop-entry.invariant c.in_ok-link_for.ensures in
    let front : take (i + 1) entries ≡ take i entries ++ item ∷ [] = take_more entries i item (omega arith) ∙ ap (λ (x : NewEntry). take i entries ++ x ∷ []) (sym c.entry-item.is) in
    subst (λ (es : List NewEntry). AreLinksFor es c.push.new.self.items) (sym front)
    (subst (λ (ls : List Link). AreLinksFor (take i entries ++ item ∷ []) ls) (sym c.in_ok-push.ensures.items) all)
