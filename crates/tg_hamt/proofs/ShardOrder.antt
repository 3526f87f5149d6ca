-- The shards of a directory stand behind those to which they link, where the CIDs of the entries are known.
use Rattle.std.proofs.Common.{◌≡◌, ℕ, ◌<◌, List, [], ◌∷◌, ◌++◌, length, sym, ap, ◌∙◌, subst}
use Rattle.std.specs.Prelude.{All, Contains}
use Rattle.std.proofs.lemmas.List.{append_assoc, map-append}
use Rattle.std.proofs.lemmas.List.Elements.{All-contains, All-push, All-weaker, Contains-append_left, Contains-append_right, Contains-get_or, Contains-push}
use Rattle.tg_cid.specs.Cid.{CidParts}
use Rattle.tg_hamt.specs.Order.{entry_at}
use Rattle.tg_model.specs.Dag.{Section}
use Rattle.tg_model.specs.declared.kinds.NewEntry.{NewEntry}
use Rattle.tg_node_writing.specs.BlockOrder.{AreBehindLinks, LinksOfNodes, cids_of, entry_cids}
use Rattle.tg_node_writing.specs.BlockOrderLaws.{among_left, behind_joined, behind_one, behind_wider, cid_among, cids_joined, entry_among, links_wider}
use Rattle.tg_node_writing.specs.Nodes.{IsNodeOf}
use Rattle.tg_unixfs.specs.declared.Unix.{Unix}

-- what is known stays known behind further sections
known_on : (es : List NewEntry) (before more : List Section) (cid : CidParts) → Contains (entry_cids es ++ cids_of before) cid
    → Contains (entry_cids es ++ cids_of (before ++ more)) cid
known_on es before more cid has =
    subst (λ (l : List CidParts). Contains l cid)
    (append_assoc (entry_cids es) (cids_of before) (cids_of more) ∙ ap (λ (l : List CidParts). entry_cids es ++ l) (sym (cids_joined before more)))
    (Contains-append_left (entry_cids es ++ cids_of before) (cids_of more) cid has)

pub entry_known : (es : List NewEntry) (sections : List Section) (e : NewEntry) (index : ℕ) → e ≡ entry_at es index → index < length es
    → Contains (entry_cids es ++ cids_of sections) e.cid
entry_known es sections e index is inside =
    Contains-append_left (entry_cids es) (cids_of sections) e.cid
    (entry_among es e (subst (Contains es) (sym is) (Contains-get_or es index _ inside)))

pub child_known : (es : List NewEntry) (before more : List Section) (cid : CidParts) → Contains (cids_of more) cid → Contains (entry_cids es ++ cids_of (before ++ more)) cid
child_known es before more cid has =
    Contains-append_right (entry_cids es) (cids_of (before ++ more)) cid
    (subst (λ (l : List CidParts). Contains l cid) (sym (cids_joined before more)) (Contains-append_right (cids_of before) (cids_of more) cid has))

-- one link more
pub linked_more : (es : List NewEntry) (before more : List Section) (links new_links : List NewEntry) (link : NewEntry) → new_links ≡ links ++ link ∷ []
    → All (Contains (entry_cids es ++ cids_of before)) (entry_cids links) → Contains (entry_cids es ++ cids_of (before ++ more)) link.cid
    → All (Contains (entry_cids es ++ cids_of (before ++ more))) (entry_cids new_links)
linked_more es before more links new_links link are h here =
    let P = Contains (entry_cids es ++ cids_of (before ++ more)) in
    let pushed = All-push P (entry_cids links) link.cid
    (All-weaker (Contains (entry_cids es ++ cids_of before)) P (λ cid has. known_on es before more cid has) (entry_cids links) h) here in
    subst (All P) (sym (ap entry_cids are ∙ map-append (λ (e : NewEntry). e.cid) links (link ∷ []))) pushed

-- shards behind others
pub shards_behind : (es : List NewEntry) (a b : List Section) → AreBehindLinks (entry_cids es) a → AreBehindLinks (entry_cids es) b → AreBehindLinks (entry_cids es) (a ++ b)
shards_behind es a b h k =
    behind_joined (entry_cids es) a b h (behind_wider (entry_cids es) (entry_cids es ++ cids_of a) b (among_left (entry_cids es) (cids_of a)) k)

-- the shard with these links behind the others
pub shard_behind : LinksOfNodes → (es : List NewEntry) (sections : List Section) (links : List NewEntry) (unix : Unix) (section : Section) → AreBehindLinks (entry_cids es) sections
    → All (Contains (entry_cids es ++ cids_of sections)) (entry_cids links) → IsNodeOf links unix section.block → AreBehindLinks (entry_cids es) (sections ++ section ∷ [])
shard_behind law es sections links unix section h linked written =
    let known = entry_cids es ++ cids_of sections in
    behind_joined (entry_cids es) sections (section ∷ []) h
    (behind_one known section
    (links_wider (entry_cids links) known section (λ cid has. All-contains (Contains known) (entry_cids links) cid linked has) (law links unix section written)))

pub shard_root : (sections : List Section) (section : Section) (cid : CidParts) → cid ≡ section.cid → Contains (cids_of (sections ++ section ∷ [])) cid
shard_root sections section cid is =
    subst (Contains (cids_of (sections ++ section ∷ []))) (sym is) (cid_among (sections ++ section ∷ []) section (Contains-push sections section))
