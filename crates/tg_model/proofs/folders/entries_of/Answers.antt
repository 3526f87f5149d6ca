use Rattle.std.proofs.Common.{◌≡◌, ℕ, List, [], ◌∷◌, ◌++◌, ap, sym, ◌∙◌, append_assoc, append-nil, subst}
use Rattle.tg_cid.specs.Cid.{CidParts}
use Rattle.tg_dagpb.specs.Cursor.{link_of}
use Rattle.tg_dagpb.specs.declared.Link.{Link}
use Rattle.tg_model.proofs.Ahead.{CidsLeft}
use Rattle.tg_model.specs.PlacedSteps.{block_cids, block_links}
use Rattle.tg_model.specs.Reading.{entries_of, name_of}
use Rattle.tg_model.specs.declared.kinds.Entry.{Entry}
use Rattle.tg_model.proofs.folders.entries_of.Goals as goal

pub loop-link-init : goal.loop-link-init
loop-link-init c = record {
  links = block_links c.args.block.now;
  cids = block_cids c.args.block.now;
  ahead = c.requires;
  so_far = ap (λ (entries : List Entry). entries ++ entries_of (block_links c.args.block.now) (block_cids c.args.block.now)) (sym c.in_ok-with_capacity.ensures.items ∙ sym c.from-entries.ensures);
}

pub loop-link-preserved : goal.loop-link-preserved
loop-link-preserved c =
    let front = c.loop-link.entries in
    let link = link_of c.in-Some.link in
    let left = c.loop-link.invariant in
    let next = c.in-Some.ensures.next left.links left.cids left.ahead in
    let entry : Entry = record { name = c.in_ok-name.name; cid = c.in-Some.cid } in
    let rest = entries_of next.more_links next.more_cids in
    let named : name_of link ≡ c.in_ok-name.name = sym c.name_of.ensures ∙ sym c.in_ok-name.ensures in
    let split : entries_of left.links left.cids ≡ entry ∷ rest =
    ap (λ (links : List Link). entries_of links left.cids) next.links_are
    ∙ ap (λ (cids : List CidParts). entries_of (link ∷ next.more_links) cids) next.cids_are
    ∙ ap (λ (name : List ℕ). record { name = name; cid = c.in-Some.cid } ∷ rest) named in
    let joined : front ++ entry ∷ [] ≡ c.push.new.self =
    ap (λ (cid : CidParts). front ++ record { name = c.in_ok-name.name; cid = cid } ∷ []) (cc) ∙ sym c.in_ok-push.ensures.ok in
    subst (λ (at : ℕ). CidsLeft c.args.block.now at (λ links cids. entries_of (block_links c.args.block.now) (block_cids c.args.block.now) ≡ c.push.new.self ++ entries_of links cids)) (cc) (record {
      links = next.more_links;
      cids = next.more_cids;
      ahead = next.ahead;
      so_far = left.so_far ∙ ap (λ (entries : List Entry). front ++ entries) split ∙ sym (append_assoc front (entry ∷ []) rest)
          ∙ ap (λ (entries : List Entry). entries ++ rest) joined;
    })

pub returns : goal.returns
returns c =
    let left = c.loop-link.invariant in
    let none = c.in_default.ensures.next left.links left.cids left.ahead in
    sym (left.so_far ∙ ap (λ (links : List Link). c.loop-link.entries ++ entries_of links left.cids) none.0 ∙ append-nil c.loop-link.entries)
