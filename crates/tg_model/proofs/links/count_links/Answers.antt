use Rattle.std.proofs.Common.{◌≡◌, suc, List, [], ◌∷◌, ◌++◌, length, sym, ap, ◌∙◌, subst, append_assoc, append-nil, arith}
use Rattle.tg_cid.specs.Cid.{CidParts}
use Rattle.tg_dagpb.specs.Cursor.{link_of}
use Rattle.tg_dagpb.specs.declared.Link.{Link}
use Rattle.tg_model.proofs.CidsAhead.{cids_all, cids_bad, cids_more}
use Rattle.tg_model.specs.Computed.{cids_from}
use Rattle.tg_model.specs.PlacedSteps.{block_links}
use Rattle.tg_model.specs.Reading.{AreCids}
use Rattle.tg_model.proofs.links.count_links.Goals as goal

pub returns-in_default-cid_of : goal.returns-in_default-cid_of
returns-in_default-cid_of c =
    let left = c.loop-link.invariant.left in
    let next = c.in-Some.ensures.next left.ahead.behind left.links left.ahead.between in
    left.so_far.1.1 ∙ cids_bad c.loop-link.count left.so_far.1.0 left.links next.0 (link_of c.in-Some.link) next.1 (sym c.cid_of.ensures.computed ∙ c.in_default-cid_of.is)

pub loop-link-preserved : goal.loop-link-preserved
loop-link-preserved c =
    let left = c.loop-link.invariant.left in
    let next = c.in-Some.ensures.next left.ahead.behind left.links left.ahead.between in
    let longer : length left.links ≡ suc (length next.0) = ap (λ (links : List Link). length links) next.1 in
    let front = left.so_far.1.0 in
    record {
      left = record {
        links = next.0;
        ahead = record { behind = left.ahead.behind ++ link_of c.in-Some.link ∷ []; between = next.2 };
        so_far = (
          omega arith,
          (
            front ++ c.in-Some-cid_of._cid ∷ [],
            left.so_far.1.1 ∙ cids_more c.loop-link.count front left.links next.0 (link_of c.in-Some.link) c.in-Some-cid_of._cid next.1 (sym c.cid_of.ensures.computed ∙ c.in-Some-cid_of.is),
            λ cids are. subst (λ (cs : List CidParts). AreCids (block_links c.args.block.now) cs) (sym (append_assoc front (c.in-Some-cid_of._cid ∷ []) cids))
                (left.so_far.1.2 (c.in-Some-cid_of._cid ∷ cids) (subst (λ (links : List Link). AreCids links (c.in-Some-cid_of._cid ∷ cids)) (sym next.1) (c.in-Some-cid_of.ensures.found, are))),
          ),
        );
      };
      count = omega (arith, c.in-Some.ensures.forward.0);
    }

pub returns : goal.returns
returns c =
    let left = c.loop-link.invariant.left in
    let none = c.in_default.ensures.next left.ahead.behind left.links left.ahead.between in
    let all = cids_all c.loop-link.count left.so_far.1.0 left.links (cids_from 0 (block_links c.args.block.now)) none left.so_far.1.1 in
    let empty : length left.links ≡ 0 = ap (λ (links : List Link). length links) none in (
      omega arith,
      all.0,
      subst (λ (cids : List CidParts). AreCids (block_links c.args.block.now) cids) (append-nil left.so_far.1.0 ∙ sym all.1) (left.so_far.1.2 [] (subst (λ (links : List Link). AreCids links []) (sym none) tt)),
    )
