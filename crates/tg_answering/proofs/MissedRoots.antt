-- The reply where the root isn't stored: a path from it stops at once, as gone at the root.
use Rattle.std.proofs.Common.{List, Option, [], ap, refl, ℕ, ◌∙◌, ◌∷◌, ◌≡◌}
use Rattle.tg_answering.specs.MissedRoots.{MissedRoots}
use Rattle.tg_cid.specs.Cid.{CidParts}
use Rattle.tg_model.specs.Dag.{unopened}
use Rattle.tg_model.specs.PathWalk.{gone, not_reached, path_walk, spot_at}
use Rattle.tg_model.specs.Sound.{top}
use Rattle.tg_model.specs.StoreView.{opened_to, with_block}
use Rattle.tg_reply.specs.Replies.{gone_refusal, refused_request, reply_at, reply_to}

-- of any path
stops_at_root : (path : List (List ℕ)) (cid : CidParts) → (path_walk path (unopened cid)).end ≡ not_reached (gone (spot_at cid 1 top))
stops_at_root [] cid = refl
stops_at_root (name ∷ path) cid = refl

-- then the root's block is missed
pub missed : MissedRoots
missed store head q is none =
    ap (reply_to store head) is
    ∙ ap (λ (found : Option (List ℕ)). reply_at store head q (path_walk q.path (with_block (opened_to 1099 store) q.root found)).end) none
    ∙ ap (reply_at store head q) (stops_at_root q.path q.root)
    ∙ ap (λ (found : Option (List ℕ)). refused_request head (gone_refusal found)) none
