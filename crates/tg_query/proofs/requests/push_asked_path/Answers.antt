use Rattle.std.proofs.Common.{List, ap, ℕ, ◌++◌, ◌∙◌}
use Rattle.std.specs.Prelude.{codes}
use Rattle.tg_cid.specs.Cid.{CidParts}
use Rattle.tg_cid.specs.Computed.{cid_text}
use Rattle.tg_query.specs.Requests.{path_text}
use Rattle.tg_query.proofs.Growing.{three_put}
use Rattle.tg_query.proofs.requests.push_asked_path.Goals as goal

pub returns : goal.returns
returns c =
    let q = c.args.query.now in
    let root = c.in_ok-push_root.ensures ∙ ap (λ (r : CidParts). c.push_all.new.self ++ cid_text r) c.root.ensures in
    let path = c.in_ok-push_path.ensures ∙ ap (λ (p : List (List ℕ)). c.push_root.new.text ++ path_text p) (c.as_slice.ensures ∙ c.path.ensures.path) in
    three_put c.args.text.now c.push_all.new.self c.push_root.new.text _ (codes "/ipfs/") (cid_text q.root) (path_text q.path)
    c.in_ok-push_all.ensures.ok root path
