use Rattle.tg_cid.specs.Computed.{cid_text}
use Rattle.tg_query.specs.Requests.{params_text, path_text}
use Rattle.tg_query.proofs.Growing.{target_put}
use Rattle.tg_query.proofs.requests.push_target.Goals as goal

pub returns : goal.returns
returns c =
    let q = c.args.query.now in
    target_put c.args.text.now c.push_asked_path.new.text c.push_all.new.self _ (cid_text q.root) (path_text q.path) (params_text q.form q)
    c.in_ok-push_asked_path.ensures c.in_ok-push_all.ensures.ok c.in_ok-push_params.ensures
