use Rattle.std.proofs.Common.{List, ap, codes, ℕ, ◌++◌, ◌∙◌}
use Rattle.tg_query.specs.Requests.{accept_text, request_text, target_text}
use Rattle.tg_query.proofs.Growing.{request_put}
use Rattle.tg_query.proofs.requests.print_request.Goals as goal

pub returns : goal.returns
unfolding request_text
returns c =
    let q = c.args.query.now in
    request_put c.push_all.new.self c.push_target.new.text c.push_all-2.new.self c.push_all-3.new.self c.push_all-4.new.self c.push_accept.new.text _
    (target_text q) c.args.addr.now (accept_text q.form q) (c.in_ok-push_all.ensures.ok ∙ ap (λ (l : List ℕ). l ++ codes "GET ") c.new-text.ensures)
    c.in_ok-push_target.ensures c.in_ok-push_all-2.ensures.ok (c.in_ok-push_all-3.ensures.ok ∙ ap (λ (l : List ℕ). c.push_all-2.new.self ++ l) c.as_bytes.ensures.value)
    c.in_ok-push_all-4.ensures.ok c.in_ok-push_accept.ensures c.in_ok-push_all-5.ensures.ok
