use Rattle.std.proofs.lemmas.Result.{err_from_is_err_and}
use Rattle.tg_gateway.proofs.Feeding.{front_broken}
use Rattle.tg_gateway.proofs.session.Session.take.Goals as goal

pub returns-in_err-look-clause-ends : goal.returns-in_err-look-clause-ends
returns-in_err-look-clause-ends g c =
    let p = err_from_is_err_and c.from_residual.result c.from_residual.ensures.1 in
    rw (p.1, p.2) (front_broken _ c.args.self.now.state c.look.new.self.state c.args.piece.now c.split_at.result.0.now
    c.split_at.result.1.now _ _ _
    c.split_at.ensures.by_index.0 c.in_err-look.ensures.ends)
