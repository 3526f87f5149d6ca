use Rattle.std.proofs.Common.{rules, true≢false, refl, sym}
use Rattle.std.proofs.lemmas.Result.{err_from_is_err_and}
use Rattle.tg_words.proofs.MirrorAnswers.{mirror_found, root_refused}
use Rattle.tg_words.proofs.mirrors.mirror_with.Goals as goal

pub returns-in_err-root : goal.returns-in_err-root
returns-in_err-root c =
    let p = err_from_is_err_and c.from_residual.result c.from_residual.ensures.1 in
    rw (p.1, p.2) (record { found = tt; only = λ parts is. c.in_err-root.ensures.only parts.root is.root })

pub returns-then-not-may_root_pack : goal.returns-then-not-may_root_pack
returns-then-not-may_root_pack c = root_refused c.args.addr.now c.args.root.now c.args.pack.now c.in_ok-root.root c.in_ok-root.ensures.only
    (λ may. true≢false (sym (c.if-not-may_root_pack.ensures.1 may)))

pub returns : goal.returns
returns c =
    mirror_found c.args.addr.now c.args.root.now c.args.pack.now _ (search rules) (c.if-not-is_addr.ensures.0 refl) c.in_ok-root.ensures.found c.in_ok-root.ensures.only (c.if-not-may_root_pack.ensures.0 refl)
    c.in_ok-pack.ensures.found.0 c.in_ok-pack.ensures.found.1
