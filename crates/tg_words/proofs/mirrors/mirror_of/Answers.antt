use Rattle.std.proofs.Common.{[], Ok, Err, refl}
use Rattle.std.proofs.lemmas.Result.{err_from_is_err_and}
use Rattle.tg_words.proofs.Known.{no_options}
use Rattle.tg_words.proofs.Lines.{mirror_lines}
use Rattle.tg_words.proofs.MirrorAnswers.{mirror_form}
use Rattle.tg_words.proofs.Positional.{answered, no_operands, three_only}
use Rattle.tg_words.proofs.mirrors.mirror_of.Goals as goal

pub returns-in_err-addr : goal.returns-in_err-addr
returns-in_err-addr c =
    let p = err_from_is_err_and c.from_residual.result c.from_residual.ensures.1 in
    rw (p.1, p.2) (no_operands mirror_form _ _ mirror_lines (λ three options s. c.in_err-addr.ensures.only three.0 three.1 three.2 options s))

pub returns-in_err-mirror : goal.returns-in_err-mirror
returns-in_err-mirror c =
    let p = err_from_is_err_and c.from_residual-in_err-mirror.result c.from_residual-in_err-mirror.ensures.1 in
    rw (p.1, p.2)
    (answered mirror_form _ (c.in_ok-addr.addr.now, c.in_ok-addr.root.now, c.in_ok-addr.pack.now) [] [] (Err c.in_err-mirror.field-0.0) mirror_lines refl
    (no_options _ _ c.in_ok-addr.ensures.found.0 c.in_ok-addr.ensures.found.1) (three_only _ _ _ _ c.in_ok-addr.ensures.only) c.in_err-mirror.ensures)

pub returns : goal.returns
returns c =
    answered mirror_form _ (c.in_ok-addr.addr.now, c.in_ok-addr.root.now, c.in_ok-addr.pack.now) [] [] (Ok c.in_ok-mirror.mirror) mirror_lines refl
    (no_options _ _ c.in_ok-addr.ensures.found.0 c.in_ok-addr.ensures.found.1) (three_only _ _ _ _ c.in_ok-addr.ensures.only) c.in_ok-mirror.ensures
