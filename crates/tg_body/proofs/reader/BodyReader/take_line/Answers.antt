use Rattle.std.proofs.Common.{ℕ, List, refl, sym, subst}
use Rattle.std.proofs.lemmas.Result.{err_from_is_err_and}
use Rattle.tg_body.specs.declared.reader.BodyReader.{BodyReader}
use Rattle.tg_body.specs.Steps.{EndsLine}
use Rattle.tg_body.proofs.LineSteps.{line_refuses, line_bad, line_states}
use Rattle.tg_body.proofs.reader.BodyReader.take_line.Goals as goal

pub returns-in_err-size : goal.returns-in_err-size
returns-in_err-size c =
    let old = c.args.self.now in
    let new : BodyReader = record old { came = c.keep_line.new.came } in
    let p = err_from_is_err_and c.from_residual.result c.from_residual.ensures.1 in
    rw (p.1, p.2) (line_refuses old new c.args.piece.now c.in_err-size.field-0.0 c.requires refl refl c.in_err-size.ensures)

pub returns-in_default-stated_size : goal.returns-in_default-stated_size
returns-in_default-stated_size c =
    let old = c.args.self.now in
    let new : BodyReader = record old { came = c.keep_line.new.came } in
    let ends : EndsLine old.came c.args.piece.now c.in-Some.size c.keep_line.new.came = rw c.in-Some.is at c.in_ok-size.ensures in
    line_bad old new c.args.piece.now c.as_slice.result.now c.in-Some.size c.requires refl refl
    (subst (λ (s : List ℕ). EndsLine old.came c.args.piece.now c.in-Some.size s) (sym c.as_slice.ensures) ends) c.in_default-stated_size.ensures

pub returns : goal.returns
returns c =
    let old = c.args.self.now in
    let ends : EndsLine old.came c.args.piece.now c.in-Some.size c.keep_line.new.came = rw c.in-Some.is at c.in_ok-size.ensures in
    line_states old c.args.piece.now c.as_slice.result.now c.keep_line.new.came c.clear.new.self c.in-Some.size c.in-Some-stated_size.stated c.behind_line-self.result
    c.requires ends c.as_slice.ensures c.in-Some-stated_size.ensures c.behind_line-self.ensures c.clear.ensures
