use Rattle.std.proofs.Common.{ℕ, ◌≡◌, ◌<◌, ◌≤◌, List, length, take, drop, refl, sym, ap, ◌∙◌, subst, arith}
use Rattle.std.proofs.lemmas.Bool.{false≢true}
use Rattle.std.proofs.lemmas.List.{length-append, length-take-le}
use Rattle.std.proofs.lemmas.Result.{err_from_is_err_and}
use Rattle.tg_http.specs.HeadText.{IsEmptyLine}
use Rattle.tg_body.specs.Bodies.{TrailerText}
use Rattle.tg_body.specs.declared.reader.BodyReader.{BodyReader}
use Rattle.tg_body.specs.declared.stage.Stage.TheVariants as stages
use Rattle.tg_body.specs.declared.stage.Step.TheVariants as steps
use Rattle.tg_body.specs.Steps.{EndsLine, InsideLine, Steps}
use Rattle.tg_body.proofs.TrailerSteps.{same_hand, trailer_refuses, trailer_needs, trailer_full, trailer_next, trailer_bad, trailer_ends}
use Rattle.tg_body.proofs.reader.BodyReader.take_trailer.Goals as goal

pub returns-in_err-size : goal.returns-in_err-size
returns-in_err-size c =
    let old = c.args.self.now in
    let new : BodyReader = record old { came = c.keep_line.new.came } in
    let p = err_from_is_err_and c.from_residual.result c.from_residual.ensures.1 in
    rw (p.1, p.2) (trailer_refuses old new c.args.piece.now c.in_err-size.field-0.0 c.args.begun c.requires refl refl c.in_err-size.ensures)

pub returns-in_default : goal.returns-in_default
returns-in_default c =
    let old = c.args.self.now in
    let inside : InsideLine old.came c.args.piece.now c.keep_line.new.came = rw c.in_default.is at c.in_ok-size.ensures in
    trailer_needs old c.args.piece.now c.keep_line.new.came c.args.begun c.requires inside

pub returns-then-came-eq-MAX_TEXT : goal.returns-then-came-eq-MAX_TEXT
returns-then-came-eq-MAX_TEXT c =
    let old = c.args.self.now in
    let new : BodyReader = record old { came = c.keep_line.new.came } in
    let text = c.as_slice-came.result.now in
    let ends : EndsLine old.came c.args.piece.now c.in-Some.size c.keep_line.new.came = rw c.in-Some.is at c.in_ok-size.ensures in
    let hand = same_hand text c.min.result c.args.begun c.min.ensures in
    trailer_full old new c.args.piece.now text c.in-Some.size c.args.begun c.requires refl refl
    (subst (λ (s : List ℕ). EndsLine old.came c.args.piece.now c.in-Some.size s) (sym c.as_slice-came.ensures) ends)
    (λ e. false≢true (c.if-not-is_empty_line.ensures.1 (subst IsEmptyLine (sym hand) e))) (omega (arith, c.if-came-eq-MAX_TEXT.true))

pub returns-then-not-is_empty_line : goal.returns-then-not-is_empty_line
returns-then-not-is_empty_line c =
    let old = c.args.self.now in
    let text = c.as_slice-came.result.now in
    let piece = c.args.piece.now in
    let came = c.keep_line.new.came in
    let size = c.in-Some.size in
    let ends : EndsLine old.came piece size came = rw c.in-Some.is at c.in_ok-size.ensures in
    let hand = same_hand text c.min.result c.args.begun c.min.ensures in
    let same : text ≡ came = c.as_slice-came.ensures in
    let few : length came < 16384 =
    omega (arith, c.if-came-eq-MAX_TEXT.false, ap length same, ends.fits, ap length ends.kept_is, length-append old.came (take size piece), length-take-le size piece ends.within) in
    subst (λ (s : List ℕ). Steps old (record old { stage = stages.Trailer (length s); came = came }) piece size steps.Next) (sym same)
    (trailer_next old piece came size c.args.begun c.requires ends
    (λ e. false≢true (c.if-not-is_empty_line.ensures.1 (subst IsEmptyLine (ap (drop c.args.begun) (sym same) ∙ sym hand) e))) few)

pub returns-then-not-is_trailer : goal.returns-then-not-is_trailer
returns-then-not-is_trailer c =
    let old = c.args.self.now in
    let new : BodyReader = record old { came = c.keep_line.new.came } in
    let text = c.as_slice-came.result.now in
    let ends : EndsLine old.came c.args.piece.now c.in-Some.size c.keep_line.new.came = rw c.in-Some.is at c.in_ok-size.ensures in
    let hand = same_hand text c.min.result c.args.begun c.min.ensures in
    trailer_bad old new c.args.piece.now text c.in-Some.size c.args.begun c.requires refl refl
    (subst (λ (s : List ℕ). EndsLine old.came c.args.piece.now c.in-Some.size s) (sym c.as_slice-came.ensures) ends)
    (subst IsEmptyLine hand (c.if-not-is_empty_line.ensures.0 refl))
    (λ lines last full whole fits t. false≢true ((c.if-not-is_trailer.ensures lines last full whole fits).1 t))

pub returns : goal.returns
returns c =
    let old = c.args.self.now in
    let text = c.as_slice-came.result.now in
    let piece = c.args.piece.now in
    let came = c.keep_line.new.came in
    let size = c.in-Some.size in
    let ends : EndsLine old.came piece size came = rw c.in-Some.is at c.in_ok-size.ensures in
    let hand = same_hand text c.min.result c.args.begun c.min.ensures in
    let same : text ≡ came = c.as_slice-came.ensures in
    trailer_ends old piece came size c.args.begun c.requires ends
    (subst IsEmptyLine (hand ∙ ap (drop c.args.begun) same) (c.if-not-is_empty_line.ensures.0 refl))
    (λ lines last full whole fits.
    subst TrailerText same ((c.if-not-is_trailer.ensures lines last full (same ∙ whole) (subst (λ (s : List ℕ). length s ≤ 16384) (sym same) fits)).0 refl))
