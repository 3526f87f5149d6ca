use Rattle.std.proofs.Common.{List, ap, arith, drop, length, subst, suc, sym, take, ℕ, ◌<◌, ◌++◌, ◌∙◌, ◌≡◌}
use Rattle.std.proofs.lemmas.List.{take_all}
use Rattle.std.proofs.lemmas.Result.{err_from_is_err_and}
use Rattle.tg_listing.proofs.Gathering.{front_rest, put_on, stops_on}
use Rattle.tg_listing.proofs.Lines.{lines_next, lines_split}
use Rattle.tg_listing.proofs.listing.put_lines.Goals as goal
use Rattle.tg_listing.specs.Listings.{PutBut, lines_text}
use Rattle.tg_listing.specs.declared.line.ListingLine.{ListingLine}
use Rattle.tg_streams.specs.Streams.{PutFront, into}

pub returns-in_err-put_line-clause-err : goal.returns-in_err-put_line-clause-err
returns-in_err-put_line-clause-err g c =
    let es = c.args.lines.now in
    let i = c.loop-line.line-index in
    let line = c.line-item.result in
    let inside : i < length es = omega arith in
    let line_same = ap (λ (e : ListingLine). e.text) c.line-item.is in
    let whole = lines_split es i line inside ∙ ap (λ (l : List ℕ). (lines_text (take i es) ++ l) ++ lines_text (drop (suc i) es)) (sym line_same) in
    let p = err_from_is_err_and c.from_residual.result c.from_residual.ensures.1 in
    rw (p.1)
    (subst (λ (text : List ℕ). PutFront text (into g.S.Sink.sink c.args.out.now c.put_line.new.out)) (sym whole)
    (stops_on g.S.Sink.sink _ _ _ g.met.S.Sink.joins c.loop-line.gathered line.text (lines_text (take i es)) (lines_text (drop (suc i) es))
    c.loop-line.invariant
    (subst (λ (t : List ℕ). PutFront (c.loop-line.gathered ++ t) (into g.S.Sink.sink c.loop-line.out c.put_line.new.out)) c.as_slice.ensures c.in_err-put_line.ensures.err)))

pub loop-line-preserved : goal.loop-line-preserved
loop-line-preserved g c =
    let es = c.args.lines.now in
    let i = c.loop-line.line-index in
    let line = c.line-item.result in
    let inside : i < length es = omega arith in
    let line_same = ap (λ (e : ListingLine). e.text) c.line-item.is in
    let next = lines_next es i line inside ∙ ap (λ (l : List ℕ). lines_text (take i es) ++ l) (sym line_same) in
    subst (λ (text : List ℕ). PutBut c.put_line.new.lines text (into g.S.Sink.sink c.args.out.now c.put_line.new.out)) (sym next)
    (put_on g.S.Sink.sink _ _ _ g.met.S.Sink.joins c.loop-line.gathered c.put_line.new.lines line.text (lines_text (take i es)) c.loop-line.invariant
    (subst (λ (t : List ℕ). PutBut c.put_line.new.lines (c.loop-line.gathered ++ t) (into g.S.Sink.sink c.loop-line.out c.put_line.new.out)) c.as_slice.ensures c.in_ok-put_line.ensures.put))

pub returns-in_err-put_all-clause-err : goal.returns-in_err-put_all-clause-err
returns-in_err-put_all-clause-err g c =
    let es = c.args.lines.now in
    let all : lines_text (take c.loop-line.line-index es) ≡ lines_text es = ap lines_text (take_all c.loop-line.line-index es (omega arith)) in
    let rest = subst (λ (bytes : List ℕ). PutFront bytes (into g.S.Sink.sink c.loop-line.out c.put_all.new.sink)) c.as_slice-2.ensures c.in_err-put_all.ensures.err_front in
    let p = err_from_is_err_and c.from_residual-in_err-put_all.result c.from_residual-in_err-put_all.ensures.1 in
    rw (p.1)
    (subst (λ (text : List ℕ). PutFront text (into g.S.Sink.sink c.args.out.now c.put_all.new.sink)) all
    (front_rest g.S.Sink.sink _ _ _ g.met.S.Sink.joins c.loop-line.gathered (lines_text (take c.loop-line.line-index es)) c.loop-line.invariant rest))
