use Rattle.std.proofs.Common.{List, ap, subst, ℕ, ◌∙◌, ◌≡◌}
use Rattle.std.proofs.lemmas.Result.{err_from_is_err_and}
use Rattle.tg_listing.proofs.Lines.{text_of_lines}
use Rattle.tg_listing.proofs.listing.put_listing.Goals as goal
use Rattle.tg_listing.specs.Listings.{StopsListing, lines_text}
use Rattle.tg_model.specs.Texts.{listing, sorted}
use Rattle.tg_streams.specs.Streams.{Put, PutFront, into}

pub returns-in_err-put_lines-clause-err : goal.returns-in_err-put_lines-clause-err
returns-in_err-put_lines-clause-err g c = λ entries same.
    let text : lines_text c.as_slice.result.now ≡ listing entries = ap lines_text (c.as_slice.ensures.value ∙ c.in_ok-sorted.ensures entries same) ∙ text_of_lines (sorted entries) in
    let p = err_from_is_err_and c.from_residual-in_err-put_lines.result c.from_residual-in_err-put_lines.ensures.1 in
    rw (p.1, p.2) (subst (λ (t : List ℕ). PutFront t (into g.S.Sink.sink c.args.out.now c.put_lines.new.out)) text c.in_err-put_lines.ensures.err)

pub returns-clause-put : goal.returns-clause-put
returns-clause-put g c = λ entries same.
    let text : lines_text c.as_slice.result.now ≡ listing entries = ap lines_text (c.as_slice.ensures.value ∙ c.in_ok-sorted.ensures entries same) ∙ text_of_lines (sorted entries) in
    subst (λ (t : List ℕ). Put t (into g.S.Sink.sink c.args.out.now c.put_lines.new.out)) text c.in_ok-put_lines.ensures.put
