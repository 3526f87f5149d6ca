use Rattle.std.proofs.Common.{ap, ◌∙◌}
use Rattle.std.proofs.lemmas.Result.{err_from_is_err_and}
use Rattle.tg_verify.proofs.Puts.{listing_cause, listing_place, listing_stops}
use Rattle.tg_verify.specs.State.{OpenerState}
use Rattle.tg_verify.proofs.opener.Opener.put_kept_lines.Goals as goal

pub returns-in_err-put_listing-clause-put : goal.returns-in_err-put_listing-clause-put
returns-in_err-put_listing-clause-put g c = λ entries same.
    let p = err_from_is_err_and c.from_residual.result c.from_residual.ensures.1 in
    rw (p.1, p.2) (listing_stops _ _ _ (c.in_err-put_listing.ensures.err entries (c.replace-lines.ensures.value ∙ ap (λ (o : OpenerState). o.lines) c.self.view_is ∙ same)))

pub returns-in_err-put_listing-clause-cause : goal.returns-in_err-put_listing-clause-cause
returns-in_err-put_listing-clause-cause g c =
    let p = err_from_is_err_and c.from_residual.result c.from_residual.ensures.1 in
    rw (p.1, p.2) (listing_cause c.in_err-put_listing.field-0.0 _ c.in_err-put_listing.ensures.cause)

pub returns-in_err-put_listing-clause-place : goal.returns-in_err-put_listing-clause-place
returns-in_err-put_listing-clause-place g c =
    let p = err_from_is_err_and c.from_residual.result c.from_residual.ensures.1 in
    rw (p.1, p.2) (listing_place c.in_err-put_listing.field-0.0)
