use Rattle.std.proofs.Common.{◌<◌, ◌^◌, length, arith}
use Rattle.std.proofs.lemmas.Result.{err_from_is_err_and}
use Rattle.tg_store.proofs.Headers.{unfinished_text}
use Rattle.tg_store.proofs.Stepping.{ended, ended_inside, history}
use Rattle.tg_store.proofs.attach.Indexing.close.Goals as goal

pub returns-in_err-end : goal.returns-in_err-end
returns-in_err-end c =
    let p = err_from_is_err_and c.from_residual.result c.from_residual.ensures.1 in
    rw (p.1, p.2) (λ fed along size.
    ended_inside c.car_laws.ensures (unfinished_text c.spelling_laws.ensures) c.args.self.reader c.args.self.found.places.entries fed along c.end.new.self c.in_err-end.field-0.0 c.in_err-end.ensures.stands c.in_err-end.ensures.limit)

pub returns : goal.returns
returns c = λ fed along size.
    let fits : length fed < 2 ^ 64 = omega arith in
    ended c.car_laws.ensures (unfinished_text c.spelling_laws.ensures) c.args.self.reader c.args.self.found.places.entries fed along c.args.self.found.end
    (c.in_ok-end.ensures.whole (history fed along.given) along.stands) size fits
