use Rattle.std.proofs.lemmas.Result.{err_from_is_err_and}
use Rattle.tg_store.proofs.Headers.{unfinished_text}
use Rattle.tg_store.proofs.Stepping.{not_noted, refused, went_on}
use Rattle.tg_store.proofs.attach.Indexing.step.Goals as goal

pub returns-in_err-taken-clause-along : goal.returns-in_err-taken-clause-along
returns-in_err-taken-clause-along c =
    let p = err_from_is_err_and c.from_residual.result c.from_residual.ensures.1 in
    rw (p.1, p.2) (λ fed along.
    refused c.car_laws.ensures (unfinished_text c.spelling_laws.ensures) c.spelling_laws.ensures c.one_spelling.ensures.no_front c.args.self.now.reader c.feed.new.self fed c.args.piece.now
    c.args.self.now.found.places.entries c.in_err-taken.field-0.0 c.in_err-taken.ensures.stands c.in_err-taken.ensures.limit along)

pub returns-in_err-note-clause-along : goal.returns-in_err-note-clause-along
returns-in_err-note-clause-along c =
    let p = err_from_is_err_and c.from_residual-in_err-note.result c.from_residual-in_err-note.ensures.1 in
    rw (p.1, p.2) (λ fed along.
    not_noted c.car_laws.ensures (unfinished_text c.spelling_laws.ensures) c.spelling_laws.ensures c.one_spelling.ensures.no_front c.args.self.now.reader c.feed.new.self fed c.args.piece.now
    c.args.self.now.found.places.entries c.in_ok-taken.taken c.in_ok-taken.event c.in_err-note.field-0.0 c.in_ok-taken.ensures.stands c.in_ok-taken.ensures.limit along c.in_err-note.ensures)

pub returns-clause-along : goal.returns-clause-along
returns-clause-along c = λ fed along.
    went_on c.car_laws.ensures (unfinished_text c.spelling_laws.ensures) c.spelling_laws.ensures c.one_spelling.ensures.no_front c.args.self.now.reader c.feed.new.self fed c.args.piece.now
    c.args.self.now.found.places.entries c.note.new.places.entries c.in_ok-taken.taken c.in_ok-taken.event c.in_ok-taken.ensures.stands c.in_ok-taken.ensures.limit along (c.in_ok-note.ensures {u = tt})
