use Rattle.std.proofs.Common.{◌≡◌, sym, ◌∙◌, subst}
use Rattle.tg_unixfs.specs.declared.Unix.{Unix}
use Rattle.tg_unixfs.specs.Unix.{UnixText}
use Rattle.tg_unixfs.specs.Places.{placed_unix}
use Rattle.tg_unixfs.specs.Starting.{start_sizes}
use Rattle.tg_unixfs.proofs.decode.Goals as goal

pub returns-in_err-places-clause-only : goal.returns-in_err-places-clause-only
returns-in_err-places-clause-only c = λ unix text. absurd (c.in_err-places.ensures.only unix text)

pub returns-in_err-copied-clause-memory : goal.returns-in_err-copied-clause-memory
returns-in_err-copied-clause-memory c = λ _.
    let text = c.args.bytes.now in
    let h = c.in_ok-places.ensures.found in
    let there = placed_unix text c.in_ok-places.places h.sizes in
    (there, h.is_text, c.in_err-copied.ensures.memory h.sizes (start_sizes there text h.is_text))

pub returns-clause-found : goal.returns-clause-found
returns-clause-found c =
    let text = c.args.bytes.now in
    let h = c.in_ok-places.ensures.found in
    let there = placed_unix text c.in_ok-places.places h.sizes in
    let same : c.in_ok-copied.field-0 ≡ there = c.in_ok-copied.ensures.data h.sizes (start_sizes there text h.is_text) in
    subst (λ (unix : Unix). UnixText unix text) (sym same) h.is_text

pub returns-clause-only : goal.returns-clause-only
returns-clause-only c = λ unix text.
    c.in_ok-copied.ensures.data unix.sizes (start_sizes unix c.args.bytes.now text) ∙ sym (c.in_ok-places.ensures.only unix text)
