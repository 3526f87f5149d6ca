use Rattle.std.proofs.Common.{◌∙◌, ap, Some, length}
use Rattle.std.proofs.lemmas.Option.{slice_get_read}
use Rattle.std.specs.Prelude.{refl}
use Rattle.tg_dials.proofs.tcp.first_ready.Goals as goal

pub returns-in-Some : goal.returns-in-Some
returns-in-Some g c place link _ =
    let links = c.args.links.now in
    let read = slice_get_read links (length links) c.loop-place.place c.index-links-place.result refl c.loop-place-test.true c.index-links-place.is in
    (c.in-Some.link, read ∙ ap Some c.in-Some.is)
