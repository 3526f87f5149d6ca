use Rattle.std.proofs.Common.{subst, sym}
use Rattle.std.proofs.lemmas.Result.{IfOk-weaker}
use Rattle.tg_dials.specs.Dials.{at_dial}
use Rattle.tg_files.specs.Packs.{pack_step}
use Rattle.tg_mirror.proofs.Steps.{mirrored_from}
use Rattle.tg_mirror.specs.Mirrors.{IsMirrored}
use Rattle.tg_mirror.proofs.mirroring.mirror.Goals as goal

pub returns-clause-mirrored : goal.returns-clause-mirrored
returns-clause-mirrored g c =
    IfOk-weaker c.fill-end.result _ _
    (λ mirrored h. subst (λ p. IsMirrored c.args.root c.args.limits (at_dial g.D.Dial.dial c.args.dial.now c.fill-end.new.dial) (pack_step g.P.Pack.pack c.args.pack p) mirrored) (sym c.into_pack.ensures)
    (mirrored_from g.P.Pack.pack c.args.root c.args.limits (at_dial g.D.Dial.dial c.args.dial.now c.fill-end.new.dial) c.args.pack c.in-Ok.store.pack c.fill-end.new.filling.store.pack mirrored h))
    c.fill-end.ensures.mirrored
