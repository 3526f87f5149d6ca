use Rattle.std.proofs.Common.{subst, sym}
use Rattle.std.proofs.lemmas.Result.{IfOk-weaker, on_err_weaker}
use Rattle.tg_files.specs.Packs.{pack_step}
use Rattle.tg_import.proofs.packing.import_pack.Goals as goal
use Rattle.tg_store.specs.Filling.{StopsWriting, WritesPack}

pub returns-clause-written : goal.returns-clause-written
returns-clause-written g c =
    IfOk-weaker c.fill-end.result _ _
    (λ found h. subst (λ p. WritesPack found.0 (pack_step g.P.Pack.pack c.args.pack p)) (sym c.into_pack.ensures)
    (c.filled_packs.ensures.written c.args.pack c.fill-end.new.store.pack c.in-Ok.store found.0 c.in-Ok.ensures.created h))
    c.fill-end.ensures.written

pub returns-clause-stopped : goal.returns-clause-stopped
returns-clause-stopped g c =
    on_err_weaker c.fill-end.result
    (λ h. subst (λ p. StopsWriting (pack_step g.P.Pack.pack c.args.pack p)) (sym c.into_pack.ensures)
    (c.filled_packs.ensures.stopped c.args.pack c.fill-end.new.store.pack c.in-Ok.store c.in-Ok.ensures.created h))
    c.fill-end.ensures.stopped
