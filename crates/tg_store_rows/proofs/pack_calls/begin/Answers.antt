use Rattle.std.proofs.Common.{◌∷◌, [], true}
use Rattle.std.proofs.lemmas.Result.{on_ok_weaker}
use Rattle.tg_files.specs.Packs.{did_joins}
use Rattle.tg_files.specs.Packs.PackWrite.{append, attach}
use Rattle.tg_store_rows.proofs.pack_calls.begin.Goals as goal

pub returns : goal.returns
returns g c =
    let m = g.P.Pack.pack in
    let joins = g.met.P.Pack.joins in
    let head = c.args.head.now in
    let body = c.args.body.now in
    let two = did_joins m joins c.args.pack.now c.attach.new.self c.append.new.self (attach c.args.path.now true ∷ []) (append head ∷ []) c.in_ok-attach.ensures.did c.in_ok-append.ensures.did in
    on_ok_weaker c.append-2.result (λ last. did_joins m joins c.args.pack.now c.append.new.self c.append-2.new.self (attach c.args.path.now true ∷ append head ∷ []) (append body ∷ []) two last) c.append-2.ensures.did
