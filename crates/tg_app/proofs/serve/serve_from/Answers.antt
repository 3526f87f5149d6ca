use Rattle.std.proofs.Common.{List, ℕ, inl, string_bytes, subst}
use Rattle.tg_commands.specs.PackSteps.{attached_step, content_same}
use Rattle.tg_app.proofs.ServeSteps.{served_step}
use Rattle.tg_commands.specs.Exports.{IsAttachedPack}
use Rattle.tg_commands.specs.Lines.{end_of}
use Rattle.tg_app.specs.Objects.{entrance_between}
use Rattle.tg_app.specs.Serves.{ServeEnded}
use Rattle.tg_files.specs.Packs.{pack_step}
use Rattle.tg_streams.specs.Streams.{into}
use Rattle.tg_words.specs.ServeLines.{ServeParts}
use Rattle.tg_app.proofs.serve.serve_from.Goals as goal

pub returns : goal.returns
returns g c =
    let m = g.P.Pack.pack in
    let a = c.args.pack in
    let b = c.attach.new.self in
    let p = c.serve_pack-pack.result.0 in
    let out = into g.O.Sink.sink c.args.out.now c.serve_pack-pack.new.out in
    let parts : ServeParts = record {
      pack = string_bytes c.asked.inside.pack;
      port = c.asked.inside.port;
      count = c.asked.inside.count;
      lanes = c.asked.inside.lanes;
    } in
    let attached = subst (λ (path : List ℕ). IsAttachedPack path (pack_step m a p)) c.as_str.ensures.value
    (attached_step m g.met.P.Pack.joins a b p c.as_str.result.now c.in-Ok.ensures.did c.serve_pack-pack.ensures.pack) in
    let door = entrance_between g.L.Door.door g.L.Link.Link.link c.args.door.now c.serve_pack-pack.new.door in
    let end = end_of c.answer.result in
    inl (subst (λ (asked : ServeParts). ServeEnded asked (pack_step m a p) out door end) c.asked.view_is
    (served_step m a b p (content_same m _ _ c.as_str.result.now c.in-Ok.ensures.did) c.in-Ok.ensures.quiet parts c.standard.result out door c.serve_pack-pack.result.1 end
    c.standard.ensures attached c.serve_pack-pack.ensures.served c.serve_pack-pack.ensures.asked c.answer.ensures))
