use Rattle.std.proofs.Common.{List, Some, [], refl, string_bytes, subst, true, ℕ, ◌∷◌}
use Rattle.tg_app.proofs.MirrorSteps.{MirrorDid, at_standard, mirrored_ends, refused_ends}
use Rattle.tg_app.specs.Mirrors.{MirrorHandled}
use Rattle.tg_app.specs.Objects.{dial_between}
use Rattle.tg_commands.specs.Lines.{end_of}
use Rattle.tg_files.specs.Packs.PackWrite.{attach}
use Rattle.tg_files.specs.Packs.{Did, pack_step}
use Rattle.tg_mirror.specs.Mirrors.{MirrorCalls}
use Rattle.tg_streams.specs.Streams.{into}
use Rattle.tg_words.specs.MirrorLines.{MirrorParts}
use Rattle.tg_app.proofs.mirroring.mirror_into.Goals as goal

pub returns-in-Ok-end : goal.returns-in-Ok-end
returns-in-Ok-end g c =
    let m = g.P.Pack.pack in
    let a = c.args.pack in
    let b = c.attach.new.self in
    let p = c.mirror-pack.result.0 in
    let dial = dial_between g.D.Dial.dial c.args.dial.now c.mirror-pack.new.dial in
    let out = into g.O.Sink.sink c.args.out.now c.put_lines.new.out in
    let parts : MirrorParts = record { addr = string_bytes c.asked.inside.addr; root = c.asked.inside.root; pack = string_bytes c.asked.inside.pack } in
    let attached = subst (λ (path : List ℕ). Did (attach path true ∷ []) (pack_step m a b)) c.as_str.ensures.value c.in-Ok.ensures.did in
    let did : MirrorDid parts c.standard-limits.result dial (pack_step m b p) c.mirror-pack.result.1 = record {
      called = subst (λ (addr : List ℕ). MirrorCalls parts.root c.standard-limits.result addr dial.same_dial dial.dialling c.mirror-pack.result.1) c.as_str-2.ensures.value c.mirror-pack.ensures.called;
      mirrored = c.mirror-pack.ensures.mirrored;
      cause = c.mirror-pack.ensures.cause;
      holds = c.mirror-pack.ensures.holds;
      unfinished = c.mirror-pack.ensures.unfinished;
      written = c.mirror-pack.ensures.written;
      stopped = c.mirror-pack.ensures.stopped;
      fitting = c.mirror-pack.ensures.fitting;
      own = c.mirror-pack.ensures.own;
    } in
    subst (λ (asked : MirrorParts). MirrorHandled asked (pack_step m a p) dial out (end_of c.put_lines.result)) c.asked.view_is
    (mirrored_ends m a b p parts dial g.met.P.Pack.joins c.in-Ok.ensures.quiet attached c.in-Ok-end.mirrored out (end_of c.put_lines.result)
    (at_standard _ _ _ _ _ _ c.standard-limits.ensures c.in-Ok-end.is did) c.put_lines.ensures)

pub returns-in-Err : goal.returns-in-Err
returns-in-Err g c =
    let m = g.P.Pack.pack in
    let a = c.args.pack in
    let b = c.attach.new.self in
    let p = c.mirror-pack.result.0 in
    let dial = dial_between g.D.Dial.dial c.args.dial.now c.mirror-pack.new.dial in
    let out = into g.O.Sink.sink c.args.out.now c.args.out.now in
    let parts : MirrorParts = record { addr = string_bytes c.asked.inside.addr; root = c.asked.inside.root; pack = string_bytes c.asked.inside.pack } in
    let attached = subst (λ (path : List ℕ). Did (attach path true ∷ []) (pack_step m a b)) c.as_str.ensures.value c.in-Ok.ensures.did in
    let did : MirrorDid parts c.standard-limits.result dial (pack_step m b p) c.mirror-pack.result.1 = record {
      called = subst (λ (addr : List ℕ). MirrorCalls parts.root c.standard-limits.result addr dial.same_dial dial.dialling c.mirror-pack.result.1) c.as_str-2.ensures.value c.mirror-pack.ensures.called;
      mirrored = c.mirror-pack.ensures.mirrored;
      cause = c.mirror-pack.ensures.cause;
      holds = c.mirror-pack.ensures.holds;
      unfinished = c.mirror-pack.ensures.unfinished;
      written = c.mirror-pack.ensures.written;
      stopped = c.mirror-pack.ensures.stopped;
      fitting = c.mirror-pack.ensures.fitting;
      own = c.mirror-pack.ensures.own;
    } in
    subst (λ (asked : MirrorParts). MirrorHandled asked (pack_step m a p) dial out (Some c.refusal_of_mirror.result)) c.asked.view_is
    (refused_ends m a b p parts dial g.met.P.Pack.joins c.in-Ok.ensures.quiet attached c.in-Err.fault c.refusal_of_mirror.result out
    c.refusal_of_mirror.ensures (record { unput = record { moved = g.met.O.Sink.rests _; held = refl }; quiet = refl }) (at_standard _ _ _ _ _ _ c.standard-limits.ensures c.in-Err.is did))
