use Rattle.std.proofs.Common.{arith, ◌^◌, ◌<◌, ◌≡◌}
use Rattle.std.proofs.lemmas.Result.{err_from_is_err_and}
use Rattle.tg_dials.specs.Dials.{Dialling, at_dial}
use Rattle.tg_mirror.proofs.Ends.{client_causes, client_holds, client_kept, finish_calls, finish_causes, finish_else, finish_holds, mirrors, sections_kept, whole_kept, whole_moved}
use Rattle.tg_mirror.proofs.Steps.{client_calls, quiet_then}
use Rattle.tg_mirror.specs.declared.mirrored.Mirrored.{Mirrored}
use Rattle.tg_mirror.proofs.mirroring.fill.Goals as goal

pub returns-in_err-fetched-clause-holds : goal.returns-in_err-fetched-clause-holds
returns-in_err-fetched-clause-holds g c =
    let p = err_from_is_err_and c.from_residual.result c.from_residual.ensures.1 in
    rw (p.1, p.2)
    (client_holds g.P.Pack.pack c.args.root c.args.limits (at_dial g.D.Dial.dial c.args.dial.now c.fetched.new.dial) c.args.filling.now.store c.fetched.new.filling.store
    (λ sections content kept told. c.pack_laws.ensures c.args.filling.now.store c.fetched.new.filling.store sections content c.requires.new kept told) c.in_err-fetched.field-0.0 c.in_err-fetched.ensures.kept)

pub returns-in_err-fetched-clause-unfinished : goal.returns-in_err-fetched-clause-unfinished
returns-in_err-fetched-clause-unfinished g c =
    let p = err_from_is_err_and c.from_residual.result c.from_residual.ensures.1 in
    let kept = client_kept g.P.Pack.pack c.args.root c.args.limits (at_dial g.D.Dial.dial c.args.dial.now c.fetched.new.dial) c.args.filling.now.store c.fetched.new.filling.store c.in_err-fetched.field-0.0 c.in_err-fetched.ensures.kept in
    rw (p.1) (c.filled_packs.ensures.unfinished c.args.filling.now.store c.fetched.new.filling.store kept.0 c.requires.new kept.1).1

pub returns-in_err-fetched-clause-stopped : goal.returns-in_err-fetched-clause-stopped
returns-in_err-fetched-clause-stopped g c =
    let p = err_from_is_err_and c.from_residual.result c.from_residual.ensures.1 in
    let kept = client_kept g.P.Pack.pack c.args.root c.args.limits (at_dial g.D.Dial.dial c.args.dial.now c.fetched.new.dial) c.args.filling.now.store c.fetched.new.filling.store c.in_err-fetched.field-0.0 c.in_err-fetched.ensures.kept in
    rw (p.1) (c.filled_packs.ensures.unfinished c.args.filling.now.store c.fetched.new.filling.store kept.0 c.requires.new kept.1).0

pub returns-in_err-fetched-clause-fitting : goal.returns-in_err-fetched-clause-fitting
returns-in_err-fetched-clause-fitting g c = λ d sections text fits within tells.
    let p = err_from_is_err_and c.from_residual.result c.from_residual.ensures.1 in
    rw (p.1, p.2) (c.in_err-fetched.ensures.fitting d sections text fits within tells)

pub returns-in_err-fetched-clause-own : goal.returns-in_err-fetched-clause-own
returns-in_err-fetched-clause-own g c = λ d text sound is_root answers one within tells.
    let p = err_from_is_err_and c.from_residual.result c.from_residual.ensures.1 in
    rw (p.1, p.2) (c.in_err-fetched.ensures.own d text sound is_root answers one within tells)

pub returns-in_err-finish-clause-holds : goal.returns-in_err-finish-clause-holds
returns-in_err-finish-clause-holds g c =
    let p = err_from_is_err_and c.from_residual-in_err-finish.result c.from_residual-in_err-finish.ensures.1 in
    rw (p.1, p.2)
    (finish_holds g.P.Pack.pack c.args.root c.args.limits (at_dial g.D.Dial.dial c.args.dial.now c.fetched.new.dial) c.args.filling.now.store c.fetched.new.filling.store c.in_ok-fetched.ensures.kept
    (λ sections content kept told. c.pack_laws.ensures c.args.filling.now.store c.fetched.new.filling.store sections content c.requires.new kept told) c.finish.new.self c.in_err-finish.field-0.0 c.in_err-finish.ensures.failed.cause)

pub returns-in_err-finish-clause-unfinished : goal.returns-in_err-finish-clause-unfinished
returns-in_err-finish-clause-unfinished g c =
    let p = err_from_is_err_and c.from_residual-in_err-finish.result c.from_residual-in_err-finish.ensures.1 in
    let dial : Dialling = at_dial g.D.Dial.dial c.args.dial.now c.fetched.new.dial in
    rw (p.1)
    (c.filled_packs.ensures.failed c.args.filling.now.store c.fetched.new.filling.store c.finish.new.self
    (sections_kept g.P.Pack.pack c.args.root c.args.limits dial c.args.filling.now.store c.fetched.new.filling.store c.in_ok-fetched.ensures.kept) c.in_err-finish.field-0.0 c.requires.new
    (whole_kept g.P.Pack.pack c.args.root c.args.limits dial c.args.filling.now.store c.fetched.new.filling.store c.in_ok-fetched.ensures.kept) c.in_err-finish.ensures.failed).1

pub returns-in_err-finish-clause-stopped : goal.returns-in_err-finish-clause-stopped
returns-in_err-finish-clause-stopped g c =
    let p = err_from_is_err_and c.from_residual-in_err-finish.result c.from_residual-in_err-finish.ensures.1 in
    let dial : Dialling = at_dial g.D.Dial.dial c.args.dial.now c.fetched.new.dial in
    rw (p.1)
    (c.filled_packs.ensures.failed c.args.filling.now.store c.fetched.new.filling.store c.finish.new.self
    (sections_kept g.P.Pack.pack c.args.root c.args.limits dial c.args.filling.now.store c.fetched.new.filling.store c.in_ok-fetched.ensures.kept) c.in_err-finish.field-0.0 c.requires.new
    (whole_kept g.P.Pack.pack c.args.root c.args.limits dial c.args.filling.now.store c.fetched.new.filling.store c.in_ok-fetched.ensures.kept) c.in_err-finish.ensures.failed).0

pub returns-clause-mirrored : goal.returns-clause-mirrored
returns-clause-mirrored g c =
    let dial : Dialling = at_dial g.D.Dial.dial c.args.dial.now c.fetched.new.dial in
    let kept = whole_kept g.P.Pack.pack c.args.root c.args.limits dial c.args.filling.now.store c.fetched.new.filling.store c.in_ok-fetched.ensures.kept in
    let sections = sections_kept g.P.Pack.pack c.args.root c.args.limits dial c.args.filling.now.store c.fetched.new.filling.store c.in_ok-fetched.ensures.kept in
    let small : c.args.limits.received < 2 ^ 64 = omega (arith, c.number-most.ensures.number, c.number-most.ensures.most) in
    let mirrored : Mirrored = record { blocks = c.blocks-2.result; bytes = c.bytes.result } in
    mirrors g.P.Pack.pack c.args.root c.args.limits dial c.args.filling.now.store c.fetched.new.filling.store c.in_ok-fetched.ensures.kept c.car_laws.ensures c.heads_go_on.ensures
    c.bodies_go_on.ensures c.mirrored_dags.ensures.serves c.mirrored_dags.ensures.told c.verified_answers.ensures.through c.finish.new.self mirrored c.requires.new c.in_ok-finish.ensures.finished
    (c.filled_packs.ensures.finished c.args.filling.now.store c.fetched.new.filling.store c.finish.new.self sections c.args.root c.requires.new kept c.in_ok-finish.ensures.finished).1
    c.blocks-2.ensures c.bytes.ensures small
    (λ kept_too content told. (c.finished_packs.ensures.attached c.args.filling.now.store c.fetched.new.filling.store c.finish.new.self sections c.args.root content c.requires.new kept_too
    c.in_ok-finish.ensures.finished c.requires.version c.requires.hash c.requires.other told).0)

pub returns-clause-written : goal.returns-clause-written
returns-clause-written g c =
    let dial : Dialling = at_dial g.D.Dial.dial c.args.dial.now c.fetched.new.dial in
    let kept = whole_kept g.P.Pack.pack c.args.root c.args.limits dial c.args.filling.now.store c.fetched.new.filling.store c.in_ok-fetched.ensures.kept in
    let sections = sections_kept g.P.Pack.pack c.args.root c.args.limits dial c.args.filling.now.store c.fetched.new.filling.store c.in_ok-fetched.ensures.kept in
    (c.filled_packs.ensures.finished c.args.filling.now.store c.fetched.new.filling.store c.finish.new.self sections c.args.root c.requires.new kept c.in_ok-finish.ensures.finished).0

pub returns-in_err-fetched-clause-called : goal.returns-in_err-fetched-clause-called
returns-in_err-fetched-clause-called g c =
    let p = err_from_is_err_and c.from_residual.result c.from_residual.ensures.1 in
    rw (p.1, p.2)
    (client_calls c.args.root c.args.limits c.args.addr.now (c.fetched.new.dial ≡ c.args.dial.now) (at_dial g.D.Dial.dial c.args.dial.now c.fetched.new.dial) c.in_err-fetched.field-0.0
    c.in_err-fetched.ensures.ends)

pub returns-in_err-fetched-clause-cause : goal.returns-in_err-fetched-clause-cause
returns-in_err-fetched-clause-cause g c =
    let p = err_from_is_err_and c.from_residual.result c.from_residual.ensures.1 in
    rw (p.1, p.2)
    (client_causes g.P.Pack.pack c.args.root c.args.limits (at_dial g.D.Dial.dial c.args.dial.now c.fetched.new.dial) c.args.filling.now.store c.fetched.new.filling.store c.in_err-fetched.field-0.0
    c.in_err-fetched.ensures.kept c.in_err-fetched.ensures.cause)

pub returns-in_err-finish-clause-called : goal.returns-in_err-finish-clause-called
returns-in_err-finish-clause-called g c =
    let p = err_from_is_err_and c.from_residual-in_err-finish.result c.from_residual-in_err-finish.ensures.1 in
    rw (p.1, p.2)
    (finish_calls g.P.Pack.pack c.args.root c.args.limits (at_dial g.D.Dial.dial c.args.dial.now c.fetched.new.dial) c.args.addr.now (c.fetched.new.dial ≡ c.args.dial.now) c.in_err-finish.field-0.0
    c.in_ok-fetched.ensures.ends)

pub returns-in_err-finish-clause-cause : goal.returns-in_err-finish-clause-cause
returns-in_err-finish-clause-cause g c =
    let p = err_from_is_err_and c.from_residual-in_err-finish.result c.from_residual-in_err-finish.ensures.1 in
    rw (p.1, p.2)
    (finish_causes g.P.Pack.pack c.args.root c.args.limits (at_dial g.D.Dial.dial c.args.dial.now c.fetched.new.dial) c.args.filling.now.store c.fetched.new.filling.store c.finish.new.self c.in_err-finish.field-0.0
    c.in_ok-fetched.ensures.cause.1 c.in_err-finish.ensures.failed.cause)

pub returns-in_err-finish-clause-fitting : goal.returns-in_err-finish-clause-fitting
returns-in_err-finish-clause-fitting g c = λ d sections text fits within tells.
    let p = err_from_is_err_and c.from_residual-in_err-finish.result c.from_residual-in_err-finish.ensures.1 in
    rw (p.1, p.2) (finish_else c.in_err-finish.field-0.0)

pub returns-in_err-finish-clause-own : goal.returns-in_err-finish-clause-own
returns-in_err-finish-clause-own g c = λ d text sound is_root answers one within tells.
    let p = err_from_is_err_and c.from_residual-in_err-finish.result c.from_residual-in_err-finish.ensures.1 in
    rw (p.1, p.2) (finish_else c.in_err-finish.field-0.0)

pub returns-clause-told : goal.returns-clause-told
returns-clause-told g c =
    let dial : Dialling = at_dial g.D.Dial.dial c.args.dial.now c.fetched.new.dial in
    c.filled_packs.ensures.told c.args.filling.now.store c.fetched.new.filling.store c.finish.new.self
    (sections_kept g.P.Pack.pack c.args.root c.args.limits dial c.args.filling.now.store c.fetched.new.filling.store c.in_ok-fetched.ensures.kept) c.args.root
    (whole_moved g.P.Pack.pack c.args.root c.args.limits dial c.args.filling.now.store c.fetched.new.filling.store c.in_ok-fetched.ensures.kept) c.in_ok-finish.ensures.finished

pub returns-clause-cause : goal.returns-clause-cause
returns-clause-cause g c =
    quiet_then g.P.Pack.pack c.args.filling.now.store.pack c.fetched.new.filling.store.pack c.finish.new.self.pack c.in_ok-fetched.ensures.cause.1 c.in_ok-finish.ensures.finished.quiet
