use Rattle.std.proofs.Common.{◌∙◌}
use Rattle.std.proofs.lemmas.Result.{err_from_is_err_and}
use Rattle.tg_store.proofs.Appending.{appended_both, rose_after, torn_behind}
use Rattle.tg_store.proofs.writing.append_both.Goals as goal

pub returns : goal.returns
returns g c = (
  appended_both g.P.Pack.pack g.met.P.Pack.joins c.args.pack.now c.append.new.self c.append-2.new.self c.args.first.now c.args.second.now c.in_ok-append.ensures.did c.in_ok-append-2.ensures.did,
  c.in_ok-append-2.ensures.quiet ∙ c.in_ok-append.ensures.quiet,
)

pub returns-in_err-append-2 : goal.returns-in_err-append-2
returns-in_err-append-2 g c =
    let p = err_from_is_err_and c.from_residual-in_err-append-2.result c.from_residual-in_err-append-2.ensures.1 in
    rw p.1 (
      torn_behind g.P.Pack.pack g.met.P.Pack.joins c.args.pack.now c.append.new.self c.append-2.new.self c.args.first.now c.args.second.now c.in_ok-append.ensures.did c.in_err-append-2.ensures.err_untold,
      rose_after g.P.Pack.pack c.args.pack.now c.append.new.self c.append-2.new.self c.in_ok-append.ensures.quiet c.in_err-append-2.ensures.err_rose,
    )
