use Rattle.std.proofs.Common.{◌≡◌, ◌+◌, ◌++◌, ◌∷◌, [], length, take, subst, ap, sym, ◌∙◌, append_assoc, length-append}
use Rattle.std.proofs.lemmas.List.{take_at}
use Rattle.tg_files.specs.Packs.{Did, pack_step}
use Rattle.tg_files.specs.Packs.PackWrite.{append}
use Rattle.tg_store.proofs.Appending.{appended_once}
use Rattle.tg_store.proofs.writing.append_short.Goals as goal

pub returns : goal.returns
returns g c =
    let first = c.args.first.now in
    let second = c.args.second.now in
    let size = length first + length second in
    let text : take size c.fill_both.new.room ≡ first ++ second =
    ap (take size) (c.fill_both.ensures ∙ sym (append_assoc first second _)) ∙ take_at (first ++ second) _ size (length-append first second) in (
      appended_once g.P.Pack.pack c.args.pack.now c.append.new.self (first ++ second)
          (subst (λ bytes. Did (append bytes ∷ []) (pack_step g.P.Pack.pack c.args.pack.now c.append.new.self)) text c.in_ok-append.ensures.did),
      c.in_ok-append.ensures.quiet,
    )
