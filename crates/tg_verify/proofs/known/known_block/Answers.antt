use Rattle.std.proofs.Common.{All, List, Some, ap, refl, subst, sym, ℕ, ◌<◌, ◌∙◌}
use Rattle.std.specs.Option.{option_copied}
use Rattle.std.proofs.lemmas.Result.{err_from_is_err_and}
use Rattle.tg_verify.proofs.Remembered.{found_under, none_under}
use Rattle.tg_verify.specs.Steps.{IsKnownBlock}
use Rattle.tg_verify.proofs.known.known_block.Goals as goal

pub returns-in_err-digest : goal.returns-in_err-digest
returns-in_err-digest c =
    let p = err_from_is_err_and c.from_residual.result c.from_residual.ensures.1 in
    rw (p.1, c.if-not-asked.true) (c.args.cid.now.digest, refl, subst (λ (block : List ℕ). All (λ b. b < 256) block) c.digest.ensures.digest c.are_bytes.ensures)

pub returns-in_default : goal.returns-in_default
returns-in_default c =
    rw (c.if-not-asked.false) (none_under _ c.equality.ensures c.args.cid.now c.args.seen.now.entries (sym c.get.ensures.value ∙ ap option_copied c.in_default.is))

pub returns-in_err-block : goal.returns-in_err-block
returns-in_err-block c =
    let p = err_from_is_err_and c.from_residual-in_err-block.result c.from_residual-in_err-block.ensures.1 in
    rw (p.1, c.if-not-asked.false) (
      c.in-Some.block.now,
      found_under _ c.equality.ensures c.args.cid.now c.args.seen.now.entries c.in-Some.block.now (sym c.get.ensures.value ∙ ap option_copied c.in-Some.is),
      subst (λ (block : List ℕ). All (λ b. b < 256) block) c.as_slice.ensures c.are_bytes-2.ensures,
    )

pub returns : goal.returns
returns c =
    subst (λ (block : List ℕ). IsKnownBlock c.args.asked c.args.seen.now.entries c.args.cid.now (Some block)) (sym c.in_ok-block.ensures.cases)
    (rw (c.if-not-asked.false) (found_under _ c.equality.ensures c.args.cid.now c.args.seen.now.entries c.in-Some.block.now (sym c.get.ensures.value ∙ ap option_copied c.in-Some.is)))
