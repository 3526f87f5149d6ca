-- By what stands behind the three codes.
use Rattle.std.proofs.Common.{ℕ, drop, subst, MatchOption}
use Rattle.std.proofs.lemmas.List.{take_rest}
use Rattle.tg_cid.specs.Fewest.{IsFewestSize, IsNoSize}
use Rattle.tg_cid.specs.declared.cid.Codec.TheVariants.{DagPb, Raw}
use Rattle.tg_cid.proofs.Heads.{by_answer}
use Rattle.tg_cid.proofs.front.by_head.Goals as goal

pub returns-then-agrees : goal.returns-then-agrees
returns-then-agrees c =
    let told = rw (take_rest c.args.bytes.now c.min.result) at c.by_size.ensures in
    by_answer Raw c.args.bytes.now c.by_size.result (c.agrees.ensures.0 c.if-agrees.true)
    (subst (λ (n : ℕ). MatchOption c.by_size.result (IsNoSize (drop n c.args.bytes.now)) (λ count. IsFewestSize (drop n c.args.bytes.now) count)) c.min.ensures told)

pub returns-then-agrees-2 : goal.returns-then-agrees-2
returns-then-agrees-2 c =
    let told = rw (take_rest c.args.bytes.now c.min-then-agrees-2.result) at c.by_size-then-agrees-2.ensures in
    by_answer DagPb c.args.bytes.now c.by_size-then-agrees-2.result (c.agrees-2.ensures.0 c.if-agrees-2.true)
    (subst (λ (n : ℕ). MatchOption c.by_size-then-agrees-2.result (IsNoSize (drop n c.args.bytes.now)) (λ count. IsFewestSize (drop n c.args.bytes.now) count))
    c.min-then-agrees-2.ensures told)
