use Rattle.std.proofs.lemmas.Bool.{eqb-true}
use Rattle.std.proofs.Common.{List, [], arith, false, length, nat_eq, refl, suc, sym, true, ℕ, ◌∙◌, ◌∷◌, ◌≡◌}
use Rattle.tg_listing.specs.declared.line.ListingLine.{ListingLine}
use Rattle.tg_verify.proofs.verifier.written_of.Goals as goal
use Rattle.tg_verify.specs.State.{written_count}

no_lines : (lines : List ListingLine) (output : ℕ) → nat_eq (length lines) 0 ≡ true → output ≡ written_count lines output
no_lines [] output e = refl
no_lines (line ∷ lines) output e = let none : suc (length lines) ≡ 0 = eqb-true (suc (length lines)) 0 e in absurd (omega (arith, none))

some_lines : (lines : List ListingLine) (output : ℕ) → nat_eq (length lines) 0 ≡ false → 0 ≡ written_count lines output
some_lines [] output e = cc
some_lines (line ∷ lines) output e = refl

pub returns-then-is_empty : goal.returns-then-is_empty
returns-then-is_empty c = no_lines c.args.lines.now c.args.output (sym c.is_empty.ensures ∙ c.if-is_empty.true)

pub returns-else-is_empty : goal.returns-else-is_empty
returns-else-is_empty c = some_lines c.args.lines.now c.args.output (sym c.is_empty.ensures ∙ c.if-is_empty.false)
