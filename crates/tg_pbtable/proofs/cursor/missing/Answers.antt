use Rattle.std.proofs.Common.{◌≡◌, ℕ, ◌+◌, ◌<◌, length, get_or, true, false, refl, sym, ap, ◌∙◌, subst, arith}
use Rattle.std.specs.Prelude.{Option}
use Rattle.std.proofs.lemmas.List.{get_or_default}
use Rattle.tg_pbtable.specs.declared.table.Rule.{Rule}
use Rattle.tg_pbtable.specs.declared.table.Times.{Times}
use Rattle.tg_pbtable.specs.declared.table.Times.TheVariants.{One, Optional, Many}
use Rattle.tg_pbtable.specs.declared.table.Wire.TheVariants.{Varint}
use Rattle.tg_pbtable.specs.contracts.table.Times.{the_type}
use denote.Enum.Bare.{sameb}
use Rattle.tg_pbtable.specs.Reading.{IsLowest}
use Rattle.tg_pbtable.proofs.Scanning.{keep_lowest, take_lowest}
use Rattle.tg_pbtable.proofs.cursor.missing.Goals as goal
use Rattle.tg_pbtable.proofs.cursor.missing.Goals.{then-eq+then-not-seen-i, else-eq, else-eq-via-then-eq+else-not-seen-i, else-eq-via-else-eq}

is_one : (t : Times) → sameb the_type t One ≡ true → t ≡ One
is_one One e = refl
is_one Optional e = absurd cc
is_one Many e = absurd cc

not_one : (t : Times) → sameb the_type t One ≡ false → t ≡ One → ⊥
not_one One e is = cc
not_one Optional e is = cc
not_one Many e is = cc

pub loop-i-preserved : goal.loop-i-preserved
loop-i-preserved g c =
    let rules = c.args.rules.now in
    let seen = c.args.seen.now in
    let i = c.loop-i.i in
    let rule : Rule = get_or rules i (record { number = 0; wire = Varint; times = One }) in
    let within : i < length rules = omega (arith, c.told-rules) in
    elim c.if-eq.branch [
      | then-eq+then-not-seen-i w ↦
          subst (λ (low : Option ℕ). IsLowest rules seen (i + 1) low) (sym w.lowest-is)
          (take_lowest rules seen i c.loop-i.lowest rule w.lower.result within (λ d. get_or_default rules i d _ within) (is_one rule.times (sym c.eq.ensures ∙ w.if-eq.true)) w.if-not-seen-i.true w.lower.ensures c.loop-i.invariant)
      | else-eq w ↦
          subst (λ (low : Option ℕ). IsLowest rules seen (i + 1) low) (sym w.lowest-is)
          (keep_lowest rules seen i c.loop-i.lowest within
          (λ d asks. elim w.else-eq.branch [
            | else-eq-via-then-eq+else-not-seen-i v ↦ v.if-not-seen-i.false
            | else-eq-via-else-eq v ↦ absurd (not_one rule.times (sym c.eq.ensures ∙ v.if-eq.false) (ap (λ (x : Rule). x.times) (get_or_default rules i _ d within) ∙ asks))
          ])
          c.loop-i.invariant)
    ]
