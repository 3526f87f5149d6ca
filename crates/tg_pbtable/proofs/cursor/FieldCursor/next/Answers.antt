use Rattle.std.proofs.Common.{◌≡◌, ◌≢◌, [], ◌∷◌, ◌++◌, true, false, refl, sym, ◌∙◌, arith}
use Rattle.std.specs.Prelude.{not}
use Rattle.std.proofs.lemmas.Bool.{false≢true}
use Rattle.tg_pbtable.specs.declared.table.Times.{Times}
use Rattle.tg_pbtable.specs.declared.table.Times.TheVariants.{One, Optional, Many}
use Rattle.tg_pbtable.specs.contracts.table.Times.{the_type}
use denote.Enum.Bare.{sameb}
use Rattle.tg_pbtable.specs.Message.{numbers_of, IsInOrder}
use Rattle.tg_pbtable.specs.Cursor.{EndsIn}
use Rattle.tg_pbtable.proofs.Scanning.{seen_means, missing_there, out_of_order, doubled, read_more, times_is}
use Rattle.tg_pbtable.proofs.Places.{next_inside}
use Rattle.tg_pbtable.proofs.Numbers.{same_last}
use Rattle.tg_pbtable.proofs.cursor.FieldCursor.next.Goals as goal
use Rattle.tg_pbtable.proofs.cursor.FieldCursor.next.Goals.{else-eq-via-then-eq+else-ne, else-eq-via-else-eq}

not_many : (t : Times) → not (sameb the_type t Many) ≡ true → t ≢ Many
not_many One e is = cc
not_many Optional e is = cc
not_many Many e is = cc

is_many : (t : Times) → not (sameb the_type t Many) ≡ false → t ≡ Many
is_many One e = absurd cc
is_many Optional e = absurd cc
is_many Many e = refl

pub returns-in-Some-clause-next : goal.returns-in-Some-clause-next
returns-in-Some-clause-next g c = λ fields h. rw c.from.ensures (missing_there c.args.rules.now c.args.order c.args.bytes.now fields c.args.self.now c.in-Some.number (omega arith) h c.in-Some.ensures)

pub returns-then-is_out_of_order-clause-next : goal.returns-then-is_out_of_order-clause-next
returns-then-is_out_of_order-clause-next g c = λ fields h.
    out_of_order c.args.rules.now c.args.order c.args.bytes.now fields c.args.self.now c.in_ok-index.index c.in_ok-index.field c.in_ok-index.next (omega arith) h c.in_ok-index.ensures
    (c.if-is_out_of_order.ensures (numbers_of fields) h.last_is (seen_means c.args.rules.now fields c.args.self.now.seen c.in_ok-index.index c.in_ok-index.ensures.rule c.in_ok-index.field.number h.seen_is c.in_ok-index.ensures.rule_at c.in_ok-index.ensures.number_is) h.begins.ordered)

pub returns-then-ne-clause-next : goal.returns-then-ne-clause-next
returns-then-ne-clause-next g c = λ fields h.
    doubled c.args.rules.now c.args.order c.args.bytes.now fields c.args.self.now c.in_ok-index.index c.in_ok-index.field c.in_ok-index.next _ (omega arith) h c.in_ok-index.ensures
    (not_many _ (sym c.if-ne.ensures))
    ((same_last (numbers_of fields) c.args.self.now.last c.in_ok-index.field.number h.last_is).0 (sym c.if-eq.ensures))

pub returns-clause-inside : goal.returns-clause-inside
returns-clause-inside g c = next_inside c.args.rules.now c.args.bytes.now c.args.self.now.at c.in_ok-index.index c.in_ok-index.field c.in_ok-index.next c.requires.inside c.in_ok-index.ensures

pub returns-clause-next : goal.returns-clause-next
returns-clause-next g c = λ fields h.
    let number = c.in_ok-index.field.number in
    let inorder : IsInOrder c.args.order (numbers_of fields ++ number ∷ []) =
    c.if-is_out_of_order.ensures (numbers_of fields) h.last_is (seen_means c.args.rules.now fields c.args.self.now.seen c.in_ok-index.index c.in_ok-index.ensures.rule number h.seen_is c.in_ok-index.ensures.rule_at c.in_ok-index.ensures.number_is) h.begins.ordered in
    let once : c.in_ok-index.ensures.rule.times ≢ Many → EndsIn (numbers_of fields) number → ⊥ = λ not_many' ends.
    elim c.else-eq.branch [
      | else-eq-via-then-eq+else-ne w ↦ not_many' (times_is c.args.rules.now c.args.self.now.at _ c.in_ok-index.index c.in_ok-index.field c.in_ok-index.next _ c.in_ok-index.ensures (is_many _ (sym w.if-ne.ensures)))
      | else-eq-via-else-eq w ↦ false≢true (w.if-eq.ensures ∙ (same_last (numbers_of fields) c.args.self.now.last number h.last_is).1 ends)
    ] in
    read_more c.args.rules.now c.args.order c.args.bytes.now fields c.args.self.now c.in_ok-index.index c.in_ok-index.field c.in_ok-index.next c.requires.table h c.in_ok-index.ensures inorder once
