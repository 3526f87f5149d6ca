use Rattle.std.proofs.Common.{◌≡◌, List, [], take, get_or, sym, ◌∙◌, subst, arith}
use Rattle.std.proofs.lemmas.List.{take_more, take_all}
use Rattle.tg_pbtable.specs.declared.table.Field.{Field}
use Rattle.tg_pbtable.specs.Emitted.{FieldTexts}
use Rattle.tg_pbtable.proofs.Emitting.{text_more, placed_fields, emitted}
use Rattle.tg_pbtable.proofs.writing.emit.Goals as goal

pub loop-field-preserved : goal.loop-field-preserved
loop-field-preserved g c =
    subst (λ (fs : List Field). FieldTexts c.args.source.now fs c.put_field.new.text.items) (sym (take_more c.as_slice-field-items.result.now c.loop-field.field-index _ (omega arith)))
    (text_more c.args.source.now (take c.loop-field.field-index c.as_slice-field-items.result.now) (get_or c.as_slice-field-items.result.now c.loop-field.field-index _) c.loop-field.text.items c.put_field.new.text.items c.loop-field.invariant c.in_ok-put_field.ensures)

pub returns-clause-text : goal.returns-clause-text
returns-clause-text g c =
    let all : take c.loop-field.field-index c.as_slice-field-items.result.now ≡ c.args.fields.now =
    take_all c.loop-field.field-index c.as_slice-field-items.result.now c.loop-field-test.false ∙ c.as_slice-field-items.ensures in
    let p = placed_fields c.args.source.now c.args.fields.now [] c.loop-field.text.items (subst (λ (fs : List Field). FieldTexts c.args.source.now fs c.loop-field.text.items) all c.loop-field.invariant) in
    (p.placed, p.spelled, p.same)

pub returns-clause-again : goal.returns-clause-again
returns-clause-again g c = λ order counts inorder.
    let all : take c.loop-field.field-index c.as_slice-field-items.result.now ≡ c.args.fields.now =
    take_all c.loop-field.field-index c.as_slice-field-items.result.now c.loop-field-test.false ∙ c.as_slice-field-items.ensures in
    emitted c.args.rules.now order c.args.source.now c.args.fields.now c.loop-field.text.items c.requires.ruled counts inorder
    (subst (λ (fs : List Field). FieldTexts c.args.source.now fs c.loop-field.text.items) all c.loop-field.invariant)
