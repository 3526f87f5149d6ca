use Rattle.std.proofs.Common.{List, [], ◌∷◌, ◌++◌, ap, sym, ◌∙◌, append_assoc, append-nil}
use Rattle.tg_model.specs.declared.kinds.Part.{Part}
use Rattle.tg_model.proofs.reading.parts_of.Goals as goal

pub loop-part-preserved : goal.loop-part-preserved
loop-part-preserved c = record {
  cursor = c.in-Some.ensures.cursor;
  so_far = λ parts ahead.
      let before = c.loop-part.invariant.so_far parts ahead in
      let next = c.in-Some.ensures.next before.0 before.2 in (
        next.0,
        before.1 ∙ ap (λ (ps : List Part). c.loop-part.parts ++ ps) next.1 ∙ sym (append_assoc c.loop-part.parts (c.in-Some.part ∷ []) next.0)
            ∙ ap (λ (ps : List Part). ps ++ next.0) (sym c.in_ok-push.ensures.ok),
        next.2,
      );
}

pub returns : goal.returns
returns c = λ parts ahead.
    let before = c.loop-part.invariant.so_far parts ahead in
    let none = c.in_default.ensures.next before.0 before.2 in
    sym (before.1 ∙ ap (λ (ps : List Part). c.loop-part.parts ++ ps) none ∙ append-nil c.loop-part.parts)
