use Rattle.std.proofs.Common.{ap, arith, length, ◌∙◌, ◌≡◌}
use Rattle.std.proofs.lemmas.Bool.{eqb-false, eqb-true}
use Rattle.std.proofs.lemmas.List.{take_all}
use Rattle.tg_extract.proofs.Paths.{below, text_of_names, text_of_none}
use Rattle.tg_extract.proofs.lines.shown_path.Goals as goal
use Rattle.tg_extract.proofs.lines.shown_path.Goals.{then-is_empty+in_ok-push_all-2, else-is_empty}

pub returns : goal.returns
returns c =
    let path = c.args.path.now in
    let whole : c.loop-name.text ≡ below path = c.loop-name.invariant ∙ ap below (take_all c.loop-name.name-index path c.loop-name-test.false) in
    elim c.if-is_empty.branch [
      | then-is_empty+in_ok-push_all-2 w ↦
          let none : length path ≡ 0 = eqb-true (length path) 0 (cc (c.is_empty.ensures, w.if-is_empty.true)) in
          text_of_none path c.loop-name.text c.if-is_empty.text none whole (w.text-is ∙ w.in_ok-push_all-2.ensures.ok)
      | else-is_empty w ↦
          let some = eqb-false (length path) 0 (cc (c.is_empty.ensures, w.if-is_empty.false)) in
          text_of_names path c.if-is_empty.text c.requires (omega (arith, some)) (w.text-is ∙ whole)
    ]
