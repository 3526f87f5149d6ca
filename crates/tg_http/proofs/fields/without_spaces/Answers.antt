use Rattle.std.proofs.Common.{◌≡◌, ◌-◌, ℕ, List, length, reverse, slice_range, refl, sym, ap, ◌∙◌, arith}
use Rattle.std.proofs.lemmas.List.{reverse-reverse, take_all}
use Rattle.httparse.specs.Grammar.{skip_ows, trim_ows}
use Rattle.httparse.proofs.TrimLemmas.{skip_ows_yes, skip_ows_no, slice_first, slice_last, slice_empty}
use Rattle.tg_http.proofs.fields.without_spaces.Goals.{then-loop-start-test+else-is_space_or_tab, else-loop-start-test, then-loop-end-test+else-is_space_or_tab-2, else-loop-end-test}
use Rattle.tg_http.proofs.fields.without_spaces.Goals as goal

pub loop-start-init : goal.loop-start-init
loop-start-init c = (omega arith, refl, ap skip_ows (sym (take_all (length c.args.bytes.now - 0) c.args.bytes.now (omega arith))))

pub loop-start-preserved : goal.loop-start-preserved
loop-start-preserved c = (
  omega arith,
  refl,
  c.loop-start.invariant.2 ∙ skip_ows_yes (slice_first c.args.bytes.now c.loop-start.start (length c.args.bytes.now) c.loop-start-test.true (omega arith)) c.if-is_space_or_tab.ensures,
)

pub loop-end-init : goal.loop-end-init
unfolding trim_ows
loop-end-init c =
    let bytes = c.args.bytes.now in
    let here = slice_range bytes c.loop-start.start (length bytes) in
    let stays : skip_ows here ≡ here =
    elim c.loop-start-test.branch [
      | then-loop-start-test+else-is_space_or_tab w ↦
          skip_ows_no (slice_first bytes c.loop-start.start (length bytes) w.loop-start-test.true (omega arith)) w.if-is_space_or_tab.ensures
      | else-loop-start-test w ↦
          let empty = slice_empty bytes c.loop-start.start (length bytes) (omega arith) (omega arith) in
          ap skip_ows empty ∙ sym empty
    ] in (
      omega arith,
      omega arith,
      ap (λ (t : List ℕ). reverse (skip_ows (reverse t))) (c.loop-start.invariant.2 ∙ stays),
    )

pub loop-end-preserved : goal.loop-end-preserved
loop-end-preserved c =
    let last = slice_last c.args.bytes.now c.loop-start.start c.loop-end.end c.loop-end-test.true (omega arith) in (
      omega arith,
      omega arith,
      c.loop-end.invariant.2 ∙ ap reverse (skip_ows_yes last c.if-is_space_or_tab-2.ensures),
    )

pub returns : goal.returns
returns c =
    let bytes = c.args.bytes.now in
    let here = slice_range bytes c.loop-start.start c.loop-end.end in
    let stays : skip_ows (reverse here) ≡ reverse here =
    elim c.loop-end-test.branch [
      | then-loop-end-test+else-is_space_or_tab-2 w ↦
          skip_ows_no (slice_last bytes c.loop-start.start c.loop-end.end w.loop-end-test.true (omega arith)) w.if-is_space_or_tab-2.ensures
      | else-loop-end-test w ↦
          let empty = slice_empty bytes c.loop-start.start c.loop-end.end (omega arith) (omega arith) in
          ap (λ (t : List ℕ). skip_ows (reverse t)) empty ∙ sym (ap reverse empty)
    ] in
    sym (c.loop-end.invariant.2 ∙ ap reverse stays ∙ reverse-reverse here)
