use Rattle.std.proofs.Common.{◌≡◌, ℕ, ◌+◌, ◌-◌, ◌≤◌, List, length, take, drop, sym, ap, ap₂, ◌∙◌, subst, arith, Some}
use Rattle.std.proofs.lemmas.Bool.{false≢true}
use Rattle.std.proofs.lemmas.List.{length-take-le, take-append-drop, take_rest}
use Rattle.tg_http.specs.declared.cursor.HeadCursor.{HeadCursor}
use Rattle.tg_http.specs.HeadText.{HasNoFeed, IsFullLine, IsLine}
use Rattle.tg_http.specs.OneHead.{one_head}
use Rattle.tg_http.specs.Sought.{IsSought}
use Rattle.tg_http.proofs.Cuts.{size_fits}
use Rattle.tg_http.proofs.Seeking.{behind_empty, behind_full, here, line_ends, lines_few, no_text, seen_whole, text_here}
use Rattle.tg_http.proofs.head_text.find_extent.Goals as goal
use Rattle.tg_http.proofs.head_text.find_extent.Goals.{then-not-is_empty_line, else-not-is_empty_line+else-cursor-gt0}

pub overflow_add-cursor : goal.overflow_add-cursor
overflow_add-cursor c =
    let few = lines_few c.loop-size.cursor c.args.bytes.now c.loop-size.invariant in
    omega (arith, few, c.loop-size.invariant.in_order, c.loop-size.invariant.within, c.requires.short)

pub returns-then-cursor-gt0-clause-found : goal.returns-then-cursor-gt0-clause-found
returns-then-cursor-gt0-clause-found c =
    let bytes = c.args.bytes.now in
    let cursor = c.loop-size.cursor in
    let size = c.in-Some.size in
    let fits : cursor.seen + size ≤ length bytes = size_fits bytes cursor.seen size c.loop-size.invariant.within c.in-Some.ensures.0 in
    (fits, text_here cursor bytes size c.loop-size.invariant fits c.if-cursor-gt0.true (c.is_empty_line.ensures.0 c.if-not-is_empty_line.false))

pub returns-then-cursor-gt0-clause-only : goal.returns-then-cursor-gt0-clause-only
returns-then-cursor-gt0-clause-only c text rest count t whole =
    let bytes = c.args.bytes.now in
    let cursor = c.loop-size.cursor in
    let size = c.in-Some.size in
    let fits : cursor.seen + size ≤ length bytes = size_fits bytes cursor.seen size c.loop-size.invariant.within c.in-Some.ensures.0 in
    let found = text_here cursor bytes size c.loop-size.invariant fits c.if-cursor-gt0.true (c.is_empty_line.ensures.0 c.if-not-is_empty_line.false) in
    let same = one_head (take (cursor.seen + size) bytes) text (drop (cursor.seen + size) bytes) rest (cursor.lines - 1) count found t (take-append-drop (cursor.seen + size) bytes ∙ whole) in
    let number : cursor.seen + size ≡ length text = sym (length-take-le (cursor.seen + size) bytes fits) ∙ ap length same.0 in
    ap₂ (λ (n m : ℕ). Some (record { bytes = n; fields = m })) number same.1

pub loop-size-preserved : goal.loop-size-preserved
loop-size-preserved c =
    let bytes = c.args.bytes.now in
    let cursor = c.loop-size.cursor in
    let size = c.in-Some.size in
    let sought = c.loop-size.invariant in
    let fits : cursor.seen + size ≤ length bytes = size_fits bytes cursor.seen size sought.within c.in-Some.ensures.0 in
    let piece : IsLine (take size (drop cursor.seen bytes)) = subst (λ (b : List ℕ). IsLine (take size b)) (take_rest bytes cursor.seen) c.in-Some.ensures.2 in
    let end = cursor.seen + size in
    elim c.if-not-is_empty_line.branch [
      | then-not-is_empty_line w ↦
          let full : IsFullLine (here cursor bytes size sought fits) = record {
            line_is = line_ends cursor bytes size sought fits piece;
            not_empty = λ e. false≢true (sym w.if-not-is_empty_line.true ∙ c.is_empty_line.ensures.1 e);
          } in
          let next = behind_full cursor bytes size sought fits c.requires.short full in
          subst (λ (k : HeadCursor). IsSought (record { line = end; seen = end; lines = k.lines }) bytes) (sym w.cursor-is) next
      | else-not-is_empty_line+else-cursor-gt0 w ↦
          let none : cursor.lines ≡ 0 = omega (arith, w.if-cursor-gt0.false) in
          let next = behind_empty cursor bytes size sought fits c.requires.short none (c.is_empty_line.ensures.0 w.if-not-is_empty_line.false) in
          subst (λ (k : HeadCursor). IsSought (record { line = end; seen = end; lines = k.lines }) bytes) (sym w.cursor-is) next
    ]

pub returns-clause-only : goal.returns-clause-only
returns-clause-only c text rest count t whole =
    let bytes = c.args.bytes.now in
    let cursor = c.loop-size.cursor in
    let none : HasNoFeed (drop cursor.seen bytes) = subst HasNoFeed (take_rest bytes cursor.seen) c.in_default.ensures in
    absurd (no_text cursor bytes c.loop-size.invariant none text rest count t whole)

pub returns-clause-sought : goal.returns-clause-sought
returns-clause-sought c =
    let bytes = c.args.bytes.now in
    let cursor = c.loop-size.cursor in
    let none : HasNoFeed (drop cursor.seen bytes) = subst HasNoFeed (take_rest bytes cursor.seen) c.in_default.ensures in
    seen_whole cursor bytes c.loop-size.invariant none c.requires.short
