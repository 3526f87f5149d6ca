use Rattle.std.proofs.Common.{ℕ, ◌+◌, ◌≤◌, List, ◌++◌, take, drop, ap, sym, ◌∙◌, subst, arith}
use Rattle.std.proofs.lemmas.List.{take-append-drop, take-take}
use Rattle.tg_http.specs.declared.cursor.HeadCursor.{HeadCursor}
use Rattle.tg_http.specs.Sought.{IsSought, SoughtStays}
use Rattle.tg_text_rows.proofs.alike.is_read_alike.Goals as goal

-- what was sought in a front was sought in each longer one
longer : SoughtStays → (cursor : HeadCursor) (text : List ℕ) (size n : ℕ) → IsSought cursor (take size text) → size + 1 ≤ n → IsSought cursor (take n text)
longer stays cursor text size n s more =
    subst (IsSought cursor)
    (ap (λ (front : List ℕ). front ++ drop size (take n text)) (sym (take-take size n text (omega arith))) ∙ take-append-drop size (take n text))
    (stays cursor (take size text) (drop size (take n text)) s)

pub loop-size-preserved : goal.loop-size-preserved
loop-size-preserved c =
    let text = c.args.text.now in
    let size = c.loop-size.size in
    record {
      request = λ n more. longer c.sought_heads.ensures c.is_request_alike.new.cursor text size n c.is_request_alike.ensures more;
      reply = λ n more. longer c.sought_heads.ensures c.is_reply_alike.new.cursor text size n c.is_reply_alike.ensures more;
    }
