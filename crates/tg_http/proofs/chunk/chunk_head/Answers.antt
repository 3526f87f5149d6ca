use Rattle.std.proofs.Common.{◌+◌, drop, set, replicate, sym, ap, ◌∙◌, arith}
use Rattle.std.proofs.lemmas.List.{drop-set-lt, drop-drop, drop-replicate}
use Rattle.tg_http.proofs.chunk.chunk_head.Goals as goal

pub returns-clause-rest : goal.returns-clause-rest
returns-clause-rest c =
    let d = c.write_digits-digits.result in
    let room = c.write_digits-digits.new.room in
    drop-set-lt (d + 2) (set room d 13) (d + 1) 10 (omega arith) ∙ drop-set-lt (d + 2) room d 13 (omega arith)
    ∙ sym (drop-drop 2 d room) ∙ ap (drop 2) c.write_digits-digits.ensures.rest ∙ drop-drop 2 d (replicate 18 0)
    ∙ drop-replicate (d + 2) 18 0
