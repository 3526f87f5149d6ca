use Rattle.std.proofs.Common.{ℕ, ◌<◌, rules}
use Rattle.std.proofs.lemmas.Result.{on_ok_weaker}
use Rattle.std.proofs.lemmas.List.Elements.{All-from_get_or}
use Rattle.tg_pbtable.proofs.Emitting.{extended, bytes_put}
use Rattle.tg_pbtable.proofs.writing.put_bytes.Goals as goal

pub returns : goal.returns
returns c =
    let are = All-from_get_or (λ (b : ℕ). b < 256) c.args.content.now 0 (λ k h. search (rules, c.type_inv.content k)) in
    on_ok_weaker c.extend_from_slice.result (bytes_put c.args.number c.args.content.now _ _ _ are c.in_ok-put_head.ensures)
    (extended c.extend_from_slice.result _ c.args.content.now _ c.extend_from_slice.ensures.items)
