use Rattle.std.proofs.Common.{◌≡◌, ◌+◌, ◌-◌, ◌++◌, List, ℕ, length, slice_range, sym, ap, ◌∙◌, arith}
use Rattle.tg_gateway.proofs.Keeping.{grown}
use Rattle.tg_gateway.proofs.heads.put_behind.Goals as goal

pub returns : goal.returns
returns c =
    let room = c.args.room.now in
    let put = c.copy_from_slice.new.self in
    let bytes = c.args.bytes.now in
    let start = c.args.start in
    let end = c.args.end in
    let same : put ≡ bytes = c.copy_from_slice.ensures.after in
    grown room put start end (end + length bytes - end) (length bytes) c.requires.in_order (omega arith) (ap length (sym same))
    ∙ ap (λ (l : List ℕ). slice_range room start end ++ l) same
