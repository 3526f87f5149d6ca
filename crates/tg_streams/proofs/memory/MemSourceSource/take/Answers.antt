use Rattle.std.proofs.Common.{ℕ, ◌≤◌, length, drop, Some, sym, ap, ◌∙◌, subst}
use Rattle.std.proofs.lemmas.List.{take_rest}
use Rattle.std.proofs.Math.Nat.{min-le_right}
use Rattle.tg_streams.proofs.Moves.{took_front, took_none}
use Rattle.tg_streams.proofs.memory.MemSourceSource.take.Goals as goal

-- the bytes that were copied are the front of what was left
pub returns-clause-took : goal.returns-clause-took
returns-clause-took c =
    let amount = rw (c.as_slice.ensures, take_rest) at c.min-n.ensures in
    let copied = rw (c.as_slice.ensures, take_rest) at c.copy_from_slice.ensures.after in
    let n = c.min-n.result in
    let within : n ≤ length (drop c.self.inside.at c.self.inside.bytes) = subst (λ (k : ℕ). k ≤ length (drop c.self.inside.at c.self.inside.bytes)) (sym amount) (min-le_right _ _) in
    let rest = sym (ap (λ s. s.rest) c.self.view_is) ∙ took_front _ c.args.buf.now c.self.inside.bytes c.self.inside.at n copied within in
    record {
      moved = record {
        rest = rest;
        piece = ap (λ s. s.piece) c.self.view_is;
        fails = search;
      };
      left = ap (λ rest. Some rest) rest;
    }

pub returns-clause-end : goal.returns-clause-end
returns-clause-end c = λ none room.
    let amount = rw (c.as_slice.ensures, take_rest, c.min.ensures) at c.min-n.ensures in
    let copied = rw (c.as_slice.ensures, take_rest) at c.copy_from_slice.ensures.after in
    let nothing = took_none c.self.inside.piece c.self.inside.at c.min-n.result _ c.args.buf.now c.self.inside.bytes c.self.invariant.1 room copied amount none in
    record { ended = nothing; nothing = nothing }
