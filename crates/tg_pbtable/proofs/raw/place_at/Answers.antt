use Rattle.std.proofs.Common.{ℕ, ◌<◌, arith, rules}
use Rattle.std.proofs.lemmas.List.Elements.{All-from_get_or}
use Rattle.tg_pbtable.proofs.Whole.{place_there, short_place, unsliced}
use Rattle.tg_pbtable.proofs.raw.place_at.Goals as goal

pub returns-then-number-bytes : goal.returns-then-number-bytes
returns-then-number-bytes c = short_place c.args.at c.args.bytes.now c.in_ok-number.number c.in_ok-number.size c.requires (unsliced c.args.at c.args.bytes.now _ _ c.in_ok-number.ensures) (omega arith)

pub returns : goal.returns
returns c = place_there c.args.at c.args.bytes.now c.in_ok-number.number c.in_ok-number.size c.requires (unsliced c.args.at c.args.bytes.now _ _ c.in_ok-number.ensures) (omega arith)
    (All-from_get_or (λ (b : ℕ). b < 256) c.args.bytes.now 0 (λ k h. search (rules, c.type_inv.bytes k)))
