-- The byte that came is compared with the one that stands there.
use Rattle.std.proofs.Common.{◌≡◌, get_or, ◌∙◌, sym, ap, arith}
use Rattle.tg_car.specs.HeaderState.{map_front}
use Rattle.tg_car.proofs.ByteSteps.{front_to, front_from}
use Rattle.tg_car.proofs.header_state.front.Goals as goal

pub returns-then-branch-byte : goal.returns-then-branch-byte
returns-then-branch-byte c = λ live rest f.
    let there : c.in_ok-get.field-0.now ≡ get_or map_front c.from.result 0 = c.in_ok-get.ensures.lookup.4 (omega arith) 0 in
    let at : c.from.result ≡ c.args.at = c.from.ensures in
    c.if-branch-byte.true (there ∙ (ap (λ n. get_or map_front n 0) at ∙ sym (front_to c.args.at c.args.size c.args.byte rest live.0 f).0))

pub returns-in_default : goal.returns-in_default
returns-in_default c = λ live.
    let there : c.in_ok-get.field-0.now ≡ get_or map_front c.from.result 0 = c.in_ok-get.ensures.lookup.4 (omega arith) 0 in
    let at : c.from.result ≡ c.args.at = c.from.ensures in
    let same : c.args.byte ≡ get_or map_front c.args.at 0 = sym c.if-branch-byte.false ∙ (there ∙ ap (λ n. get_or map_front n 0) at) in (
      (omega arith, live.1),
      λ rest. (
        λ f. (front_to c.args.at c.args.size c.args.byte rest live.0 f).1,
        λ f. front_from c.args.at c.args.size c.args.byte rest live.0 same f,
      ),
    )
