use Rattle.tg_car.proofs.Takings.{no_part, open_part, completes}
use Rattle.tg_car.proofs.part.Part.take_head.Goals as goal

pub returns-in-Broken : goal.returns-in-Broken
returns-in-Broken c =
    let o = open_part c.args.self.now c.requires.part c.requires.open in
    (no_part c.text_laws.ensures c.args.self.now.declared _ c.requires.open c.clear.ensures o.1, rw c.in-Broken.is at c.fill-taken.ensures)

pub returns-then-declared-limit : goal.returns-then-declared-limit
returns-then-declared-limit c =
    let o = open_part c.args.self.now c.requires.part c.requires.open in
    let f = rw c.in-Whole.is at c.fill-taken.ensures in (
      no_part c.text_laws.ensures c.args.self.now.declared _ c.requires.open c.clear-then-declared-limit.ensures o.1,
      (c.in-Whole.declared, completes _ _ _ c.fill-taken.result.0 c.in-Whole.declared f, c.if-declared-limit.true),
    )

pub returns-in-Err : goal.returns-in-Err
returns-in-Err c =
    let o = open_part c.args.self.now c.requires.part c.requires.open in
    let f = rw c.in-Whole.is at c.fill-taken.ensures in (
      no_part c.text_laws.ensures c.args.self.now.declared _ c.requires.open c.clear-in-Err.ensures c.take_room.ensures.items,
      (c.in-Whole.declared, completes _ _ _ c.fill-taken.result.0 c.in-Whole.declared f, c.if-declared-limit.false, c.in-Err.ensures.some),
    )
