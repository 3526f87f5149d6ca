use Rattle.std.proofs.Common.{◌≡◌, Bool, None, Option, Some, ap, arith, length, refl, sym, true, ◌∙◌}
use Rattle.std.proofs.lemmas.Option.{slice_get_read}
use Rattle.std.specs.Prelude.{is_some, slice_get}
use Rattle.tg_serve.proofs.Weights.{busy_set, number_of_some, set_same}
use Rattle.tg_serve.proofs.lanes.Turns.take_link.Goals as goal

pub overflow_sub-self : goal.overflow_sub-self
overflow_sub-self g c =
    let at = slice_get_read c.args.self.now.links.items (length c.args.self.now.links.items) c.args.lane c.index_mut.result.now refl c.requires.lane c.index_mut.ensures.value
    ∙ ap Some (sym c.take-link.ensures.value) in
    let set = busy_set c.args.self.now.links.items c.args.lane c.take-link.result None at in
    let one = number_of_some c.take-link.result (sym c.is_some.ensures ∙ c.if-is_some.true) in
    let busy = c.requires.busy in
    omega (arith, set, one, busy)

pub returns-then-is_some-clause-taken : goal.returns-then-is_some-clause-taken
returns-then-is_some-clause-taken g c =
    slice_get_read c.args.self.now.links.items (length c.args.self.now.links.items) c.args.lane c.index_mut.result.now refl c.requires.lane c.index_mut.ensures.value
    ∙ ap Some (sym c.take-link.ensures.value)

pub returns-then-is_some-clause-busy : goal.returns-then-is_some-clause-busy
returns-then-is_some-clause-busy g c =
    let at = slice_get_read c.args.self.now.links.items (length c.args.self.now.links.items) c.args.lane c.index_mut.result.now refl c.requires.lane c.index_mut.ensures.value
    ∙ ap Some (sym c.take-link.ensures.value) in
    let set = busy_set c.args.self.now.links.items c.args.lane c.take-link.result None at in
    let one = number_of_some c.take-link.result (sym c.is_some.ensures ∙ c.if-is_some.true) in
    let busy = c.requires.busy in
    rw c.take-link.ensures.after (omega (arith, set, one, busy))

pub returns-else-is_some-clause-taken : goal.returns-else-is_some-clause-taken
returns-else-is_some-clause-taken g c =
    slice_get_read c.args.self.now.links.items (length c.args.self.now.links.items) c.args.lane c.index_mut.result.now refl c.requires.lane c.index_mut.ensures.value
    ∙ ap Some (sym c.take-link.ensures.value)
