-- One byte more, as the state has it.
use Rattle.tg_car.proofs.Live.{step_follows}
use Rattle.tg_car.proofs.header_state.HeaderState.step.Goals as goal

pub returns : goal.returns
returns c = λ bytes f. step_follows c.args.self c.args.byte c.next.result bytes f c.next.ensures
