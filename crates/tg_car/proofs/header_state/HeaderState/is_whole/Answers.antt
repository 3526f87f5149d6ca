-- Only at the end of the map nothing more may follow.
use Rattle.std.proofs.Common.{eqb, subst}
use Rattle.std.proofs.lemmas.Bool.{eqb-true, eqb-false}
use Rattle.tg_car.specs.HeaderState.{FollowsHeader}
use Rattle.tg_car.specs.declared.header_state.HeaderState.{HeaderState}
use Rattle.tg_car.proofs.Live.{at_end, has_more, in_header}
use Rattle.tg_car.proofs.header_state.HeaderState.is_whole.Goals as goal

pub returns-in-Back : goal.returns-in-Back
returns-in-Back c = λ bytes f.
    let at = c.in-Back.at in
    let P : HeaderState → Type 0 = λ s. FollowsHeader s bytes in
    at_end at (eqb at 9) bytes (eqb-true at 9) (eqb-false at 9) (subst P c.in-Back.is f)

pub returns-in_default : goal.returns-in_default
returns-in_default c = λ bytes f. in_header c.args.self.now bytes f (has_more c.args.self.now c.in_default.not-Back f.live)
