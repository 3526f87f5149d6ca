use Rattle.std.proofs.Common.{refl}
use Rattle.tg_fetch.proofs.HearingOn.{refused_not}
use Rattle.tg_fetch.proofs.laws.refused_replies.Goals as goal
use Rattle.tg_fetch.specs.declared.fault.FetchFault.TheVariants as faults

pub returns : goal.returns
returns c = λ q limits. refused_not q limits faults.PeerFault refl
