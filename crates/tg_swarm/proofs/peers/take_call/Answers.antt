use Rattle.std.proofs.Common.{get_or, ◌∙◌, ◌≡◌}
use Rattle.std.proofs.lemmas.List.{get_or_default}
use Rattle.tg_swarm.proofs.Lists.{at_place, put_back}
use Rattle.tg_swarm.specs.declared.peers.Peer.TheVariants.{Busy}
use Rattle.tg_swarm.proofs.peers.take_call.Goals as goal

pub returns-in_default : goal.returns-in_default
returns-in_default g c =
    let peers = c.args.peers.now in
    let r = c.replace.result in
    let there : r ≡ get_or peers c.args.at r = c.replace.ensures.value ∙ get_or_default peers c.args.at c.index-peers-at.result r c.requires in (
      λ call h. c.in_default.not-Busy call (at_place peers c.args.at r (Busy call) c.requires there h),
      c.set_peer.ensures ∙ put_back peers c.args.at r c.replace.new.dest there,
    )
