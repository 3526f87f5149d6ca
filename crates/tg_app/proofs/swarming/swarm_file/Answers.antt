use Rattle.std.proofs.Common.{None, Some, ap, map, refl, string_bytes, subst, sym, ◌∙◌}
use Rattle.std.specs.Prelude.{Result, ⊤}
use Rattle.tg_app.proofs.SwarmSteps.{answers, setup_is}
use Rattle.tg_app.specs.Objects.{dial_between}
use Rattle.tg_app.specs.Swarms.{IsSwarmEnd, SwarmAnswers}
use Rattle.tg_streams.specs.Streams.{into}
use Rattle.tg_swarm.specs.Peers.{refusals_of}
use Rattle.tg_swarm.specs.declared.fault.SwarmFault.{SwarmFault}
use Rattle.tg_words.specs.SwarmLines.{SwarmParts}
use Rattle.tg_app.proofs.swarming.swarm_file.Goals as goal

pub returns-in-Ok : goal.returns-in-Ok
returns-in-Ok g c =
    let dial = dial_between g.D.Dial.dial c.args.dial.now c.run_swarm.new.dial in
    let out = into g.O.Sink.sink c.args.out.now c.run_swarm.new.out in
    let settings = c.in_ok-swarm.ensures.settings in
    subst (λ (parts : SwarmParts). SwarmAnswers parts dial out None) c.asked.view_is
    (answers _ _ (setup_is c.in_ok-swarm.swarm _ _ settings.0 (settings.1 ∙ c.from.ensures) (settings.2 ∙ c.standard.ensures) (ap (map string_bytes) c.as_slice.ensures.value))
    dial out c.run_swarm.new.swarm c.run_swarm.result c.run_swarm.ensures.ends c.run_swarm.ensures.sound c.run_swarm.ensures.own c.run_swarm.ensures.right c.run_swarm.ensures.back None
    (subst (λ (r : Result ⊤ SwarmFault). IsSwarmEnd (refusals_of c.run_swarm.new.swarm.jobs.peers) r None) (sym c.in-Ok.is) refl))

pub returns : goal.returns
returns g c =
    let dial = dial_between g.D.Dial.dial c.args.dial.now c.run_swarm.new.dial in
    let out = into g.O.Sink.sink c.args.out.now c.run_swarm.new.out in
    let settings = c.in_ok-swarm.ensures.settings in
    let end = Some c.refusal_of_swarm.result in
    subst (λ (parts : SwarmParts). SwarmAnswers parts dial out end) c.asked.view_is
    (answers _ _ (setup_is c.in_ok-swarm.swarm _ _ settings.0 (settings.1 ∙ c.from.ensures) (settings.2 ∙ c.standard.ensures) (ap (map string_bytes) c.as_slice.ensures.value))
    dial out c.run_swarm.new.swarm c.run_swarm.result c.run_swarm.ensures.ends c.run_swarm.ensures.sound c.run_swarm.ensures.own c.run_swarm.ensures.right c.run_swarm.ensures.back end
    (subst (λ (r : Result ⊤ SwarmFault). IsSwarmEnd (refusals_of c.run_swarm.new.swarm.jobs.peers) r end) (sym c.in-Err.is) (c.refusal_of_swarm.result, refl, c.refusal_of_swarm.ensures)))
