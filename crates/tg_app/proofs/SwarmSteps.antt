-- `swarm` ends as its run does.
use Rattle.std.proofs.Common.{List, Option, ap, inr, subst, sym, ℕ, ◌∙◌, ◌≡◌}
use Rattle.std.specs.Prelude.{Result, ⊤}
use Rattle.tg_app.specs.Objects.{DialUse}
use Rattle.tg_app.specs.Swarms.{IsSwarmEnd, SwarmAnswers, swarm_setup}
use Rattle.tg_commands.specs.declared.fault.CommandFault.{CommandFault}
use Rattle.tg_dials.specs.Dials.{DialRose}
use Rattle.tg_model.specs.Dag.{Dag, root_cid}
use Rattle.tg_model.specs.LimitNumbers.{standard}
use Rattle.tg_model.specs.Sound.{IsSound}
use Rattle.tg_streams.specs.Streams.{Output}
use Rattle.tg_swarm.specs.Peers.{refusals_of}
use Rattle.tg_swarm.specs.Swarms.{SwarmState}
use Rattle.tg_swarm.specs.declared.fault.SwarmFault.{SwarmFault}
use Rattle.tg_swarming.specs.Counts.{AllBack}
use Rattle.tg_swarming.specs.Rounds.{Setup, SwarmEnds, setup_of}
use Rattle.tg_swarming.specs.Sound.{IsDoneFor, IsServed, IsServedAt, IsntRefused, SoundRun}
use Rattle.tg_words.specs.SwarmLines.{SwarmParts}

pub setup_is : (s : SwarmState) (addrs : List (List ℕ)) (parts : SwarmParts) → s.root ≡ parts.root → s.part ≡ parts.part → s.limits ≡ standard → addrs ≡ parts.addrs
    → setup_of s addrs ≡ swarm_setup parts
setup_is s addrs parts root part limits at = cc

module _ (parts : SwarmParts) (setup : Setup) (is : setup ≡ swarm_setup parts) (dial : DialUse) (out : Output) (now : SwarmState) (result : Result ⊤ SwarmFault)
    (ends : SwarmEnds setup now dial.dialling out result)
    (sound : (d : Dag) → IsSound d → root_cid d ≡ setup.root → SoundRun setup dial.dialling out result d)
    (own : (d : Dag) → IsServed setup d dial.dialling → (DialRose dial.dialling → ⊥) → IsDoneFor d out result)
    (right : (d : Dag) (addr : List ℕ) → IsServedAt setup d addr dial.dialling → (DialRose dial.dialling → ⊥) → IsntRefused setup now addr result)
    (back : AllBack dial.dialling) where
  pub answers : (end : Option CommandFault) → IsSwarmEnd (refusals_of now.jobs.peers) result end → SwarmAnswers parts dial out end
  answers end end_is = inr (record {
    now = now;
    result = result;
    ends = subst (λ (s : Setup). SwarmEnds s now dial.dialling out result) is ends;
    end_is = end_is;
    sound = λ d is_sound root.
        subst (λ (s : Setup). SoundRun s dial.dialling out result d) is (sound d is_sound (root ∙ sym (ap (λ (s : Setup). s.root) is)));
    own = λ d served. own d (subst (λ (s : Setup). IsServed s d dial.dialling) (sym is) served);
    right = λ d addr served no_dial. subst (λ (s : Setup). IsntRefused s now addr result) is
        (right d addr (subst (λ (s : Setup). IsServedAt s d addr dial.dialling) (sym is) served) no_dial);
    back = back;
  })
