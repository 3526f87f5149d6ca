use Rattle.std.proofs.Common.{ap, refl, subst, sym, ◌∙◌}
use Rattle.tg_verify.proofs.Finished.{ended_sound, ended_stands, refused_sound}
use Rattle.tg_verify.specs.History.{StandsFor}
use Rattle.tg_verify.specs.Sound.{EndsFor, ForEachSound}
use Rattle.tg_verify.specs.State.{VerifierState}
use Rattle.tg_verify.proofs.verifier.Verifier.finish.Goals as goal

pub returns-in-Some-clause-sound : goal.returns-in-Some-clause-sound
returns-in-Some-clause-sound c sections written h =
    refused_sound c.verified_answers.ensures c.args.self.now sections written h c.in-Some.fault (sym (ap (λ (v : VerifierState). v.refused) c.self.view_is) ∙ c.in-Some.is)

pub returns-clause-stands : goal.returns-clause-stands
returns-clause-stands c sections written h =
    subst (λ (v : VerifierState). StandsFor (record v { refused = c.refusal_of-self-inside.result }) sections written) (sym c.self.view_is)
    (ended_stands c.verified_answers.ensures c.args.self.now sections written h c.ended-end.result c.refusal_of-self-inside.result
    (sym (ap (λ (v : VerifierState). v.refused) c.self.view_is) ∙ c.in_default.is) c.ended-end.ensures.done c.ended-end.ensures.cut c.refusal_of-self-inside.ensures
    c.args.self.now.left.wanted refl)

pub returns-clause-sound : goal.returns-clause-sound
returns-clause-sound c sections written h =
    subst (λ (v : VerifierState). ForEachSound v.left.query (λ d. EndsFor v.left.query d sections written c.ended-end.result)) (sym c.self.view_is)
    (ended_sound c.verified_answers.ensures c.args.self.now sections written h c.ended-end.result (sym (ap (λ (v : VerifierState). v.refused) c.self.view_is) ∙ c.in_default.is)
    c.ended-end.ensures.done c.ended-end.ensures.cut c.args.self.now.left.wanted refl)
