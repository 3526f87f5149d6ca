use Rattle.std.proofs.Common.{List, None, Some, refl, subst, sym, ℕ}
use Rattle.std.specs.Prelude.{Result, ⊤}
use Rattle.tg_app.proofs.FetchSteps.{answers}
use Rattle.tg_app.specs.Fetches.{FetchAnswers, IsFetchEnd}
use Rattle.tg_dials.specs.Dials.{at_dial}
use Rattle.tg_fetch.specs.declared.fault.FetchFault.{FetchFault}
use Rattle.tg_streams.specs.Streams.{into}
use Rattle.tg_words.specs.FetchLines.{FetchParts}
use Rattle.tg_app.proofs.fetching.fetch_answer.Goals as goal

pub returns-in-Ok : goal.returns-in-Ok
returns-in-Ok g c =
    let dial = at_dial g.D.Dial.dial c.args.dial.now c.fetch.new.dial in
    let out = into g.O.Sink.sink c.args.out.now c.fetch.new.out in
    subst (λ (p : FetchParts). FetchAnswers p dial out None) c.asked.view_is
    (subst (λ (addr : List ℕ). FetchAnswers (record { addr = addr; query = c.asked.inside.query }) dial out None) c.as_str.ensures.value
    (answers _ _ c.standard.result dial out c.fetch.result c.standard.ensures c.fetch.ensures.ends c.fetch.ensures.cause c.fetch.ensures.sound c.fetch.ensures.fitting c.fetch.ensures.own
    c.fetch.ensures.nowhere c.fetch.ensures.own_nowhere None
    (subst (λ (r : Result ⊤ FetchFault). IsFetchEnd r None) (sym c.in-Ok.is) refl)))

pub returns-in-Err : goal.returns-in-Err
returns-in-Err g c =
    let dial = at_dial g.D.Dial.dial c.args.dial.now c.fetch.new.dial in
    let out = into g.O.Sink.sink c.args.out.now c.fetch.new.out in
    let end = Some c.refusal_of_fetch.result in
    subst (λ (p : FetchParts). FetchAnswers p dial out end) c.asked.view_is
    (subst (λ (addr : List ℕ). FetchAnswers (record { addr = addr; query = c.asked.inside.query }) dial out end) c.as_str.ensures.value
    (answers _ _ c.standard.result dial out c.fetch.result c.standard.ensures c.fetch.ensures.ends c.fetch.ensures.cause c.fetch.ensures.sound c.fetch.ensures.fitting c.fetch.ensures.own
    c.fetch.ensures.nowhere c.fetch.ensures.own_nowhere end
    (subst (λ (r : Result ⊤ FetchFault). IsFetchEnd r end) (sym c.in-Err.is) (c.refusal_of_fetch.result, refl, c.refusal_of_fetch.ensures))))
