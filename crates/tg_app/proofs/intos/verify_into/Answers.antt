use Rattle.std.proofs.Common.{◌≡◌, List, None, Some, inr, refl, subst, sym, ℕ}
use Rattle.std.specs.Prelude.{Result, ⊤}
use Rattle.tg_app.proofs.IntoSteps.{IsVerifyEnd, cause_telling, finish_ends, into_refused, verify_done, verify_ends}
use Rattle.tg_app.specs.Intos.{VerifyIntoAnswers, into_extract}
use Rattle.tg_app.specs.Makings.{making_between}
use Rattle.tg_client.specs.Telling.{HasTold}
use Rattle.tg_client.specs.declared.fault.ClientFault.{ClientFault}
use Rattle.tg_commands.specs.Lines.{end_of}
use Rattle.tg_extract.specs.Extracts.{Grows, extract_sink, kind_of}
use Rattle.tg_model.specs.LimitNumbers.{LimitNumbers}
use Rattle.tg_streams.specs.Streams.{into, through}
use Rattle.tg_words.specs.IntoLines.{VerifyIntoParts}
use Rattle.tg_app.proofs.intos.verify_into.Goals as goal

pub returns-in-Ok-verified : goal.returns-in-Ok-verified
returns-in-Ok-verified g c =
    let m = g.N.NewTree.new_tree in
    let begun = c.begin.new.self in
    let called = c.verify_car_telling-verified.new.out in
    let new = c.finish-finished.new.self in
    let input = through g.I.Source.source c.args.input.now c.verify_car_telling-verified.new.input in
    let made = making_between m c.args.making.now new in
    let out = into g.O.Sink.sink c.args.out.now c.tell_made.new.out in
    let end = end_of c.tell_made.result in
    let verified = c.verify_car_telling-verified.ensures in
    let result = c.verify_car_telling-verified.result in
    let is = subst (λ (r : Result ⊤ ClientFault). IsVerifyEnd r None) (sym c.in-Ok-verified.is) refl in
    subst (λ (p : VerifyIntoParts). VerifyIntoAnswers p input made out end) c.asked.view_is
    (subst (λ (folder : List ℕ). VerifyIntoAnswers (record { query = c.asked.inside.query; folder = folder }) input made out end) c.as_str.ensures.value
    (inr (record {
      begun = begun;
      begins = record { at = c.in-Ok.ensures.at; quiet = c.in-Ok.ensures.quiet; text = c.in-Ok.ensures.text; kind = c.in-Ok.ensures.kind; refused = c.in-Ok.ensures.refused; calls = c.in-Ok.ensures.faults };
      called = called;
      inner = None;
      verify = verify_ends c.asked.inside.query c.standard.result input (into_extract m begun called) c.standard.ensures result None is verified.verifies
          (cause_telling input (extract_sink m) (Grows m) begun called result verified.cause) verified.own verified.fitting;
      result = result;
      told = subst (λ (l : LimitNumbers). HasTold c.asked.inside.query l input (λ t. kind_of called.stage ≡ t) result) c.standard.ensures (verified.told c.in-Ok.ensures.kind);
      accepted = verify_done result None is;
      finished = c.finish-finished.result;
      finish = finish_ends m called new c.finish-finished.ensures.text c.finish-finished.ensures.at c.finish-finished.ensures.stopped c.finish-finished.result c.finish-finished.ensures.quiet
          c.finish-finished.ensures.read c.finish-finished.ensures.going c.finish-finished.ensures.all c.finish-finished.ensures.cause c.finish-finished.ensures.again;
      ends = c.tell_made.ensures;
    })))

pub returns-in-Err : goal.returns-in-Err
returns-in-Err g c =
    let m = g.N.NewTree.new_tree in
    let begun = c.begin.new.self in
    let called = c.verify_car_telling-verified.new.out in
    let new = c.finish-finished.new.self in
    let input = through g.I.Source.source c.args.input.now c.verify_car_telling-verified.new.input in
    let made = making_between m c.args.making.now new in
    let out = into g.O.Sink.sink c.args.out.now c.args.out.now in
    let inner = Some c.refusal_of.result in
    let end = Some c.refusal_into.result in
    let verified = c.verify_car_telling-verified.ensures in
    let result = c.verify_car_telling-verified.result in
    let is = subst (λ (r : Result ⊤ ClientFault). IsVerifyEnd r inner) (sym c.in-Err.is) (c.refusal_of.result, refl, c.refusal_of.ensures) in
    subst (λ (p : VerifyIntoParts). VerifyIntoAnswers p input made out end) c.asked.view_is
    (subst (λ (folder : List ℕ). VerifyIntoAnswers (record { query = c.asked.inside.query; folder = folder }) input made out end) c.as_str.ensures.value
    (inr (record {
      begun = begun;
      begins = record { at = c.in-Ok.ensures.at; quiet = c.in-Ok.ensures.quiet; text = c.in-Ok.ensures.text; kind = c.in-Ok.ensures.kind; refused = c.in-Ok.ensures.refused; calls = c.in-Ok.ensures.faults };
      called = called;
      inner = inner;
      verify = verify_ends c.asked.inside.query c.standard.result input (into_extract m begun called) c.standard.ensures result inner is verified.verifies
          (cause_telling input (extract_sink m) (Grows m) begun called result verified.cause) verified.own verified.fitting;
      result = result;
      told = subst (λ (l : LimitNumbers). HasTold c.asked.inside.query l input (λ t. kind_of called.stage ≡ t) result) c.standard.ensures (verified.told c.in-Ok.ensures.kind);
      accepted = verify_done result inner is;
      finished = c.finish-finished.result;
      finish = finish_ends m called new c.finish-finished.ensures.text c.finish-finished.ensures.at c.finish-finished.ensures.stopped c.finish-finished.result c.finish-finished.ensures.quiet
          c.finish-finished.ensures.read c.finish-finished.ensures.going c.finish-finished.ensures.all c.finish-finished.ensures.cause c.finish-finished.ensures.again;
      ends = into_refused m new c.refusal_of.result c.finish-finished.result out c.refusal_into.result (record { unput = record { moved = g.met.O.Sink.rests _; held = refl }; quiet = refl })
          c.refusal_into.ensures.stopped c.refusal_into.ensures.other;
    })))
