use Rattle.std.proofs.Common.{◌≡◌, List, None, Some, inr, refl, string_bytes, subst, sym, ℕ}
use Rattle.std.specs.Prelude.{Result, ⊤}
use Rattle.tg_app.proofs.FetchSteps.{answers}
use Rattle.tg_app.proofs.IntoSteps.{finish_ends, into_refused, quiet_unless_sink}
use Rattle.tg_app.specs.Fetches.{IsFetchEnd}
use Rattle.tg_app.specs.Intos.{FetchIntoAnswers, into_extract}
use Rattle.tg_app.specs.Makings.{making_between}
use Rattle.tg_app.specs.Objects.{dial_between}
use Rattle.tg_commands.specs.Lines.{end_of}
use Rattle.tg_extract.specs.Extracts.{kind_of}
use Rattle.tg_fetch.specs.Telling.{CallTells}
use Rattle.tg_fetch.specs.declared.fault.FetchFault.{FetchFault}
use Rattle.tg_model.specs.LimitNumbers.{LimitNumbers}
use Rattle.tg_model.specs.Stores.{Keeping}
use Rattle.tg_streams.specs.Streams.{into}
use Rattle.tg_words.specs.IntoLines.{FetchIntoParts}
use Rattle.tg_app.proofs.intos.fetch_into.Goals as goal

-- nothing is told of what is dropped
abbrev dropped : Keeping
dropped = record { kept = λ sections. ⊤; stored_old = None; stored_new = None; faults_old = 0; faults_new = 0 }

pub returns-in-Ok-fetched : goal.returns-in-Ok-fetched
unfolding answers
returns-in-Ok-fetched g c =
    let m = g.N.NewTree.new_tree in
    let begun = c.begin.new.self in
    let called = c.fetch_telling-fetched.new.out in
    let new = c.finish-finished.new.self in
    let dial = dial_between g.D.Dial.dial c.args.dial.now c.fetch_telling-fetched.new.dial in
    let made = making_between m c.args.making.now new in
    let out = into g.O.Sink.sink c.args.out.now c.tell_made.new.out in
    let end = end_of c.tell_made.result in
    let call = c.fetch_telling-fetched.ensures in
    let put = into_extract m begun called in
    let cause = quiet_unless_sink put dropped c.fetch_telling-fetched.result refl refl call.cause in
    let fetched = answers c.asked.inside.query c.as_str-2.result.now c.standard.result dial.dialling put c.fetch_telling-fetched.result c.standard.ensures call.ends cause call.sound
    call.fitting call.own call.nowhere call.own_nowhere None (subst (λ (r : Result ⊤ FetchFault). IsFetchEnd r None) (sym c.in-Ok-fetched.is) refl) in
    subst (λ (p : FetchIntoParts). FetchIntoAnswers p dial made out end) c.asked.view_is
    (subst (λ (addr : List ℕ). FetchIntoAnswers (record { addr = addr; query = c.asked.inside.query; folder = string_bytes c.asked.inside.folder }) dial made out end) c.as_str-2.ensures.value
    (subst (λ (folder : List ℕ). FetchIntoAnswers (record { addr = c.as_str-2.result.now; query = c.asked.inside.query; folder = folder }) dial made out end) c.as_str.ensures.value
    (inr (record {
      begun = begun;
      begins = record { at = c.in-Ok.ensures.at; quiet = c.in-Ok.ensures.quiet; text = c.in-Ok.ensures.text; kind = c.in-Ok.ensures.kind; refused = c.in-Ok.ensures.refused; calls = c.in-Ok.ensures.faults };
      called = called;
      inner = None;
      fetch = fetched;
      told = subst (λ (l : LimitNumbers). CallTells c.asked.inside.query l dial.dialling (λ t. kind_of called.stage ≡ t) c.fetch_telling-fetched.result) c.standard.ensures (call.told c.in-Ok.ensures.kind);
      finished = c.finish-finished.result;
      finish = finish_ends m called new c.finish-finished.ensures.text c.finish-finished.ensures.at c.finish-finished.ensures.stopped c.finish-finished.result c.finish-finished.ensures.quiet
          c.finish-finished.ensures.read c.finish-finished.ensures.going c.finish-finished.ensures.all c.finish-finished.ensures.cause c.finish-finished.ensures.again;
      ends = c.tell_made.ensures;
    }))))

pub returns-in-Err : goal.returns-in-Err
unfolding answers
returns-in-Err g c =
    let m = g.N.NewTree.new_tree in
    let begun = c.begin.new.self in
    let called = c.fetch_telling-fetched.new.out in
    let new = c.finish-finished.new.self in
    let dial = dial_between g.D.Dial.dial c.args.dial.now c.fetch_telling-fetched.new.dial in
    let made = making_between m c.args.making.now new in
    let out = into g.O.Sink.sink c.args.out.now c.args.out.now in
    let inner = Some c.refusal_of_fetch.result in
    let end = Some c.refusal_into.result in
    let call = c.fetch_telling-fetched.ensures in
    let put = into_extract m begun called in
    let cause = quiet_unless_sink put dropped c.fetch_telling-fetched.result refl refl call.cause in
    let fetched = answers c.asked.inside.query c.as_str-2.result.now c.standard.result dial.dialling put c.fetch_telling-fetched.result c.standard.ensures call.ends cause call.sound
    call.fitting call.own call.nowhere call.own_nowhere inner
    (subst (λ (r : Result ⊤ FetchFault). IsFetchEnd r inner) (sym c.in-Err.is) (c.refusal_of_fetch.result, refl, c.refusal_of_fetch.ensures)) in
    subst (λ (p : FetchIntoParts). FetchIntoAnswers p dial made out end) c.asked.view_is
    (subst (λ (addr : List ℕ). FetchIntoAnswers (record { addr = addr; query = c.asked.inside.query; folder = string_bytes c.asked.inside.folder }) dial made out end) c.as_str-2.ensures.value
    (subst (λ (folder : List ℕ). FetchIntoAnswers (record { addr = c.as_str-2.result.now; query = c.asked.inside.query; folder = folder }) dial made out end) c.as_str.ensures.value
    (inr (record {
      begun = begun;
      begins = record { at = c.in-Ok.ensures.at; quiet = c.in-Ok.ensures.quiet; text = c.in-Ok.ensures.text; kind = c.in-Ok.ensures.kind; refused = c.in-Ok.ensures.refused; calls = c.in-Ok.ensures.faults };
      called = called;
      inner = inner;
      fetch = fetched;
      told = subst (λ (l : LimitNumbers). CallTells c.asked.inside.query l dial.dialling (λ t. kind_of called.stage ≡ t) c.fetch_telling-fetched.result) c.standard.ensures (call.told c.in-Ok.ensures.kind);
      finished = c.finish-finished.result;
      finish = finish_ends m called new c.finish-finished.ensures.text c.finish-finished.ensures.at c.finish-finished.ensures.stopped c.finish-finished.result c.finish-finished.ensures.quiet
          c.finish-finished.ensures.read c.finish-finished.ensures.going c.finish-finished.ensures.all c.finish-finished.ensures.cause c.finish-finished.ensures.again;
      ends = into_refused m new c.refusal_of_fetch.result c.finish-finished.result out c.refusal_into.result (record { unput = record { moved = g.met.O.Sink.rests _; held = refl }; quiet = refl })
          c.refusal_into.ensures.stopped c.refusal_into.ensures.other;
    }))))
