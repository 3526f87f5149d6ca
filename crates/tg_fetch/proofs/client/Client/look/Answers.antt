use Rattle.std.proofs.Common.{◌++◌, ℕ, Err, Ok, List, [], append-nil, refl, ap, sym, subst, ◌∙◌, take, append_assoc}
use Rattle.std.proofs.lemmas.Result.{err_from_is_err_and}
use Rattle.tg_streams.specs.Streams.{into}
use Rattle.tg_fetch.specs.Clients.{FedMore}
use Rattle.tg_fetch.specs.declared.client.Client.{Client}
use Rattle.tg_fetch.proofs.Feeding.{answered_after, answered_all, done_all, fed_nothing, more_after, not_done, on_more, refused_after, refused_behind, rest_is, short_behind, still_few, wait_more}
use Rattle.tg_fetch.proofs.KeptReplies.{all_waited, answered_at, answered_keeping, done_keeps, keeps_at, more_at, on_keeps, refused_at, refused_keeping, stands_further, stands_nothing, wait_keeps}
use Rattle.tg_fetch.proofs.KeptSections.{cause_on, none_kept}
use Rattle.tg_fetch.proofs.Telling.{tells_behind, tells_taken, told_on, told_stays}
use Rattle.tg_fetch.specs.Keeping.{StandIn}
use Rattle.tg_fetch.specs.Telling.{Tells, terminal_of}
use Rattle.tg_fetch.specs.KeepingSteps.{StandsKeeping}
use Rattle.tg_fetch.specs.declared.content.Move.{Move}
use Rattle.tg_model.specs.Stores.{kept_in}
use Rattle.tg_verify.specs.declared.verifier.Progress.{Progress}
use Rattle.tg_fetch.proofs.client.Client.look.Goals as goal

pub loop-taken-init : goal.loop-taken-init
loop-taken-init g c = record {
  query = refl;
  limits = refl;
  unrefused = c.requires.unrefused;
  front = [];
  bytes_are = refl;
  goes = λ heard written h few. (fed_nothing _ g.S.Sink.sink c.args.out.now (g.met.S.Sink.rests c.args.out.now) c.args.self.now heard written h, refl, refl);
  keeps = λ heard written before h few stand.
      let all = heard ++ [] in
      stands_nothing c.args.self.now.query c.args.self.now.limits all before (kept_in g.K.Keep.keeper c.args.keep.now c.args.keep.now)
      (subst (λ (l : List ℕ). StandIn c.args.self.now.query c.args.self.now.limits l before) (sym (append-nil heard)) stand)
      (none_kept g.K.Keep.keeper c.args.keep.now (g.met.K.Keep.rests c.args.keep.now));
  tells = λ heard written h few t. subst (λ (l : List ℕ). Tells c.args.self.now l) (sym (append-nil heard)) t;
  told = told_stays (terminal_of c.args.self.now);
  still = λ e. (refl, refl, refl);
}

pub returns-in_err-taken-clause-ends : goal.returns-in_err-taken-clause-ends
returns-in_err-taken-clause-ends g c heard written h few =
    let p = err_from_is_err_and c.from_residual.result c.from_residual.ensures.1 in
    let i = c.loop-taken.invariant in
    let w = (i.goes heard written h few).0 in
    let new = c.step.new.self in
    let rest = c.loop-taken.rest.now in
    let fault = c.in_err-taken.field-0.0 in
    let few_left = still_few heard c.args.bytes.now i.front rest c.args.self.now.limits c.loop-taken.self.limits i.bytes_are i.limits few in
    rw (p.1, p.2)
    (refused_behind new.query new.limits heard c.args.bytes.now i.front rest written (into g.S.Sink.sink c.args.out.now c.step.new.out) fault i.bytes_are
    (refused_after g.S.Sink.sink g.met.S.Sink.joins c.args.out.now c.loop-taken.out c.step.new.out written w.text w.put new.query new.limits (heard ++ i.front) rest fault
    (c.in_err-taken.ensures.ends (heard ++ i.front) (written ++ w.text) w.is_open few_left)))

pub loop-taken-preserved : goal.loop-taken-preserved
loop-taken-preserved g c =
    let i = c.loop-taken.invariant in
    let e = c.in_ok-taken.ensures in
    let new = c.step.new.self in
    let rest = c.loop-taken.rest.now in
    let taken = c.in_ok-taken.taken in
    record {
      query = c.step.ensures.query ∙ i.query;
      limits = c.step.ensures.limits ∙ i.limits;
      unrefused = c.step.ensures.unrefused;
      front = i.front ++ take taken rest;
      bytes_are = rest_is c.args.bytes.now i.front rest taken i.bytes_are;
      goes = λ heard written h few.
          let went = i.goes heard written h few in
          let w = went.0 in
          let few_left = still_few heard c.args.bytes.now i.front rest c.args.self.now.limits c.loop-taken.self.limits i.bytes_are i.limits few in
          let on = on_more new (heard ++ i.front) rest (written ++ w.text) (into g.S.Sink.sink c.loop-taken.out c.step.new.out) taken c.in_ok-taken.told
          (e.ends (heard ++ i.front) (written ++ w.text) w.is_open few_left) c.in-On.is in
          let more = more_after g.S.Sink.sink g.met.S.Sink.joins c.args.out.now c.loop-taken.out c.step.new.out written w.text w.put new ((heard ++ i.front) ++ take taken rest) on in (
            subst (λ (l : List ℕ). FedMore new l written (into g.S.Sink.sink c.args.out.now c.step.new.out)) (append_assoc heard i.front (take taken rest)) more,
            (e.cause (heard ++ i.front) (written ++ w.text) w.is_open).0 ∙ went.1,
            (e.cause (heard ++ i.front) (written ++ w.text) w.is_open).1 ∙ went.2,
          );
      keeps = λ heard written before h few stand.
          let w = (i.goes heard written h few).0 in
          let s = i.keeps heard written before h few stand in
          let fn = c.args.self.now in
          let old = c.loop-taken.self in
          let few_left = still_few heard c.args.bytes.now i.front rest fn.limits old.limits i.bytes_are i.limits few in
          let out = into g.S.Sink.sink c.loop-taken.out c.step.new.out in
          let keeping = kept_in g.K.Keep.keeper c.loop-taken.keep c.step.new.keep in
          let k = keeps_at fn.query old.query fn.limits old.limits i.query i.limits (heard ++ i.front) rest (before ++ s.came) (written ++ w.text) out keeping (Ok (taken, c.in_ok-taken.told)) s.stand
          (λ there. e.kept (heard ++ i.front) (written ++ w.text) (before ++ s.came) w.is_open few_left there) in
          stands_further g.S.Sink.sink g.met.S.Sink.joins c.args.out.now c.loop-taken.out c.step.new.out written w.text w.put g.K.Keep.keeper g.met.K.Keep.joins c.kept_sections.ensures.joins
          c.args.keep.now c.loop-taken.keep c.step.new.keep c.heads_go_on.ensures fn.query fn.limits heard c.args.bytes.now i.front rest before i.bytes_are s (take taken rest)
          (on_keeps fn.query fn.limits ((heard ++ i.front) ++ take taken rest) (before ++ s.came) (written ++ w.text) out keeping c.in_ok-taken.told k c.in-On.is);
      tells = λ heard written h few t.
          let w = (i.goes heard written h few).0 in
          subst (λ (l : List ℕ). Tells new l) (append_assoc heard i.front (take taken rest))
          (e.tells (heard ++ i.front) (written ++ w.text) w.is_open (i.tells heard written h few t));
      told = told_on (terminal_of c.args.self.now) (terminal_of c.loop-taken.self) (terminal_of new) i.told c.step.ensures.told;
      still = λ done. absurd (not_done taken c.in_ok-taken.told c.in-On.is (e.done (ap (λ (s : Client). s.stage) (i.still done).0 ∙ done)).0);
    }

pub returns-in-Wait-clause-ends : goal.returns-in-Wait-clause-ends
returns-in-Wait-clause-ends g c heard written h few =
    let i = c.loop-taken.invariant in
    let w = (i.goes heard written h few).0 in
    let new = c.step.new.self in
    let rest = c.loop-taken.rest.now in
    let few_left = still_few heard c.args.bytes.now i.front rest c.args.self.now.limits c.loop-taken.self.limits i.bytes_are i.limits few in
    let wait = wait_more new (heard ++ i.front) rest (written ++ w.text) (into g.S.Sink.sink c.loop-taken.out c.step.new.out) c.in_ok-taken.taken c.in_ok-taken.told
    (c.in_ok-taken.ensures.ends (heard ++ i.front) (written ++ w.text) w.is_open few_left) c.in-Wait.is in
    let more = more_after g.S.Sink.sink g.met.S.Sink.joins c.args.out.now c.loop-taken.out c.step.new.out written w.text w.put new ((heard ++ i.front) ++ rest) wait in
    subst (λ (l : List ℕ). FedMore new l written (into g.S.Sink.sink c.args.out.now c.step.new.out)) (append_assoc heard i.front rest ∙ ap (λ (l : List ℕ). heard ++ l) (sym i.bytes_are)) more

pub returns-in-Wait-clause-short : goal.returns-in-Wait-clause-short
returns-in-Wait-clause-short g c heard written h few e =
    let i = c.loop-taken.invariant in
    let w = (i.goes heard written h few).0 in
    short_behind c.step.new.self heard c.args.bytes.now i.front c.loop-taken.rest.now i.bytes_are
    (c.in_ok-taken.ensures.short (heard ++ i.front) (written ++ w.text) w.is_open c.in-Wait.is)

pub returns-in-Done-clause-ends : goal.returns-in-Done-clause-ends
returns-in-Done-clause-ends g c heard written h few =
    let i = c.loop-taken.invariant in
    let w = (i.goes heard written h few).0 in
    let new = c.step.new.self in
    let rest = c.loop-taken.rest.now in
    let taken = c.in_ok-taken.taken in
    let few_left = still_few heard c.args.bytes.now i.front rest c.args.self.now.limits c.loop-taken.self.limits i.bytes_are i.limits few in
    let done = done_all new (heard ++ i.front) rest (written ++ w.text) (into g.S.Sink.sink c.loop-taken.out c.step.new.out) taken c.in_ok-taken.told
    (c.in_ok-taken.ensures.ends (heard ++ i.front) (written ++ w.text) w.is_open few_left) c.in-Done.is in
    let few_now = still_few heard c.args.bytes.now i.front rest c.args.self.now.limits new.limits i.bytes_are (c.step.ensures.limits ∙ i.limits) few in (
      answered_all new.query new.limits heard c.args.bytes.now i.front rest written (into g.S.Sink.sink c.args.out.now c.step.new.out) taken i.bytes_are few_now
          (answered_after g.S.Sink.sink g.met.S.Sink.joins c.args.out.now c.loop-taken.out c.step.new.out written w.text w.put new.query new.limits ((heard ++ i.front) ++ take taken rest) done.0),
      done.1,
    )

-- ---- which sections were kept

pub returns-in_err-taken-clause-kept : goal.returns-in_err-taken-clause-kept
returns-in_err-taken-clause-kept g c heard written before h few stand =
    let p = err_from_is_err_and c.from_residual.result c.from_residual.ensures.1 in
    let i = c.loop-taken.invariant in
    let w = (i.goes heard written h few).0 in
    let s = i.keeps heard written before h few stand in
    let fn = c.args.self.now in
    let old = c.loop-taken.self in
    let new = c.step.new.self in
    let rest = c.loop-taken.rest.now in
    let fault = c.in_err-taken.field-0.0 in
    let few_left = still_few heard c.args.bytes.now i.front rest fn.limits old.limits i.bytes_are i.limits few in
    let out = into g.S.Sink.sink c.loop-taken.out c.step.new.out in
    let keeping = kept_in g.K.Keep.keeper c.loop-taken.keep c.step.new.keep in
    let k = keeps_at fn.query old.query fn.limits old.limits i.query i.limits (heard ++ i.front) rest (before ++ s.came) (written ++ w.text) out keeping (Err fault) s.stand
    (λ there. c.in_err-taken.ensures.kept (heard ++ i.front) (written ++ w.text) (before ++ s.came) w.is_open few_left there) in
    rw (p.1, p.2)
    (refused_at fn.query new.query fn.limits new.limits (c.step.ensures.query ∙ i.query) (c.step.ensures.limits ∙ i.limits) heard c.args.bytes.now before written
    (into g.S.Sink.sink c.args.out.now c.step.new.out) (kept_in g.K.Keep.keeper c.args.keep.now c.step.new.keep) fault
    (refused_keeping g.S.Sink.sink g.met.S.Sink.joins c.args.out.now c.loop-taken.out c.step.new.out written w.text w.put g.K.Keep.keeper g.met.K.Keep.joins c.kept_sections.ensures.joins
    c.args.keep.now c.loop-taken.keep c.step.new.keep c.heads_go_on.ensures fn.query fn.limits heard c.args.bytes.now i.front rest before i.bytes_are s fault k))

pub returns-in_err-taken-clause-cause : goal.returns-in_err-taken-clause-cause
returns-in_err-taken-clause-cause g c heard written h few =
    let p = err_from_is_err_and c.from_residual.result c.from_residual.ensures.1 in
    let i = c.loop-taken.invariant in
    let went = i.goes heard written h few in
    let w = went.0 in
    rw (p.1, p.2)
    (cause_on g.S.Sink.sink c.args.out.now c.loop-taken.out c.step.new.out went.1 g.K.Keep.keeper c.args.keep.now c.loop-taken.keep c.step.new.keep went.2 (ℕ × Move) Progress
    c.in_err-taken.field-0.0 (c.in_err-taken.ensures.cause (heard ++ i.front) (written ++ w.text) w.is_open))

pub returns-in-Wait-clause-kept : goal.returns-in-Wait-clause-kept
returns-in-Wait-clause-kept g c heard written before h few stand =
    let i = c.loop-taken.invariant in
    let w = (i.goes heard written h few).0 in
    let s = i.keeps heard written before h few stand in
    let fn = c.args.self.now in
    let old = c.loop-taken.self in
    let new = c.step.new.self in
    let rest = c.loop-taken.rest.now in
    let taken = c.in_ok-taken.taken in
    let few_left = still_few heard c.args.bytes.now i.front rest fn.limits old.limits i.bytes_are i.limits few in
    let out = into g.S.Sink.sink c.loop-taken.out c.step.new.out in
    let keeping = kept_in g.K.Keep.keeper c.loop-taken.keep c.step.new.keep in
    let k = keeps_at fn.query old.query fn.limits old.limits i.query i.limits (heard ++ i.front) rest (before ++ s.came) (written ++ w.text) out keeping (Ok (taken, c.in_ok-taken.told)) s.stand
    (λ there. c.in_ok-taken.ensures.kept (heard ++ i.front) (written ++ w.text) (before ++ s.came) w.is_open few_left there) in
    let all = all_waited new (heard ++ i.front) rest (written ++ w.text) out taken c.in_ok-taken.told
    (c.in_ok-taken.ensures.ends (heard ++ i.front) (written ++ w.text) w.is_open few_left) c.in-Wait.is in
    let next = stands_further g.S.Sink.sink g.met.S.Sink.joins c.args.out.now c.loop-taken.out c.step.new.out written w.text w.put g.K.Keep.keeper g.met.K.Keep.joins c.kept_sections.ensures.joins
    c.args.keep.now c.loop-taken.keep c.step.new.keep c.heads_go_on.ensures fn.query fn.limits heard c.args.bytes.now i.front rest before i.bytes_are s (take taken rest)
    (wait_keeps fn.query fn.limits ((heard ++ i.front) ++ take taken rest) (before ++ s.came) (written ++ w.text) out keeping c.in_ok-taken.told k c.in-Wait.is) in
    more_at new fn.query fn.limits (heard ++ c.args.bytes.now) before written (into g.S.Sink.sink c.args.out.now c.step.new.out) (kept_in g.K.Keep.keeper c.args.keep.now c.step.new.keep)
    (c.step.ensures.query ∙ i.query) (c.step.ensures.limits ∙ i.limits) (returns-in-Wait-clause-ends g c heard written h few)
    (subst (λ (l : List ℕ). StandsKeeping fn.query fn.limits (heard ++ l) before (kept_in g.K.Keep.keeper c.args.keep.now c.step.new.keep))
    (ap (λ (l : List ℕ). i.front ++ l) all ∙ sym i.bytes_are) next)

pub returns-in-Wait-clause-cause : goal.returns-in-Wait-clause-cause
returns-in-Wait-clause-cause g c heard written h few =
    let i = c.loop-taken.invariant in
    let went = i.goes heard written h few in
    let w = went.0 in
    let e = c.in_ok-taken.ensures.cause (heard ++ i.front) (written ++ w.text) w.is_open in
    (e.0 ∙ went.1, e.1 ∙ went.2)

pub returns-in-Done-clause-kept : goal.returns-in-Done-clause-kept
returns-in-Done-clause-kept g c heard written before h few stand =
    let i = c.loop-taken.invariant in
    let w = (i.goes heard written h few).0 in
    let s = i.keeps heard written before h few stand in
    let fn = c.args.self.now in
    let old = c.loop-taken.self in
    let new = c.step.new.self in
    let rest = c.loop-taken.rest.now in
    let taken = c.in_ok-taken.taken in
    let few_left = still_few heard c.args.bytes.now i.front rest fn.limits old.limits i.bytes_are i.limits few in
    let few_now = still_few heard c.args.bytes.now i.front rest fn.limits fn.limits i.bytes_are refl few in
    let out = into g.S.Sink.sink c.loop-taken.out c.step.new.out in
    let keeping = kept_in g.K.Keep.keeper c.loop-taken.keep c.step.new.keep in
    let k = keeps_at fn.query old.query fn.limits old.limits i.query i.limits (heard ++ i.front) rest (before ++ s.came) (written ++ w.text) out keeping (Ok (taken, c.in_ok-taken.told)) s.stand
    (λ there. c.in_ok-taken.ensures.kept (heard ++ i.front) (written ++ w.text) (before ++ s.came) w.is_open few_left there) in
    answered_at fn.query new.query fn.limits new.limits (c.step.ensures.query ∙ i.query) (c.step.ensures.limits ∙ i.limits) heard c.args.bytes.now before written
    (into g.S.Sink.sink c.args.out.now c.step.new.out) (kept_in g.K.Keep.keeper c.args.keep.now c.step.new.keep)
    (answered_keeping g.S.Sink.sink g.met.S.Sink.joins c.args.out.now c.loop-taken.out c.step.new.out written w.text w.put g.K.Keep.keeper g.met.K.Keep.joins c.kept_sections.ensures.joins
    c.args.keep.now c.loop-taken.keep c.step.new.keep c.heads_go_on.ensures fn.query fn.limits heard c.args.bytes.now i.front rest before i.bytes_are s taken few_now
    (done_keeps fn.query fn.limits ((heard ++ i.front) ++ take taken rest) (before ++ s.came) (written ++ w.text) out keeping c.in_ok-taken.told k c.in-Done.is))

pub returns-in-Done-clause-cause : goal.returns-in-Done-clause-cause
returns-in-Done-clause-cause g c heard written h few =
    let i = c.loop-taken.invariant in
    let went = i.goes heard written h few in
    let w = went.0 in
    let e = c.in_ok-taken.ensures.cause (heard ++ i.front) (written ++ w.text) w.is_open in
    (e.0 ∙ went.1, e.1 ∙ went.2)

-- ---- what the path leads to

pub returns-in_err-taken-clause-tells : goal.returns-in_err-taken-clause-tells
returns-in_err-taken-clause-tells g c heard written h few t =
    let i = c.loop-taken.invariant in
    let w = (i.goes heard written h few).0 in
    tells_behind c.step.new.self heard c.args.bytes.now i.front c.loop-taken.rest.now i.bytes_are
    (c.in_err-taken.ensures.tells (heard ++ i.front) (written ++ w.text) w.is_open (i.tells heard written h few t))

pub returns-in_err-taken-clause-told : goal.returns-in_err-taken-clause-told
returns-in_err-taken-clause-told g c =
    told_on (terminal_of c.args.self.now) (terminal_of c.loop-taken.self) (terminal_of c.step.new.self) c.loop-taken.invariant.told c.step.ensures.told

pub returns-in-Wait-clause-tells : goal.returns-in-Wait-clause-tells
returns-in-Wait-clause-tells g c heard written h few t =
    let i = c.loop-taken.invariant in
    let w = (i.goes heard written h few).0 in
    let rest = c.loop-taken.rest.now in
    tells_behind c.step.new.self heard c.args.bytes.now i.front rest i.bytes_are
    (tells_taken c.step.new.self (heard ++ i.front) rest c.in_ok-taken.taken
    (c.in_ok-taken.ensures.tells (heard ++ i.front) (written ++ w.text) w.is_open (i.tells heard written h few t)))

pub returns-in-Wait-clause-told : goal.returns-in-Wait-clause-told
returns-in-Wait-clause-told g c =
    told_on (terminal_of c.args.self.now) (terminal_of c.loop-taken.self) (terminal_of c.step.new.self) c.loop-taken.invariant.told c.step.ensures.told

pub returns-in-Done-clause-tells : goal.returns-in-Done-clause-tells
returns-in-Done-clause-tells g c heard written h few t =
    let i = c.loop-taken.invariant in
    let w = (i.goes heard written h few).0 in
    let rest = c.loop-taken.rest.now in
    tells_behind c.step.new.self heard c.args.bytes.now i.front rest i.bytes_are
    (tells_taken c.step.new.self (heard ++ i.front) rest c.in_ok-taken.taken
    (c.in_ok-taken.ensures.tells (heard ++ i.front) (written ++ w.text) w.is_open (i.tells heard written h few t)))

pub returns-in-Done-clause-told : goal.returns-in-Done-clause-told
returns-in-Done-clause-told g c =
    told_on (terminal_of c.args.self.now) (terminal_of c.loop-taken.self) (terminal_of c.step.new.self) c.loop-taken.invariant.told c.step.ensures.told
