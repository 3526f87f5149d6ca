use Rattle.std.proofs.Common.{rules, ◌≡◌, ◌++◌, ℕ, List, [], Ok, Err, ap, append-nil, refl, length, take, arith, false, true, subst, sym, ◌∙◌, length-append}
use Rattle.std.specs.Prelude.{⊤, ◌≢◌}
use Rattle.std.proofs.lemmas.List.{length-take-le}
use Rattle.std.proofs.lemmas.Result.{err_from_is_err_and}
use denote.Enum.Bare.{same_true, sameb}
use Rattle.tg_client.specs.Telling.{telling}
use Rattle.tg_fetch.proofs.Calling.{heard_answer, heard_end, heard_fault, heard_more, heard_nothing, heard_refused, spoke_took}
use Rattle.tg_fetch.proofs.KeptCalls.{all_back, done_keeps_all, end_back, end_keeps, fault_keeps, piece_answers, piece_keeps, piece_refused, refused_back, stand_back}
use Rattle.tg_fetch.proofs.KeptReplies.{more_keeps, stands_nothing}
use Rattle.tg_fetch.proofs.KeptSections.{cause_on, end_cause_on, none_kept, quiet_also}
use Rattle.tg_fetch.proofs.TellingCalls.{MayTell, cause_as, client_tells, done_stage, end_ends_then, end_keeps_then, feed_ends_then, feed_keeps_then, is_told, knows_ended, knows_fed, not_told, unput}
use Rattle.tg_fetch.specs.Clients.{EndEnds}
use Rattle.tg_fetch.specs.Keeping.{unkept}
use Rattle.tg_fetch.specs.KeepingSteps.{StandsKeeping}
use Rattle.tg_fetch.specs.Telling.{Tells, terminal_of}
use Rattle.tg_model.specs.Stores.{kept_in}
use Rattle.tg_links.specs.Steps.{Spoke, link_step}
use Rattle.tg_model.specs.LimitNumbers.{LimitNumbers}
use Rattle.tg_model.specs.Queries.{QueryParts}
use Rattle.tg_streams.specs.Streams.{into}
use Rattle.tg_verify.specs.contracts.verifier.Progress.{the_type}
use Rattle.tg_verify.specs.declared.verifier.Progress.{Progress}
use Rattle.tg_verify.specs.declared.verifier.Progress.TheVariants as progresses
use Rattle.tg_fetch.proofs.calls.hear.Given as given
use Rattle.tg_fetch.proofs.calls.hear.Goals as goal
use Rattle.tg_fetch.proofs.calls.hear.Goals.{After-branch-end, in-Some, in_default}

-- what the test of the progress says
is_done : (told : Progress) → true ≡ sameb the_type told progresses.Done → told ≡ progresses.Done
is_done told e = same_true the_type (search rules) told progresses.Done (sym e)

goes_on : (told : Progress) → false ≡ sameb the_type told progresses.Done → told ≢ progresses.Done
goes_on told e done = let no : false ≡ true = rw done at e in let none : ⊥ = cc in none

-- of the same bytes
back : (P : List ℕ → Type 0) (x y : List ℕ) → x ≡ y → P y → P x
back P x y e p = subst P (sym e) p

-- what becomes of out behind a piece
may_tell : (g : given.Over) (c : After-branch-end g)
    → MayTell g.S.Sink.sink g.T.TellTerminal.wrote g.T.TellTerminal.knows c.feed_keep-end.new.out c.match-terminal.out (terminal_of c.feed_keep-end.new.self)
may_tell g c =
    let out = c.feed_keep-end.new.out in
    let now = terminal_of c.feed_keep-end.new.self in
    elim c.match-terminal.branch [
      | in-Some w ↦ rw w.out-is
          (is_told g.S.Sink.sink g.T.TellTerminal.wrote g.T.TellTerminal.knows out w.tell.new.out now w.in-Some.terminal (sym c.terminal.ensures ∙ w.in-Some.is) w.tell.ensures.wrote w.tell.ensures.held w.tell.ensures.faults
          w.tell.ensures.knows)
      | in_default w ↦ rw w.out-is
          (not_told g.S.Sink.sink g.T.TellTerminal.wrote g.T.TellTerminal.knows out now (g.met.T.TellTerminal.puts out out [] (g.met.S.Sink.rests out)) (sym c.terminal.ensures ∙ w.in_default.is))
    ]

pub loop-size-init : goal.loop-size-init
loop-size-init g c = record {
  room = c.requires.room;
  heard = heard_nothing g.L.Link.link g.L.Source.source g.met.L.Link.hears (telling g.S.Sink.sink g.T.TellTerminal.wrote) g.met.T.TellTerminal.joins c.args.client.now c.args.link.now c.args.out.now
      (g.met.T.TellTerminal.puts c.args.out.now c.args.out.now [] (g.met.S.Sink.rests c.args.out.now)) c.requires.fresh;
  keeps = stands_nothing c.args.client.now.query c.args.client.now.limits [] [] (kept_in g.K.Keep.keeper c.args.keep.now c.args.keep.now) c.requires.none
      (none_kept g.K.Keep.keeper c.args.keep.now (g.met.K.Keep.rests c.args.keep.now));
  told = λ known. subst (g.T.TellTerminal.knows c.args.out.now) (sym c.requires.untold) known;
  tells = c.requires.tells;
}

pub returns-in_err-size-clause-heard : goal.returns-in_err-size-clause-heard
returns-in_err-size-clause-heard g c =
    let p = err_from_is_err_and c.from_residual.result c.from_residual.ensures.1 in
    rw (p.1, p.2)
    (heard_fault g.L.Link.link g.L.Source.source g.met.L.Link.hears (telling g.S.Sink.sink g.T.TellTerminal.wrote) g.met.T.TellTerminal.joins c.args.client.now.query c.args.client.now.limits c.args.link.now
    c.loop-size.link c.take.new.self c.args.out.now c.loop-size.out c.loop-size.client c.loop-size.invariant.heard c.standing_bodies.ensures
    c.in_err-size.ensures.err_untaken c.in_err-size.ensures.err_rose)

pub returns-in_err-size-clause-cause : goal.returns-in_err-size-clause-cause
returns-in_err-size-clause-cause g c =
    let p = err_from_is_err_and c.from_residual.result c.from_residual.ensures.1 in
    rw (p.1, p.2) (c.loop-size.invariant.heard.put_quiet, c.loop-size.invariant.keeps.kept.quiet)

pub returns-then-size-eq0-clause-heard : goal.returns-then-size-eq0-clause-heard
returns-then-size-eq0-clause-heard g c =
    let h = c.loop-size.invariant.heard in
    let s = c.loop-size.invariant.keeps in
    let old = c.loop-size.client in
    let q = c.args.client.now.query in
    let limits = c.args.client.now.limits in
    let piece = take c.in_ok-size.size c.take.new.buf in
    let before = c.loop-size.out in
    let out = c.end.new.out in
    let ends = end_ends_then g.S.Sink.sink g.T.TellTerminal.wrote g.met.T.TellTerminal.puts g.met.T.TellTerminal.joins before out out
    (unput g.S.Sink.sink g.T.TellTerminal.wrote g.met.T.TellTerminal.puts out (g.met.S.Sink.rests out)) old.query old.limits h.heard h.written c.end.result
    (c.end.ensures.ends h.heard h.written h.stands) in
    heard_end g.L.Link.link g.L.Source.source g.met.L.Link.hears (telling g.S.Sink.sink g.T.TellTerminal.wrote) g.met.T.TellTerminal.joins q limits c.args.link.now c.loop-size.link c.take.new.self c.args.out.now before old h out piece
    c.in_ok-size.ensures.took.moved c.in_ok-size.ensures.quiet g.met.L.Link.ends
    (ap (λ (n : ℕ). take n c.take.new.buf) c.if-size-eq0.true) (c.in_ok-size.ensures.end c.if-size-eq0.true (omega arith)) c.end.result
    (subst (λ (n : LimitNumbers). EndEnds q n h.heard h.written (into (telling g.S.Sink.sink g.T.TellTerminal.wrote) before out) c.end.result) h.limits_are
    (subst (λ (q : QueryParts). EndEnds q old.limits h.heard h.written (into (telling g.S.Sink.sink g.T.TellTerminal.wrote) before out) c.end.result) h.query ends))

pub returns-then-size-eq0-clause-cause : goal.returns-then-size-eq0-clause-cause
returns-then-size-eq0-clause-cause g c =
    let h = c.loop-size.invariant.heard in
    let before = c.loop-size.out in
    let out = c.end.new.out in
    let still = kept_in g.K.Keep.keeper c.loop-size.keep c.loop-size.keep in
    end_cause_on (telling g.S.Sink.sink g.T.TellTerminal.wrote) c.args.out.now before out h.put_quiet g.K.Keep.keeper c.args.keep.now c.loop-size.keep c.loop-size.keep c.loop-size.invariant.keeps.kept.quiet ⊤ c.end.result
    (cause_as (into g.S.Sink.sink before out) (into (telling g.S.Sink.sink g.T.TellTerminal.wrote) before out) still refl refl ⊤ c.end.result
    (quiet_also ⊤ (into g.S.Sink.sink before out) still c.end.result refl (c.end.ensures.cause h.heard h.written h.stands)))

pub returns-in_err-end-clause-heard : goal.returns-in_err-end-clause-heard
returns-in_err-end-clause-heard g c =
    let h = c.loop-size.invariant.heard in
    let s = c.loop-size.invariant.keeps in
    let old = c.loop-size.client in
    let new = c.feed_keep-end.new.self in
    let q = c.args.client.now.query in
    let limits = c.args.client.now.limits in
    let piece = take c.in_ok-size.size c.take.new.buf in
    let before = c.loop-size.out in
    let out = c.feed_keep-end.new.out in
    let after = c.match-terminal.out in
    let tells = may_tell g (goal.at.returns-in_err-end-clause-heard g c).After-branch-end in
    let p = err_from_is_err_and c.from_residual-in_err-end.result c.from_residual-in_err-end.ensures.1 in
    let fault = c.in_err-end.field-0.0 in
    let ends = feed_ends_then g.S.Sink.sink g.T.TellTerminal.wrote g.met.T.TellTerminal.puts g.met.T.TellTerminal.joins before out after tells.nothing new h.heard piece h.written (Err fault) (c.in_err-end.ensures.ends h.heard h.written h.stands) in
    rw (p.1, p.2)
    (heard_refused g.L.Link.link g.L.Source.source g.met.L.Link.hears (telling g.S.Sink.sink g.T.TellTerminal.wrote) g.met.T.TellTerminal.joins q limits c.args.link.now c.loop-size.link c.take.new.self c.args.out.now before old h after piece
    c.in_ok-size.ensures.took.moved c.in_ok-size.ensures.quiet new c.feed_keep-end.ensures.query c.feed_keep-end.ensures.limits fault ends)

pub returns-in_err-end-clause-cause : goal.returns-in_err-end-clause-cause
returns-in_err-end-clause-cause g c =
    let h = c.loop-size.invariant.heard in
    let s = c.loop-size.invariant.keeps in
    let old = c.loop-size.client in
    let new = c.feed_keep-end.new.self in
    let q = c.args.client.now.query in
    let limits = c.args.client.now.limits in
    let piece = take c.in_ok-size.size c.take.new.buf in
    let before = c.loop-size.out in
    let out = c.feed_keep-end.new.out in
    let after = c.match-terminal.out in
    let tells = may_tell g (goal.at.returns-in_err-end-clause-cause g c).After-branch-end in
    let p = err_from_is_err_and c.from_residual-in_err-end.result c.from_residual-in_err-end.ensures.1 in
    let fault = c.in_err-end.field-0.0 in
    let keeping = kept_in g.K.Keep.keeper c.loop-size.keep c.feed_keep-end.new.keep in
    rw (p.1, p.2)
    (cause_on (telling g.S.Sink.sink g.T.TellTerminal.wrote) c.args.out.now before after h.put_quiet g.K.Keep.keeper c.args.keep.now c.loop-size.keep c.feed_keep-end.new.keep
    c.loop-size.invariant.keeps.kept.quiet Progress ⊤ fault
    (cause_as (into g.S.Sink.sink before out) (into (telling g.S.Sink.sink g.T.TellTerminal.wrote) before after) keeping refl tells.quiet Progress (Err fault)
    (c.in_err-end.ensures.cause h.heard h.written h.stands)))

pub returns-then-eq-clause-heard : goal.returns-then-eq-clause-heard
returns-then-eq-clause-heard g c =
    let h = c.loop-size.invariant.heard in
    let s = c.loop-size.invariant.keeps in
    let old = c.loop-size.client in
    let new = c.feed_keep-end.new.self in
    let q = c.args.client.now.query in
    let limits = c.args.client.now.limits in
    let piece = take c.in_ok-size.size c.take.new.buf in
    let before = c.loop-size.out in
    let out = c.feed_keep-end.new.out in
    let after = c.match-terminal.out in
    let tells = may_tell g (goal.at.returns-then-eq-clause-heard g c).After-branch-end in
    let told = c.in_ok-end.field-0 in
    let ends = feed_ends_then g.S.Sink.sink g.T.TellTerminal.wrote g.met.T.TellTerminal.puts g.met.T.TellTerminal.joins before out after tells.nothing new h.heard piece h.written (Ok told) (c.in_ok-end.ensures.ends h.heard h.written h.stands) in
    heard_answer g.L.Link.link g.L.Source.source g.met.L.Link.hears (telling g.S.Sink.sink g.T.TellTerminal.wrote) g.met.T.TellTerminal.joins q limits c.args.link.now c.loop-size.link c.take.new.self c.args.out.now before old h after piece
    c.in_ok-size.ensures.took.moved c.in_ok-size.ensures.quiet new c.feed_keep-end.ensures.query c.feed_keep-end.ensures.limits told ends (is_done told c.if-eq.ensures)

pub returns-then-eq-clause-cause : goal.returns-then-eq-clause-cause
returns-then-eq-clause-cause g c =
    let h = c.loop-size.invariant.heard in
    let s = c.loop-size.invariant.keeps in
    let old = c.loop-size.client in
    let new = c.feed_keep-end.new.self in
    let q = c.args.client.now.query in
    let limits = c.args.client.now.limits in
    let piece = take c.in_ok-size.size c.take.new.buf in
    let before = c.loop-size.out in
    let out = c.feed_keep-end.new.out in
    let after = c.match-terminal.out in
    let tells = may_tell g (goal.at.returns-then-eq-clause-cause g c).After-branch-end in
    let told = c.in_ok-end.field-0 in
    let keeping = kept_in g.K.Keep.keeper c.loop-size.keep c.feed_keep-end.new.keep in
    end_cause_on (telling g.S.Sink.sink g.T.TellTerminal.wrote) c.args.out.now before after h.put_quiet g.K.Keep.keeper c.args.keep.now c.loop-size.keep c.feed_keep-end.new.keep
    c.loop-size.invariant.keeps.kept.quiet ⊤ (Ok tt)
    (cause_as (into g.S.Sink.sink before out) (into (telling g.S.Sink.sink g.T.TellTerminal.wrote) before after) keeping refl tells.quiet Progress (Ok told) (c.in_ok-end.ensures.cause h.heard h.written h.stands))

pub loop-size-smaller : goal.loop-size-smaller
loop-size-smaller g c =
    let h = c.loop-size.invariant.heard in
    let s = c.loop-size.invariant.keeps in
    let old = c.loop-size.client in
    let new = c.feed_keep-end.new.self in
    let q = c.args.client.now.query in
    let limits = c.args.client.now.limits in
    let piece = take c.in_ok-size.size c.take.new.buf in
    let before = c.loop-size.out in
    let out = c.feed_keep-end.new.out in
    let after = c.match-terminal.out in
    let tells = may_tell g (goal.at.loop-size-smaller g c).After-branch-end in
    let told = c.in_ok-end.field-0 in
    let ends = feed_ends_then g.S.Sink.sink g.T.TellTerminal.wrote g.met.T.TellTerminal.puts g.met.T.TellTerminal.joins before out after tells.nothing new h.heard piece h.written (Ok told) (c.in_ok-end.ensures.ends h.heard h.written h.stands) in
    let (more, is) = heard_more g.L.Link.link g.L.Source.source g.met.L.Link.hears (telling g.S.Sink.sink g.T.TellTerminal.wrote) g.met.T.TellTerminal.joins q limits c.args.link.now c.loop-size.link c.take.new.self c.args.out.now before old h after piece
    c.in_ok-size.ensures.took.moved c.in_ok-size.ensures.quiet new c.feed_keep-end.ensures.query c.feed_keep-end.ensures.limits c.in_ok-end.ensures.refused
    (tells.quiet ∙ (c.in_ok-end.ensures.cause h.heard h.written h.stands).0) told ends (goes_on told c.if-eq.ensures) in
    let size : length piece ≡ c.in_ok-size.size = length-take-le c.in_ok-size.size c.take.new.buf c.in_ok-size.ensures.within in
    omega (
      arith,
      size,
      ap length {x = more.heard} {y = h.heard ++ piece} is,
      length-append h.heard piece,
      more.stands.is_open.count,
      more.stands.is_open.within,
      h.stands.is_open.count,
      ap (λ (n : LimitNumbers). n.received) c.feed_keep-end.ensures.limits,
    )

pub loop-size-preserved : goal.loop-size-preserved
loop-size-preserved g c =
    let h = c.loop-size.invariant.heard in
    let s = c.loop-size.invariant.keeps in
    let old = c.loop-size.client in
    let new = c.feed_keep-end.new.self in
    let q = c.args.client.now.query in
    let limits = c.args.client.now.limits in
    let piece = take c.in_ok-size.size c.take.new.buf in
    let before = c.loop-size.out in
    let out = c.feed_keep-end.new.out in
    let after = c.match-terminal.out in
    let tells = may_tell g (goal.at.loop-size-preserved g c).After-branch-end in
    let told = c.in_ok-end.field-0 in
    let ends = feed_ends_then g.S.Sink.sink g.T.TellTerminal.wrote g.met.T.TellTerminal.puts g.met.T.TellTerminal.joins before out after tells.nothing new h.heard piece h.written (Ok told) (c.in_ok-end.ensures.ends h.heard h.written h.stands) in
    let (more, is) = heard_more g.L.Link.link g.L.Source.source g.met.L.Link.hears (telling g.S.Sink.sink g.T.TellTerminal.wrote) g.met.T.TellTerminal.joins q limits c.args.link.now c.loop-size.link c.take.new.self c.args.out.now before old h after piece
    c.in_ok-size.ensures.took.moved c.in_ok-size.ensures.quiet new c.feed_keep-end.ensures.query c.feed_keep-end.ensures.limits c.in_ok-end.ensures.refused
    (tells.quiet ∙ (c.in_ok-end.ensures.cause h.heard h.written h.stands).0) told ends (goes_on told c.if-eq.ensures) in
    let keeping = kept_in g.K.Keep.keeper c.loop-size.keep c.feed_keep-end.new.keep in
    let kept = more_keeps told new h.heard piece s.came h.written (into (telling g.S.Sink.sink g.T.TellTerminal.wrote) before after) keeping (goes_on told c.if-eq.ensures)
    (feed_keeps_then g.S.Sink.sink g.T.TellTerminal.wrote g.met.T.TellTerminal.puts g.met.T.TellTerminal.joins before out after tells.nothing new h.heard piece s.came h.written keeping (Ok told)
    (c.in_ok-end.ensures.kept h.heard h.written s.came h.stands (stand_back q old.query limits old.limits h.query h.limits_are h.heard s.came s.stand))) in
    record {
      room = omega arith;
      heard = more;
      keeps = back (λ (l : List ℕ). StandsKeeping q limits l [] (kept_in g.K.Keep.keeper c.args.keep.now c.feed_keep-end.new.keep)) more.heard (h.heard ++ piece) is
          (piece_keeps g.K.Keep.keeper g.met.K.Keep.joins c.kept_sections.ensures.joins c.args.keep.now c.loop-size.keep c.feed_keep-end.new.keep q limits h.heard s new
          (c.feed_keep-end.ensures.query ∙ h.query) (c.feed_keep-end.ensures.limits ∙ h.limits_are) (h.heard ++ piece) h.written (into (telling g.S.Sink.sink g.T.TellTerminal.wrote) before after) kept);
      told = λ known. tells.known (terminal_of old) c.feed_keep-end.ensures.told
          (knows_fed g.S.Sink.sink g.T.TellTerminal.knows g.met.T.TellTerminal.stays before out (terminal_of old) (c.loop-size.invariant.told known) new h.heard piece h.written (Ok told)
          (c.in_ok-end.ensures.ends h.heard h.written h.stands));
      tells = back (λ (l : List ℕ). Tells new l) more.heard (h.heard ++ piece) is (c.feed_keep-end.ensures.tells h.heard h.written h.stands c.loop-size.invariant.tells);
    }

-- ---- which sections were kept

pub returns-in_err-size-clause-kept : goal.returns-in_err-size-clause-kept
returns-in_err-size-clause-kept g c =
    let p = err_from_is_err_and c.from_residual.result c.from_residual.ensures.1 in
    let h = c.loop-size.invariant.heard in
    let q = c.args.client.now.query in
    let limits = c.args.client.now.limits in
    let spoke = subst (λ (l : List ℕ). Spoke (link_step g.L.Link.link g.L.Source.source c.args.link.now c.take.new.self) l []) (append-nil h.heard)
    (spoke_took g.L.Link.link g.L.Source.source g.met.L.Link.hears (telling g.S.Sink.sink g.T.TellTerminal.wrote) g.met.T.TellTerminal.joins c.args.link.now c.loop-size.link c.take.new.self h.heard [] h.spoke
    c.in_err-size.ensures.err_untaken.moved) in
    rw (p.1, p.2)
    (record {
      heard = h.heard;
      is_heard = spoke.heard_is;
      keeps = fault_keeps c.heads_go_on.ensures c.bodies_go_on.ensures c.standing_bodies.ensures c.received_sections.ensures.one q limits c.loop-size.client h.query h.limits_are h.heard h.written
          h.stands (into (telling g.S.Sink.sink g.T.TellTerminal.wrote) c.args.out.now c.loop-size.out) (kept_in g.K.Keep.keeper c.args.keep.now c.loop-size.keep) h.put c.loop-size.invariant.keeps;
    })

pub returns-then-size-eq0-clause-kept : goal.returns-then-size-eq0-clause-kept
returns-then-size-eq0-clause-kept g c =
    let h = c.loop-size.invariant.heard in
    let s = c.loop-size.invariant.keeps in
    let old = c.loop-size.client in
    let q = c.args.client.now.query in
    let limits = c.args.client.now.limits in
    let piece = take c.in_ok-size.size c.take.new.buf in
    let before = c.loop-size.out in
    let out = c.end.new.out in
    record {
      heard = h.heard ++ piece;
      is_heard = (spoke_took g.L.Link.link g.L.Source.source g.met.L.Link.hears (telling g.S.Sink.sink g.T.TellTerminal.wrote) g.met.T.TellTerminal.joins c.args.link.now c.loop-size.link c.take.new.self h.heard piece h.spoke
          c.in_ok-size.ensures.took.moved).heard_is;
      keeps = end_keeps (telling g.S.Sink.sink g.T.TellTerminal.wrote) g.met.T.TellTerminal.joins c.args.out.now before out g.K.Keep.keeper g.met.K.Keep.joins c.kept_sections.ensures.joins
          c.args.keep.now c.loop-size.keep c.loop-size.keep c.heads_go_on.ensures q limits h.heard h.written h.put s piece (g.L.Link.link.over c.take.new.self)
          (ap (λ (n : ℕ). take n c.take.new.buf) c.if-size-eq0.true)
          (g.met.L.Link.ends c.take.new.self (c.in_ok-size.ensures.end c.if-size-eq0.true (omega arith)).ended) c.end.result
          (none_kept g.K.Keep.keeper c.loop-size.keep (g.met.K.Keep.rests c.loop-size.keep))
          (end_back q old.query limits old.limits h.query h.limits_are h.heard s.came h.written (into (telling g.S.Sink.sink g.T.TellTerminal.wrote) before out) unkept c.end.result
          (end_keeps_then g.S.Sink.sink g.T.TellTerminal.wrote g.met.T.TellTerminal.puts g.met.T.TellTerminal.joins before out out
          (unput g.S.Sink.sink g.T.TellTerminal.wrote g.met.T.TellTerminal.puts out (g.met.S.Sink.rests out)) old.query old.limits h.heard s.came h.written unkept c.end.result
          (c.end.ensures.kept h.heard h.written s.came h.stands (stand_back q old.query limits old.limits h.query h.limits_are h.heard s.came s.stand))));
    }

pub returns-in_err-end-clause-kept : goal.returns-in_err-end-clause-kept
returns-in_err-end-clause-kept g c =
    let h = c.loop-size.invariant.heard in
    let s = c.loop-size.invariant.keeps in
    let old = c.loop-size.client in
    let new = c.feed_keep-end.new.self in
    let q = c.args.client.now.query in
    let limits = c.args.client.now.limits in
    let piece = take c.in_ok-size.size c.take.new.buf in
    let before = c.loop-size.out in
    let out = c.feed_keep-end.new.out in
    let after = c.match-terminal.out in
    let tells = may_tell g (goal.at.returns-in_err-end-clause-kept g c).After-branch-end in
    let p = err_from_is_err_and c.from_residual-in_err-end.result c.from_residual-in_err-end.ensures.1 in
    let fault = c.in_err-end.field-0.0 in
    let keeping = kept_in g.K.Keep.keeper c.loop-size.keep c.feed_keep-end.new.keep in
    rw (p.1, p.2)
    (record {
      heard = h.heard ++ piece;
      is_heard = (spoke_took g.L.Link.link g.L.Source.source g.met.L.Link.hears (telling g.S.Sink.sink g.T.TellTerminal.wrote) g.met.T.TellTerminal.joins c.args.link.now c.loop-size.link c.take.new.self h.heard piece h.spoke
          c.in_ok-size.ensures.took.moved).heard_is;
      keeps = piece_refused (telling g.S.Sink.sink g.T.TellTerminal.wrote) g.met.T.TellTerminal.joins c.args.out.now before after g.K.Keep.keeper g.met.K.Keep.joins c.kept_sections.ensures.joins
          c.args.keep.now c.loop-size.keep c.feed_keep-end.new.keep c.heads_go_on.ensures q limits h.heard h.written h.put s piece (g.L.Link.link.over c.take.new.self) fault
          (refused_back q new.query limits new.limits (c.feed_keep-end.ensures.query ∙ h.query) (c.feed_keep-end.ensures.limits ∙ h.limits_are) h.heard piece s.came h.written
          (into (telling g.S.Sink.sink g.T.TellTerminal.wrote) before after) keeping fault
          (feed_keeps_then g.S.Sink.sink g.T.TellTerminal.wrote g.met.T.TellTerminal.puts g.met.T.TellTerminal.joins before out after tells.nothing new h.heard piece s.came h.written keeping (Err fault)
          (c.in_err-end.ensures.kept h.heard h.written s.came h.stands (stand_back q old.query limits old.limits h.query h.limits_are h.heard s.came s.stand))));
    })

pub returns-then-eq-clause-kept : goal.returns-then-eq-clause-kept
returns-then-eq-clause-kept g c =
    let h = c.loop-size.invariant.heard in
    let s = c.loop-size.invariant.keeps in
    let old = c.loop-size.client in
    let new = c.feed_keep-end.new.self in
    let q = c.args.client.now.query in
    let limits = c.args.client.now.limits in
    let piece = take c.in_ok-size.size c.take.new.buf in
    let before = c.loop-size.out in
    let out = c.feed_keep-end.new.out in
    let after = c.match-terminal.out in
    let tells = may_tell g (goal.at.returns-then-eq-clause-kept g c).After-branch-end in
    let told = c.in_ok-end.field-0 in
    let keeping = kept_in g.K.Keep.keeper c.loop-size.keep c.feed_keep-end.new.keep in
    record {
      heard = h.heard ++ piece;
      is_heard = (spoke_took g.L.Link.link g.L.Source.source g.met.L.Link.hears (telling g.S.Sink.sink g.T.TellTerminal.wrote) g.met.T.TellTerminal.joins c.args.link.now c.loop-size.link c.take.new.self h.heard piece h.spoke
          c.in_ok-size.ensures.took.moved).heard_is;
      keeps = piece_answers (telling g.S.Sink.sink g.T.TellTerminal.wrote) g.met.T.TellTerminal.joins c.args.out.now before after g.K.Keep.keeper g.met.K.Keep.joins c.kept_sections.ensures.joins
          c.args.keep.now c.loop-size.keep c.feed_keep-end.new.keep c.heads_go_on.ensures q limits h.heard h.written h.put s piece (g.L.Link.link.over c.take.new.self)
          (all_back q new.query limits new.limits (c.feed_keep-end.ensures.query ∙ h.query) (c.feed_keep-end.ensures.limits ∙ h.limits_are) h.heard piece s.came h.written
          (into (telling g.S.Sink.sink g.T.TellTerminal.wrote) before after) keeping
          (done_keeps_all told new h.heard piece s.came h.written (into (telling g.S.Sink.sink g.T.TellTerminal.wrote) before after) keeping (is_done told c.if-eq.ensures)
          (feed_keeps_then g.S.Sink.sink g.T.TellTerminal.wrote g.met.T.TellTerminal.puts g.met.T.TellTerminal.joins before out after tells.nothing new h.heard piece s.came h.written keeping (Ok told)
          (c.in_ok-end.ensures.kept h.heard h.written s.came h.stands (stand_back q old.query limits old.limits h.query h.limits_are h.heard s.came s.stand)))));
    }

-- ---- what out was told

pub returns-in_err-size-clause-told : goal.returns-in_err-size-clause-told
returns-in_err-size-clause-told g c known =
    let p = err_from_is_err_and c.from_residual.result c.from_residual.ensures.1 in
    let h = c.loop-size.invariant.heard in
    let q = c.args.client.now.query in
    let limits = c.args.client.now.limits in
    let spoke = subst (λ (l : List ℕ). Spoke (link_step g.L.Link.link g.L.Source.source c.args.link.now c.take.new.self) l []) (append-nil h.heard)
    (spoke_took g.L.Link.link g.L.Source.source g.met.L.Link.hears (telling g.S.Sink.sink g.T.TellTerminal.wrote) g.met.T.TellTerminal.joins c.args.link.now c.loop-size.link c.take.new.self h.heard [] h.spoke
    c.in_err-size.ensures.err_untaken.moved) in
    rw (p.1, p.2)
    (record {
      heard = h.heard;
      is_heard = spoke.heard_is;
      tells = client_tells q limits c.loop-size.client h.query h.limits_are h.heard c.loop-size.invariant.tells (g.T.TellTerminal.knows c.loop-size.out) (c.loop-size.invariant.told known) _
          (λ e. absurd (let no : ⊥ = cc e in no));
    })

pub returns-then-size-eq0-clause-told : goal.returns-then-size-eq0-clause-told
returns-then-size-eq0-clause-told g c known =
    let h = c.loop-size.invariant.heard in
    let s = c.loop-size.invariant.keeps in
    let old = c.loop-size.client in
    let q = c.args.client.now.query in
    let limits = c.args.client.now.limits in
    let piece = take c.in_ok-size.size c.take.new.buf in
    let before = c.loop-size.out in
    let out = c.end.new.out in
    let none : piece ≡ [] = ap (λ (n : ℕ). take n c.take.new.buf) c.if-size-eq0.true in
    let ended = c.end.new.self in
    let knows = knows_ended g.S.Sink.sink g.T.TellTerminal.knows g.met.T.TellTerminal.stays before out (terminal_of old) (c.loop-size.invariant.told known) old.query old.limits h.heard h.written c.end.result
    (c.end.ensures.ends h.heard h.written h.stands) in
    record {
      heard = h.heard ++ piece;
      is_heard = (spoke_took g.L.Link.link g.L.Source.source g.met.L.Link.hears (telling g.S.Sink.sink g.T.TellTerminal.wrote) g.met.T.TellTerminal.joins c.args.link.now c.loop-size.link c.take.new.self h.heard piece h.spoke
          c.in_ok-size.ensures.took.moved).heard_is;
      tells = client_tells q limits ended (c.end.ensures.query ∙ h.query) (c.end.ensures.limits ∙ h.limits_are) (h.heard ++ piece)
          (subst (λ (l : List ℕ). Tells ended l) (sym (ap (λ (l : List ℕ). h.heard ++ l) none ∙ append-nil h.heard)) (c.end.ensures.tells h.heard h.written h.stands c.loop-size.invariant.tells))
          (g.T.TellTerminal.knows out) (subst (g.T.TellTerminal.knows out) (sym c.end.ensures.told) knows) c.end.result (λ e. (c.end.ensures.whole e).1);
    }

pub returns-in_err-end-clause-told : goal.returns-in_err-end-clause-told
returns-in_err-end-clause-told g c known =
    let h = c.loop-size.invariant.heard in
    let s = c.loop-size.invariant.keeps in
    let old = c.loop-size.client in
    let new = c.feed_keep-end.new.self in
    let q = c.args.client.now.query in
    let limits = c.args.client.now.limits in
    let piece = take c.in_ok-size.size c.take.new.buf in
    let before = c.loop-size.out in
    let out = c.feed_keep-end.new.out in
    let after = c.match-terminal.out in
    let tells = may_tell g (goal.at.returns-in_err-end-clause-told g c).After-branch-end in
    let p = err_from_is_err_and c.from_residual-in_err-end.result c.from_residual-in_err-end.ensures.1 in
    let fault = c.in_err-end.field-0.0 in
    let knows = tells.known (terminal_of old) c.feed_keep-end.ensures.told
    (knows_fed g.S.Sink.sink g.T.TellTerminal.knows g.met.T.TellTerminal.stays before out (terminal_of old) (c.loop-size.invariant.told known) new h.heard piece h.written (Err fault)
    (c.in_err-end.ensures.ends h.heard h.written h.stands)) in
    rw (p.1, p.2)
    (record {
      heard = h.heard ++ piece;
      is_heard = (spoke_took g.L.Link.link g.L.Source.source g.met.L.Link.hears (telling g.S.Sink.sink g.T.TellTerminal.wrote) g.met.T.TellTerminal.joins c.args.link.now c.loop-size.link c.take.new.self h.heard piece h.spoke
          c.in_ok-size.ensures.took.moved).heard_is;
      tells = client_tells q limits new (c.feed_keep-end.ensures.query ∙ h.query) (c.feed_keep-end.ensures.limits ∙ h.limits_are) (h.heard ++ piece)
          (c.feed_keep-end.ensures.tells h.heard h.written h.stands c.loop-size.invariant.tells) (g.T.TellTerminal.knows after) knows (Err fault) (λ e. absurd (let no : ⊥ = cc e in no));
    })

pub returns-then-eq-clause-told : goal.returns-then-eq-clause-told
returns-then-eq-clause-told g c known =
    let h = c.loop-size.invariant.heard in
    let s = c.loop-size.invariant.keeps in
    let old = c.loop-size.client in
    let new = c.feed_keep-end.new.self in
    let q = c.args.client.now.query in
    let limits = c.args.client.now.limits in
    let piece = take c.in_ok-size.size c.take.new.buf in
    let before = c.loop-size.out in
    let out = c.feed_keep-end.new.out in
    let after = c.match-terminal.out in
    let tells = may_tell g (goal.at.returns-then-eq-clause-told g c).After-branch-end in
    let told = c.in_ok-end.field-0 in
    let knows = tells.known (terminal_of old) c.feed_keep-end.ensures.told
    (knows_fed g.S.Sink.sink g.T.TellTerminal.knows g.met.T.TellTerminal.stays before out (terminal_of old) (c.loop-size.invariant.told known) new h.heard piece h.written (Ok told)
    (c.in_ok-end.ensures.ends h.heard h.written h.stands)) in
    record {
      heard = h.heard ++ piece;
      is_heard = (spoke_took g.L.Link.link g.L.Source.source g.met.L.Link.hears (telling g.S.Sink.sink g.T.TellTerminal.wrote) g.met.T.TellTerminal.joins c.args.link.now c.loop-size.link c.take.new.self h.heard piece h.spoke
          c.in_ok-size.ensures.took.moved).heard_is;
      tells = client_tells q limits new (c.feed_keep-end.ensures.query ∙ h.query) (c.feed_keep-end.ensures.limits ∙ h.limits_are) (h.heard ++ piece)
          (c.feed_keep-end.ensures.tells h.heard h.written h.stands c.loop-size.invariant.tells) (g.T.TellTerminal.knows after) knows (Ok tt)
          (λ e. done_stage told new h.heard piece h.written (into g.S.Sink.sink before out) (is_done told c.if-eq.ensures) (c.in_ok-end.ensures.ends h.heard h.written h.stands));
    }
