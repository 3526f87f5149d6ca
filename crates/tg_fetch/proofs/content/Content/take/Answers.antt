use Rattle.std.proofs.Common.{◌≡◌, ℕ, List, ◌++◌, take, drop, false, None, Option, refl, sym, subst, ◌∙◌}
use Rattle.std.specs.Prelude.{slice_range}
use Rattle.std.proofs.Math.Seq.{take-length}
use Rattle.std.proofs.lemmas.List.{take-append-drop}
use Rattle.std.proofs.lemmas.Result.{err_from_is_err_and}
use Rattle.tg_body.specs.History.{HasFeedCause}
use Rattle.tg_body.specs.State.{StandsFor}
use Rattle.tg_body.specs.declared.body.Body.TheVariants as bodies
use Rattle.tg_http.specs.declared.framing.Framing.{Framing}
use Rattle.tg_fetch.proofs.Telling.{so_behind, so_content, so_more, so_part}
use Rattle.tg_fetch.specs.Telling.{IsTerminalReceived, terminal_in}
use Rattle.tg_model.specs.Stores.{kept_in}
use Rattle.tg_streams.specs.Streams.{into}
use Rattle.tg_verify.specs.declared.terminal.Terminal.{Terminal}
use Rattle.tg_fetch.proofs.Contents.{answered, closed_by, failed, framing_refused, goes_on, is_short, no_end, part_refused, takes_nothing, text_by, told_as}
use Rattle.tg_fetch.proofs.Feeding.{front_few}
use Rattle.tg_fetch.proofs.KeptReplies.{content_stands, framing_keeps, goes_on_nothing, part_keeps, taken_here, whole_answered, whole_refused}
use Rattle.tg_fetch.proofs.KeptSections.{none_kept}
use Rattle.tg_fetch.proofs.content.Content.take.Goals as goal

pub returns-in_err-taken-clause-takes : goal.returns-in_err-taken-clause-takes
returns-in_err-taken-clause-takes g c q limits heard written h few =
    let p = err_from_is_err_and c.from_residual.result c.from_residual.ensures.1 in
    let stopped = c.in_err-taken.ensures.stands _ h.reads in
    let fault = c.in_err-taken.field-0.0 in
    let cause : HasFeedCause h.head.framing h.rest h.given c.args.bytes.now fault =
    subst (λ (f : Framing). HasFeedCause f h.rest h.given c.args.bytes.now fault) (c.in_err-taken.ensures.framing ∙ h.framing) stopped.exact.stopped.1 in
    rw (p.1, p.2)
    (framing_refused q limits c.args.self.now heard written h c.standing_bodies.ensures _ g.S.Sink.sink c.args.out.now (g.met.S.Sink.rests c.args.out.now) c.args.bytes.now fault few cause)

pub returns-in_err-take-in-Part-clause-takes : goal.returns-in_err-take-in-Part-clause-takes
returns-in_err-take-in-Part-clause-takes g c q limits heard written h few =
    let p = err_from_is_err_and c.from_residual-in_err-take-in-Part.result c.from_residual-in_err-take-in-Part.ensures.1 in
    let piece : List ℕ = c.args.bytes.now in
    let part : List ℕ = slice_range piece c.in-Part.start c.in-Part.end in
    let reads = told_as q limits c.args.self.now heard written h c.feed.new.self piece c.in_ok-taken.taken c.in_ok-taken.told
    (bodies.Part c.in-Part.start c.in-Part.end) c.in-Part.is (c.in_ok-taken.ensures.stands _ h.reads) in
    rw (p.1, p.2)
    (part_refused q limits c.args.self.now heard written h c.heads_go_on.ensures c.feed.new.self (h.given ++ part) (take c.in_ok-taken.taken piece) (drop c.in_ok-taken.taken piece) piece
    (into g.S.Sink.sink c.args.out.now c.take.new.out) c.in_err-take-in-Part.field-0.0 (sym (take-append-drop c.in_ok-taken.taken piece))
    (front_few heard piece c.in_ok-taken.taken limits.received few) c.in_ok-taken.ensures.framing reads
    (c.in_err-take-in-Part.ensures.takes q limits h.head h.given written h.taking))

pub returns-in_err-end-in-End-clause-takes : goal.returns-in_err-end-in-End-clause-takes
returns-in_err-end-in-End-clause-takes g c q limits heard written h few =
    let p = err_from_is_err_and c.from_residual-in_err-end-in-End.result c.from_residual-in_err-end-in-End.ensures.1 in
    let piece : List ℕ = c.args.bytes.now in
    let front : List ℕ = take c.in_ok-taken.taken piece in
    let reads = told_as q limits c.args.self.now heard written h c.feed.new.self piece c.in_ok-taken.taken c.in_ok-taken.told
    bodies.End c.in-End.is (c.in_ok-taken.ensures.stands _ h.reads) in
    let text = text_by q limits c.args.self.now heard written h c.feed.new.self h.given (h.rest ++ front) c.in_ok-taken.ensures.framing reads in
    rw (p.1, p.2)
    (failed q limits heard front (drop c.in_ok-taken.taken piece) piece (h.rest ++ front) h.given written h.head (into g.S.Sink.sink c.args.out.now c.end.new.out) false
    c.in_err-end-in-End.field-0.0 (sym (take-append-drop c.in_ok-taken.taken piece)) (front_few heard piece c.in_ok-taken.taken limits.received few) (c.heads_go_on.ensures.final_stays heard front h.rest h.head h.final) text
    (closed_by q limits c.args.self.now heard written h c.feed.new.self h.given (h.rest ++ front) false c.in_ok-taken.ensures.framing reads)
    (c.in_err-end-in-End.ensures.ends q limits h.head h.given written h.taking))

pub returns-in-Need-clause-takes : goal.returns-in-Need-clause-takes
returns-in-Need-clause-takes g c q limits heard written h few =
    let piece : List ℕ = c.args.bytes.now in
    let reads = told_as q limits c.args.self.now heard written h c.feed.new.self piece c.in_ok-taken.taken c.in_ok-taken.told
    bodies.Need c.in-Need.is (c.in_ok-taken.ensures.stands _ h.reads) in
    goes_on q limits c.args.self.now heard written h c.heads_go_on.ensures c.feed.new.self c.args.self.now.sections h.given (take c.in_ok-taken.taken piece)
    (into g.S.Sink.sink c.args.out.now c.args.out.now) c.in_ok-taken.ensures.framing reads
    (takes_nothing _ g.S.Sink.sink c.args.out.now (g.met.S.Sink.rests c.args.out.now) q limits h.head c.args.self.now.sections h.given written h.taking)

pub returns-in-Need-clause-short : goal.returns-in-Need-clause-short
returns-in-Need-clause-short g c q limits heard written h e =
    let piece : List ℕ = c.args.bytes.now in
    let all : take c.in_ok-taken.taken piece ≡ piece = rw (c.in_ok-taken.ensures.need c.in-Need.is) (take-length piece) in
    let reads = told_as q limits c.args.self.now heard written h c.feed.new.self piece c.in_ok-taken.taken c.in_ok-taken.told
    bodies.Need c.in-Need.is (c.in_ok-taken.ensures.stands _ h.reads) in
    is_short q limits c.args.self.now heard written h c.heard_is_one.ensures.head c.feed.new.self c.args.self.now.sections piece c.in_ok-taken.ensures.framing
    (subst (λ (l : List ℕ). StandsFor c.feed.new.self (record { fed = h.rest ++ l; given = h.given; ended = false; stop = None })) all reads)
    (λ text until. no_end c.in_ok-taken.taken c.in_ok-taken.told c.in-Need.is (c.in_ok-taken.ensures.whole _ h.reads refl text until))

pub returns-in_ok-take-in-Part-clause-takes : goal.returns-in_ok-take-in-Part-clause-takes
returns-in_ok-take-in-Part-clause-takes g c q limits heard written h few =
    let piece : List ℕ = c.args.bytes.now in
    let part : List ℕ = slice_range piece c.in-Part.start c.in-Part.end in
    let reads = told_as q limits c.args.self.now heard written h c.feed.new.self piece c.in_ok-taken.taken c.in_ok-taken.told
    (bodies.Part c.in-Part.start c.in-Part.end) c.in-Part.is (c.in_ok-taken.ensures.stands _ h.reads) in
    goes_on q limits c.args.self.now heard written h c.heads_go_on.ensures c.feed.new.self c.take.new.self (h.given ++ part) (take c.in_ok-taken.taken piece)
    (into g.S.Sink.sink c.args.out.now c.take.new.out) c.in_ok-taken.ensures.framing reads
    (c.in_ok-take-in-Part.ensures.takes q limits h.head h.given written h.taking)

pub returns-in_ok-end-in-End-clause-takes : goal.returns-in_ok-end-in-End-clause-takes
returns-in_ok-end-in-End-clause-takes g c q limits heard written h few =
    let piece : List ℕ = c.args.bytes.now in
    let front : List ℕ = take c.in_ok-taken.taken piece in
    let reads = told_as q limits c.args.self.now heard written h c.feed.new.self piece c.in_ok-taken.taken c.in_ok-taken.told
    bodies.End c.in-End.is (c.in_ok-taken.ensures.stands _ h.reads) in
    answered q limits (heard ++ front) (h.rest ++ front) h.given written h.head (into g.S.Sink.sink c.args.out.now c.end.new.out) false
    (c.heads_go_on.ensures.final_stays heard front h.rest h.head h.final)
    (text_by q limits c.args.self.now heard written h c.feed.new.self h.given (h.rest ++ front) c.in_ok-taken.ensures.framing reads)
    (closed_by q limits c.args.self.now heard written h c.feed.new.self h.given (h.rest ++ front) false c.in_ok-taken.ensures.framing reads)
    (c.in_ok-end-in-End.ensures.ends q limits h.head h.given written h.taking)

-- ---- which sections were kept

pub returns-in_err-taken-clause-kept : goal.returns-in_err-taken-clause-kept
returns-in_err-taken-clause-kept g c q limits heard written before h few stand =
    let p = err_from_is_err_and c.from_residual.result c.from_residual.ensures.1 in
    let stopped = c.in_err-taken.ensures.stands _ h.reads in
    let fault = c.in_err-taken.field-0.0 in
    let cause : HasFeedCause h.head.framing h.rest h.given c.args.bytes.now fault =
    subst (λ (f : Framing). HasFeedCause f h.rest h.given c.args.bytes.now fault) (c.in_err-taken.ensures.framing ∙ h.framing) stopped.exact.stopped.1 in
    rw (p.1, p.2)
    (framing_keeps c.heads_go_on.ensures c.bodies_go_on.ensures q limits c.args.self.now heard written h c.standing_bodies.ensures c.received_sections.ensures.one
    _ g.S.Sink.sink c.args.out.now (g.met.S.Sink.rests c.args.out.now) before (kept_in g.K.Keep.keeper c.args.keep.now c.args.keep.now) stand
    (none_kept g.K.Keep.keeper c.args.keep.now (g.met.K.Keep.rests c.args.keep.now)) c.args.bytes.now fault few cause)

pub returns-in_err-take-in-Part-clause-kept : goal.returns-in_err-take-in-Part-clause-kept
returns-in_err-take-in-Part-clause-kept g c q limits heard written before h few stand =
    let p = err_from_is_err_and c.from_residual-in_err-take-in-Part.result c.from_residual-in_err-take-in-Part.ensures.1 in
    let piece : List ℕ = c.args.bytes.now in
    let part : List ℕ = slice_range piece c.in-Part.start c.in-Part.end in
    let reads = told_as q limits c.args.self.now heard written h c.feed.new.self piece c.in_ok-taken.taken c.in_ok-taken.told
    (bodies.Part c.in-Part.start c.in-Part.end) c.in-Part.is (c.in_ok-taken.ensures.stands _ h.reads) in
    rw (p.1, p.2)
    (part_keeps c.heads_go_on.ensures c.bodies_go_on.ensures q limits c.args.self.now heard written h c.feed.new.self (h.given ++ part) (take c.in_ok-taken.taken piece)
    (drop c.in_ok-taken.taken piece) piece before (into g.S.Sink.sink c.args.out.now c.take.new.out) (kept_in g.K.Keep.keeper c.args.keep.now c.take.new.keep)
    c.in_err-take-in-Part.field-0.0 (sym (take-append-drop c.in_ok-taken.taken piece)) (front_few heard piece c.in_ok-taken.taken limits.received few) c.in_ok-taken.ensures.framing reads
    (c.in_err-take-in-Part.ensures.kept q limits h.head h.given written before h.taking
    (taken_here c.heads_go_on.ensures c.bodies_go_on.ensures q limits c.args.self.now heard written h before stand)))

pub returns-in_err-end-in-End-clause-kept : goal.returns-in_err-end-in-End-clause-kept
returns-in_err-end-in-End-clause-kept g c q limits heard written before h few stand =
    let p = err_from_is_err_and c.from_residual-in_err-end-in-End.result c.from_residual-in_err-end-in-End.ensures.1 in
    let piece : List ℕ = c.args.bytes.now in
    let front : List ℕ = take c.in_ok-taken.taken piece in
    let keeping = kept_in g.K.Keep.keeper c.args.keep.now c.args.keep.now in
    let reads = told_as q limits c.args.self.now heard written h c.feed.new.self piece c.in_ok-taken.taken c.in_ok-taken.told
    bodies.End c.in-End.is (c.in_ok-taken.ensures.stands _ h.reads) in
    let text = text_by q limits c.args.self.now heard written h c.feed.new.self h.given (h.rest ++ front) c.in_ok-taken.ensures.framing reads in
    rw (p.1, p.2)
    (whole_refused c.heads_go_on.ensures c.bodies_go_on.ensures q limits c.args.self.now heard written h front (drop c.in_ok-taken.taken piece) piece before
    (into g.S.Sink.sink c.args.out.now c.end.new.out) keeping c.in_err-end-in-End.field-0.0 (sym (take-append-drop c.in_ok-taken.taken piece))
    (front_few heard piece c.in_ok-taken.taken limits.received few) text
    (closed_by q limits c.args.self.now heard written h c.feed.new.self h.given (h.rest ++ front) false c.in_ok-taken.ensures.framing reads)
    (none_kept g.K.Keep.keeper c.args.keep.now (g.met.K.Keep.rests c.args.keep.now))
    (c.in_err-end-in-End.ensures.kept q limits h.head h.given written before h.taking
    (taken_here c.heads_go_on.ensures c.bodies_go_on.ensures q limits c.args.self.now heard written h before stand)))

pub returns-in-Need-clause-kept : goal.returns-in-Need-clause-kept
returns-in-Need-clause-kept g c q limits heard written before h few stand =
    let piece : List ℕ = c.args.bytes.now in
    let reads = told_as q limits c.args.self.now heard written h c.feed.new.self piece c.in_ok-taken.taken c.in_ok-taken.told
    bodies.Need c.in-Need.is (c.in_ok-taken.ensures.stands _ h.reads) in
    content_stands c.heads_go_on.ensures c.bodies_go_on.ensures q limits c.args.self.now heard written h c.feed.new.self c.args.self.now.sections h.given
    (take c.in_ok-taken.taken piece) written before (kept_in g.K.Keep.keeper c.args.keep.now c.args.keep.now) c.in_ok-taken.ensures.framing reads h.taking
    (goes_on_nothing c.args.self.now.sections limits h.given before (kept_in g.K.Keep.keeper c.args.keep.now c.args.keep.now)
    (taken_here c.heads_go_on.ensures c.bodies_go_on.ensures q limits c.args.self.now heard written h before stand)
    (none_kept g.K.Keep.keeper c.args.keep.now (g.met.K.Keep.rests c.args.keep.now)))

pub returns-in_ok-take-in-Part-clause-kept : goal.returns-in_ok-take-in-Part-clause-kept
returns-in_ok-take-in-Part-clause-kept g c q limits heard written before h few stand =
    let piece : List ℕ = c.args.bytes.now in
    let part : List ℕ = slice_range piece c.in-Part.start c.in-Part.end in
    let reads = told_as q limits c.args.self.now heard written h c.feed.new.self piece c.in_ok-taken.taken c.in_ok-taken.told
    (bodies.Part c.in-Part.start c.in-Part.end) c.in-Part.is (c.in_ok-taken.ensures.stands _ h.reads) in
    let t = c.in_ok-take-in-Part.ensures.takes q limits h.head h.given written h.taking in
    content_stands c.heads_go_on.ensures c.bodies_go_on.ensures q limits c.args.self.now heard written h c.feed.new.self c.take.new.self (h.given ++ part)
    (take c.in_ok-taken.taken piece) (written ++ t.text) before (kept_in g.K.Keep.keeper c.args.keep.now c.take.new.keep) c.in_ok-taken.ensures.framing reads t.taking
    (c.in_ok-take-in-Part.ensures.kept q limits h.head h.given written before h.taking
    (taken_here c.heads_go_on.ensures c.bodies_go_on.ensures q limits c.args.self.now heard written h before stand))

pub returns-in_ok-end-in-End-clause-kept : goal.returns-in_ok-end-in-End-clause-kept
returns-in_ok-end-in-End-clause-kept g c q limits heard written before h few stand =
    let piece : List ℕ = c.args.bytes.now in
    let front : List ℕ = take c.in_ok-taken.taken piece in
    let keeping = kept_in g.K.Keep.keeper c.args.keep.now c.args.keep.now in
    let reads = told_as q limits c.args.self.now heard written h c.feed.new.self piece c.in_ok-taken.taken c.in_ok-taken.told
    bodies.End c.in-End.is (c.in_ok-taken.ensures.stands _ h.reads) in
    whole_answered c.heads_go_on.ensures c.bodies_go_on.ensures q limits c.args.self.now heard written h front before (into g.S.Sink.sink c.args.out.now c.end.new.out) keeping
    (text_by q limits c.args.self.now heard written h c.feed.new.self h.given (h.rest ++ front) c.in_ok-taken.ensures.framing reads)
    (closed_by q limits c.args.self.now heard written h c.feed.new.self h.given (h.rest ++ front) false c.in_ok-taken.ensures.framing reads)
    (none_kept g.K.Keep.keeper c.args.keep.now (g.met.K.Keep.rests c.args.keep.now))
    (c.in_ok-end-in-End.ensures.kept q limits h.head h.given written before h.taking
    (taken_here c.heads_go_on.ensures c.bodies_go_on.ensures q limits c.args.self.now heard written h before stand))

-- ---- what the path leads to

pub returns-in_err-taken-clause-terminal : goal.returns-in_err-taken-clause-terminal
returns-in_err-taken-clause-terminal g c q limits heard written h =
    let p = err_from_is_err_and c.from_residual.result c.from_residual.ensures.1 in
    let old = c.args.self.now in
    rw p.1 (so_more q limits heard c.args.bytes.now (terminal_in old.sections) (so_content c.told_bodies.ensures q limits old heard written h))

pub returns-in-Need-clause-terminal : goal.returns-in-Need-clause-terminal
returns-in-Need-clause-terminal g c q limits heard written h =
    let old = c.args.self.now in
    so_more q limits heard (take c.in_ok-taken.taken c.args.bytes.now) (terminal_in old.sections) (so_content c.told_bodies.ensures q limits old heard written h)

pub returns-in_ok-take-in-Part-clause-terminal : goal.returns-in_ok-take-in-Part-clause-terminal
returns-in_ok-take-in-Part-clause-terminal g c q limits heard written h =
    let old = c.args.self.now in
    let piece : List ℕ = c.args.bytes.now in
    let part : List ℕ = slice_range piece c.in-Part.start c.in-Part.end in
    let reads = told_as q limits old heard written h c.feed.new.self piece c.in_ok-taken.taken c.in_ok-taken.told
    (bodies.Part c.in-Part.start c.in-Part.end) c.in-Part.is (c.in_ok-taken.ensures.stands _ h.reads) in
    so_part c.heads_go_on.ensures q limits old heard written h c.feed.new.self (h.given ++ part) (take c.in_ok-taken.taken piece) (terminal_in c.take.new.self)
    c.in_ok-taken.ensures.framing reads (c.take.ensures.terminal q limits h.head h.given written h.taking)

pub returns-in_err-take-in-Part-clause-terminal : goal.returns-in_err-take-in-Part-clause-terminal
returns-in_err-take-in-Part-clause-terminal g c q limits heard written h =
    let p = err_from_is_err_and c.from_residual-in_err-take-in-Part.result c.from_residual-in_err-take-in-Part.ensures.1 in
    let old = c.args.self.now in
    let piece : List ℕ = c.args.bytes.now in
    let part : List ℕ = slice_range piece c.in-Part.start c.in-Part.end in
    let reads = told_as q limits old heard written h c.feed.new.self piece c.in_ok-taken.taken c.in_ok-taken.told
    (bodies.Part c.in-Part.start c.in-Part.end) c.in-Part.is (c.in_ok-taken.ensures.stands _ h.reads) in
    rw p.1
    (so_behind q limits heard piece c.in_ok-taken.taken (terminal_in c.take.new.self)
    (so_part c.heads_go_on.ensures q limits old heard written h c.feed.new.self (h.given ++ part) (take c.in_ok-taken.taken piece) (terminal_in c.take.new.self)
    c.in_ok-taken.ensures.framing reads (c.take.ensures.terminal q limits h.head h.given written h.taking)))

pub returns-in_ok-end-in-End-clause-terminal : goal.returns-in_ok-end-in-End-clause-terminal
returns-in_ok-end-in-End-clause-terminal g c q limits heard written h =
    let old = c.args.self.now in
    let front = take c.in_ok-taken.taken c.args.bytes.now in
    subst (λ (t : Option Terminal). IsTerminalReceived q limits (heard ++ front) t) (sym c.end.ensures.terminal)
    (so_more q limits heard front (terminal_in old.sections) (so_content c.told_bodies.ensures q limits old heard written h))

pub returns-in_err-end-in-End-clause-terminal : goal.returns-in_err-end-in-End-clause-terminal
returns-in_err-end-in-End-clause-terminal g c q limits heard written h =
    let p = err_from_is_err_and c.from_residual-in_err-end-in-End.result c.from_residual-in_err-end-in-End.ensures.1 in
    let old = c.args.self.now in
    rw p.1
    (subst (λ (t : Option Terminal). IsTerminalReceived q limits (heard ++ c.args.bytes.now) t) (sym c.end.ensures.terminal)
    (so_more q limits heard c.args.bytes.now (terminal_in old.sections) (so_content c.told_bodies.ensures q limits old heard written h)))
