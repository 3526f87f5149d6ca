use Rattle.std.proofs.Common.{[], subst, sym}
use Rattle.tg_streams.specs.Streams.{into}
use Rattle.tg_verify.proofs.Sections.{own_fault, written_of}
use Rattle.tg_verify.proofs.Started.{starts}
use Rattle.tg_verify.proofs.Turns.{gone_taken}
use Rattle.tg_verify.specs.History.{HasWritten}
use Rattle.tg_verify.specs.State.{VerifierState}
use Rattle.tg_verify.proofs.Told.{any_told, told_then}
use Rattle.tg_verify.specs.Terminals.{IsTerminalTold, IsToldThen}
use Rattle.tg_verify.proofs.verifier.Verifier.start.Goals as goal

pub returns-clause-stands : goal.returns-clause-stands
returns-clause-stands g c fresh =
    let out = into g.S.Sink.sink c.args.out.now c.go_on-end.new.out in
    let taken = gone_taken c.verified_sections.ensures c.go_on-end.new.self [] [] out c.go_on-end.result
    (c.go_on-end.ensures.stands [] [] (starts c.verified_sections.ensures c.args.self.now fresh)) in
    subst (λ (v : VerifierState). HasWritten (record v { refused = c.refusal_of-self-inside.result }) [] [] out c.go_on-end.result) (sym c.self-2.view_is)
    (written_of c.verified_answers.ensures c.go_on-end.new.self c.refusal_of-self-inside.result [] [] out c.go_on-end.result c.refusal_of-self-inside.ensures c.go_on-end.ensures.progress taken)

pub returns-clause-fitting : goal.returns-clause-fitting
returns-clause-fitting g c d sections text fresh fits within =
    let out = into g.S.Sink.sink c.args.out.now c.go_on-end.new.out in
    own_fault c.args.self.now.left.query c.args.self.now.limits c.go_on-end.new.self [] [] out c.go_on-end.result c.go_on-end.ensures.same.query c.go_on-end.ensures.same.limits
    (gone_taken c.verified_sections.ensures c.go_on-end.new.self [] [] out c.go_on-end.result (c.go_on-end.ensures.stands [] [] (starts c.verified_sections.ensures c.args.self.now fresh)))
    (λ put fault refused. c.verified_answers.ensures.fit_taken c.args.self.now.left.query c.args.self.now.limits d [] sections put text fault fits within refused)

pub returns-clause-in_progress : goal.returns-clause-in_progress
returns-clause-in_progress g c d sections wanted fresh progress within =
    let out = into g.S.Sink.sink c.args.out.now c.go_on-end.new.out in
    own_fault c.args.self.now.left.query c.args.self.now.limits c.go_on-end.new.self [] [] out c.go_on-end.result c.go_on-end.ensures.same.query c.go_on-end.ensures.same.limits
    (gone_taken c.verified_sections.ensures c.go_on-end.new.self [] [] out c.go_on-end.result (c.go_on-end.ensures.stands [] [] (starts c.verified_sections.ensures c.args.self.now fresh)))
    (λ put fault refused. c.verified_answers.ensures.progress_taken c.args.self.now.left.query c.args.self.now.limits d [] sections put wanted fault progress within refused)

pub returns-clause-terminal : goal.returns-clause-terminal
returns-clause-terminal g c fresh =
    subst (λ (v : VerifierState). IsTerminalTold v.left.query [] v.terminal) (sym c.self-2.view_is)
    (any_told c.told_terminals.ensures c.go_on-end.new.self.left.query [] c.go_on-end.new.self.terminal
    (c.go_on-end.ensures.terminal [] [] (starts c.verified_sections.ensures c.args.self.now fresh)))

pub returns-clause-reached : goal.returns-clause-reached
returns-clause-reached g c fresh =
    let out = into g.S.Sink.sink c.args.out.now c.go_on-end.new.out in
    let taken = gone_taken c.verified_sections.ensures c.go_on-end.new.self [] [] out c.go_on-end.result
    (c.go_on-end.ensures.stands [] [] (starts c.verified_sections.ensures c.args.self.now fresh)) in
    subst (λ (v : VerifierState). IsToldThen v.left.query v.terminal c.go_on-end.result) (sym c.self-2.view_is)
    (told_then c.go_on-end.new.self [] taken.text c.go_on-end.result taken.stands c.go_on-end.ensures.progress)
