use Rattle.std.proofs.Common.{[], List, append_assoc, subst, sym, ◌++◌, ◌∷◌}
use Rattle.tg_model.specs.Dag.{Section}
use Rattle.tg_model.specs.Fits.{Fits, IsInProgress}
use Rattle.tg_streams.specs.Streams.{into}
use Rattle.tg_verify.proofs.Sections.{is_going, own_fault, written_of}
use Rattle.tg_verify.specs.History.{HasWritten}
use Rattle.tg_verify.specs.State.{VerifierState}
use Rattle.tg_verify.specs.Steps.{section_with}
use Rattle.tg_verify.proofs.Told.{any_told, told_then}
use Rattle.tg_verify.specs.Terminals.{IsTerminalTold, IsToldThen}
use Rattle.tg_verify.proofs.verifier.Verifier.section_named.Goals as goal

pub returns-clause-stands : goal.returns-clause-stands
returns-clause-stands g c sections written none h =
    let all = sections ++ section_with c.args.cid c.args.block ∷ [] in
    let out = into g.S.Sink.sink c.args.out.now c.take-end.new.out in
    subst (λ (v : VerifierState). HasWritten (record v { refused = c.refusal_of-self-inside.result }) all written out c.take-end.result) (sym c.self-2.view_is)
    (written_of c.verified_answers.ensures c.take-end.new.self c.refusal_of-self-inside.result all written out c.take-end.result c.refusal_of-self-inside.ensures c.take-end.ensures.progress
    (c.take-end.ensures.stands sections written (is_going c.args.self.now sections written none h)))

pub returns-clause-fitting : goal.returns-clause-fitting
returns-clause-fitting g c d sections rest written text none h fits within =
    let section = section_with c.args.cid c.args.block in
    let q = c.args.self.now.left.query in
    own_fault q c.args.self.now.limits c.take-end.new.self (sections ++ section ∷ []) written (into g.S.Sink.sink c.args.out.now c.take-end.new.out) c.take-end.result
    c.take-end.ensures.same.query c.take-end.ensures.same.limits (c.take-end.ensures.stands sections written (is_going c.args.self.now sections written none h))
    (λ put fault refused. c.verified_answers.ensures.fit_taken q c.args.self.now.limits d (sections ++ section ∷ []) rest put text fault
    (subst (λ (all : List Section). Fits d q all text) (sym (append_assoc sections (section ∷ []) rest)) fits) within refused)

pub returns-clause-in_progress : goal.returns-clause-in_progress
returns-clause-in_progress g c d sections rest written wanted none h progress within =
    let section = section_with c.args.cid c.args.block in
    let q = c.args.self.now.left.query in
    own_fault q c.args.self.now.limits c.take-end.new.self (sections ++ section ∷ []) written (into g.S.Sink.sink c.args.out.now c.take-end.new.out) c.take-end.result
    c.take-end.ensures.same.query c.take-end.ensures.same.limits (c.take-end.ensures.stands sections written (is_going c.args.self.now sections written none h))
    (λ put fault refused. c.verified_answers.ensures.progress_taken q c.args.self.now.limits d (sections ++ section ∷ []) rest put wanted fault
    (subst (λ (all : List Section). IsInProgress d q all wanted) (sym (append_assoc sections (section ∷ []) rest)) progress) within refused)

pub returns-clause-terminal : goal.returns-clause-terminal
returns-clause-terminal g c sections written none h =
    let all = sections ++ section_with c.args.cid c.args.block ∷ [] in
    subst (λ (v : VerifierState). IsTerminalTold v.left.query all v.terminal) (sym c.self-2.view_is)
    (any_told c.told_terminals.ensures c.take-end.new.self.left.query all c.take-end.new.self.terminal
    (c.take-end.ensures.terminal sections written (is_going c.args.self.now sections written none h)))

pub returns-clause-reached : goal.returns-clause-reached
returns-clause-reached g c sections written none h =
    let all = sections ++ section_with c.args.cid c.args.block ∷ [] in
    let taken = c.take-end.ensures.stands sections written (is_going c.args.self.now sections written none h) in
    subst (λ (v : VerifierState). IsToldThen v.left.query v.terminal c.take-end.result) (sym c.self-2.view_is)
    (told_then c.take-end.new.self all (written ++ taken.text) c.take-end.result taken.stands c.take-end.ensures.progress)
