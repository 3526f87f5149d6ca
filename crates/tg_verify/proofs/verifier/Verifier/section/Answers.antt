use Rattle.std.proofs.Common.{[], Err, IfErr, List, MatchResult, None, Option, Some, ap, append_assoc, subst, sym, ℕ, ◌++◌, ◌∙◌, ◌∷◌, ◌≡◌}
use Rattle.std.proofs.lemmas.Result.{err_from_is_err_and}
use Rattle.std.specs.Prelude.{Result, ⊤}
use Rattle.tg_model.specs.Dag.{Section}
use Rattle.tg_model.specs.Fits.{Fits, IsInProgress}
use Rattle.tg_streams.specs.Streams.{into}
use Rattle.tg_verify.proofs.Naming.{name_written}
use Rattle.tg_verify.specs.History.{HasWritten, StandsFor}
use Rattle.tg_verify.specs.Laws.{IsOwnFault, IsWithinLimits}
use Rattle.tg_verify.specs.Refusals.{HasRefused}
use Rattle.tg_verify.specs.State.{VerifierState}
use Rattle.tg_verify.specs.Steps.{section_with}
use Rattle.tg_verify.specs.declared.fault.Refusal.{Refusal}
use Rattle.tg_verify.proofs.Sections.{is_going}
use Rattle.tg_verify.proofs.Taking.{going_led}
use Rattle.tg_verify.proofs.Told.{any_told}
use Rattle.tg_verify.specs.Terminals.{IsTerminalTold}
use Rattle.tg_verify.proofs.verifier.Verifier.section.Goals as goal

-- what the refusal says, where the CID doesn't name the block
its_refusal : (g : _) (c : goal.After-drop-block-inside-in_err-named g) (sections : List Section) (written : List ℕ) → c.args.self.now.refused ≡ None
    → StandsFor c.args.self.now sections written
    → HasRefused c.args.self.now.left.query c.args.self.now.limits (sections ++ section_with c.args.cid c.args.block ∷ []) written c.in_err-named.field-0.0
its_refusal g c sections written none h =
    subst (λ (block : List ℕ). HasRefused c.args.self.now.left.query c.args.self.now.limits (sections ++ section_with c.args.cid block ∷ []) written c.in_err-named.field-0.0)
    c.as_slice-2.ensures
    (subst
    (λ (r : Result ⊤ Refusal). IfErr r (HasRefused c.args.self.now.left.query c.args.self.now.limits (sections ++ section_with c.args.cid c.as_slice-2.result.now ∷ []) written))
    c.in_err-named.was (c.named-named.ensures.refused sections written none h))

pub returns-in_err-named-clause-stands : goal.returns-in_err-named-clause-stands
returns-in_err-named-clause-stands g c sections written none h =
    let p = err_from_is_err_and c.from_residual.result c.from_residual.ensures.1 in
    let fault = c.in_err-named.field-0.0 in
    let all = sections ++ section_with c.args.cid c.args.block ∷ [] in
    let out = into g.S.Sink.sink c.args.out.now c.args.out.now in
    let kept : c.refusal_of-self-inside.result ≡ Some fault =
    subst (λ (r : Result ⊤ Refusal). MatchResult r (λ _. c.refusal_of-self-inside.result ≡ None) (λ fault. c.refusal_of-self-inside.result ≡ Some fault)) c.in_err-named.was
    c.refusal_of-self-inside.ensures in
    rw (p.1, p.2)
    (subst (λ (v : VerifierState). HasWritten (record v { refused = c.refusal_of-self-inside.result }) all written out (Err fault)) (sym c.self.view_is)
    (subst (λ (r : Option Refusal). HasWritten (record c.args.self.now { refused = r }) all written out (Err fault)) (sym kept)
    (name_written g.S.Sink.sink c.args.out.now (g.met.S.Sink.rests c.args.out.now) c.verified_answers.ensures c.args.self.now all written fault (its_refusal g c sections written none h))))

pub returns-in_err-named-clause-fitting : goal.returns-in_err-named-clause-fitting
returns-in_err-named-clause-fitting g c d sections rest written text none h fits within =
    let p = err_from_is_err_and c.from_residual.result c.from_residual.ensures.1 in
    let section = section_with c.args.cid c.args.block in
    let q = c.args.self.now.left.query in
    rw (p.1, p.2)
    (c.verified_answers.ensures.fit_taken q c.args.self.now.limits d (sections ++ section ∷ []) rest written text c.in_err-named.field-0.0
    (subst (λ (all : List Section). Fits d q all text) (sym (append_assoc sections (section ∷ []) rest)) fits) within (its_refusal g c sections written none h))

pub returns-in_err-named-clause-in_progress : goal.returns-in_err-named-clause-in_progress
returns-in_err-named-clause-in_progress g c d sections rest written wanted none h progress within =
    let p = err_from_is_err_and c.from_residual.result c.from_residual.ensures.1 in
    let section = section_with c.args.cid c.args.block in
    let q = c.args.self.now.left.query in
    rw (p.1, p.2)
    (c.verified_answers.ensures.progress_taken q c.args.self.now.limits d (sections ++ section ∷ []) rest written wanted c.in_err-named.field-0.0
    (subst (λ (all : List Section). IsInProgress d q all wanted) (sym (append_assoc sections (section ∷ []) rest)) progress) within (its_refusal g c sections written none h))

pub returns-clause-fitting : goal.returns-clause-fitting
returns-clause-fitting g c d sections rest written text none h fits within =
    let kept : c.refusal_of-self-inside.result ≡ None =
    subst (λ (r : Result ⊤ Refusal). MatchResult r (λ _. c.refusal_of-self-inside.result ≡ None) (λ fault. c.refusal_of-self-inside.result ≡ Some fault)) c.in_ok-named.was
    c.refusal_of-self-inside.ensures in
    subst
    (λ (v : VerifierState). (record v { refused = c.refusal_of-self-inside.result } ≡ c.args.self.now) → IfErr c.section_named.result IsOwnFault) c.self.view_is
    (λ same. subst
    (λ (v : VerifierState). v.refused ≡ None → StandsFor v sections written → Fits d v.left.query (sections ++ section_with c.args.cid c.args.block ∷ rest) text
    → IsWithinLimits v.left.query v.limits d → IfErr c.section_named.result IsOwnFault)
    same (c.section_named.ensures.fitting d sections rest written text) none h fits within)
    (ap (λ (r : Option Refusal). record c.args.self.now { refused = r }) (kept ∙ sym none))

pub returns-in_err-named-clause-terminal : goal.returns-in_err-named-clause-terminal
returns-in_err-named-clause-terminal g c sections written none h =
    let all = sections ++ section_with c.args.cid c.args.block ∷ [] in
    subst (λ (v : VerifierState). IsTerminalTold v.left.query all v.terminal) (sym c.self.view_is)
    (any_told c.told_terminals.ensures c.args.self.now.left.query all c.args.self.now.terminal
    (going_led c.args.self.now sections (section_with c.args.cid c.args.block ∷ []) written (is_going c.args.self.now sections written none h)))
