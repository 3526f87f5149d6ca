use Rattle.std.proofs.Common.{ap, arith, ℕ, ◌<◌, ◌∙◌, ◌≡◌}
use Rattle.std.proofs.lemmas.List.Elements.{All-from_get_or}
use Rattle.std.proofs.lemmas.Result.{err_from_is_err_and}
use Rattle.tg_bundles.specs.Records.{path_text}
use Rattle.tg_extract.proofs.Paths.{not_empty, path_good, path_read, path_refused, same_path}
use Rattle.tg_extract.proofs.lines.path_in.Goals as goal
use Rattle.tg_extract.specs.Faults.{of_query}

pub is_shown-requires : goal.is_shown-requires
is_shown-requires c =
    let read = path_read c.paths_read.ensures.path c.args.text.now c.in_ok-path.path c.in_ok-path.ensures in
    rw c.as_slice.ensures (not_empty c.in_ok-path.path read.good)

pub returns-in_err-path-clause-bad : goal.returns-in_err-path-clause-bad
returns-in_err-path-clause-bad c = λ bad path good whole.
    let p = err_from_is_err_and c.from_residual.result c.from_residual.ensures.1 in
    let memory = path_refused c.decoded.ensures.plain c.paths_read.ensures.path c.args.text.now path c.in_err-path.field-0.0 good whole c.in_err-path.ensures in
    let from : p.0 ≡ of_query c.in_err-path.field-0.0 = p.2 in
    let is = from ∙ ap of_query memory in
    let was = p.1 in
    absurd cc

pub returns-then-not-whole-clause-bad : goal.returns-then-not-whole-clause-bad
returns-then-not-whole-clause-bad c = λ bad path good whole.
    let same = same_path c.decoded.ensures.plain c.paths_read.ensures.path c.args.text.now c.in_ok-path.path path good whole c.in_ok-path.ensures in
    let is = c.in_ok-whole.ensures.1 (ap path_text (c.as_slice.ensures ∙ same) ∙ whole) in
    let not = c.if-not-whole.true in
    absurd cc

pub returns-clause-good : goal.returns-clause-good
returns-clause-good c =
    let are = All-from_get_or (λ (b : ℕ). b < 256) c.args.text.now 0 (λ i within. omega (arith, c.type_inv.text i)) in
    path_good c.args.text.now c.in_ok-path.path are
    (path_read c.paths_read.ensures.path c.args.text.now c.in_ok-path.path c.in_ok-path.ensures)
