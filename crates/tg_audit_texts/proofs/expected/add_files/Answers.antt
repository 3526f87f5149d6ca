use Rattle.std.proofs.Common.{List, ap, arith, codes, length, subst, take, ℕ, ◌++◌, ◌<◌, ◌∙◌}
use Rattle.tg_audit_texts.proofs.NextFiles.{bundled_on}
use Rattle.tg_audit_texts.proofs.expected.add_files.Goals as goal
use Rattle.tg_audit_texts.specs.Expected.{file_record, files_bundled}
use Rattle.tg_audit_texts.specs.Hashing.{IsHashing}

pub loop-number-preserved : goal.loop-number-preserved
loop-number-preserved c = λ text h.
    let order = c.args.order.now in
    let many = c.args.many.now in
    let i = c.loop-number.number-index in
    let inside : i < length order = omega arith in
    let shown = ap (λ (bytes : List ℕ). (text ++ files_bundled many (take i order)) ++ file_record (codes "/many/" ++ c.as_slice.result.now) bytes)
    c.as_slice-in-loop-number.ensures in
    subst (λ (t : List ℕ). IsHashing c.add_file.new.hashing t)
    (shown ∙ bundled_on many order i _ text c.as_slice.result.now c.index-many-number.result inside
    (c.requires.there i _ inside) (c.as_slice.ensures ∙ c.in_ok-name.ensures) c.index-many-number.is)
    (c.add_file.ensures _ (c.loop-number.invariant text h))
