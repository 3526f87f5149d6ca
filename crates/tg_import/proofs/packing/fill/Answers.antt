use Rattle.std.proofs.Common.{rules, ◌∙◌, []}
use Rattle.std.proofs.lemmas.Result.{err_from_is_err_and}
use Rattle.tg_import.specs.Counting.{nothing}
use Rattle.tg_import.specs.Refused.{max_levels}
use Rattle.tg_import.proofs.Filled.{packing_cause, sections_of_cause}
use Rattle.tg_import.proofs.Once.{once_order}
use Rattle.tg_import.proofs.packing.fill.Goals as goal

pub returns-in_err-root-clause-unfinished : goal.returns-in_err-root-clause-unfinished
returns-in_err-root-clause-unfinished g c =
    let p = err_from_is_err_and c.from_residual.result c.from_residual.ensures.1 in
    let kept = sections_of_cause max_levels c.args.options (g.F.Folder.folder.tree c.args.folder.now) [] nothing c.in_err-root.field-0.0 _ _ c.in_err-root.ensures.cause in
    rw (p.1) (c.filled_packs.ensures.unfinished c.args.store.now c.import.new.keep kept.0 c.requires.new kept.1).1

pub returns-in_err-root-clause-stopped : goal.returns-in_err-root-clause-stopped
returns-in_err-root-clause-stopped g c =
    let p = err_from_is_err_and c.from_residual.result c.from_residual.ensures.1 in
    let kept = sections_of_cause max_levels c.args.options (g.F.Folder.folder.tree c.args.folder.now) [] nothing c.in_err-root.field-0.0 _ _ c.in_err-root.ensures.cause in
    rw (p.1) (c.filled_packs.ensures.unfinished c.args.store.now c.import.new.keep kept.0 c.requires.new kept.1).0

pub returns-in_err-root-clause-cause : goal.returns-in_err-root-clause-cause
returns-in_err-root-clause-cause g c =
    let p = err_from_is_err_and c.from_residual.result c.from_residual.ensures.1 in
    rw (p.1, p.2) (packing_cause c.args.options (g.F.Folder.folder.tree c.args.folder.now) c.in_err-root.field-0.0 _ _ _ c.in_err-root.ensures.cause (λ q. q) (λ r. record { rose = r; counted = c.in_err-root.ensures.err_counted }))

pub returns-in-Ok-clause-packed : goal.returns-in-Ok-clause-packed
returns-in-Ok-clause-packed g c =
    let made = c.in_ok-root.ensures.imported in
    let kept = made.1 in record {
      d = made.0;
      imported = kept.imported;
      root_is = made.2;
      counts = made.3;
      sections = kept.sections;
      all = kept.all;
      order = once_order made.0 kept.sections kept.all kept.imported.plain kept.order;
      content = (c.filled_packs.ensures.finished c.args.store.now c.import.new.keep c.finish.new.self kept.sections c.in_ok-root.root c.requires.new kept.keeps.kept.moved c.in-Ok.ensures.finished).1;
      quiet = c.in-Ok.ensures.finished.quiet ∙ kept.keeps.quiet;
    }

pub returns-in-Ok-clause-told : goal.returns-in-Ok-clause-told
returns-in-Ok-clause-told g c =
    let kept = c.in_ok-root.ensures.imported.1 in
    c.filled_packs.ensures.told c.args.store.now c.import.new.keep c.finish.new.self kept.sections c.in_ok-root.root kept.keeps.kept c.in-Ok.ensures.finished

pub returns-in-Ok-clause-written : goal.returns-in-Ok-clause-written
returns-in-Ok-clause-written g c =
    let kept = c.in_ok-root.ensures.imported.1 in
    (c.filled_packs.ensures.finished c.args.store.now c.import.new.keep c.finish.new.self kept.sections c.in_ok-root.root c.requires.new kept.keeps.kept.moved c.in-Ok.ensures.finished).0

pub returns-in-Err-OutOfMemory-clause-unfinished :
    goal.returns-in-Err-OutOfMemory-clause-unfinished
returns-in-Err-OutOfMemory-clause-unfinished g c =
    let kept = c.in_ok-root.ensures.imported.1 in
    (c.filled_packs.ensures.failed c.args.store.now c.import.new.keep c.finish.new.self kept.sections _ c.requires.new kept.keeps.kept.moved c.in-Err-OutOfMemory.ensures.failed).1

pub returns-in-Err-OutOfMemory-clause-stopped : goal.returns-in-Err-OutOfMemory-clause-stopped
returns-in-Err-OutOfMemory-clause-stopped g c =
    let kept = c.in_ok-root.ensures.imported.1 in
    (c.filled_packs.ensures.failed c.args.store.now c.import.new.keep c.finish.new.self kept.sections _ c.requires.new kept.keeps.kept.moved c.in-Err-OutOfMemory.ensures.failed).0

pub returns-in-Err : goal.returns-in-Err
returns-in-Err g c =
    let kept = c.in_ok-root.ensures.imported.1 in
    let failed = c.filled_packs.ensures.failed c.args.store.now c.import.new.keep c.finish.new.self kept.sections c.in-Err.field-0 c.requires.new kept.keeps.kept.moved c.in-Err.ensures.failed in record {
      packed = tt;
      told = tt;
      quiet = tt;
      same = c.in_ok-root.ensures.same;
      cause = search rules;
      unfinished = failed.1;
      written = tt;
      stopped = failed.0;
    }
