use Rattle.std.proofs.Common.{inr, subst, refl, ap, ◌∙◌}
use Rattle.tg_import.proofs.FileCounts.{file_imports, passes_total}
use Rattle.tg_import.specs.Counting.{plus}
use Rattle.tg_import.specs.Refused.{PassesTotal}
use Rattle.tg_import.specs.declared.summary.Summary.{Summary}
use Rattle.tg_tree.specs.Tree.{bytes_of, tree_at}
use Rattle.tg_import.proofs.folder.Importer.file.Goals as goal

pub returns-clause-imported : goal.returns-clause-imported
returns-clause-imported g c =
    file_imports c.args.self.now.options _ c.args.path.now c.args.path.now c.args.self.now.writer.chunker.size c.args.self.now.writer.balanced.width c.args.self.now.summary c.in-Ok.made
    c.in-Some.summary _ refl c.requires.writer.chunk c.requires.writer.width c.requires.at c.in-Ok.ensures.made
    (c.in-Some.ensures.sum ∙ ap (plus c.args.self.now.summary) c.of_file.ensures)

pub returns-in_default-clause-cause : goal.returns-in_default-clause-cause
returns-in_default-clause-cause g c =
    let kept = c.in-Ok.ensures.made in
    let passes = subst (λ (more : Summary). PassesTotal (plus c.args.self.now.summary more)) c.of_file.ensures c.in_default.ensures.sum in (
      c.in-Ok.ensures.quiet,
      (
        kept.sections,
        kept.keeps,
        kept.order,
        (
          c.in_ok-copy_of.ensures,
          passes_total (bytes_of (tree_at (g.F.Folder.folder.tree c.args.folder.now) c.args.path.now)) c.args.self.now.summary c.args.self.now.writer.chunker.size c.args.self.now.writer.balanced.width c.in-Ok.made _ kept passes,
          inr (kept.d, kept.file.sound, kept.all),
        ),
      ),
    )

pub returns-in_default-clause-writer : goal.returns-in_default-clause-writer
returns-in_default-clause-writer g c = tt

pub returns-in_default-clause-imported : goal.returns-in_default-clause-imported
returns-in_default-clause-imported g c = tt

pub returns-in_default-clause-quiet : goal.returns-in_default-clause-quiet
returns-in_default-clause-quiet g c = tt

pub returns-clause-quiet : goal.returns-clause-quiet
returns-clause-quiet g c = c.in-Ok.ensures.quiet
