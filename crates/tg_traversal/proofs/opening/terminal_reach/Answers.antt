use Rattle.std.proofs.Common.{◌≡◌, ◌∙◌, Option, ap, inl, inr, sym, subst}
use Rattle.tg_traversal.proofs.Reaches.{IsAsked, IsNoDirectory, file_terminal}
use Rattle.tg_traversal.specs.Opening.{file_asked}
use Rattle.tg_traversal.specs.Places.{reach_of}
use Rattle.tg_model.specs.Queries.{SpanParts}
use Rattle.tg_model.specs.Traversal.{Reach as Reaching}
use Rattle.tg_traversal.proofs.opening.terminal_reach.Goals as goal

pub returns-in-Raw : goal.returns-in-Raw
returns-in-Raw c = λ depth section kind read more.
    let asked : reach_of c.file_asked.result ≡ file_asked c.args.query.now.span c.args.found.now =
    c.file_asked.ensures ∙ ap (λ (span : Option SpanParts). file_asked span c.args.found.now) c.span.ensures.span in
    let no_directory : IsNoDirectory c.args.found.now = elim c.in-Raw.is [
      | inl raw ↦ subst IsNoDirectory (sym raw) tt
      | inr other ↦ elim other [ inl file ↦ subst IsNoDirectory (sym file.1) tt | inr link ↦ subst IsNoDirectory (sym link.1) tt ]
    ] in
    subst (λ (reach : Reaching). IsAsked reach c.args.query.now.scope c.args.query.now.span depth section kind) (sym asked)
    (file_terminal c.args.query.now.scope c.args.query.now.span depth section c.args.found.now kind (c.well_formed-2.ensures).span more read.stands no_directory)
