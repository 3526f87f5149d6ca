use Rattle.std.proofs.Common.{List, [], ◌∷◌, ◌++◌, ap, sym, ◌∙◌, arith}
use Rattle.tg_dagpb.specs.Cursor.{link_of}
use Rattle.tg_dagpb.specs.declared.Link.{Link}
use Rattle.tg_model.proofs.NameLemmas.{first_here, first_past}
use Rattle.tg_model.specs.Computed.{first_from, has_bad_suffix}
use Rattle.tg_model.proofs.folders.bad_suffix.Goals as goal

pub returns-then-has_bad_suffix : goal.returns-then-has_bad_suffix
returns-then-has_bad_suffix c =
    let left = c.loop-link.invariant.left in
    let next = c.in-Some.ensures.next left.ahead.behind left.links left.ahead.between in
    sym (left.so_far ∙ ap (λ (links : List Link). first_from has_bad_suffix c.loop-link.index links) next.1
    ∙ first_here has_bad_suffix c.loop-link.index (link_of c.in-Some.link) next.0 (sym c.has_bad_suffix.ensures ∙ c.if-has_bad_suffix.true))

pub loop-link-preserved : goal.loop-link-preserved
loop-link-preserved c =
    let left = c.loop-link.invariant.left in
    let next = c.in-Some.ensures.next left.ahead.behind left.links left.ahead.between in
    record {
      left = record {
        links = next.0;
        ahead = record { behind = left.ahead.behind ++ link_of c.in-Some.link ∷ []; between = next.2 };
        so_far = left.so_far ∙ ap (λ (links : List Link). first_from has_bad_suffix c.loop-link.index links) next.1
            ∙ first_past has_bad_suffix c.loop-link.index (link_of c.in-Some.link) next.0 (sym c.has_bad_suffix.ensures ∙ c.if-has_bad_suffix.false);
      };
      count = omega (arith, c.in-Some.ensures.forward.0);
    }

pub returns : goal.returns
returns c =
    let left = c.loop-link.invariant.left in
    let none = c.in_default.ensures.next left.ahead.behind left.links left.ahead.between in
    sym (left.so_far ∙ ap (λ (links : List Link). first_from has_bad_suffix c.loop-link.index links) none)
