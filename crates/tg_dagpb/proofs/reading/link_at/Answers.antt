use Rattle.std.proofs.Common.{[], ◌∷◌, ◌++◌, ◌≡◌, sym, ap, ◌∙◌, subst}
use Rattle.tg_dagpb.specs.declared.Link.{Link}
use Rattle.tg_dagpb.specs.Cursor.{IsBetween, link_of, placed_link}
use Rattle.tg_dagpb.proofs.reading.link_at.Goals as goal

pub returns-in_err-places-clause-next : goal.returns-in_err-places-clause-next
returns-in_err-places-clause-next c = λ behind ahead between. rw c.from_residual.ensures (c.in_err-places.ensures.next behind ahead between)

pub returns-clause-next : goal.returns-clause-next
returns-clause-next c = λ behind ahead between.
    let h = c.in_ok-places.ensures.next behind ahead between in
    let same : placed_link c.args.bytes.now c.in_ok-places.places ≡ link_of c.span_of.result = sym c.span_of.ensures in (
      h.0,
      h.1 ∙ ap (λ (l : Link). l ∷ h.0) same,
      subst (λ (l : Link). IsBetween c.args.bytes.now c.in_ok-places.next (behind ++ l ∷ []) h.0) same h.2,
    )
