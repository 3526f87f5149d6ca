use Rattle.std.proofs.Common.{◌≡◌, ◌∙◌, ap, inl, inr, sym, false, length}
use Rattle.tg_traversal.specs.Left.{LeftState, WantedAt}
use Rattle.tg_traversal.specs.Places.{is_terminal}
use Rattle.tg_traversal.proofs.Opened.{at_place, is_terminal_ask, place_on_path, place_wanted}
use Rattle.tg_model.specs.Queries.{QueryParts}
use Rattle.tg_traversal.proofs.frames.Frames.is_at_terminal.Goals as goal

pub returns-in-Segment : goal.returns-in-Segment
returns-in-Segment c = λ at h.
    let q : QueryParts = c.self.inside.query in
    let there : at ≡ at_place q.path c.in-Some.place = place_wanted q.path c.self.inside.wanted c.in-Some.place c.args.self.now.wanted at
    c.in-Some.is (ap (λ (s : LeftState). s.wanted) c.self.view_is) h in
    let on_path = place_on_path c.self.inside.wanted c.in-Some.place (length q.path) c.in-Some.is c.self.invariant.1 in
    let other : is_terminal at.want ≡ false = ap (λ (a : WantedAt). is_terminal a.want) there
    ∙ is_terminal_ask q c.in-Some.place.ask c.in-Some.place.depth (λ e. elim c.in-Segment.is [ inl other ↦ absurd (let f = other.2 in cc) | inr other ↦ absurd (let f = other.2 in cc) ]) on_path in
    sym other
