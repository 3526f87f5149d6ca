use Rattle.std.proofs.Common.{◌++◌, ◌≡◌, ◌∙◌, List, OnErr, [], ap, length, subst, sym, ℕ}
use Rattle.tg_traversal.proofs.Opened.{at_place, place_on_path, place_wanted}
use Rattle.tg_traversal.proofs.OwnTexts.{segment_text}
use Rattle.tg_traversal.specs.Left.{IsOnPath, LeftState, WantedAt}
use Rattle.tg_traversal.specs.PlaceTexts.{IsRecordAt}
use Rattle.tg_traversal.specs.Places.{want_of}
use Rattle.tg_traversal.specs.declared.position.Ask.{Ask}
use Rattle.tg_model.specs.Queries.{QueryParts}
use Rattle.tg_model_laws.specs.Tasks.{terminal_want, text_at}
use Rattle.tg_traversal.proofs.frames.Frames.text.Goals as goal

pub returns-in-Segment-clause-text : goal.returns-in-Segment-clause-text
returns-in-Segment-clause-text c = λ at section kind here.
    let q : QueryParts = c.self.inside.query in
    let place = c.in-Some.place in
    let there : at ≡ at_place q.path place = place_wanted q.path c.self.inside.wanted place c.args.self.now.wanted at
    c.in-Some.is (ap (λ (s : LeftState). s.wanted) c.self.view_is) here.wanted in
    let on_path : IsOnPath place.ask (length q.path) = place_on_path c.self.inside.wanted place (length q.path) c.in-Some.is c.self.invariant.1 in
    let nothing : text_at q at.want section kind ≡ [] = ap (λ (a : WantedAt). text_at q a.want section kind) there
    ∙ (ap (λ (ask : Ask). text_at q (want_of q.path ask place.depth) section kind) c.in-Segment.is
    ∙ segment_text q c.in-Segment.field-0 c.in-Segment.field-1 place.depth section kind (subst (λ (ask : Ask). IsOnPath ask (length q.path)) c.in-Segment.is on_path)) in
    ap (λ (line : List ℕ). line ++ c.without_line.result.bytes.now) c.without_line.ensures.line
    ∙ (c.without_line.ensures.bytes ∙ (sym nothing ∙ ap (λ (s : LeftState). text_at s.query at.want section kind) c.self.view_is))

pub returns-in-Terminal-clause-err : goal.returns-in-Terminal-clause-err
returns-in-Terminal-clause-err c = λ at section kind here.
    let q : QueryParts = c.self.inside.query in
    let place = c.in-Some.place in
    let there : at ≡ at_place q.path place = place_wanted q.path c.self.inside.wanted place c.args.self.now.wanted at
    c.in-Some.is (ap (λ (s : LeftState). s.wanted) c.self.view_is) here.wanted in
    let asked : at ≡ record { want = terminal_want place.depth; cid = place.cid } = there ∙ ap (λ (ask : Ask). at_place q.path (record place { ask = ask })) c.in-Terminal.is in
    subst (λ (q : QueryParts). OnErr c.terminal_text.result (IsRecordAt q at.want kind)) (ap (λ (s : LeftState). s.query) c.self.view_is)
    (subst (λ (a : WantedAt). OnErr c.terminal_text.result (IsRecordAt q a.want kind)) (sym asked) (c.terminal_text.ensures.err section kind here.block_at))
