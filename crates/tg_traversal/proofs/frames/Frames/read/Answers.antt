use Rattle.std.proofs.Common.{◌≡◌, ◌∙◌, Result, ap, inl, inr, length, refl, subst, sym}
use Rattle.tg_traversal.specs.Left.{IsReadAs, LeftState, WantedAt}
use Rattle.tg_traversal.proofs.Opened.{IsAskAt, ask_fault, at_place, place_on_path, place_wanted, read_as}
use Rattle.tg_traversal.specs.Places.{standing_of}
use Rattle.tg_traversal.specs.declared.position.Ask.{Ask}
use Rattle.tg_traversal.specs.declared.position.Place.{Place}
use Rattle.tg_model.specs.Computed.{read}
use Rattle.tg_model.specs.Placed.{GivesPlaced}
use Rattle.tg_model.specs.Queries.{QueryParts}
use Rattle.tg_model.specs.Sound.{top}
use Rattle.tg_model.specs.declared.fault.BlockFault.{BlockFault}
use Rattle.tg_model.specs.declared.placed.PlacedKind.{PlacedKind}
use Rattle.tg_model_laws.specs.Tasks.{fault_at, is_read_at, terminal_want}
use Rattle.tg_traversal.proofs.frames.Frames.read.Goals as goal
use Rattle.tg_traversal.specs.FaultLaws.{fault_same}
use Rattle.tg_model.specs.PlacedLaws.{kind_of}

pub returns-in-Terminal : goal.returns-in-Terminal
returns-in-Terminal c = λ at h is_read.
    let place : Place = c.in-Some.place in
    let q : QueryParts = c.args.self.now.query in
    let same_query = ap (λ (s : LeftState). s.query) c.self.view_is in
    let there : at ≡ at_place q.path place = subst (λ (q : QueryParts). at ≡ at_place q.path place) same_query
    (place_wanted c.self.inside.query.path c.self.inside.wanted place c.args.self.now.wanted at c.in-Some.is (ap (λ (s : LeftState). s.wanted) c.self.view_is) h) in
    let found = kind_of c.args.block.now c.in_ok-found.found (read place.cid c.args.block.now)
    (subst (λ (r : Result PlacedKind BlockFault). GivesPlaced c.args.block.now r (read place.cid c.args.block.now)) c.in_ok-found.was c.reads_in_place.ensures.given) in
    let asked : at ≡ record { want = terminal_want place.depth; cid = place.cid } =
    there ∙ ap (λ (ask : Ask). at_place q.path (record place { ask = ask })) c.in-Terminal.is in
    read_as q at c.args.block.now c.in_ok-found.found c.fitting.result top found.0
    (ap (λ (a : WantedAt). read a.cid c.args.block.now) there ∙ found.1) found.2
    (ap (λ (a : WantedAt). fault_at q a.want found.0) asked
    ∙ fault_same q (terminal_want place.depth) found.0 (sym (ap (λ (a : WantedAt). is_read_at q a.want) asked) ∙ is_read))
    (c.fitting.ensures c.args.block.now found.0 found.2)

pub returns-in-Segment : goal.returns-in-Segment
returns-in-Segment c = λ at h is_read.
    let place : Place = c.in-Some.place in
    let q : QueryParts = c.self.inside.query in
    let same_query = ap (λ (s : LeftState). s.query) c.self.view_is in
    let there : at ≡ at_place q.path place =
    place_wanted c.self.inside.query.path c.self.inside.wanted place c.args.self.now.wanted at c.in-Some.is (ap (λ (s : LeftState). s.wanted) c.self.view_is) h in
    let found = kind_of c.args.block.now c.in_ok-found.found (read place.cid c.args.block.now)
    (subst (λ (r : Result PlacedKind BlockFault). GivesPlaced c.args.block.now r (read place.cid c.args.block.now)) c.in_ok-found.was c.reads_in_place.ensures.given) in
    let on_path = place_on_path c.self.inside.wanted place (length q.path) c.in-Some.is c.self.invariant.1 in
    let is_at : IsAskAt place.ask c.in-Segment.position = elim c.in-Segment.is [
      | inl segment ↦ subst (λ (ask : Ask). IsAskAt ask c.in-Segment.position) (sym segment.1) refl
      | inr node ↦ subst (λ (ask : Ask). IsAskAt ask c.in-Segment.position) (sym node.1) refl
    ] in
    subst (λ (q : QueryParts). IsReadAs q at c.args.block.now c.fitting-in-Segment.result) same_query
    (read_as q at c.args.block.now c.in_ok-found.found c.fitting-in-Segment.result (standing_of c.in-Segment.position) found.0
    (ap (λ (a : WantedAt). read a.cid c.args.block.now) there ∙ found.1) found.2
    (ap (λ (a : WantedAt). fault_at q a.want found.0) there ∙ ask_fault q place.ask c.in-Segment.position place.depth found.0 is_at on_path)
    (c.fitting-in-Segment.ensures c.args.block.now found.0 found.2))
