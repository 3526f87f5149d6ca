use Rattle.std.proofs.Common.{◌≡◌, ◌<◌, Some, ap, length, refl, subst, sym, ◌∙◌}
use Rattle.std.proofs.lemmas.Option.{slice_get_read}
use Rattle.std.specs.Prelude.{slice_get}
use Rattle.tg_lanes.proofs.Feeding.{lane_fed}
use Rattle.tg_lanes.proofs.Looking.{looked_below}
use Rattle.tg_lanes.proofs.Moves.{agreed_set}
use Rattle.tg_lanes.proofs.Standing.{lane_agrees}
use Rattle.tg_lanes.specs.Caches.{cached_blocks}
use Rattle.tg_model.specs.Stores.{looked_in}
use Rattle.tg_streams.specs.Streams.{into}
use Rattle.tg_walk.specs.Walks.{HaveLookedUp}
use Rattle.tg_lanes.proofs.lanes.Lanes.feed.Goals as goal

pub invariant_of-self : goal.invariant_of-self
invariant_of-self g c =
    let was : slice_get c.self.inside.sessions.items c.args.lane ≡ Some c.index_mut.result.now =
    slice_get_read c.self.inside.sessions.items (length c.self.inside.sessions.items) c.args.lane c.index_mut.result.now refl
    (subst (λ s. c.args.lane < length s.sessions) (sym c.self.view_is) c.requires) c.index_mut.ensures.value in
    agreed_set c.self.inside.sessions.items c.args.lane c.feed.new.self c.self.invariant
    (lane_agrees (g.B.Blocks.blocks.stored c.self.inside.cached.blocks) c.index_mut.result.now c.feed.new.self c.args.piece.now
    (looked_in (cached_blocks g.B.Blocks.blocks) c.self.inside.cached c.feed.new.blocks) (into g.S.Sink.sink c.args.out.now c.feed.new.out)
    c.feed.result (c.self.invariant c.args.lane c.index_mut.result.now was) c.feed.ensures.ends
    (λ none shut. let f = c.feed.ensures.closed none shut in f.1) (λ fault some. let f = c.feed.ensures.again fault some in f.1)
    c.feed.ensures.refused)

pub returns-clause-ends : goal.returns-clause-ends
returns-clause-ends g c =
    let was : slice_get c.self.inside.sessions.items c.args.lane ≡ Some c.index_mut.result.now =
    slice_get_read c.self.inside.sessions.items (length c.self.inside.sessions.items) c.args.lane c.index_mut.result.now refl
    (subst (λ s. c.args.lane < length s.sessions) (sym c.self.view_is) c.requires) c.index_mut.ensures.value in
    lane_fed g.B.Blocks.blocks c.self.inside.cached c.feed.new.blocks c.args.self.now c.self.inside.sessions.items c.self.inside.limits.received
    c.args.lane c.args.piece.now c.index_mut.result.now c.feed.new.self (into g.S.Sink.sink c.args.out.now c.feed.new.out)
    (c.feed.new.out ≡ c.args.out.now) c.feed.result c.self.view_is was (c.self.invariant c.args.lane c.index_mut.result.now was) c.feed.ensures.ends
    (λ none shut. let f = c.feed.ensures.closed none shut in (f.0, f.1, f.2, f.3))
    (λ fault some. let f = c.feed.ensures.again fault some in (f.0, f.1, f.2, f.3)) c.feed.ensures.refused

pub returns-clause-room : goal.returns-clause-room
returns-clause-room g c = c.feed.ensures.looked.looked.moved.same_room ∙ ap (λ s. s.room) c.self.view_is

pub returns-clause-looked : goal.returns-clause-looked
returns-clause-looked g c =
    subst (λ b. HaveLookedUp (looked_in g.B.Blocks.blocks b c.feed.new.blocks.blocks)) (ap (λ s. s.blocks) c.self.view_is)
    (looked_below g.B.Blocks.blocks c.self.inside.cached c.feed.new.blocks c.feed.ensures.looked)
