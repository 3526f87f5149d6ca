use Rattle.std.proofs.Common.{◌+◌, ℕ, List, [], ◌∷◌, ◌++◌, length, subst}
use Rattle.tg_filedag.proofs.Beginnings.{inside_room, leaf_room, leaf_stands}
use Rattle.tg_filedag.proofs.balanced.Balanced.leaf.Goals as goal
use Rattle.tg_node_writing.specs.Keeping.{Keeps, StopsAfter}
use Rattle.tg_filedag.specs.State.{BalancedState, IsFrontFor, StandsFor}
use Rattle.tg_model.specs.Dag.{Section}
use Rattle.tg_model.specs.Stores.{kept_in}

pub link_leaf-requires : goal.link_leaf-requires
link_leaf-requires g c =
    let old = c.self.invariant c.in_default.is in
    let room = inside_room _ _ c.args.chunk.now c.self.view_is c.requires.bytes c.requires.leaves in
    record {
      small = c.requires.small;
      levels = old.2.levels;
      growing = (old.0, old.1, old.2.forest, leaf_room _ c.args.chunk.now old.0 old.1 old.2 room);
    }

pub invariant_of-self : goal.invariant_of-self
invariant_of-self g c = λ e.
    let old = c.self.invariant c.in_default.is in
    let room = inside_room _ _ c.args.chunk.now c.self.view_is c.requires.bytes c.requires.leaves in
    let step = leaf_stands _ c.link_leaf.new.subtrees.items c.args.chunk.now (kept_in g.K.Keep.keeper c.args.keep.now c.link_leaf.new.keep) c.in-Ok.ensures.leaf
    room old.0 old.1 old.2 in
    (old.0 ++ c.args.chunk.now ∷ [], old.1 ++ step.0, step.2)

pub returns-in-Ok-clause-stands : goal.returns-in-Ok-clause-stands
returns-in-Ok-clause-stands g c =
    let i = c.self.inside in
    let new : BalancedState = record { width = i.width; leaves = i.leaves + 1; bytes = i.bytes + length c.args.chunk.now; refused = i.refused; subtrees = c.link_leaf.new.subtrees.items } in
    let room = inside_room _ _ c.args.chunk.now c.self.view_is c.requires.bytes c.requires.leaves in
    subst (λ (s : BalancedState). (chunks : List (List ℕ)) (kept : List Section) → StandsFor s chunks kept
    → (sections : List Section) × Keeps sections (kept_in g.K.Keep.keeper c.args.keep.now c.link_leaf.new.keep)
    × StandsFor new (chunks ++ c.args.chunk.now ∷ []) (kept ++ sections)) c.self.view_is
    (leaf_stands _ c.link_leaf.new.subtrees.items c.args.chunk.now (kept_in g.K.Keep.keeper c.args.keep.now c.link_leaf.new.keep) c.in-Ok.ensures.leaf room)

pub returns-in-Err-clause-stops : goal.returns-in-Err-clause-stops
returns-in-Err-clause-stops g c =
    let room = inside_room _ _ c.args.chunk.now c.self.view_is c.requires.bytes c.requires.leaves in
    subst (λ (s : BalancedState). (chunks : List (List ℕ)) (kept : List Section) → StandsFor s chunks kept
    → (sections : List Section) × StopsAfter sections c.in-Err.fault (kept_in g.K.Keep.keeper c.args.keep.now c.link_leaf.new.keep)
    × IsFrontFor s.width (chunks ++ c.args.chunk.now ∷ []) kept sections) c.self.view_is
    (λ chunks kept h. c.in-Err.ensures.stops chunks kept h.forest (leaf_room _ c.args.chunk.now chunks kept h room))

pub returns-in-Ok-clause-quiet : goal.returns-in-Ok-clause-quiet
returns-in-Ok-clause-quiet g c =
    let old = c.self.invariant c.in_default.is in
    let room = inside_room _ _ c.args.chunk.now c.self.view_is c.requires.bytes c.requires.leaves in
    let step = leaf_stands _ c.link_leaf.new.subtrees.items c.args.chunk.now (kept_in g.K.Keep.keeper c.args.keep.now c.link_leaf.new.keep) c.in-Ok.ensures.leaf
    room old.0 old.1 old.2 in
    step.1.quiet

pub returns-in-Err-clause-cause : goal.returns-in-Err-clause-cause
returns-in-Err-clause-cause g c = λ none.
    let old = c.self.invariant c.in_default.is in
    let room = inside_room _ _ c.args.chunk.now c.self.view_is c.requires.bytes c.requires.leaves in
    let stop = c.in-Err.ensures.stops old.0 old.1 old.2.forest (leaf_room _ c.args.chunk.now old.0 old.1 old.2 room) in
    stop.1.counted
