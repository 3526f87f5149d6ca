use Rattle.std.proofs.Common.{ap, ◌∙◌, refl, [], ◌∷◌}
use Rattle.tg_lanes.proofs.Caching.{on_err, sought_copy, sought_failed, sought_none, sought_there, stored_still}
use Rattle.tg_lanes.proofs.cached.CachedBlocks.get.Goals as goal
use Rattle.tg_lanes.proofs.cached.CachedBlocks.get.Goals.{in-Some-found, in_default-found}

pub returns-in_err-block-clause-err_looked : goal.returns-in_err-block-clause-err_looked
returns-in_err-block-clause-err_looked g c =
    on_err c.from_residual.result (sought_none g.B.Blocks.blocks c.args.self.now c.recall.new.self g.met.B.Blocks.rests c.recall.ensures.blocks c.recall.ensures.room)

pub returns-in-Some-clause-looked : goal.returns-in-Some-clause-looked
returns-in-Some-clause-looked g c =
    sought_copy g.B.Blocks.blocks c.args.self.now c.recall.new.self g.met.B.Blocks.rests c.recall.ensures.blocks c.recall.ensures.room c.args.cid.now

pub invariant_of-self : goal.invariant_of-self
invariant_of-self g c =
    stored_still g.B.Blocks.blocks c.self.inside.blocks c.get.new.self [] c.self.inside.kept.entries c.in_err-found.ensures.err_looked c.self.invariant

pub returns-in_err-found-clause-err_looked : goal.returns-in_err-found-clause-err_looked
returns-in_err-found-clause-err_looked g c =
    on_err c.from_residual-in_err-found.result
    (sought_failed g.B.Blocks.blocks c.args.self.now _ c.self.inside.blocks c.get.new.self (ap (λ s. s.blocks) c.self.view_is ∙ c.recall.ensures.blocks) refl
    (ap (λ s. s.room) c.self.view_is ∙ c.recall.ensures.room)
    c.in_err-found.ensures.err_looked)

pub invariant_of-self-in-Some-found : goal.invariant_of-self-in-Some-found
invariant_of-self-in-Some-found g c =
    stored_still g.B.Blocks.blocks c.self.inside.blocks c.get.new.self (c.args.cid.now ∷ []) c.self.inside.kept.entries c.in_ok-found.ensures.looked c.self.invariant

pub invariant_of-self-in_default-found : goal.invariant_of-self-in_default-found
invariant_of-self-in_default-found g c =
    stored_still g.B.Blocks.blocks c.self.inside.blocks c.get.new.self (c.args.cid.now ∷ []) c.self.inside.kept.entries c.in_ok-found.ensures.looked c.self.invariant

pub returns-clause-looked : goal.returns-clause-looked
returns-clause-looked g c =
    let same = ap (λ s. s.blocks) c.self.view_is ∙ c.recall.ensures.blocks in
    let room = ap (λ s. s.room) c.self.view_is ∙ c.recall.ensures.room in
    elim c.match-found.branch [
      | in-Some-found w ↦
          sought_there g.B.Blocks.blocks c.args.self.now c.match-found.self c.self.inside.blocks c.get.new.self c.args.cid.now same
          (ap (λ s. s.blocks) w.self-is ∙ w.remember.ensures.blocks)
          (ap (λ s. s.room) w.self-is ∙ w.remember.ensures.room ∙ room) c.in_ok-found.ensures.looked
      | in_default-found w ↦
          sought_there g.B.Blocks.blocks c.args.self.now c.match-found.self c.self.inside.blocks c.get.new.self c.args.cid.now same
          (ap (λ s. s.blocks) w.self-is) (ap (λ s. s.room) w.self-is ∙ room) c.in_ok-found.ensures.looked
    ]
