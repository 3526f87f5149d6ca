use Rattle.std.proofs.Common.{Ok, inl, sym, ap, ◌∙◌}
use Rattle.tg_model.specs.PlacedLaws.{kind_of}
use Rattle.tg_model.specs.Computed.{read}
use Rattle.tg_model.specs.declared.kinds.Kind.{Kind}
use Rattle.tg_model.proofs.reading.read_block.Goals as goal

pub returns : goal.returns
returns c =
    let block = c.args.block.now in
    let cid = c.args.cid.now in
    let found = kind_of block c.in_ok-placed.placed (read cid block) c.in_ok-placed.ensures.given in
    inl (ap (λ (kind : Kind). Ok kind) (c.in_ok-copied.ensures found.0 found.2) ∙ sym found.1)
