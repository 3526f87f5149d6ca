use Rattle.std.proofs.Common.{◌≡◌, length, sym, ap, ◌∙◌, arith}
use Rattle.std.proofs.lemmas.Result.{err_from_is_err_and}
use Rattle.tg_import_file.proofs.Cuts.{are_none, still_some}
use Rattle.tg_import_file.proofs.Taken.{leaf_fits, links_last, links_none}
use Rattle.tg_import_file.proofs.pieces.link_last.Goals as goal
use Rattle.tg_model.specs.Stores.{kept_in}

pub returns-then-is_empty-clause-linked : goal.returns-then-is_empty-clause-linked
returns-then-is_empty-clause-linked g c =
    links_none c.cut_chunks.ensures.full g.K.Keep.keeper g.met.K.Keep.rests c.args.keep.now c.args.chunker.now c.args.balanced.now
    (sym c.chunk.ensures.bytes ∙ are_none c.chunk.result.now (sym c.if-is_empty.ensures))

pub leaf-requires-clause-leaves : goal.leaf-requires-clause-leaves
leaf-requires-clause-leaves g c =
    let long : length c.chunk-2.result.now ≡ length c.args.chunker.now.bytes = ap length c.chunk-2.ensures.bytes in
    (leaf_fits c.args.chunker.now c.args.balanced.now 0 c.chunk-2.result.now c.requires (omega arith)
    (still_some c.chunk.result.now c.chunk-2.result.now c.args.chunker.now.bytes c.chunk.ensures.bytes c.chunk-2.ensures.bytes (sym c.if-is_empty.ensures))).1

pub returns-in_err-leaf-clause-stops : goal.returns-in_err-leaf-clause-stops
returns-in_err-leaf-clause-stops g c =
    let p = err_from_is_err_and c.from_residual.result c.from_residual.ensures.1 in
    rw (p.1, p.2)
    (λ bytes kept h.
    let stop = c.in_err-leaf.ensures.stops h.chunks kept h.stands in
    (stop.0, stop.1, c.kept_in_order.ensures.front c.args.balanced.now h.chunks _ kept stop.0 h.stands stop.2))

pub returns-clause-linked : goal.returns-clause-linked
returns-clause-linked g c =
    links_last c.cut_chunks.ensures.last c.args.chunker.now c.args.balanced.now c.leaf.new.self c.chunk-2.result.now (kept_in g.K.Keep.keeper c.args.keep.now c.leaf.new.keep)
    c.chunk-2.ensures.bytes (still_some c.chunk.result.now c.chunk-2.result.now c.args.chunker.now.bytes c.chunk.ensures.bytes c.chunk-2.ensures.bytes (sym c.if-is_empty.ensures))
    c.in_ok-leaf.ensures.stands
