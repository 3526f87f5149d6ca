use Rattle.std.proofs.Common.{◌≡◌, length, ap, arith}
use Rattle.std.proofs.lemmas.Result.{err_from_is_err_and}
use Rattle.tg_filedag.specs.Chunks.{ChunkerState, fed_with}
use Rattle.tg_import_file.proofs.Taken.{fed_length, leaf_fits, takes_full, takes_open}
use Rattle.tg_import_file.proofs.pieces.fill_chunk.Goals as goal
use Rattle.tg_model.specs.Stores.{kept_in}

pub returns-then-not-full-clause-taken : goal.returns-then-not-full-clause-taken
returns-then-not-full-clause-taken g c =
    takes_open g.K.Keep.keeper g.met.K.Keep.rests c.args.keep.now c.args.chunker.now c.feed-taken.new.self c.args.balanced.now c.args.piece.now c.feed-taken.result.0
    c.feed-taken.ensures.fed c.feed-taken.ensures.taken
    (λ full. let yes = c.feed-taken.ensures.full.1 full in absurd (cc (c.if-not-full.true, yes)))

pub leaf-requires-clause-leaves : goal.leaf-requires-clause-leaves
leaf-requires-clause-leaves g c =
    let room = c.requires.taken.room in
    let whole : length c.feed-taken.new.self.bytes ≡ length (fed_with c.args.chunker.now c.args.piece.now).bytes =
    ap (λ (x : ChunkerState). length x.bytes) c.feed-taken.ensures.fed in
    let size : c.feed-taken.new.self.size ≡ c.args.chunker.now.size = ap (λ (x : ChunkerState). x.size) c.feed-taken.ensures.fed in
    let long : length c.chunk.result.now ≡ length c.feed-taken.new.self.bytes = ap length c.chunk.ensures.bytes in
    let full = c.feed-taken.ensures.full.0 c.if-not-full.false in
    let most = fed_length c.args.chunker.now c.args.piece.now room in
    (leaf_fits c.args.chunker.now c.args.balanced.now (length c.args.piece.now) c.chunk.result.now c.requires (omega arith) (omega arith)).1

pub returns-in_err-leaf-clause-stops : goal.returns-in_err-leaf-clause-stops
returns-in_err-leaf-clause-stops g c =
    let p = err_from_is_err_and c.from_residual.result c.from_residual.ensures.1 in
    rw (p.1, p.2)
    (λ bytes kept h.
    let stop = c.in_err-leaf.ensures.stops h.chunks kept h.stands in
    (stop.0, stop.1, c.kept_in_order.ensures.front c.args.balanced.now h.chunks _ kept stop.0 h.stands stop.2))

pub returns-clause-taken : goal.returns-clause-taken
returns-clause-taken g c =
    takes_full c.args.chunker.now c.feed-taken.new.self c.clear.new.self c.args.balanced.now c.leaf.new.self c.args.piece.now c.chunk.result.now c.feed-taken.result.0
    (kept_in g.K.Keep.keeper c.args.keep.now c.leaf.new.keep) c.feed-taken.ensures.fed c.clear.ensures c.chunk.ensures.bytes c.feed-taken.ensures.taken
    (c.feed-taken.ensures.full.0 c.if-not-full.false) c.in_ok-leaf.ensures.stands
