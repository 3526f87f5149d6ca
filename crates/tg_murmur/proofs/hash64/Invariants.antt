use Rattle.std.proofs.Common.{◌≡◌, take}
use Rattle.std.specs.List.{fold}
use Rattle.tg_murmur.specs.NameHash.{Halves, with_block}
use Rattle.tg_murmur.proofs.hash64.Given as goal

-- the blocks before the index have gone in
abbrev pub invariant-loop-block : goal.invariant-loop-block
invariant-loop-block l =
    let start : Halves = record { h1 = 0; h2 = 0 } in
    l.halves ≡ fold with_block start (take l.block-index l.blocks)
