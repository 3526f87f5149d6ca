-- A shard is far below the largest block.
use Rattle.std.proofs.Common.{◌*◌, ◌≤◌, ℕ, List, [], ◌∷◌, length, arith}
use Rattle.std.specs.List.{sum_by}
use Rattle.std.specs.Prelude.{All}
use Rattle.std.proofs.lemmas.List.Elements.{All-cons, All-head, All-nil, All-tail}
use Rattle.std.proofs.lemmas.List.Sums.{sum_by-cons}
use Rattle.tg_hamt.specs.Links.{IsShardLink}
use Rattle.tg_model.specs.ImportLayout.{shard_unix}
use Rattle.tg_model.specs.declared.kinds.NewEntry.{NewEntry}
use Rattle.tg_unixfs.specs.declared.Unix.{Unix}
use Rattle.tg_node_writing.specs.Nodes.{IsNodeOf, IsOfSha256, link_room, node_room}

links_plain : (links : List NewEntry) → All IsShardLink links → All IsOfSha256 links
links_plain [] h = All-nil IsOfSha256
links_plain (link ∷ links) h = All-cons IsOfSha256 link links (All-head IsShardLink link links h).plain (links_plain links (All-tail IsShardLink link links h))

links_room : (links : List NewEntry) → All IsShardLink links → sum_by link_room links ≤ 328 * length links
links_room [] h = omega arith
links_room (link ∷ links) h =
    let rest = links_room links (All-tail IsShardLink link links h) in
    let here = (All-head IsShardLink link links h).short in
    let sums = sum_by-cons link_room link links in
    omega arith

-- what the length of a written node is at most
abbrev pub HasRoom : Type 0
HasRoom = (entries : List NewEntry) (unix : Unix) (block : List ℕ) → IsNodeOf entries unix block → All IsOfSha256 entries → length block ≤ node_room entries unix

pub shard_small : HasRoom → (links : List NewEntry) (bits block : List ℕ) → length links ≤ 256 → length bits ≤ 32 → All IsShardLink links
    → IsNodeOf links (shard_unix bits) block → length block ≤ 131072
shard_small room links bits block few short good written =
    let most = room links (shard_unix bits) block written (links_plain links good) in
    let each = links_room links good in
    omega arith
