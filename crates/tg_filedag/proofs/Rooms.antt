-- A node of a file is far below the largest block.
use Rattle.std.proofs.Common.{◌≡◌, ◌*◌, ◌≤◌, ℕ, List, [], ◌∷◌, length, refl, arith}
use Rattle.std.specs.List.{sum_by}
use Rattle.std.specs.Prelude.{All, map}
use Rattle.std.proofs.lemmas.List.{length-map}
use Rattle.std.proofs.lemmas.List.Elements.{All-cons, All-head, All-nil, All-tail}
use Rattle.std.proofs.lemmas.List.Sums.{sum_by-cons}
use Rattle.tg_filedag.specs.Trees.{IsFileBlock, IsPlain, content_in, entry_for}
use Rattle.tg_filedag.specs.declared.subtree.Subtree.{Subtree}
use Rattle.tg_model.specs.ImportLayout.{file_unix}
use Rattle.tg_model.specs.declared.kinds.NewEntry.{NewEntry}
use Rattle.tg_unixfs.specs.declared.Unix.{Unix}
use Rattle.tg_node_writing.specs.Nodes.{IsNodeOf, IsOfSha256, link_room, node_room}

entries_plain : (ss : List Subtree) → All IsPlain ss → All IsOfSha256 (map entry_for ss)
entries_plain [] h = All-nil IsOfSha256
entries_plain (s ∷ ss) h = All-cons IsOfSha256 (entry_for s) (map entry_for ss) (All-head IsPlain s ss h) (entries_plain ss (All-tail IsPlain s ss h))

entries_room : (ss : List Subtree) → sum_by link_room (map entry_for ss) ≡ 71 * length ss
entries_room [] = refl
entries_room (s ∷ ss) =
    let rest = entries_room ss in
    let sums = sum_by-cons link_room (entry_for s) (map entry_for ss) in
    omega arith

pub block_small : ((entries : List NewEntry) (unix : Unix) (block : List ℕ) → IsNodeOf entries unix block → All IsOfSha256 entries → length block ≤ node_room entries unix)
    → (ss : List Subtree) (block : List ℕ) → length ss ≤ 4096 → All IsPlain ss → IsFileBlock ss block → length block ≤ 524288
block_small room ss block few plain written =
    let most = room (map entry_for ss) (file_unix (sum_by content_in ss) (map content_in ss)) block written (entries_plain ss plain) in
    let entries = entries_room ss in
    let sizes = length-map ss content_in in
    omega arith
