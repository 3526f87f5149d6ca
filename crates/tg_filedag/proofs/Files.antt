-- The root of a file.
use Rattle.std.proofs.Common.{◌≡◌, ◌<◌, ◌≤◌, ◌⊎◌, ℕ, List, [], ◌∷◌, length, refl, sym, ap, ◌∙◌, subst, inl, inr, arith}
use Rattle.std.specs.Prelude.{All, map}
use Rattle.std.proofs.lemmas.List.Elements.{All-nil}
use Rattle.tg_bytes.specs.Lists.{joined}
use Rattle.tg_filedag.proofs.FullLists.{chunks_longer}
use Rattle.tg_filedag.proofs.Parts.{part_sound, some_fault}
use Rattle.tg_filedag.specs.Chunks.{AreChunks}
use Rattle.tg_filedag.specs.MadeFile.{IsMadeFile, leaves_for}
use Rattle.tg_filedag.specs.Trees.{IsFilePart, IsLastSubtree}
use Rattle.tg_filedag.specs.declared.subtree.Subtree.{Subtree}
use Rattle.tg_model.specs.Content.{content}
use Rattle.tg_model.specs.Dag.{Dag, bare, node, unopened}
use Rattle.tg_model.specs.FullLaws.{full_one}
use Rattle.tg_model.specs.ImportLayout.{AreFull, HasBytes, IsLaidAt, IsLaidFile, IsLeaf, LayoutOptions, leaves, level_widths}
use Rattle.tg_model.specs.Sound.{top}
use Rattle.tg_model.specs.declared.kinds.Kind.TheVariants.{Basic, File, Raw, Shard, Symlink}

-- a root is a leaf, or has two links and two leaves at least
pub record HasBranches (d : Dag) : Type 0 where
  pub links : All (λ n. 2 ≤ n) (level_widths d 0)
  pub leaves_two : 2 ≤ length (leaves d)

abbrev pub IsRoot : Dag → Type 0
IsRoot d = IsLeaf d ⊎ HasBranches d

-- ---- the chunks of a file are its leaves

pub leaves_some : (chunks : List (List ℕ)) → 0 < length chunks → chunks ≡ leaves_for chunks
leaves_some [] some = absurd (omega arith)
leaves_some (chunk ∷ chunks) some = refl

joined_leaves : (chunks : List (List ℕ)) → joined (leaves_for chunks) ≡ joined chunks
joined_leaves [] = refl
joined_leaves (chunk ∷ chunks) = refl

full_leaves : (size : ℕ) (chunks : List (List ℕ)) → AreChunks size chunks → AreFull size (map length (leaves_for chunks))
full_leaves size [] are = full_one size 0 (omega arith)
full_leaves size (chunk ∷ chunks) are = are.full

leaves_bytes : (size : ℕ) (chunks : List (List ℕ)) → AreChunks size chunks → HasBytes (leaves_for chunks)
leaves_bytes size [] are = tt
leaves_bytes size (chunk ∷ chunks) are = are.not_empty

two_leaves : (chunks : List (List ℕ)) → 2 ≤ length (leaves_for chunks) → 2 ≤ length chunks
two_leaves [] two = absurd (omega arith)
two_leaves (chunk ∷ chunks) two = two

-- ---- the layout

small_leaf : (size : ℕ) (d : Dag) (chunks : List (List ℕ)) → IsRoot d → content d ≡ joined chunks → leaves d ≡ leaves_for chunks → AreChunks size chunks
    → length (content d) ≤ size → IsLeaf d
small_leaf size d chunks (inl leaf) c l are le = leaf
small_leaf size d chunks (inr branches) c l are le =
    let two : 2 ≤ length (leaves d) = branches.leaves_two in
    let count : length (leaves d) ≡ length (leaves_for chunks) = ap length l in
    let longer = chunks_longer size chunks are (two_leaves chunks (omega arith)) in
    let same : length (content d) ≡ length (joined chunks) = ap length c in
    absurd (omega arith)

root_branches : (d : Dag) → IsRoot d → All (λ n. 2 ≤ n) (level_widths d 0)
root_branches d (inl leaf) = subst (λ (x : Dag). All (λ (n : ℕ). 2 ≤ n) (level_widths x 0)) (sym leaf.1) (All-nil (λ (n : ℕ). 2 ≤ n))
root_branches d (inr branches) = branches.links

laid_file : (options : LayoutOptions) (width : ℕ) (s : Subtree) (d : Dag) (chunks : List (List ℕ)) → IsLastSubtree width s d → IsRoot d → content d ≡ joined chunks
    → leaves d ≡ leaves_for chunks → options.width ≡ width → AreChunks options.chunk chunks → IsLaidFile options d
laid_file options width s d chunks last root c l w are = record {
  chunks = subst (λ (ls : List (List ℕ)). AreFull options.chunk (map length ls)) (sym l) (full_leaves options.chunk chunks are);
  not_empty = subst HasBytes (sym l) (leaves_bytes options.chunk chunks are);
  small = λ le. small_leaf options.chunk d chunks root c l are le;
  depth = s.height;
  even = last.front.depth;
  branches = λ deep. root_branches d root;
  levels = λ level. subst (λ (n : ℕ). AreFull n (level_widths d level)) (sym w) (last.front.widths level);
  linked = last.front.linked;
}

laid_top : (options : LayoutOptions) (d : Dag) → IsFilePart d → IsLaidFile options d → IsLaidAt options top d
laid_top options (unopened cid) h laid = absurd h.whole
laid_top options (bare section fault) h laid = absurd h.whole
laid_top options (node section Raw children) h laid = laid
laid_top options (node section (File inline filesize parts) children) h laid = let below = h.laid options 0 in (laid, below.1, below.2)
laid_top options (node section (Basic es) children) h laid = some_fault _ h.checked.0.stands
laid_top options (node section (Shard slots) children) h laid = some_fault _ h.checked.0.stands
laid_top options (node section (Symlink target) children) h laid = some_fault _ h.checked.0.stands

pub made_file : (width : ℕ) (s : Subtree) (d : Dag) (chunks : List (List ℕ)) → IsLastSubtree width s d → IsRoot d → leaves d ≡ leaves_for chunks
    → IsMadeFile width chunks d s.made
made_file width s d chunks last root l =
    let c : content d ≡ joined chunks = last.is_part.content_is ∙ ap joined l ∙ joined_leaves chunks in
    record {
      sound = part_sound d last.is_part;
      content_is = c;
      leaves_are = l;
      made_of = last.made;
      plain = last.is_part.plain;
      laid = λ options w one are. laid_top options d last.is_part (laid_file options width s d chunks last root c l w are);
    }
